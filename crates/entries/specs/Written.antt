-- What writing records leaves: they stand from a place on, and the answer is where the next one goes.
use Rattle.std.specs.Prelude.{List, ◌≡◌, ℕ, ◌+◌, ◌*◌, length}
use Rattle.fields.specs.Writes.{write_at}
use Rattle.records.specs.Entries.{table_bytes}
use Rattle.records.specs.declared.Entry.{Entry}
use Rattle.records.specs.Layout.{record_size}

pub record Wrote (before after : List ℕ) (at : ℕ) (es : List Entry) (next : ℕ) : Type 0 where
  pub is : after ≡ write_at before at (table_bytes es)
  pub free : next ≡ at + record_size * length es
  pub same : length after ≡ length before
