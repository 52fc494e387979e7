-- `records::Entry::to_bytes` meets its contract: the parts are written behind each other, and fill the record.
-- Assumes nothing.
use mathlib.Core.Path.{refl}
use Rattle.records.proofs.Layouts.{record_filled}
use Rattle.records.proofs.Entry.to_bytes.Goals as goal

pub returns : goal.returns
returns c =
    record_filled _ _ _ _ _ _ _ c.args.self refl c.to_bytes.ensures c.to_bytes-2.ensures c.put.ensures c.put-2.ensures c.put-3.ensures
    c.put-4.ensures
