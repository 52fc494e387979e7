-- A record's line is made of its own bytes, whatever stands behind them. Assumes nothing.
use mathlib.Core.List.{List}
use mathlib.Core.Path.{◌≡◌}
use Prim.Native.Nat.{ℕ}
use Rattle.std.specs.Prelude.{take}
use Rattle.records.proofs.Chunks.{action_take, mask_take, number_take, value_take}
use Rattle.records.specs.Layout.{record_size}
use Rattle.texts.specs.Lines.{word_line}

pub line_take : (i : ℕ) (s : List ℕ) → word_line i (take record_size s) ≡ word_line i s
line_take i s = rw (number_take s, value_take s, mask_take s, action_take s)
