-- Any two outcomes that a contract allows for one input coincide: the answer, and the lent memory where there is any.
-- Assumes nothing.
use mathlib.Core.List.{List}
use mathlib.Core.Path.{◌≡◌}
use Prim.Native.Nat.{ℕ}
use native.Mathlib.Omega.{arith}
use lib.IntN.{ℤ}
use Rattle.std.specs.Prelude.{Option, Result}
use Rattle.intervals.specs.Bounds.{closed_as, closing}
use Rattle.intervals.specs.Checks.{checked_as, checking}
use Rattle.intervals.specs.Lists.{Listing, counted_as, counting, listed_as}
use Rattle.intervals.specs.Walks.{stepped_as, stepping}
use Rattle.intervals.specs.declared.bounds.Closed.{Closed}
use Rattle.intervals.specs.declared.checks.CheckError.{CheckError}
use Rattle.intervals.specs.declared.ends.Fault.{Fault}
use Rattle.intervals.specs.declared.lists.ListError.{ListError}
use Rattle.intervals.specs.declared.walks.Step.{Step}
use Rattle.intervals.specs.declared.walks.Walk.{Walk}

pub one_close : (n : ℕ) (a b : ℤ) (r s : Result Closed Fault) → closed_as r ≡ closing n a b → closed_as s ≡ closing n a b → r ≡ s
one_close n a b r s p q = grind arith

pub one_count : (n low high : ℕ) (r s : Result ℕ Fault) → counted_as r ≡ counting n low high → counted_as s ≡ counting n low high → r ≡ s
one_count n low high r s p q = grind arith

pub one_list : (n low high : ℕ) (before : List ℕ) (r s : Result ℕ ListError) (x y : List ℕ)
    → Listing n low high before (listed_as r) x → Listing n low high before (listed_as s) y → (r ≡ s) × (x ≡ y)
one_list n low high before r s x y p q = (grind arith, cc)

pub one_step : (w : Walk) (r s : Result (Option Step) Fault) → stepped_as w r ≡ stepping w → stepped_as w s ≡ stepping w → r ≡ s
one_step w r s p q = grind arith

pub one_check : (n low high : ℕ) (l : List ℕ) (k : ℕ) (r s : Result (Option ℕ) CheckError) → checked_as r ≡ checking n low high l k → checked_as s ≡ checking n low high l k → r ≡ s
one_check n low high l k r s p q = grind arith
