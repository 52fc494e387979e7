-- Any two outcomes that an exported function's contract allows for one input coincide: the answer, and the lent memory where
-- there is any. A caller in C who knows the arguments, the memory lent and the definitions knows what comes back.
-- Assumes nothing.
use mathlib.Core.List.{List}
use mathlib.Core.Path.{◌≡◌, sym, ◌∙◌}
use Prim.Native.Nat.{ℕ}
use lib.IntN.{ℤ}
use Rattle.answers.proofs.Lending.{one_lent}
use Rattle.answers.specs.declared.Answer.{Answer}
use Rattle.intervals.specs.Bounds.{closing}
use Rattle.intervals.specs.Checks.{checking}
use Rattle.intervals.specs.Lists.{Listing, counting}
use Rattle.rules.specs.Finding.{finding}
use Rattle.sheets.specs.Reading.{Reading}
use Rattle.tables.specs.Compiling.{Compiling}
use Rattle.tables.specs.Looking.{looking}
use Rattle.tablet.specs.Faces.{in32, step_face}
use Rattle.tablet.specs.declared.steps.Step.{Step}
use Rattle.tablet.specs.declared.steps.Walk.{Walk}

pub one_close : (n : ℕ) (a b : ℤ) (r s : Answer) → r ≡ closing n a b → s ≡ closing n a b → r ≡ s
one_close n a b r s p q = p ∙ sym q

pub one_count : (n low high : ℕ) (r s : Answer) → r ≡ counting n low high → s ≡ counting n low high → r ≡ s
one_count n low high r s p q = p ∙ sym q

pub one_list : (n low high : ℕ) (before : List ℕ) (r s : Answer) (x y : List ℕ)
    → Listing n low high before r x → Listing n low high before s y → (r ≡ s) × (x ≡ y)
one_list n low high before = one_lent

pub one_step : (w : Walk) (r s : Step) → r ≡ step_face w → s ≡ step_face w → r ≡ s
one_step w r s p q = p ∙ sym q

pub one_check : (n low high : ℕ) (l : List ℕ) (k : ℕ) (r s : Answer)
    → r ≡ in32 (checking n low high l k) → s ≡ in32 (checking n low high l k) → r ≡ s
one_check n low high l k r s p q = p ∙ sym q

pub one_compile : (l before : List ℕ) (r s : Answer) (x y : List ℕ)
    → Compiling l before r x → Compiling l before s y → (r ≡ s) × (x ≡ y)
one_compile l before = one_lent

pub one_rule : (l h : List ℕ) (r s : Answer) → r ≡ finding l h → s ≡ finding l h → r ≡ s
one_rule l h r s p q = p ∙ sym q

pub one_word : (t : List ℕ) (k : ℕ) (h : List ℕ) (r s : Answer) → r ≡ looking t k h → s ≡ looking t k h → r ≡ s
one_word t k h r s p q = p ∙ sym q

pub one_read : (t before : List ℕ) (r s : Answer) (x y : List ℕ)
    → Reading t before r x → Reading t before s y → (r ≡ s) × (x ≡ y)
one_read t before = one_lent
