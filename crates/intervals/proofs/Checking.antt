-- What the answer of `check` means, said of the call's own answer. Assumes nothing.
use mathlib.Core.List.{List}
use mathlib.Core.Logic.{◌⊎◌}
use mathlib.Core.Path.{◌≡◌, refl, ◌∙◌}
use Prim.Native.Nat.{ℕ, ◌/◌, ◌^◌, ◌≤◌, ◌<◌}
use native.Mathlib.Omega.{arith}
use lib.ListN.{length}
use borrow.Author.Tests.{le-ltb}
use Rattle.answers.specs.Answers.{behind_ill, done}
use Rattle.answers.specs.declared.Answer.{Answer}
use Rattle.std.specs.Prelude.{None, Ok}
use Rattle.std.proofs.lemmas.Bool.Decides.{nat_tests}
use Rattle.blocks.specs.Blocks.{Closed}
use Rattle.blocks.specs.Words.{AllFormed, Exactly}
use Rattle.intervals.specs.Checks.{Disagree, checking, first_ill, judged, verdict, words_from}
use Rattle.intervals.specs.Ends.{behind, tested}
use Rattle.intervals.proofs.Testing.{good_tested, tested_good}
use Rattle.intervals.proofs.Verdicts.{formed_none, none_ill, verdict_either, verdict_no, verdict_yes, yes_verdict}

-- a check that is not refused: the interval and the words were good, and the answer is the verdict on them
record Judged (n low high : ℕ) (l : List ℕ) (k : ℕ) (r : Answer) : Type 0 where
  closed : tested n low high ≡ Ok tt
  formed : first_ill n 0 (words_from 0 k l) ≡ None
  judges : verdict (2 ^ n) 0 low high (words_from 0 k l) ≡ r

module _ (n low high : ℕ) (l : List ℕ) (k : ℕ) where
  judged_from : (r : Answer) → checking n low high l k ≡ r → r.no ≡ 0 → Judged n low high l k r
  unfolding checking behind judged behind_ill
  judged_from r e z = record { closed = grind (arith, nat_tests); formed = grind (arith, nat_tests); judges = grind (arith, nat_tests) }

  -- yes: the k words match every value of the interval and no other value of the width
  pub check_yes : checking n low high l k ≡ done 1 0 0 0 → Exactly n low high (words_from 0 k l)
  check_yes e =
      let j = judged_from (done 1 0 0 0) e refl in
      verdict_yes n low high (words_from 0 k l) (none_ill n _ j.formed) (tested_good n low high j.closed).fits j.judges

  -- no: the value is one on which they disagree, and none below it is
  pub check_no : (x : ℕ) → checking n low high l k ≡ done 0 x 0 0
      → (x < 2 ^ n) × Disagree low high (words_from 0 k l) x × ((y : ℕ) → y < x → Disagree low high (words_from 0 k l) y → ⊥)
  check_no x e =
      let j = judged_from (done 0 x 0 0) e refl in
      verdict_no n low high x (words_from 0 k l) (none_ill n _ j.formed) j.judges

  module _ (c : Closed n low high) (h : k ≤ length l / 2) (f : AllFormed n (words_from 0 k l)) where
    -- where nothing is refused the answer is the verdict
    checks : checking n low high l k ≡ verdict (2 ^ n) 0 low high (words_from 0 k l)
    unfolding checking behind judged behind_ill
    checks = simp (good_tested n low high c, le-ltb (length l / 2) k h, formed_none n 0 (words_from 0 k l) f)

    -- yes is said whenever the words match just the interval
    pub yes_check : Exactly n low high (words_from 0 k l) → checking n low high l k ≡ done 1 0 0 0
    yes_check x = checks ∙ yes_verdict n low high (words_from 0 k l) f x

    -- and else it is no: there is no third answer
    pub check_either : (checking n low high l k ≡ done 1 0 0 0) ⊎ ((x : ℕ) × (checking n low high l k ≡ done 0 x 0 0))
    check_either = rw checks (verdict_either low high (words_from 0 k l) (2 ^ n) 0)
