-- The check says yes exactly when the words match exactly the interval; else it names the smallest value on which they
-- disagree. An ill-formed word is named by its lowest index. Assumes nothing.
use mathlib.Core.Path.{◌≡◌, refl, sym, ap, ◌∙◌}
use mathlib.Core.Bool.{Bool, true, false, not, true≢false}
use mathlib.Core.List.Memᴰ
use mathlib.Core.List.{List, [], ◌∷◌, Memᴰ}
use mathlib.Core.Logic.{◌⊎◌, inl, inr, ⊎_elim}
use Prim.Native.Nat.{ℕ, zero, suc, ◌+◌, ◌^◌, ◌≤◌, ◌<◌}
use native.Mathlib.Omega.{arith}
use lib.ListN.{get_or, length}
use Rattle.std.specs.Prelude.{None, Some, if◌then◌else◌}
use Rattle.std.proofs.lemmas.Bool.Decides.{nat_tests}
use Rattle.std.proofs.lemmas.List.{map-id}
use Rattle.std.proofs.lemmas.List.Quantifiers.{position-Some}
use Rattle.answers.specs.Answers.{done}
use Rattle.answers.specs.declared.Answer.{Answer}
use Rattle.bits.proofs.Orders.{le_or_lt}
use Rattle.blocks.proofs.Testing.{formed_test, some_test, test_formed, test_some}
use Rattle.blocks.specs.Tests.{formed?, some?}
use Rattle.blocks.specs.Words as words
use Rattle.blocks.specs.Words.{AllFormed, Exactly, Formed, word}
use Rattle.blocks.specs.declared.Word.{Word}
use Rattle.intervals.specs.Checks.{Disagree, agree?, first_ill, verdict}
use Rattle.intervals.proofs.Found.{ill_position}

-- ---- agreement at x

module _ (low high : ℕ) (ws : List Word) (x : ℕ) where
  lacks : agree? low high ws x ≡ false → some? ws x ≡ false → (low ≤ x) × (x ≤ high)
  lacks e s = (grind (arith, nat_tests), grind (arith, nat_tests))

  exceeds : agree? low high ws x ≡ false → some? ws x ≡ true → (low ≤ x) × (x ≤ high) → ⊥
  exceeds e s i = grind (arith, nat_tests)

module _ (n low high : ℕ) (ws : List Word) (f : AllFormed n ws) (x : ℕ) where
  agree_some : agree? low high ws x ≡ true → (low ≤ x) × (x ≤ high) → words.Some ws x
  agree_some e i = let s : some? ws x ≡ true = grind (arith, nat_tests) in some_test n ws x f s

  agree_within : agree? low high ws x ≡ true → words.Some ws x → (low ≤ x) × (x ≤ high)
  agree_within e s = let t = test_some n ws x f s in (grind (arith, nat_tests), grind (arith, nat_tests))

  agree_fine : agree? low high ws x ≡ true → Disagree low high ws x → ⊥
  agree_fine e (inl d) = d.1 (agree_some e d.0)
  agree_fine e (inr d) = d.0 (agree_within e d.1)

  disagrees : agree? low high ws x ≡ false → Disagree low high ws x
  disagrees e = go (some? ws x) refl
    where
      go : (b : Bool) → some? ws x ≡ b → Disagree low high ws x
      go true q = inr (exceeds low high ws x e q, some_test n ws x f q)
      go false q = inl (lacks low high ws x e q, λ s. let t = test_some n ws x f s in absurd (cc))

  agrees : (Disagree low high ws x → ⊥) → agree? low high ws x ≡ true
  agrees h = go (agree? low high ws x) refl
    where
      go : (b : Bool) → agree? low high ws x ≡ b → b ≡ true
      go true e = refl
      go false e = absurd (h (disagrees e))

-- ---- the verdict on the d values from x on

module _ (low high : ℕ) (ws : List Word) where
  abbrev AllAgree : ℕ → ℕ → Type 0
  AllAgree x y = (z : ℕ) → x ≤ z → z < y → agree? low high ws z ≡ true

  apart : (y : ℕ) → done 0 y 0 0 ≡ done 1 0 0 0 → ⊥
  apart y e = let z : ◌≡◌ {A = ℕ} 0 1 = ap (λ (r : Answer). r.a) e in omega arith

  -- y is the smallest of the d values from x on at which they disagree
  record First (d x y : ℕ) : Type 0 where
    from : x ≤ y
    below : y < x + d
    here : agree? low high ws y ≡ false
    before : AllAgree x y

  -- it is yes, and they agree on all, or no at the smallest
  data Said (d x : ℕ) : Type 0 where
    yes : verdict d x low high ws ≡ done 1 0 0 0 → AllAgree x (x + d) → Said d x
    no_at : (y : ℕ) → verdict d x low high ws ≡ done 0 y 0 0 → First d x y → Said d x

  said : (d x : ℕ) → Said d x
  unfolding verdict
  said zero x = yes refl (λ z p q. absurd (omega arith))
  said (suc d) x = go (agree? low high ws x) refl (said d (x + 1))
    where
      more : (y : ℕ) → agree? low high ws x ≡ true → AllAgree (x + 1) y → AllAgree x y
      more y a r z p q = ⊎_elim (λ h. r z h q) (λ h. let e : z ≡ x = omega arith in rw e a) (le_or_lt (x + 1) z)

      go : (b : Bool) → agree? low high ws x ≡ b → Said d (x + 1) → Said (suc d) x
      go false a r = no_at x (rw (a, verdict)) (record { from = omega arith; below = omega arith; here = a; before = λ z p q. absurd (omega arith) })
      go true a (yes v r) = yes (rw (a, verdict) v) (λ z p q. more (x + 1 + d) a r z p (omega arith))
      go true a (no_at y v f) =
          no_at y (rw (a, verdict) v) (record { from = omega (arith, f.from); below = omega (arith, f.below); here = f.here; before = more y a f.before })

  -- there is no third
  pub verdict_either : (d x : ℕ) → (verdict d x low high ws ≡ done 1 0 0 0) ⊎ ((y : ℕ) × (verdict d x low high ws ≡ done 0 y 0 0))
  verdict_either d x = go (said d x)
    where
      go : Said d x → (verdict d x low high ws ≡ done 1 0 0 0) ⊎ ((y : ℕ) × (verdict d x low high ws ≡ done 0 y 0 0))
      go (yes v r) = inl v
      go (no_at y v f) = inr (y, v)

  yes_all : (d x : ℕ) → verdict d x low high ws ≡ done 1 0 0 0 → AllAgree x (x + d)
  yes_all d x e = go (said d x)
    where
      go : Said d x → AllAgree x (x + d)
      go (yes v r) = r
      go (no_at y v f) = absurd (apart y (sym v ∙ e))

  all_yes : (d x : ℕ) → AllAgree x (x + d) → verdict d x low high ws ≡ done 1 0 0 0
  all_yes d x h = go (said d x)
    where
      go : Said d x → verdict d x low high ws ≡ done 1 0 0 0
      go (yes v r) = v
      go (no_at y v f) = absurd (true≢false (sym (h y f.from f.below) ∙ f.here))

  no_first : (d x y : ℕ) → verdict d x low high ws ≡ done 0 y 0 0 → First d x y
  no_first d x y e = go (said d x)
    where
      go : Said d x → First d x y
      go (yes v r) = absurd (apart y (sym e ∙ v))
      go (no_at z v f) = let s : y ≡ z = ap (λ (r : Answer). r.b) (sym e ∙ v) in rw s f

-- ---- the check's verdict on a width's values

module _ (n low high : ℕ) (ws : List Word) (f : AllFormed n ws) where
  pub verdict_yes : high < 2 ^ n → verdict (2 ^ n) 0 low high ws ≡ done 1 0 0 0 → Exactly n low high ws
  verdict_yes h e =
      let a = yes_all low high ws (2 ^ n) 0 e in
      record {
        covers = λ x p q. agree_some n low high ws f x (a x (omega arith) (omega arith)) (p, q);
        within = λ x p s. agree_within n low high ws f x (a x (omega arith) (omega arith)) s;
      }

  pub yes_verdict : Exactly n low high ws → verdict (2 ^ n) 0 low high ws ≡ done 1 0 0 0
  yes_verdict e = all_yes low high ws (2 ^ n) 0 (λ y p q. agrees n low high ws f y (fine y (omega arith)))
    where
      fine : (y : ℕ) → y < 2 ^ n → Disagree low high ws y → ⊥
      fine y h (inl d) = d.1 (e.covers y d.0.0 d.0.1)
      fine y h (inr d) = d.0 (e.within y h d.1)

pub verdict_no : (n low high x : ℕ) (ws : List Word) → AllFormed n ws → verdict (2 ^ n) 0 low high ws ≡ done 0 x 0 0
    → (x < 2 ^ n) × Disagree low high ws x × ((y : ℕ) → y < x → Disagree low high ws y → ⊥)
verdict_no n low high x ws f e =
    let r = no_first low high ws (2 ^ n) 0 x e in
    (omega (arith, r.below), disagrees n low high ws f x r.here, λ y q. agree_fine n low high ws f y (r.before y (omega arith) q))

-- ---- the lowest ill-formed word

unturned : (b c : Bool) → not b ≡ c → b ≡ not c
unturned true c e = ap not e
unturned false c e = ap not e

pub ill_lowest : (n : ℕ) (ws : List Word) (i : ℕ) → first_ill n 0 ws ≡ Some i
    → (i < length ws) × (formed? n (get_or ws i (word 0 0)) ≡ false) × ((j : ℕ) → j < i → formed? n (get_or ws j (word 0 0)) ≡ true)
ill_lowest n ws i e =
    let p = position-Some (λ w. not (formed? n w)) ws i (word 0 0) (ill_position (λ w. w) n ws ∙ rw map-id e) in
    (p.0, unturned _ true p.1, λ j h. unturned _ false (p.2 j h))

none_from : (n b : ℕ) (ws : List Word) → first_ill n b ws ≡ None → AllFormed n ws
unfolding first_ill
none_from n b [] e w m = absurd (Memᴰ.not-nil m)
none_from n b (v ∷ ws) e w m = go (formed? n v) refl e (Memᴰ.cases_cons m) (none_from n (b + 1) ws)
  where
    go : (t : Bool) → formed? n v ≡ t → (if t then first_ill n (b + 1) ws else Some b) ≡ None → (w ≡ v) ⊎ Memᴰ w ws
        → (first_ill n (b + 1) ws ≡ None → AllFormed n ws) → Formed n w
    go false a i o r = let z : ◌≡◌ {A = ℕ} 0 1 = cc in absurd (omega arith)
    go true a i (inl e) r = rw e (formed_test n v a)
    go true a i (inr l) r = r i w l

pub none_ill : (n : ℕ) (ws : List Word) → first_ill n 0 ws ≡ None → AllFormed n ws
none_ill n ws = none_from n 0 ws

pub formed_none : (n b : ℕ) (ws : List Word) → AllFormed n ws → first_ill n b ws ≡ None
unfolding first_ill
formed_none n b [] f = refl
formed_none n b (w ∷ ws) f = rw (test_formed n w (f w (Memᴰ.head refl)), first_ill) (formed_none n (b + 1) ws (λ v m. f v (Memᴰ.tail m)))
