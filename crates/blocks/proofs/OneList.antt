-- Only one list is the list of document 01. Assumes nothing.
use mathlib.Core.Path.{◌≡◌, refl, sym, ap, ap₂, ◌∙◌}
use mathlib.Core.List.Memᴰ
use mathlib.Core.List.{List, [], ◌∷◌, Memᴰ}
use mathlib.Core.Logic.{◌⊎◌, inl, inr}
use Prim.Native.Nat.{ℕ, ◌+◌, ◌^◌, ◌<◌}
use native.Mathlib.Omega.{arith}
use lib.Pow.{pow_pos}
use Rattle.blocks.specs.Blocks.{Block, Ascends, Lists}
use Rattle.blocks.proofs.Members.{starts_above}

-- each block of the first list is in the second
abbrev Among : List Block → List Block → Type 0
Among bs cs = (d : Block) → Memᴰ d bs → Memᴰ d cs

later_above : (x y : ℕ) (b : Block) (bs : List Block) → Ascends x (b ∷ bs) y → (d : Block) → Memᴰ d bs → b.from < d.from
later_above x y b bs s d m = omega (arith, starts_above (b.from + 2 ^ b.free) y bs s.1 d m, pow_pos b.free)

module _ (x y z w : ℕ) (b c : Block) (bs cs : List Block) (s : Ascends x (b ∷ bs) y) (t : Ascends z (c ∷ cs) w) where
  same_first : Among (b ∷ bs) (c ∷ cs) → Among (c ∷ cs) (b ∷ bs) → b ≡ c
  same_first f g = go (Memᴰ.cases_cons (f b (Memᴰ.head refl))) (Memᴰ.cases_cons (g c (Memᴰ.head refl)))
    where
      go : (b ≡ c) ⊎ Memᴰ b cs → (c ≡ b) ⊎ Memᴰ c bs → b ≡ c
      go (inl e) _ = e
      go (inr m) (inl e) = sym e
      go (inr m) (inr l) = absurd (omega (arith, later_above z w c cs t b m, later_above x y b bs s c l))

  later_among : b ≡ c → Among (b ∷ bs) (c ∷ cs) → Among bs cs
  later_among e f d m = go (Memᴰ.cases_cons (f d (Memᴰ.tail m)))
    where
      go : (d ≡ c) ⊎ Memᴰ d cs → Memᴰ d cs
      go (inl h) = absurd (omega (arith, later_above x y b bs s d m, ap (λ (a : Block). a.from) (h ∙ sym e)))
      go (inr l) = l

same_members : (x y z w : ℕ) (bs cs : List Block) → Ascends x bs y → Ascends z cs w → Among bs cs → Among cs bs → bs ≡ cs
same_members x y z w [] [] s t f g = refl
same_members x y z w [] (c ∷ cs) s t f g = absurd (Memᴰ.not-nil (g c (Memᴰ.head refl)))
same_members x y z w (b ∷ bs) [] s t f g = absurd (Memᴰ.not-nil (f b (Memᴰ.head refl)))
same_members x y z w (b ∷ bs) (c ∷ cs) s t f g =
    let e : b ≡ c = same_first x y z w b c bs cs s t f g in
    let later : Among bs cs = later_among x y z w b c bs cs s t e f in
    let back : Among cs bs = later_among z w x y c b cs bs t s (sym e) g in
    ap₂ (λ (d : Block) (ds : List Block). d ∷ ds) e (same_members (b.from + 2 ^ b.free) y (c.from + 2 ^ c.free) w bs cs s.1 t.1 later back)

pub one_list : (n low end : ℕ) (bs cs : List Block) → Lists n low end bs → Lists n low end cs → bs ≡ cs
one_list n low end bs cs s t =
    same_members 0 (2 ^ n) 0 (2 ^ n) bs cs s.order t.order (λ (d : Block) (m : Memᴰ d bs). t.all d (s.only d m))
    (λ (d : Block) (m : Memᴰ d cs). s.all d (t.only d m))
