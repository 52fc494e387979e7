-- Text in parts: what stands before and after a mark.
use Rattle.std.specs.Prelude.{List, [], ◌∷◌, ◌++◌, ◌≡◌, ℕ, suc, MatchOption, Option, eqb, if◌then◌else◌}
use Rattle.std.specs.Borrow.{Bor}

-- the bytes before the first c, or all of them where there is none
unfoldable pub before : ℕ → List ℕ → List ℕ
before c [] = []
before c (x ∷ s) =
    let rest = before c s in
    if eqb x c then [] else x ∷ rest

-- the bytes after the first c, or none
unfoldable pub after : ℕ → List ℕ → List ℕ
after c [] = []
after c (x ∷ s) =
    let rest = after c s in
    if eqb x c then s else rest

-- how often c stands in s
unfoldable pub times : ℕ → List ℕ → ℕ
times c [] = 0
times c (x ∷ s) =
    let rest = times c s in
    if eqb x c then suc rest else rest

-- two parts of s: those before and after its first c
abbrev pub Halves : ℕ → List ℕ → Bor (List ℕ) × Bor (List ℕ) → Type 0
Halves c s parts = (parts.0.now ≡ before c s) × (parts.1.now ≡ after c s)

-- the parts of s where it has a c; where it has none, all of s stands before it
abbrev pub Cut : ℕ → List ℕ → Option (Bor (List ℕ) × Bor (List ℕ)) → Type 0
Cut c s r = MatchOption r (before c s ≡ s) (λ parts. Halves c s parts × (s ≡ before c s ++ (c ∷ after c s)))
