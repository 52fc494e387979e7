-- A block holds the values that its word matches: of one block, and of a list of them. Assumes nothing.
use mathlib.Core.Path.{◌≡◌, refl}
use mathlib.Core.List.Memᴰ
use mathlib.Core.List.{List, [], ◌∷◌, map, Memᴰ}
use mathlib.Core.Logic.{◌⊎◌, inl, inr}
use Prim.Native.Nat.{ℕ, ◌+◌, ◌%◌, ◌^◌, ◌≤◌, ◌<◌}
use native.Mathlib.Omega.{arith}
use lib.Pow.{pow_pos}
use Rattle.blocks.specs.Words.{Matches, Some}
use Rattle.blocks.specs.Blocks.{Block, prefix_of}
use Rattle.blocks.proofs.Matching.{match_block, block_match}

-- x is one of the block's values
pub record Holds (b : Block) (x : ℕ) : Type 0 where
  pub start : b.from ≤ x
  pub stop : x < b.from + 2 ^ b.free

-- some block of the list holds x
pub record Held (bs : List Block) (x : ℕ) : Type 0 where
  pub by : Block
  pub listed : Memᴰ by bs
  pub holds : Holds by x

-- an aligned block of width n
pub record Fits (n : ℕ) (b : Block) : Type 0 where
  pub wide : b.free ≤ n
  pub aligned : b.from % 2 ^ b.free ≡ 0
  pub ends : b.from + 2 ^ b.free ≤ 2 ^ n

abbrev pub AllFit : ℕ → List Block → Type 0
AllFit n bs = (b : Block) → Memᴰ b bs → Fits n b

-- ---- any list of aligned blocks, and its words

pub rest_fit : (n : ℕ) (c : Block) (bs : List Block) → AllFit n (c ∷ bs) → AllFit n bs
rest_fit n c bs f b m = f b (Memᴰ.tail m)

module _ (n x : ℕ) where
  pub match_holds : (b : Block) → Fits n b → x < 2 ^ n → Matches (prefix_of n b) x → Holds b x
  match_holds b f h m =
      let r = match_block n b.free b.from x f.wide (omega (arith, pow_pos b.free)) h f.aligned m in
      record { start = r.0; stop = r.1 }

  holds_match : (b : Block) → Fits n b → Holds b x → Matches (prefix_of n b) x
  holds_match b f h = block_match n b.free b.from x f.wide (omega (arith, pow_pos b.free)) (omega arith) f.aligned h.start h.stop

  pub held_some : (bs : List Block) → AllFit n bs → (b : Block) → Memᴰ b bs → Holds b x → Some (map (prefix_of n) bs) x
  held_some [] f b m h = absurd (Memᴰ.not-nil m)
  held_some (c ∷ bs) f b m h = go (Memᴰ.cases_cons m) (held_some bs (rest_fit n c bs f) b)
    where
      go : (b ≡ c) ⊎ Memᴰ b bs → (Memᴰ b bs → Holds b x → Some (map (prefix_of n) bs) x) → Some (map (prefix_of n) (c ∷ bs)) x
      go (inl e) ih = inl (holds_match c (f c (Memᴰ.head refl)) (rw e at h))
      go (inr i) ih = inr (ih i h)

  pub some_held : (bs : List Block) → AllFit n bs → x < 2 ^ n → Some (map (prefix_of n) bs) x → Held bs x
  some_held [] f h s = absurd s
  some_held (c ∷ bs) f h (inl m) = record { by = c; listed = Memᴰ.head refl; holds = match_holds c (f c (Memᴰ.head refl)) h m }
  some_held (c ∷ bs) f h (inr s) =
      let r = some_held bs (rest_fit n c bs f) h s in
      record { by = r.by; listed = Memᴰ.tail r.listed; holds = r.holds }
