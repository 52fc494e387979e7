-- Steps from an interval give its list, one word each, and then no more: after as many steps as the list has words the walk
-- has ended. And one step gives the lowest largest block. Assumes nothing.
use mathlib.Core.Bool.{Bool, true}
use mathlib.Core.List.Memᴰ
use mathlib.Core.List.{List, [], ◌∷◌, map}
use mathlib.Core.Logic.{◌⊎◌, inl, inr}
use mathlib.Core.Path.{◌≡◌, refl, sym, ap, ◌∙◌}
use Prim.Native.Nat.{ℕ, zero, suc, ◌+◌, ◌^◌, ◌≤◌, ◌<◌}
use native.Mathlib.Omega.{arith}
use lib.ListN.{length}
use Rattle.bits.proofs.Orders.{le_or_lt}
use Rattle.blocks.specs.Blocks.{Block, Closed, Largest, block, blocks_of, prefix_of, words_of}
use Rattle.blocks.specs.Lowest.{free_of}
use Rattle.blocks.specs.declared.Word.{Word}
use Rattle.blocks.proofs.Lowest.{first_block}
use Rattle.blocks.proofs.Members.{tiles_list}
use Rattle.blocks.proofs.Tiles.{tiles_none}
use Rattle.intervals.specs.Walks.{Stepped, ended_at, gives, stepping, walk_after, walk_of, walked, word_then}
use Rattle.intervals.specs.declared.walks.Walk.{Walk}
use Rattle.intervals.proofs.Steps.{gave, gives_last, gives_on, step_ended, step_good}

adds : ℕ → Stepped → List Word
adds f s = word_then s.given s.word (walked f s.walk)

walked_more : (f : ℕ) (w : Walk) → walked (suc f) w ≡ adds f (stepping w)
unfolding walked adds
walked_more f w = refl

-- an ended walk gives nothing, however many steps are taken
pub walked_ended : (f : ℕ) (w : Walk) → w.ended ≡ true → walked f w ≡ []
unfolding walked adds
walked_ended zero w e = refl
walked_ended (suc f) w e = ap (adds f) (step_ended w e)

-- and stays as it is
pub after_ended : (f : ℕ) (w : Walk) → w.ended ≡ true → walk_after f w ≡ w
unfolding walk_after
after_ended zero w e = refl
after_ended (suc f) w e = ap (λ (s : Stepped). walk_after f s.walk) (step_ended w e) ∙ after_ended f w e

-- One step gives a largest block of next .. last that begins with the very next value, so none is lower.
pub step_lowest : (n next last : ℕ) → Closed n next last
    → (k : ℕ) × Largest n next (last + 1) next k × (stepping (walk_of n next last) ≡ gives (walk_of n next last) k)
step_lowest n next last c =
    let k = free_of n next (last + 1) in
    let e = first_block n next (last + 1) (omega arith) (omega arith) in
    (k, (tiles_list n next (last + 1) (omega arith)).only (block next k) (rw e (Memᴰ.head refl)), step_good n next last c)

-- The first step gives the list's first block: the walk goes on behind it, or it was the only one and the walk has ended.
data Begins (n next last : ℕ) : Type 0 where
  goes_on : (k : ℕ) → blocks_of n next last ≡ block next k ∷ blocks_of n (next + 2 ^ k) last → Closed n (next + 2 ^ k) last
      → stepping (walk_of n next last) ≡ gave n next k (walk_of n (next + 2 ^ k) last) → Begins n next last
  ends : (k : ℕ) → blocks_of n next last ≡ block next k ∷ [] → stepping (walk_of n next last) ≡ gave n next k (ended_at n next last) → Begins n next last

begins : (n next last : ℕ) → Closed n next last → Begins n next last
begins n next last c = go (le_or_lt (next + 2 ^ k) last)
  where
    k : ℕ
    k = free_of n next (last + 1)

    first : blocks_of n next last ≡ block next k ∷ blocks_of n (next + 2 ^ k) last
    first = first_block n next (last + 1) (omega arith) (omega arith)

    go : (next + 2 ^ k ≤ last) ⊎ (last < next + 2 ^ k) → Begins n next last
    go (inl l) =
        goes_on k first (record { some = c.some; most = c.most; fits = c.fits; order = l })
        (step_good n next last c ∙ gives_on n next last k l)
    go (inr l) =
        ends k (first ∙ ap (λ (bs : List Block). block next k ∷ bs) (tiles_none n 0 (next + 2 ^ k) (last + 1) (omega arith)))
        (step_good n next last c ∙ gives_last n next last k l)

some_block : (n next last : ℕ) → Closed n next last → 1 ≤ length (blocks_of n next last)
some_block n next last c = omega (arith, ap length (first_block n next (last + 1) (omega arith) (omega arith)))

-- As many steps as the list has words, or more, give just the list: one word each, and then no more.
pub walk_lists : (f n next last : ℕ) → Closed n next last → length (blocks_of n next last) ≤ f → walked f (walk_of n next last) ≡ words_of n next last
walk_lists zero n next last c h = absurd (omega (arith, some_block n next last c))
walk_lists (suc f) n next last c h = go (begins n next last c) (walk_lists f n)
  where
    go : Begins n next last → ((x y : ℕ) → Closed n x y → length (blocks_of n x y) ≤ f → walked f (walk_of n x y) ≡ words_of n x y)
        → walked (suc f) (walk_of n next last) ≡ words_of n next last
    go (goes_on k b d e) ih = unfold adds in
        walked_more f (walk_of n next last) ∙ ap (adds f) e
        ∙ ap (λ (ws : List Word). prefix_of n (block next k) ∷ ws) (ih (next + 2 ^ k) last d (omega (arith, ap length b)))
        ∙ sym (ap (map (prefix_of n)) b)
    go (ends k b e) ih = unfold adds in
        walked_more f (walk_of n next last) ∙ ap (adds f) e
        ∙ ap (λ (ws : List Word). prefix_of n (block next k) ∷ ws) (walked_ended f (ended_at n next last) refl)
        ∙ sym (ap (map (prefix_of n)) b)

-- And after as many steps, or more, the walk has ended.
pub walk_ends : (f n next last : ℕ) → Closed n next last → length (blocks_of n next last) ≤ f → (walk_after f (walk_of n next last)).ended ≡ true
walk_ends zero n next last c h = absurd (omega (arith, some_block n next last c))
walk_ends (suc f) n next last c h = go (begins n next last c) (walk_ends f n)
  where
    ended : Stepped → Bool
    ended s = (walk_after f s.walk).ended

    go : Begins n next last → ((x y : ℕ) → Closed n x y → length (blocks_of n x y) ≤ f → (walk_after f (walk_of n x y)).ended ≡ true)
        → (walk_after (suc f) (walk_of n next last)).ended ≡ true
    go (goes_on k b d e) ih = unfold walk_after in ap ended e ∙ ih (next + 2 ^ k) last d (omega (arith, ap length b))
    go (ends k b e) ih = unfold walk_after in ap ended e ∙ ap (λ (w : Walk). w.ended) (after_ended f (ended_at n next last) refl)
