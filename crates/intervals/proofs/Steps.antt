-- One step of a walk: it has ended, or it gives a word, the last or not; and as the code takes it. Assumes nothing.
use mathlib.Core.Bool.{true, false}
use mathlib.Core.Path.{◌≡◌}
use Prim.Native.Nat.{ℕ, ◌+◌, ◌^◌, ◌≤◌, ◌<◌}
use native.Mathlib.Omega.{arith}
use borrow.Author.Tests.{lt-ltb, le-ltb}
use Rattle.std.specs.Prelude.{Option, None, Some, Ok}
use Rattle.blocks.specs.Blocks.{Closed, block, prefix_of}
use Rattle.blocks.specs.Lowest.{free_of}
use Rattle.blocks.specs.Walked.{Behind, First, Is}
use Rattle.blocks.specs.declared.Word.{Word}
use Rattle.blocks.specs.declared.intervals.Interval.{Interval}
use Rattle.intervals.specs.Ends.{tested}
use Rattle.intervals.specs.Walks.{Stepped, ended_at, gives, stepped_by, stepped_from, stepping, walk_behind, walk_of, zeros}
use Rattle.intervals.specs.declared.walks.Walk.{Walk}
use Rattle.intervals.proofs.Testing.{good_tested}

pub step_ended : (w : Walk) → w.ended ≡ true → stepping w ≡ record { no = 0; given = 0; word = zeros; walk = w }
unfolding stepping
step_ended w e = simp e

-- the word of the block of k free bits from next on was given, and the walk is now w
abbrev pub gave : ℕ → ℕ → ℕ → Walk → Stepped
gave n next k w = record { no = 0; given = 1; word = prefix_of n (block next k); walk = w }

module _ (n next last : ℕ) where
  pub step_good : Closed n next last → stepping (walk_of n next last) ≡ gives (walk_of n next last) (free_of n next (last + 1))
  unfolding stepping stepped_from
  step_good c = rw (good_tested n next last c)

  module _ (k : ℕ) where
    pub gives_last : last < next + 2 ^ k → gives (walk_of n next last) k ≡ gave n next k (ended_at n next last)
    unfolding gives
    gives_last h = rw (lt-ltb last (next + 2 ^ k) h)

    pub gives_on : next + 2 ^ k ≤ last → gives (walk_of n next last) k ≡ gave n next k (walk_of n (next + 2 ^ k) last)
    unfolding gives
    gives_on h = rw (le-ltb last (next + 2 ^ k) h)

-- ---- as the code steps: the first word of the interval, and the walk of what is left behind it

module _ (w : Walk) (on : w.ended ≡ false) where
  behind_gives : (r : Word × ℕ) (o : Option Interval) → First w.width w.next w.last r → Behind w.width w.next w.last r.1 o
      → stepped_by (record { word = r.0; walk = walk_behind w o }) ≡ gives w (free_of w.width w.next (w.last + 1))
  unfolding gives
  behind_gives r None f b = rw (f.word_is, lt-ltb w.last (w.next + 2 ^ free_of w.width w.next (w.last + 1)) (omega (arith, f.size)))
  behind_gives r (Some i) f b =
      rw (f.word_is, b.first, f.size, on, le-ltb w.last (w.next + 2 ^ free_of w.width w.next (w.last + 1)) (omega (arith, f.size, b.first, b.last, i.closed.order)))

  pub step_given : (i : Interval) → Is w.width w.next w.last i → tested w.width w.next w.last ≡ Ok tt → (r : Word × ℕ) (o : Option Interval)
      → First i.width i.low i.high r → Behind i.width i.low i.high r.1 o → (v : Walk) → v ≡ walk_behind w o
      → stepped_by (record { word = r.0; walk = v }) ≡ stepping w
  unfolding stepping stepped_from gives
  step_given i is t r o f b v e =
      rw (on, t, e) (behind_gives r o (rw (is.width, is.first, is.last) at f) (rw (is.width, is.first, is.last) at b))
