-- A walk over an interval's words (document 01, "One by one").
use Rattle.std.specs.Prelude.{true, false, List, [], ◌∷◌, ℕ, zero, suc, ◌+◌, ◌^◌, Option, None, Some, Result, Ok, Err, ltb, if◌then◌else◌}
use Rattle.bits.specs.Masks.{mask_of}
use Rattle.blocks.specs.Lowest.{free_of}
use Rattle.blocks.specs.Words.{word}
use Rattle.blocks.specs.declared.Word.{Word}
use Rattle.blocks.specs.declared.intervals.Interval.{Interval}
use Rattle.intervals.specs.Ends.{number_of, tested}
use Rattle.intervals.specs.declared.ends.Fault.{Fault}
use Rattle.intervals.specs.declared.walks.Step.{Step}
use Rattle.intervals.specs.declared.walks.Walk.{Walk}

-- A step as document 01 gives it: the refusal's number or 0, whether a word was given (1) or there are no more (0), the
-- word, and the state handed back.
pub record Stepped : Type 0 where
  pub no : ℕ
  pub given : ℕ
  pub word : Word
  pub walk : Walk

abbrev pub zeros : Word
zeros = word 0 0

abbrev pub walk_of : ℕ → ℕ → ℕ → Walk
walk_of n low high = record { width = n; next = low; last = high; ended = false }

abbrev pub ended_at : ℕ → ℕ → ℕ → Walk
ended_at n low high = record { width = n; next = low; last = high; ended = true }

abbrev pub stepped_by : Step → Stepped
stepped_by s = record { no = 0; given = 1; word = s.word; walk = s.walk }

-- the walk of which this is left
abbrev pub walk_behind : Walk → Option Interval → Walk
walk_behind w None = record { width = w.width; next = w.next; last = w.last; ended = true }
walk_behind w (Some i) = record { width = w.width; next = i.low; last = w.last; ended = w.ended }

-- document 01's number and values for each answer to the walk w, which comes back where no word was given
abbrev pub stepped_as : Walk → Result (Option Step) Fault → Stepped
stepped_as w (Ok (Some s)) = stepped_by s
stepped_as w (Ok None) = record { no = 0; given = 0; word = zeros; walk = w }
stepped_as w (Err f) = record { no = number_of f; given = 0; word = zeros; walk = w }

-- the block of k free bits from the next value on, and the walk after it
unfoldable pub gives : Walk → ℕ → Stepped
gives w k =
    let past = w.next + 2 ^ k in
    record {
      no = 0;
      given = 1;
      word = word w.next (mask_of w.width k);
      walk = if ltb w.last past then ended_at w.width w.next w.last else walk_of w.width past w.last;
    }

unfoldable pub stepped_from : Result Unit Fault → Walk → Stepped
stepped_from (Ok x) w = gives w (free_of w.width w.next (w.last + 1))
stepped_from (Err f) w = record { no = number_of f; given = 0; word = zeros; walk = w }

-- One step: an ended walk says "no more" and comes back unchanged, whatever it holds. Any other is tested as an interval is,
-- and then gives the lowest largest block of next .. last.
unfoldable pub stepping : Walk → Stepped
stepping w =
    if w.ended then record { no = 0; given = 0; word = zeros; walk = w }
    else stepped_from (tested w.width w.next w.last) w

-- What a step adds: its word in front of those that later steps give, where it gave one. Where it gave none (0) the walk came
-- back as it was, so no later step gives one either.
abbrev pub word_then : ℕ → Word → List Word → List Word
word_then zero v vs = []
word_then (suc g) v vs = v ∷ vs

-- the state after f steps
unfoldable pub walk_after : ℕ → Walk → Walk
walk_after zero w = w
walk_after (suc f) w = walk_after f (stepping w).walk

-- the words that at most f steps give
unfoldable pub walked : ℕ → Walk → List Word
walked zero w = []
walked (suc f) w = word_then (stepping w).given (stepping w).word (walked f (stepping w).walk)
