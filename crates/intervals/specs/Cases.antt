-- The cases that document 01 marks with *, as one list, and the single claim that they hold of the definitions themselves.
-- They are entered as the document gives them: open bounds as open bounds, and lists number by number where it has them.
use Rattle.std.specs.Prelude.{Bool, true, ◌&&◌, List, [], ◌∷◌, ◌≡◌, refl, ℕ, ◌/◌, eqb, ℤ, pos, negsuc, length}
use Rattle.std.specs.Int.Count.{ones}
use Rattle.answers.specs.Answers.{done, refused}
use Rattle.answers.specs.declared.Answer.{Answer}
use Rattle.bits.specs.Digits.{top_differ}
use Rattle.blocks.specs.Blocks.{blocks_of, tiles}
use Rattle.blocks.specs.Counting.{count_of}
use Rattle.fields.specs.Same.{same?}
use Rattle.intervals.specs.Bounds.{closing}
use Rattle.intervals.specs.Ends.{behind, tested}
use Rattle.intervals.specs.Lists.{counting, numbers, numbers_of}

-- an interval of a width, and what the document says of it
pub data Case : Type 0 where
  -- low .. high has this many words
  words : ℕ → ℕ → ℕ → ℕ → Case
  -- the words of low .. high are these numbers
  list : ℕ → ℕ → ℕ → List ℕ → Case
  -- open (A, B) is low .. high
  bounds : ℕ → ℤ → ℤ → ℕ → ℕ → Case
  -- open (A, B) has this many words
  bounds_words : ℕ → ℤ → ℤ → ℕ → Case
  -- the words of open (A, B) are these numbers
  bounds_list : ℕ → ℤ → ℤ → List ℕ → Case
  -- open (A, B) is refused with this number
  bounds_refused : ℕ → ℤ → ℤ → ℕ → Case

pub starred : List Case
starred =
    list 4 1 14 (1 ∷ 15 ∷ 2 ∷ 14 ∷ 4 ∷ 12 ∷ 8 ∷ 12 ∷ 12 ∷ 14 ∷ 14 ∷ 15 ∷ [])
    ∷ words 4 1 14 6
    ∷ list 4 5 5 (5 ∷ 15 ∷ [])
    ∷ list 4 0 15 (0 ∷ 0 ∷ [])
    ∷ list 1 1 1 (1 ∷ 1 ∷ [])
    ∷ words 4 0 14 4
    ∷ words 6 19 61 7
    ∷ bounds 4 (negsuc 0) (pos 16) 0 15
    ∷ bounds 4 (pos 0) (pos 16) 1 15
    ∷ bounds_list 4 (pos 0) (pos 16) (1 ∷ 15 ∷ 2 ∷ 14 ∷ 4 ∷ 12 ∷ 8 ∷ 8 ∷ [])
    ∷ bounds 4 (pos 4) (pos 6) 5 5
    ∷ bounds_refused 4 (pos 4) (pos 5) 3
    ∷ bounds_words 16 (pos 1023) (pos 65536) 6
    ∷ bounds_words 16 (pos 999) (pos 2001) 8
    ∷ bounds_words 16 (pos 0) (pos 5590) 19
    ∷ []

is : Answer → Answer → Bool
is r s = same? (r.no ∷ r.a ∷ r.b ∷ r.c ∷ r.d ∷ []) (s.no ∷ s.a ∷ s.b ∷ s.c ∷ s.d ∷ [])

-- counted by the formula and by the list
has : ℕ → ℕ → ℕ → ℕ → Bool
has n low high k = is (counting n low high) (done k 0 0 0) && eqb (length (blocks_of n low high)) k

-- these are the numbers, and they are counted: two to a word
lists : ℕ → ℕ → ℕ → List ℕ → Bool
lists n low high ns = same? (numbers_of n low high) ns && has n low high (length ns / 2)

right : Case → Bool
right (words n low high k) = has n low high k
right (list n low high ns) = lists n low high ns
right (bounds n a b low high) = is (closing n a b) (done low high 0 0)
right (bounds_words n a b k) = eqb (closing n a b).no 0 && has n (closing n a b).a (closing n a b).b k
right (bounds_list n a b ns) = eqb (closing n a b).no 0 && lists n (closing n a b).a (closing n a b).b ns
right (bounds_refused n a b r) = is (closing n a b) (refused r 0 0)

pub every : List Case → Bool
every [] = true
every (c ∷ cs) = right c && every cs

pub starred_hold : every starred ≡ true
unfolding every right starred same? is has lists closing counting behind tested count_of top_differ ones tiles numbers
starred_hold = refl
