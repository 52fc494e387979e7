-- A bad line of a sheet: which one it is, what is wrong with it, and which of its fields are bad.
use Rattle.std.specs.Prelude.{Bool, true, false, not, List, [], ◌∷◌, ◌++◌, ◌⊎◌, ◌≡◌, ℕ, ◌+◌, ◌<◌, Err, eqb, ltb, length}
use Rattle.records.specs.Layout.{last_action}
use Rattle.records.specs.declared.Rule.{Rule}
use Rattle.sheets.specs.Cuts.{before, times}
use Rattle.sheets.specs.Parts.{Address, Ports, any}
use Rattle.sheets.specs.Reading.{ended?}
use Rattle.sheets.specs.Rows.{of_fields, row_of}
use Rattle.sheets.specs.Text.{AllGood, sheet_text}
use Rattle.texts.specs.Lines.{line_feed, tab}

-- ---- the line

-- the first line of the rest lacks its line feed
pub record Unended (rest : List ℕ) (field : ℕ) : Type 0 where
  pub some : 0 < length rest
  pub endless : ended? rest ≡ false
  pub whole : field ≡ 0

-- the first line of the rest has a bad field, or another number of fields
pub record Wrong (rest : List ℕ) (field : ℕ) : Type 0 where
  pub ended : ended? rest ≡ true
  pub says : row_of (before line_feed rest) ≡ Err field

-- the text of the good rules rs comes first in s, and the line after it, of this number, is bad at this field
pub record FirstBadLine (s : List ℕ) (rs : List Rule) (line field : ℕ) : Type 0 where
  pub rest : List ℕ
  pub text : s ≡ sheet_text rs ++ rest
  pub good : AllGood rs
  pub number : line ≡ length rs + 1
  pub bad : Unended rest field ⊎ Wrong rest field

-- ---- its fields

-- which of the six fields are bad
abbrev pub bad_fields : ℕ → Address → Address → Ports → Ports → ℕ → List Bool
bad_fields p src dst sports dports act = ltb any p ∷ not src.good ∷ not dst.good ∷ not sports.good ∷ not dports.good ∷ ltb last_action act ∷ []

-- whether there are not six fields, and which of the six are bad
abbrev pub bad_parts : List ℕ → List Bool
bad_parts s = not (eqb (times tab s) 5) ∷ of_fields bad_fields s
