-- The text of a rule and of a rule list, and what it is for a text to say one.
use Rattle.std.specs.Prelude.{false, List, [], ◌∷◌, ◌++◌, ◌≡◌, ℕ, ◌/◌, ◌%◌, ◌^◌, ◌≤◌, ◌<◌, eqb, length, if◌then◌else◌}
use Rattle.records.specs.Layout.{rule_limit}
use Rattle.records.specs.Prefixes.{beyond?}
use Rattle.records.specs.Rules.{RuleFits}
use Rattle.records.specs.declared.Rule.{Rule}
use Rattle.rules.specs.Faults.{bad_field}
use Rattle.sheets.specs.Parts.{Address, Ports, dash, dot, slash, star}
use Rattle.sheets.specs.Reading.{sheet_limit}
use Rattle.texts.specs.Decimal.{decimal}
use Rattle.texts.specs.Lines.{action_text, line_feed, tab}

-- * under flag 1, else the protocol's number
abbrev pub protocol_text : ℕ → ℕ → List ℕ
protocol_text flag proto = if eqb flag 1 then star else decimal proto

-- a.b.c.d/len
abbrev pub address_text : ℕ → ℕ → List ℕ
address_text a len =
    decimal (a / 16777216) ++ (dot
    ∷ (decimal (a / 65536 % 256) ++ (dot
    ∷ (decimal (a / 256 % 256) ++ (dot
    ∷ (decimal (a % 256) ++ (slash ∷ decimal len)))))))

-- low-high
abbrev pub ports_text : ℕ → ℕ → List ℕ
ports_text low high = decimal low ++ (dash ∷ decimal high)

-- s is the text of this address, which is in range
pub record AddressSaid (s : List ℕ) (a : Address) : Type 0 where
  pub text : s ≡ address_text a.bits a.len
  pub fits : a.bits < 2 ^ 32
  pub short : a.len ≤ 32
  pub within : beyond? a.bits a.len ≡ false

-- s is the text of these ports, which are in range
pub record PortsSaid (s : List ℕ) (p : Ports) : Type 0 where
  pub text : s ≡ ports_text p.low p.high
  pub order : p.low ≤ p.high
  pub fits : p.high < 65536

-- six fields, parted by single tabs
unfoldable pub rule_text : Rule → List ℕ
rule_text r =
    protocol_text r.flag r.proto ++ (tab
    ∷ (address_text r.src r.slen ++ (tab
    ∷ (address_text r.dst r.dlen ++ (tab
    ∷ (ports_text r.slow r.shigh ++ (tab
    ∷ (ports_text r.dlow r.dhigh ++ (tab ∷ action_text r.action)))))))))

-- no field of the rule is bad, and each fits its bytes
pub record GoodRule (r : Rule) : Type 0 where
  pub fine : bad_field r ≡ 0
  pub fits : RuleFits r

-- one rule a line, each ended by a line feed
unfoldable pub sheet_text : List Rule → List ℕ
sheet_text [] = []
sheet_text (r ∷ rs) = rule_text r ++ (line_feed ∷ sheet_text rs)

-- each rule of the list is good
abbrev pub AllGood : List Rule → Type 0
AllGood [] = Unit
AllGood (r ∷ rs) = GoodRule r × AllGood rs

-- s is the text of the rules rs, which are good and not too many
pub record Accepted (s : List ℕ) (rs : List Rule) : Type 0 where
  pub text : s ≡ sheet_text rs
  pub good : AllGood rs
  pub few : length rs ≤ rule_limit
  pub short : length s ≤ sheet_limit
