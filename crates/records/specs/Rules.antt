-- The 21 bytes of a rule, and the rules of a list of bytes.
use Rattle.std.specs.Prelude.{List, [], ◌∷◌, ◌++◌, ℕ, zero, suc, ◌/◌, ◌^◌, ◌<◌, drop, get_or, length}
use Rattle.fields.specs.Bytes.{at2, at4, be2, be4}
use Rattle.records.specs.Layout.{rule_size}
use Rattle.records.specs.declared.Rule.{Rule}

-- the rule at the start of the list
unfoldable pub rule_at : List ℕ → Rule
rule_at l = record {
  flag = get_or l 0 0;
  proto = get_or l 1 0;
  src = at4 l 2;
  slen = get_or l 6 0;
  dst = at4 l 7;
  dlen = get_or l 11 0;
  slow = at2 l 12;
  shigh = at2 l 14;
  dlow = at2 l 16;
  dhigh = at2 l 18;
  action = get_or l 20 0;
}

-- the first n rules of the list
unfoldable pub rules_of : ℕ → List ℕ → List Rule
rules_of zero l = []
rules_of (suc n) l = rule_at l ∷ rules_of n (drop rule_size l)

-- all of them
abbrev pub all_rules : List ℕ → List Rule
all_rules l = rules_of (length l / rule_size) l

-- the protocol, the addresses, the ports and the action fit their bytes
pub record RuleFits (r : Rule) : Type 0 where
  pub proto : r.proto < 2 ^ 8
  pub src : r.src < 2 ^ 32
  pub dst : r.dst < 2 ^ 32
  pub slow : r.slow < 2 ^ 16
  pub shigh : r.shigh < 2 ^ 16
  pub dlow : r.dlow < 2 ^ 16
  pub dhigh : r.dhigh < 2 ^ 16
  pub action : r.action < 2 ^ 8

-- an address and its length, and an interval of ports, as bytes
abbrev pub prefix_bytes : ℕ → ℕ → List ℕ
prefix_bytes a len = be4 a ++ (len ∷ [])

abbrev pub ports_bytes : ℕ → ℕ → List ℕ
ports_bytes low high = be2 low ++ be2 high

unfoldable pub rule_bytes : Rule → List ℕ
rule_bytes r =
    r.flag ∷ r.proto
    ∷ (prefix_bytes r.src r.slen ++ (prefix_bytes r.dst r.dlen
    ++ (ports_bytes r.slow r.shigh ++ (ports_bytes r.dlow r.dhigh ++ (r.action ∷ [])))))

-- a rule list's bytes
unfoldable pub list_bytes : List Rule → List ℕ
list_bytes [] = []
list_bytes (r ∷ rs) = rule_bytes r ++ list_bytes rs
