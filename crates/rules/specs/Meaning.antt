-- What a rule matches, and reading a rule list from the top (document 01: a rule matches when all five fields do, ports
-- being compared whatever the protocol; the first matching rule applies).
use Rattle.std.specs.Prelude.{Bool, ◌&&◌, ◌||◌, List, [], ◌∷◌, ℕ, ◌+◌, eqb, leb, if◌then◌else◌}
use Rattle.answers.specs.Answers.{done}
use Rattle.answers.specs.declared.Answer.{Answer}
use Rattle.records.specs.Prefixes.{addr_match}
use Rattle.records.specs.declared.Key.{Key}
use Rattle.records.specs.declared.Rule.{Rule}

-- flag 1 is any protocol
abbrev pub proto_match : Rule → ℕ → Bool
proto_match r x = eqb r.flag 1 || eqb x r.proto

abbrev pub port_match : ℕ → ℕ → ℕ → Bool
port_match low high x = leb low x && leb x high

unfoldable pub rule_match : Rule → Key → Bool
rule_match r h =
    proto_match r h.proto
    && (addr_match r.src r.slen h.src
    && (addr_match r.dst r.dlen h.dst
    && (port_match r.slow r.shigh h.sport
    && port_match r.dlow r.dhigh h.dport)))

-- the first rule that matches, the first of the list having number i: 1, its number and its action; or 0 and zeros
unfoldable pub first_rule : ℕ → List Rule → Key → Answer
first_rule i [] h = done 0 0 0 0
first_rule i (r ∷ rs) h = if rule_match r h then done 1 i r.action 0 else first_rule (i + 1) rs h
