-- The 13 bytes of a header: protocol, source address, destination address, source port, destination port. A word's value
-- and mask are laid out alike.
use Rattle.std.specs.Prelude.{List, ◌∷◌, ◌++◌, ℕ, ◌^◌, ◌<◌, get_or}
use Rattle.fields.specs.Bytes.{at2, at4, be2, be4}
use Rattle.records.specs.declared.Key.{Key}

abbrev pub key : ℕ → ℕ → ℕ → ℕ → ℕ → Key
key proto src dst sport dport = record { proto = proto; src = src; dst = dst; sport = sport; dport = dport }

unfoldable pub key_at : List ℕ → Key
key_at l = key (get_or l 0 0) (at4 l 1) (at4 l 5) (at2 l 9) (at2 l 11)

unfoldable pub key_bytes : Key → List ℕ
key_bytes k = k.proto ∷ (be4 k.src ++ (be4 k.dst ++ (be2 k.sport ++ be2 k.dport)))

-- every field fits its bytes
pub record KeyFits (k : Key) : Type 0 where
  pub proto : k.proto < 2 ^ 8
  pub src : k.src < 2 ^ 32
  pub dst : k.dst < 2 ^ 32
  pub sport : k.sport < 2 ^ 16
  pub dport : k.dport < 2 ^ 16
