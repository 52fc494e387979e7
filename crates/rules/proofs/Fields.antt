-- A bad field and its number: each is read back from the other, and no number is 0. Assumes nothing.
use mathlib.Core.Path.{◌≡◌, refl}
use Prim.Native.Nat.{ℕ, ◌≤◌, ◌<◌}
use native.Mathlib.Omega.{arith}
use Rattle.std.proofs.lemmas.Bool.Decides.{nat_tests}
use Rattle.rules.specs.Faults.{field_number, field_numbered}
use Rattle.rules.specs.declared.faults.Field.{Field}
use Rattle.rules.specs.declared.faults.Field.TheVariants.{Flag, Spare, SourceLength, SourceBits, DestLength, DestBits, SourcePorts, DestPorts, Action}

pub field_back : (f : Field) → field_numbered (field_number f) ≡ f
unfolding field_numbered
field_back Flag = refl
field_back Spare = refl
field_back SourceLength = refl
field_back SourceBits = refl
field_back DestLength = refl
field_back DestBits = refl
field_back SourcePorts = refl
field_back DestPorts = refl
field_back Action = refl

pub number_back : (n : ℕ) → 0 < n → n ≤ 9 → field_number (field_numbered n) ≡ n
unfolding field_numbered
number_back n some most = grind (arith, nat_tests)

pub field_some : (f : Field) → field_number f ≡ 0 → ⊥
field_some Flag e = omega arith
field_some Spare e = omega arith
field_some SourceLength e = omega arith
field_some SourceBits e = omega arith
field_some DestLength e = omega arith
field_some DestBits e = omega arith
field_some SourcePorts e = omega arith
field_some DestPorts e = omega arith
field_some Action e = omega arith
