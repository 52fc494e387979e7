-- Any two outcomes that `read` allows for one input coincide, in the answer and in the lent memory: each answer can be read
-- back from its number and values, so equal numbers mean equal answers. Assumes nothing.
use mathlib.Core.List.{List}
use mathlib.Core.Path.{◌≡◌, refl}
use Prim.Native.Nat.{ℕ}
use lib.Dec.{eqb}
use Rattle.std.specs.Prelude.{Result, Ok, Err, if◌then◌else◌}
use Rattle.answers.proofs.Lending.{one_back}
use Rattle.answers.specs.Refusals as refusal
use Rattle.answers.specs.declared.Answer.{Answer}
use Rattle.sheets.specs.Reading.{Reading, read_as}
use Rattle.sheets.specs.Rows.{part_number}
use Rattle.sheets.specs.declared.reading.SheetError.{SheetError}
use Rattle.sheets.specs.declared.reading.SheetError.TheVariants.{Long, Many, Bad, Room}
use Rattle.sheets.specs.declared.rows.Part.{Part}
use Rattle.sheets.specs.declared.rows.Part.TheVariants as part

abbrev part_from : ℕ → Part
part_from n =
    if eqb n 0 then part.Line
    else if eqb n 1 then part.Protocol
    else if eqb n 2 then part.Source
    else if eqb n 3 then part.Destination
    else if eqb n 4 then part.SourcePorts
    else if eqb n 5 then part.DestinationPorts
    else part.Action

part_back : (p : Part) → part_from (part_number p) ≡ p
part_back part.Line = refl
part_back part.Protocol = refl
part_back part.Source = refl
part_back part.Destination = refl
part_back part.SourcePorts = refl
part_back part.DestinationPorts = refl
part_back part.Action = refl

read_from : Answer → Result ℕ SheetError
read_from r =
    if eqb r.no 0 then Ok r.a
    else if eqb r.no refusal.long then Err Long
    else if eqb r.no refusal.many then Err Many
    else if eqb r.no refusal.line then Err (Bad (record { line = r.a; part = part_from r.b }))
    else Err (Room r.a)

read_back : (r : Result ℕ SheetError) → read_from (read_as r) ≡ r
unfolding read_from
read_back (Ok n) = refl
read_back (Err Long) = refl
read_back (Err Many) = refl
read_back (Err (Bad b)) = rw (part_back b.part)
read_back (Err (Room bytes)) = refl

pub one_read : (s held : List ℕ) (r u : Result ℕ SheetError) (x y : List ℕ) → Reading s held (read_as r) x → Reading s held (read_as u) y → (r ≡ u) × (x ≡ y)
one_read s held = one_back read_as read_from read_back
