-- Any two outcomes that a contract allows for one input coincide: each answer can be read back from document 01's number and
-- values, so equal numbers mean equal answers. Assumes nothing.
use mathlib.Core.List.{List}
use mathlib.Core.Path.{◌≡◌, refl, ap}
use Prim.Native.Nat.{ℕ}
use lib.Dec.{eqb}
use Rattle.answers.proofs.Lending.{one_back}
use Rattle.answers.proofs.ReadBack.{back}
use Rattle.answers.specs.Refusals as refusal
use Rattle.answers.specs.declared.Answer.{Answer}
use Rattle.std.specs.Prelude.{Option, None, Some, Result, Ok, Err, if◌then◌else◌}
use Rattle.records.proofs.ReadBack.{action_back, action_from}
use Rattle.rules.proofs.Settled.{fault_back, list_fault_from}
use Rattle.rules.specs.declared.faults.ListFault.{ListFault}
use Rattle.rules.specs.declared.faults.ListFault.TheVariants.{Odd, Many, Bad}
use Rattle.tables.specs.Compiling.{Compiling, compiled_as}
use Rattle.tables.specs.Looking.{found_as, looking}
use Rattle.tables.specs.declared.compiling.CompileError.{CompileError}
use Rattle.tables.specs.declared.compiling.CompileError.TheVariants.{Rules, Space}
use Rattle.tables.specs.declared.finding.Found.{Found}
use Rattle.tables.specs.declared.finding.LookError.{LookError}
use Rattle.tables.specs.declared.finding.LookError.TheVariants.{Stated, Ill, Header}

-- ---- reading back

found_from : Answer → Result (Option Found) LookError
found_from r =
    if eqb r.no 0 then (if eqb r.a 0 then Ok None else Ok (Some (record { index = r.b; rule = r.c; action = action_from r.d })))
    else if eqb r.no refusal.stated then Err Stated
    else if eqb r.no refusal.ill then Err (Ill r.a)
    else Err Header

found_back : (r : Result (Option Found) LookError) → found_from (found_as r) ≡ r
unfolding found_from
found_back (Ok None) = refl
found_back (Ok (Some f)) = rw (action_back f.action)
found_back (Err Stated) = refl
found_back (Err (Ill j)) = refl
found_back (Err Header) = refl

compiled_from : Answer → Result ℕ CompileError
compiled_from r =
    if eqb r.no 0 then Ok r.a
    else if eqb r.no refusal.space then Err (Space r.a)
    else Err (Rules (list_fault_from r))

compiled_back : (r : Result ℕ CompileError) → compiled_from (compiled_as r) ≡ r
unfolding compiled_from
compiled_back (Ok k) = refl
compiled_back (Err (Space k)) = refl
compiled_back (Err (Rules Odd)) = ap (λ (f : ListFault). Err (Rules f)) (fault_back Odd)
compiled_back (Err (Rules Many)) = ap (λ (f : ListFault). Err (Rules f)) (fault_back Many)
compiled_back (Err (Rules (Bad i f))) = ap (λ (f : ListFault). Err (Rules f)) (fault_back (Bad i f))

-- ---- two outcomes

pub one_word : (t : List ℕ) (k : ℕ) (h : List ℕ) (r s : Result (Option Found) LookError) → found_as r ≡ looking t k h → found_as s ≡ looking t k h → r ≡ s
one_word t k h = back found_as found_from found_back (looking t k h)

pub one_compile : (l before : List ℕ) (r s : Result ℕ CompileError) (x y : List ℕ)
    → Compiling l before (compiled_as r) x → Compiling l before (compiled_as s) y → (r ≡ s) × (x ≡ y)
one_compile l before = one_back compiled_as compiled_from compiled_back
