-- `sheets::rows::read_row` meets its contract: six fields, each read from its part of the line. Assumes nothing.
use mathlib.Core.Path.{◌≡◌, refl}
use Prim.Native.Nat.{◌/◌, ◌%◌, ◌≤◌}
use native.Mathlib.Omega.{arith}
use Rattle.std.proofs.lemmas.Result.{err_from_is_err_and}
use Rattle.std.specs.Prelude.{Some}
use Rattle.sheets.specs.Parts.{any, protocol_as}
use Rattle.sheets.proofs.RowFields.{SixFields, action_last, missing, row_action, row_destination, row_destination_ports, row_good, row_marks, row_protocol, row_source, row_source_ports, six_fields}
use Rattle.sheets.proofs.rows.read_row.Goals as goal
use Rattle.sheets.proofs.rows.read_row.Goals.{After-halves-5, Joined-branch-2, in-Any, in-Exact}

six : (c : After-halves-5) → SixFields c.args.s.now c.halves.result.0.now c.halves-2.result.0.now c.halves-3.result.0.now c.halves-4.result.0.now c.halves-5.result.0.now c.halves-5.result.1.now
six c = six_fields _ _ c.count.ensures c.if-count-ne5.false c.halves.ensures c.halves-2.ensures c.halves-3.ensures c.halves-4.ensures c.halves-5.ensures

-- the protocol of a good field, and its flag
small : (c : Joined-branch-2) → protocol_as (Some c.in_ok-ok_or.field-0) ≤ any
small c =
    elim c.match-branch-2.branch [
      | in-Any w ↦ rw w.in-Any.is (omega arith)
      | in-Exact w ↦ rw w.in-Exact.is (omega arith)
    ]

coded : (c : Joined-branch-2) → c.match-branch-2.flag ≡ (protocol_as (Some c.in_ok-ok_or.field-0) / any, protocol_as (Some c.in_ok-ok_or.field-0) % any)
coded c =
    elim c.match-branch-2.branch [
      | in-Any w ↦ rw (w.in-Any.is, w.flag-is)
      | in-Exact w ↦
          let f : w.in-Exact.proto / any ≡ 0 = omega arith in
          let p : w.in-Exact.proto % any ≡ w.in-Exact.proto = omega arith in
          rw (w.in-Exact.is, w.flag-is, f, p)
    ]

pub returns-then-count-ne5 : goal.returns-then-count-ne5
returns-then-count-ne5 c = row_marks _ _ c.count.ensures c.if-count-ne5.true

pub returns-in_err-ok_or : goal.returns-in_err-ok_or
returns-in_err-ok_or c =
    let p = err_from_is_err_and c.from_residual.result c.from_residual.ensures.1 in
    rw (p.1, p.2, missing _ _ _ c.in_err-ok_or.ensures.value c.in_err-ok_or.ensures.ok_part)
    (row_protocol (six (goal.at.returns-in_err-ok_or c).After-halves-5)
    (rw c.in_err-ok_or.ensures.ok_part at c.read_protocol.ensures))

pub returns-in_err-src : goal.returns-in_err-src
returns-in_err-src c =
    let p = err_from_is_err_and c.from_residual-in_err-src.result c.from_residual-in_err-src.ensures.1 in
    rw (p.1, p.2, missing _ _ _ c.in_err-src.ensures.value c.in_err-src.ensures.ok_part)
    (row_source (six (goal.at.returns-in_err-src c).After-halves-5)
    (small (goal.at.returns-in_err-src c).Joined-branch-2) (rw c.in_ok-ok_or.ensures.ok_part at c.read_protocol.ensures)
    (rw c.in_err-src.ensures.ok_part at c.read_address.ensures))

pub returns-in_err-dst : goal.returns-in_err-dst
returns-in_err-dst c =
    let p = err_from_is_err_and c.from_residual-in_err-dst.result c.from_residual-in_err-dst.ensures.1 in
    rw (p.1, p.2, missing _ _ _ c.in_err-dst.ensures.value c.in_err-dst.ensures.ok_part)
    (row_destination (six (goal.at.returns-in_err-dst c).After-halves-5)
    (small (goal.at.returns-in_err-dst c).Joined-branch-2) (rw c.in_ok-ok_or.ensures.ok_part at c.read_protocol.ensures)
    refl (rw c.in_ok-src.ensures.ok_part at c.read_address.ensures)
    (rw c.in_err-dst.ensures.ok_part at c.read_address-2.ensures))

pub returns-in_err-sports : goal.returns-in_err-sports
returns-in_err-sports c =
    let p = err_from_is_err_and c.from_residual-in_err-sports.result c.from_residual-in_err-sports.ensures.1 in
    rw (p.1, p.2, missing _ _ _ c.in_err-sports.ensures.value c.in_err-sports.ensures.ok_part)
    (row_source_ports (six (goal.at.returns-in_err-sports c).After-halves-5)
    (small (goal.at.returns-in_err-sports c).Joined-branch-2) (rw c.in_ok-ok_or.ensures.ok_part at c.read_protocol.ensures)
    refl (rw c.in_ok-src.ensures.ok_part at c.read_address.ensures)
    refl (rw c.in_ok-dst.ensures.ok_part at c.read_address-2.ensures)
    (rw c.in_err-sports.ensures.ok_part at c.read_ports.ensures))

pub returns-in_err-dports : goal.returns-in_err-dports
returns-in_err-dports c =
    let p = err_from_is_err_and c.from_residual-in_err-dports.result c.from_residual-in_err-dports.ensures.1 in
    rw (p.1, p.2, missing _ _ _ c.in_err-dports.ensures.value c.in_err-dports.ensures.ok_part)
    (row_destination_ports (six (goal.at.returns-in_err-dports c).After-halves-5)
    (small (goal.at.returns-in_err-dports c).Joined-branch-2) (rw c.in_ok-ok_or.ensures.ok_part at c.read_protocol.ensures)
    refl (rw c.in_ok-src.ensures.ok_part at c.read_address.ensures)
    refl (rw c.in_ok-dst.ensures.ok_part at c.read_address-2.ensures)
    refl (rw c.in_ok-sports.ensures.ok_part at c.read_ports.ensures)
    (rw c.in_err-dports.ensures.ok_part at c.read_ports-2.ensures))

pub returns-in_err-act : goal.returns-in_err-act
returns-in_err-act c =
    let p = err_from_is_err_and c.from_residual-in_err-act.result c.from_residual-in_err-act.ensures.1 in
    rw (p.1, p.2, missing _ _ _ c.in_err-act.ensures.value c.in_err-act.ensures.ok_part)
    (row_action (six (goal.at.returns-in_err-act c).After-halves-5)
    (small (goal.at.returns-in_err-act c).Joined-branch-2) (rw c.in_ok-ok_or.ensures.ok_part at c.read_protocol.ensures)
    refl (rw c.in_ok-src.ensures.ok_part at c.read_address.ensures)
    refl (rw c.in_ok-dst.ensures.ok_part at c.read_address-2.ensures)
    refl (rw c.in_ok-sports.ensures.ok_part at c.read_ports.ensures)
    refl (rw c.in_ok-dports.ensures.ok_part at c.read_ports-2.ensures)
    (rw c.in_err-act.ensures.ok_part at c.read_action.ensures))

pub returns : goal.returns
returns c =
    rw (coded (goal.at.returns c).Joined-branch-2, c.into.ensures)
    (row_good (six (goal.at.returns c).After-halves-5)
    (small (goal.at.returns c).Joined-branch-2) (rw c.in_ok-ok_or.ensures.ok_part at c.read_protocol.ensures)
    refl (rw c.in_ok-src.ensures.ok_part at c.read_address.ensures)
    refl (rw c.in_ok-dst.ensures.ok_part at c.read_address-2.ensures)
    refl (rw c.in_ok-sports.ensures.ok_part at c.read_ports.ensures)
    refl (rw c.in_ok-dports.ensures.ok_part at c.read_ports-2.ensures)
    (action_last _) (rw c.in_ok-act.ensures.ok_part at c.read_action.ensures))
