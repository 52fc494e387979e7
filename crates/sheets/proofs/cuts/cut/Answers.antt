-- `sheets::cuts::cut` meets its contract: the place of the first mark parts the text. Assumes nothing.
use Prim.Native.Nat.{ℕ}
use lib.Dec.{eqb}
use borrow.Author.Rules.{rules}
use borrow.Author.Tests.{tests}
use Rattle.std.proofs.lemmas.Iterator.{YieldsList-from_slice}
use Rattle.std.proofs.lemmas.Iterator.Search.{position_from_yields_List}
use Rattle.sheets.proofs.Places.{placed}
use Rattle.sheets.proofs.cuts.cut.Goals as goal

pub returns-in_err-i : goal.returns-in_err-i
returns-in_err-i c =
    let h = placed c.args.c c.args.s.now c.position.result
    (position_from_yields_List (λ (x : ℕ). eqb x c.args.c) _ _ c.position.result c.position.ensures.ran (YieldsList-from_slice c.args.s.now cc)
    (λ x b q k. search (rules, tests))) in
    rw c.from_residual.ensures (rw c.in_err-i.was at h)

pub returns : goal.returns
returns c =
    let h = placed c.args.c c.args.s.now c.position.result
    (position_from_yields_List (λ (x : ℕ). eqb x c.args.c) _ _ c.position.result c.position.ensures.ran (YieldsList-from_slice c.args.s.now cc)
    (λ x b q k. search (rules, tests))) in
    rw c.in_ok-i.was at h
