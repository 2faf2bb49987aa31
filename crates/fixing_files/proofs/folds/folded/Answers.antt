use Rattle.std.proofs.Common.{◌≡◌, List, Option, Some, None, take, subst, arith}
use Rattle.std.specs.Prelude.{Contains}
use Rattle.std.proofs.lemmas.List.{take_all, take_more}
use Rattle.fixing_files.specs.Folds.{Folds, IsLeast}
use Rattle.fixing_files.specs.declared.rows.Row.{Row}
use Rattle.fixing_files.specs.declared.folds.Clash.{Clash}
use Rattle.fixing_files.proofs.FoldFacts.{comes_next, folded_holds, folds_none}
use Rattle.fixing_files.proofs.folds.folded.Goals as goal

pub loop-row-init : goal.loop-row-init
loop-row-init c = rw c.new.ensures.items folds_none

pub loop-row-preserved : goal.loop-row-preserved
loop-row-preserved c =
    let rows = c.args.rows.now in
    let i = c.loop-row.row-index in
    let more = take_more rows i _ c.loop-row-test.true in
    rw more (c.in_ok-take.ensures (take i rows) (comes_next rows i _ c.requires.order c.requires.numbers c.loop-row-test.true) c.loop-row.invariant)

pub returns-in-Some : goal.returns-in-Some
returns-in-Some c =
    let rows = c.args.rows.now in
    let least = c.loop-row.folding.least in
    let whole : take c.loop-row.row-index rows ≡ rows = take_all c.loop-row.row-index rows (omega arith) in
    let is : least ≡ Some c.in-Some.clash = c.in-Some.is in
    let h : IsLeast (Contains rows) (Some c.in-Some.clash) = subst (λ (o : Option Clash). IsLeast (Contains rows) o) is (subst (λ (l : List Row). IsLeast (Contains l) least) whole c.loop-row.invariant.least_is) in
    h

pub returns-in-None : goal.returns-in-None
returns-in-None c =
    let rows = c.args.rows.now in
    let f = c.loop-row.folding in
    let whole : take c.loop-row.row-index rows ≡ rows = take_all c.loop-row.row-index rows (omega arith) in
    let is : f.least ≡ None = c.in-None.is in
    let all : Folds rows f.days.items f.first f.least = subst (λ (l : List Row). Folds l f.days.items f.first f.least) whole c.loop-row.invariant in
    let none : Folds rows f.days.items f.first None = subst (λ (o : Option Clash). Folds rows f.days.items f.first o) is all in
    (folded_holds rows f.days.items f.first none, none.least_is)
