use Rattle.std.proofs.Common.{◌≡◌, ◌∷◌, List, Option, Some, None, length, ap, subst, arith}
use Rattle.std.specs.Vec.Iter.{into_iter_items}
use Rattle.fixing_files.specs.Folds.{Settles}
use Rattle.fixing_files.specs.Rows.{HasRow}
use Rattle.fixing_files.specs.declared.rows.Run.{Run}
use Rattle.fixing_files.specs.declared.folds.Clash.{Clash}
use Rattle.fixing_files.specs.declared.folds.Settled.TheVariants.{Days, Clashes as Clashing}
use Rattle.fixing_files.proofs.SettleFacts.{SettlesFront, front_clash, front_days, nothing_left, one_moved, own_next, run_next, settled_clash, settled_runs}
use Rattle.fixing_files.proofs.folds.settle_all.Goals as goal

pub settle-requires-clause-run : goal.settle-requires-clause-run
settle-requires-clause-run c =
    let at = c.loop-label in
    run_next at.yielded (into_iter_items at.label-iterator) _ c.args.runs.items _ at.invariant.0 c.in-Some.ensures.steps.0 c.requires.runs

pub settle-requires-clause-numbers : goal.settle-requires-clause-numbers
settle-requires-clause-numbers c =
    let at = c.loop-label in
    own_next at.yielded (into_iter_items at.label-iterator) _ c.args.runs.items _ at.invariant.0 c.in-Some.ensures.steps.0 c.requires.numbers

pub loop-label-preserved-in-Continue-branch-2 : goal.loop-label-preserved-in-Continue-branch-2
loop-label-preserved-in-Continue-branch-2 c =
    let at = c.loop-label in
    let label = c.in-Some.label in
    let steps : into_iter_items at.label-iterator ≡ label ∷ into_iter_items c.next.new.self = c.in-Some.ensures.steps.0 in
    let settles : Settles (HasRow label) (Days c.in-Days.of_label) = rw c.in-Days.is at c.in_ok-settled.ensures in
    let front = front_days at.yielded label at.days.items c.in-Days.of_label at.least at.invariant.2 settles.0 settles.1 in (
      one_moved at.yielded (into_iter_items at.label-iterator) (into_iter_items c.next.new.self) c.args.runs.items label at.invariant.0 steps,
      omega (arith, at.invariant.1, c.in-Some.ensures.steps.1, ap length steps),
      rw c.in_ok-push-in-Days.ensures.items front,
    )

pub loop-label-preserved : goal.loop-label-preserved
loop-label-preserved c =
    let at = c.loop-label in
    let label = c.in-Some.label in
    let steps : into_iter_items at.label-iterator ≡ label ∷ into_iter_items c.next.new.self = c.in-Some.ensures.steps.0 in
    let settles : Settles (HasRow label) (Clashing c.in-Clashes.clash) = rw c.in-Clashes.is at c.in_ok-settled.ensures in
    let front = front_clash at.yielded label at.days.items at.least c.in-Clashes.clash at.invariant.2 settles in (
      one_moved at.yielded (into_iter_items at.label-iterator) (into_iter_items c.next.new.self) c.args.runs.items label at.invariant.0 steps,
      omega (arith, at.invariant.1, c.in-Some.ensures.steps.1, ap length steps),
      rw c.lesser.ensures front,
    )

pub returns-in-Some-least : goal.returns-in-Some-least
returns-in-Some-least c =
    let at = c.loop-label in
    let all : at.yielded ≡ c.args.runs.items = nothing_left at.yielded (into_iter_items at.label-iterator) c.args.runs.items _ at.invariant.0 at.invariant.1 c.in-None.ensures.steps.0 in
    let front : SettlesFront c.args.runs.items at.days.items (Some c.in-Some-least.clash) = subst (λ (o : Option Clash). SettlesFront c.args.runs.items at.days.items o) c.in-Some-least.is (subst (λ (l : List Run). SettlesFront l at.days.items at.least) all at.invariant.2) in
    settled_clash c.args.runs.items at.days.items c.in-Some-least.clash front

pub returns-in-None-least : goal.returns-in-None-least
returns-in-None-least c =
    let at = c.loop-label in
    let all : at.yielded ≡ c.args.runs.items = nothing_left at.yielded (into_iter_items at.label-iterator) c.args.runs.items _ at.invariant.0 at.invariant.1 c.in-None.ensures.steps.0 in
    let front : SettlesFront c.args.runs.items at.days.items None = subst (λ (o : Option Clash). SettlesFront c.args.runs.items at.days.items o) c.in-None-least.is (subst (λ (l : List Run). SettlesFront l at.days.items at.least) all at.invariant.2) in
    settled_runs c.args.runs.items at.days front
