use Rattle.std.proofs.Common.{◌≡◌, subst, sym}
use Rattle.term_model.specs.Declarations.{declarations}
use Rattle.report.specs.declared.fault_lines.Fault.{Fault}
use Rattle.used_contracts.specs.ChoosingParts.{HasName, StopsByName, StopsIn, StopsOn, selection}
use Rattle.command_courses.specs.declared.stop.Stop.TheVariants as stop
use Rattle.used_contracts.proofs.ChoosingFacts.{answer_stops, names_stop_too, own_behind_acceptance, refusal_stops, stops_too}
use Rattle.used_contracts.proofs.choosing.behind_acceptance.Goals as goal

pub returns-in-Some : goal.returns-in-Some
returns-in-Some c = λ text begun.
    let d = declarations c.args.choice.now.decls.now in
    let s = selection c.args.choice.now in
    let Then : Fault → Type 0 = λ f. c.args.stop ≡ stop.Fault f in
    subst (StopsIn text d (λ b. StopsOn b s Then)) (sym c.in-Some.fault-is)
    (refusal_stops text d s c.in-Ok.tried (c.in-Ok.ensures text begun) Then c.in-Some.fault c.in-Some.is)

pub returns-in-None : goal.returns-in-None
returns-in-None c = λ text begun.
    own_behind_acceptance text (declarations c.args.choice.now.decls.now) (selection c.args.choice.now) c.in-Ok.tried (c.in-Ok.ensures text begun) c.args.stop c.in-None.is

pub returns-in-Err : goal.returns-in-Err
returns-in-Err c = λ text begun.
    let d = declarations c.args.choice.now.decls.now in
    let s = selection c.args.choice.now in
    let Then : Fault → Type 0 = λ f. c.args.stop ≡ stop.Fault f in
    stops_too (StopsIn text d (λ b. StopsByName b s (λ _. ⊥))) (StopsIn text d (λ b. StopsOn b s Then)) (names_stop_too text d s Then) c.in-Err.first
    (answer_stops (HasName text d s) (StopsIn text d (λ b. StopsByName b s (λ _. ⊥))) c.in-Err.first (c.in-Err.ensures text begun))
