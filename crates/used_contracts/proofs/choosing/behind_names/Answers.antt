use Rattle.std.proofs.Common.{◌≡◌}
use Rattle.term_model.specs.Declarations.{declarations}
use Rattle.report.specs.declared.fault_lines.Fault.{Fault}
use Rattle.used_contracts.specs.ChoosingParts.{HasName, StopsByName, StopsIn, selection}
use Rattle.command_courses.specs.declared.stop.Stop.TheVariants as stop
use Rattle.used_contracts.proofs.ChoosingFacts.{answer_stops, names_stop, own_behind_names, stops_too}
use Rattle.used_contracts.proofs.choosing.behind_names.Goals as goal

pub returns-in-Ok : goal.returns-in-Ok
returns-in-Ok c = λ text begun.
    own_behind_names text (declarations c.args.choice.now.decls.now) (selection c.args.choice.now) c.in-Ok.field-0 (c.in-Ok.ensures text begun) c.args.stop

pub returns-in-Err : goal.returns-in-Err
returns-in-Err c = λ text begun.
    let d = declarations c.args.choice.now.decls.now in
    let s = selection c.args.choice.now in
    let Then : Fault → Type 0 = λ f. c.args.stop ≡ stop.Fault f in
    stops_too (StopsIn text d (λ b. StopsByName b s (λ _. ⊥))) (StopsIn text d (λ b. StopsByName b s Then)) (names_stop text d s Then) c.in-Err.first
    (answer_stops (HasName text d s) (StopsIn text d (λ b. StopsByName b s (λ _. ⊥))) c.in-Err.first (c.in-Err.ensures text begun))
