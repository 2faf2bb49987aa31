use Rattle.std.proofs.Common.{◌≡◌, true}
use Rattle.std.specs.Prelude.{None, Some, Ok, Err}
use Rattle.command_words.specs.Arguments.{given_text}
use Rattle.report.specs.declared.fault_lines.Fault.{Fault}
use Rattle.used_contracts.specs.ChoosingParts.{IsPassed, StopsOn, unknown}
use Rattle.used_contracts.specs.Portfolios.{IsUnknownName}
use Rattle.used_contracts.specs.UsedContracts.{is_known}
use Rattle.used_contracts.proofs.ChoosingFacts.{accepted_behind, held_last, name_told, refusal_first, stop_answers}
use Rattle.command_courses.proofs.StopFacts.{handed_on}
use Rattle.used_contracts.proofs.choosing.first_stop.Goals as goal

pub returns-in_err-know : goal.returns-in_err-know
returns-in_err-know c = λ b s named tried.
    handed_on (λ (u : Unit {0}). is_known s.named b ≡ true) (λ (u : Unit {0}). IsPassed b s c.args.tried c.args.held) (IsUnknownName b s.named)
    (StopsOn b s (λ (f : Fault). (c.args.tried.refused ≡ None) × (c.args.held ≡ Some f))) (λ f u. unknown u) c.in_err-know.field-0.0 c.from_residual.result
    (name_told b s (given_text c.args.named) c.args.tried.met (Err c.in_err-know.field-0.0) named tried.met c.in_err-know.ensures) c.from_residual.ensures.1

pub returns-in_err-stop_at : goal.returns-in_err-stop_at
returns-in_err-stop_at c = λ b s named tried.
    let known = name_told b s (given_text c.args.named) c.args.tried.met (Ok c.in_ok-know.field-0) named tried.met c.in_ok-know.ensures in
    let First : Fault → Type 0 = StopsOn b s (λ (f : Fault). (c.args.tried.refused ≡ None) × (c.args.held ≡ Some f)) in
    let Passed : Unit {0} → Type 0 = λ u. IsPassed b s c.args.tried c.args.held in
    handed_on Passed Passed First First (λ f h. h) c.in_err-stop_at.field-0.0 c.from_residual-in_err-stop_at.result
    (stop_answers Passed First c.in_err-stop_at.field-0.0 (refusal_first b s c.args.tried c.args.held tried known c.in_err-stop_at.field-0.0 c.in_err-stop_at.ensures))
    c.from_residual-in_err-stop_at.ensures.1

pub returns : goal.returns
returns c = λ b s named tried.
    let known = name_told b s (given_text c.args.named) c.args.tried.met (Ok c.in_ok-know.field-0) named tried.met c.in_ok-know.ensures in
    held_last b s c.args.tried c.args.held tried known c.stop_at-2.result
    (accepted_behind b s c.args.tried c.args.held tried known c.in_ok-stop_at.field-0 c.in_ok-stop_at.ensures) c.stop_at-2.ensures
