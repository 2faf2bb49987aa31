use Rattle.std.proofs.Common.{◌≡◌, ◌∙◌, ◌++◌, inl, ℕ, List, ap, refl}
use Rattle.std.specs.Prelude.{None, Some}
use Rattle.std.specs.Global.{Vec}
use Rattle.report.specs.declared.fault_lines.Fault.{Fault}
use Rattle.lifecycle_commands.specs.AdvanceParts.{HasRests, IsLeftText, IsMissingTo, declared_to}
use Rattle.used_contracts.specs.ChoosingParts.{IsPassed, IsWalkedThrough, StopsIn, StopsOn, selection, so_far}
use Rattle.used_contracts.specs.Portfolios.{IsBadText}
use Rattle.lifecycle_commands.specs.declared.advance.KeptRest.{KeptRest}
use Rattle.used_contracts.specs.declared.choosing.Tried.{Tried}
use Rattle.lifecycle_commands.proofs.AdvanceFacts.{is_left, stops_left}
use Rattle.command_courses.proofs.StopFacts.{handed_on}
use Rattle.lifecycle_commands.proofs.advance.left_text.Goals as goal

pub returns-in_err-tried : goal.returns-in_err-tried
returns-in_err-tried c = λ text begun.
    let to = c.args.to.now in
    let d = declared_to to in
    let s = selection to.choice in
    handed_on (λ (all : Tried × KeptRest). IsWalkedThrough text d s (HasRests to all.1) all.0) (λ (out : Vec ℕ). IsLeftText text to out.items)
    (IsBadText text) (StopsIn text d (λ b. StopsOn b s (IsMissingTo to b))) (λ f h. inl h)
    c.in_err-tried.field-0.0 c.from_residual.result (c.in_err-tried.ensures text begun) c.from_residual.ensures.1

pub returns-in_err-first_stop : goal.returns-in_err-first_stop
returns-in_err-first_stop c = λ text begun.
    let to = c.args.to.now in
    let d = declared_to to in
    let s = selection to.choice in
    let tried = c.in_ok-tried.tried in
    let kept = c.in_ok-tried.kept in
    let h = c.in_ok-tried.ensures text begun in
    let b = so_far d h.entries in
    handed_on (λ (u : Unit {0}). IsPassed b s tried kept.missing) (λ (out : Vec ℕ). IsLeftText text to out.items)
    (StopsOn b s (λ (f : Fault). (tried.refused ≡ None) × (kept.missing ≡ Some f))) (StopsIn text d (λ b. StopsOn b s (IsMissingTo to b))) (stops_left text to tried kept h)
    c.in_err-first_stop.field-0.0 c.from_residual-in_err-first_stop.result (c.in_err-first_stop.ensures b s refl h.trial) c.from_residual-in_err-first_stop.ensures.1

pub returns : goal.returns
returns c = λ text begun.
    let to = c.args.to.now in
    let kept = c.in_ok-tried.kept in
    let h = c.in_ok-tried.ensures text begun in
    is_left text to c.in_ok-tried.tried kept h c.extend_from_slice.new.self.items (c.in_ok-first_stop.ensures (so_far (declared_to to) h.entries) (selection to.choice) refl h.trial)
    (c.in_ok-extend_from_slice.ensures.items ∙ ap (λ (rest : List ℕ). kept.left.due.items ++ rest) c.deref.ensures.value)
