use Rattle.std.proofs.Common.{inl, inr, true, ◌≡◌}
use Rattle.term_model.specs.Declarations.{declarations}
use Rattle.used_contracts.specs.ChoosingParts.{HasName, IsWalkedThrough, Nothing, StopsByName, StopsIn, selection, so_far, unknown}
use Rattle.used_contracts.specs.Portfolios.{IsBadText, IsUnknownName}
use Rattle.used_contracts.specs.UsedContracts.{is_known}
use Rattle.command_courses.proofs.StopFacts.{handed_on}
use Rattle.used_contracts.proofs.choosing.try_known.Goals as goal

pub returns-in_err-tried : goal.returns-in_err-tried
returns-in_err-tried c = λ text begun.
    let d = declarations c.args.choice.now.decls.now in
    let s = selection c.args.choice.now in
    handed_on (IsWalkedThrough text d s Nothing) (HasName text d s) (IsBadText text) (StopsIn text d (λ b. StopsByName b s (λ _. ⊥))) (λ f h. inl h)
    c.in_err-tried.field-0.0 c.from_residual.result (c.in_err-tried.ensures text begun) c.from_residual.ensures.1

pub returns-in_err-know : goal.returns-in_err-know
returns-in_err-know c = λ text begun.
    let d = declarations c.args.choice.now.decls.now in
    let s = selection c.args.choice.now in
    let h = c.in_ok-tried.ensures text begun in
    let b = so_far d h.entries in
    handed_on (λ (u : Unit {0}). is_known s.named b ≡ true) (HasName text d s) (IsUnknownName b s.named) (StopsIn text d (λ x. StopsByName x s (λ _. ⊥)))
    (λ f u. inr (h.entries, h.is_text, unknown u))
    c.in_err-know.field-0.0 c.from_residual-in_err-know.result (c.in_err-know.ensures b h.trial.met) c.from_residual-in_err-know.ensures.1

pub returns : goal.returns
returns c = λ text begun.
    let h = c.in_ok-tried.ensures text begun in
    record { walked = h; known = c.in_ok-know.ensures (so_far (declarations c.args.choice.now.decls.now) h.entries) h.trial.met }
