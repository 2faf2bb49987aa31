use Rattle.std.proofs.Common.{rules, ◌≡◌, ◌+ℤ◌, pos, sym, ◌∙◌, w64, FitsSigned, to_z, of_z}
use Rattle.expr_eval.proofs.LatchFacts.{kept_start, kept_until}
use Rattle.expr_eval.proofs.truths.kept_after.Goals as goal

pub returns-then-is_wanted : goal.returns-then-is_wanted
returns-then-is_wanted c =
    kept_start c.args.decls.now c.args.body.now c.args.start c.args.names.now c.args.fixings.now c.args.from c.args.days c.in_ok-kept.kept c.in-Truth.value c.in_ok-kept.ensures c.in-Truth.is (sym c.is_wanted.ensures ∙ c.if-is_wanted.true)

pub returns : goal.returns
returns c =
    let fits : FitsSigned w64 c.days_later.result = search rules in
    let first : to_z w64 (of_z w64 c.days_later.result) ≡ c.args.from +ℤ pos 1 = search rules in
    kept_until c.args.decls.now c.args.body.now c.args.start c.args.names.now c.args.fixings.now c.args.from (to_z w64 (of_z w64 c.days_later.result)) c.args.days c.in_ok-kept.kept c.in-Truth.value c.in_ok-stop.stop c.truth_at.result c.in_ok-kept.ensures c.in-Truth.is (sym c.is_wanted.ensures ∙ c.if-is_wanted.false) first c.in_ok-stop.ensures c.truth_at.ensures
