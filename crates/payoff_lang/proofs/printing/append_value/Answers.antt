use Rattle.std.proofs.Common.{◌≡◌, [], sym, subst}
use Rattle.term_model.specs.Declarations.{declarations}
use Rattle.term_model.specs.Terms.{Expression, expression}
use Rattle.contract_grammar.specs.Writable.{IsWritable}
use Rattle.payoff_terms.specs.Code.{value_expression}
use Rattle.payoff_lang.specs.CodeTexts.{declared_for_code}
use Rattle.payoff_lang.specs.Numbered.{dates_lent, numbered, with_dates}
use Rattle.payoff_lang.proofs.NumberedFacts.{height_numbered, writable_numbered, written_as}
use Rattle.payoff_lang.proofs.printing.append_value.Goals as goal

pub append_expr-requires-clause-writable : goal.append_expr-requires-clause-writable
append_expr-requires-clause-writable c =
    let v = value_expression c.args.v.now in
    let tree : expression c.in_ok-e.e ≡ numbered [] v = rw c.new-dates.ensures.items at c.in_ok-e.ensures.expression in
    subst (λ (e : Expression). IsWritable c.args.binders e) (sym tree) (writable_numbered c.args.binders [] v c.requires.writable)

pub append_expr-requires-clause-low : goal.append_expr-requires-clause-low
append_expr-requires-clause-low c =
    let v = value_expression c.args.v.now in
    let tree : expression c.in_ok-e.e ≡ numbered [] v = rw c.new-dates.ensures.items at c.in_ok-e.ensures.expression in
    rw (tree, height_numbered [] v) c.requires.low

pub returns : goal.returns
returns c =
    let v = value_expression c.args.v.now in
    let s = declared_for_code (declarations c.args.decls.now) in
    let tree : expression c.in_ok-e.e ≡ numbered [] v = rw c.new-dates.ensures.items at c.in_ok-e.ensures.expression in
    let dates : dates_lent c.deref.result.now ≡ with_dates [] v = rw c.deref.ensures.value (rw c.new-dates.ensures.items at c.in_ok-e.ensures.dates) in
    let text = written_as s c.args.binders v (expression c.in_ok-e.e) (dates_lent c.deref.result.now) tree dates in
    rw text at c.append_expr.ensures
