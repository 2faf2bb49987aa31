use Rattle.std.proofs.Common.{rules, ◌≡◌, ap, ap₂, sym, ◌∙◌}
use Rattle.term_model.specs.declared.terms.Expr.{Expr}
use Rattle.term_model.specs.declared.terms.NumOp.{NumOp}
use Rattle.term_model.specs.declared.terms.NumOp.TheVariants.{Plus, Minus}
use Rattle.term_model.specs.Terms.{expression, Num}
use Rattle.expr_eval.specs.Evaluations.{answer_in}
use Rattle.expr_eval.specs.Watching.{IsAgainst}
use Rattle.expr_eval.proofs.MovedFacts.{left_over, minus_goes_over, plus_goes_over, right_over}
use Rattle.expr_eval.proofs.WatchFacts.{some_too}
use Rattle.expr_eval.proofs.searches.+watch_side.Goals as goal

pub returns-in_ok-bound-in-Some : goal.returns-in_ok-bound-in-Some
returns-in_ok-bound-in-Some t c =
    let side = expression c.args.side.now in
    let a = c.deref-in-Some.result.now in
    let k = c.deref.result.now in
    let at = c.in-Num-Plus-default-default in
    let op : at.op ≡ Plus = search rules in
    let form : side ≡ Num Plus (expression a) (expression k) =
    ap (λ (x : Expr). expression x) at.is ∙ ap (λ (o : NumOp). Num o (expression at.left.value) (expression at.right.value)) op
    ∙ ap₂ (λ (x y : Expr). Num Plus (expression x) (expression y)) (sym c.deref-in-Some.ensures) (sym c.deref.ensures) in
    some_too c.watch_side.result _ (λ w. IsAgainst c.args.op (answer_in c.args.decls.now side c.args.names.now) c.args.bound c.args.wanted w)
    (λ w is. right_over c.args.decls.now c.args.op Plus Minus side (expression a) (expression k) c.args.names.now c.in-Some.more c.args.bound c.in_ok-bound-in-Some.bound c.args.wanted w plus_goes_over form c.in-Some.ensures c.in_ok-bound-in-Some.ensures is)
    c.watch_side.ensures

pub returns-in_ok-bound-in-None : goal.returns-in_ok-bound-in-None
returns-in_ok-bound-in-None t c =
    let side = expression c.args.side.now in
    let a = c.deref-in-None-2.result.now in
    let k = c.deref-in-None.result.now in
    let at = c.in-Num-Plus-default-default in
    let op : at.op ≡ Plus = search rules in
    let form : side ≡ Num Plus (expression k) (expression a) =
    ap (λ (x : Expr). expression x) at.is ∙ ap (λ (o : NumOp). Num o (expression at.left.value) (expression at.right.value)) op
    ∙ ap₂ (λ (x y : Expr). Num Plus (expression x) (expression y)) (sym c.deref-in-None.ensures) (sym c.deref-in-None-2.ensures) in
    some_too c.watch_side-in-None.result _ (λ w. IsAgainst c.args.op (answer_in c.args.decls.now side c.args.names.now) c.args.bound c.args.wanted w)
    (λ w is. left_over c.args.decls.now c.args.op side (expression a) (expression k) c.args.names.now c.in_ok-more-in-None.more c.args.bound c.in_ok-bound-in-None.bound c.args.wanted w form c.in_ok-more-in-None.ensures c.in_ok-bound-in-None.ensures is)
    c.watch_side-in-None.ensures

pub returns-in_ok-bound-in-Num-Minus-default-default : goal.returns-in_ok-bound-in-Num-Minus-default-default
returns-in_ok-bound-in-Num-Minus-default-default t c =
    let side = expression c.args.side.now in
    let a = c.deref-in-Num-Minus-default-default-2.result.now in
    let k = c.deref-in-Num-Minus-default-default.result.now in
    let at = c.in-Num-Minus-default-default in
    let op : at.op ≡ Minus = search rules in
    let form : side ≡ Num Minus (expression a) (expression k) =
    ap (λ (x : Expr). expression x) at.is ∙ ap (λ (o : NumOp). Num o (expression at.left.value) (expression at.right.value)) op
    ∙ ap₂ (λ (x y : Expr). Num Minus (expression x) (expression y)) (sym c.deref-in-Num-Minus-default-default-2.ensures) (sym c.deref-in-Num-Minus-default-default.ensures) in
    some_too c.watch_side-in-Num-Minus-default-default.result _ (λ w. IsAgainst c.args.op (answer_in c.args.decls.now side c.args.names.now) c.args.bound c.args.wanted w)
    (λ w is. right_over c.args.decls.now c.args.op Minus Plus side (expression a) (expression k) c.args.names.now c.in_ok-less-in-Num-Minus-default-default.less c.args.bound c.in_ok-bound-in-Num-Minus-default-default.bound c.args.wanted w minus_goes_over form c.in_ok-less-in-Num-Minus-default-default.ensures c.in_ok-bound-in-Num-Minus-default-default.ensures is)
    c.watch_side-in-Num-Minus-default-default.ensures
