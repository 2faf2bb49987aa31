-- An operator whose operands are no literals stays as it is.
use Rattle.std.proofs.Common.{◌≡◌, ◌&&◌, not, if◌then◌else◌, Bool, true, false, Option, Some, None, List, refl, ap}
use Rattle.term_model.specs.Declarations.{Declarations}
use Rattle.term_model.specs.declared.terms.LogicOp.{LogicOp}
use Rattle.term_model.specs.declared.values.Kind.{Kind}
use Rattle.term_model.specs.Terms.{Expression, Lit, Yes, Var, Obs, Neg, Num, Cmp, Not, Logic, Cond, Widen, Round, Div, Acc}
use Rattle.term_model.specs.declared.values.Kind.TheVariants.{Number}
use Rattle.term_model.specs.Redexes.{is_literal, has_literal_operands}
use Rattle.expr_eval.specs.declared.operations.Typed.{Typed}
use Rattle.expr_eval.specs.declared.operations.Operands.{Operands}
use Rattle.expr_eval.specs.Operations.{verdict, truth_in, at_kind, negated, combined, compared, rounded, quotient}
use Rattle.simplify.specs.Turning.{choice, resolved, rule}
use Rattle.simplify.specs.Folding.{both, folded, from_one, from_two, literal_in}

no_literal : (e : Expression) → is_literal e ≡ false → literal_in e ≡ None
no_literal (Lit m s) h = absurd (cc)
no_literal (Yes b) h = absurd (cc)
no_literal (Var back) h = refl
no_literal (Obs l t) h = refl
no_literal (Neg e) h = refl
no_literal (Num op a b) h = refl
no_literal (Cmp op a b) h = refl
no_literal (Not e) h = refl
no_literal (Logic op a b) h = refl
no_literal (Cond t a b) h = refl
no_literal (Widen s e) h = refl
no_literal (Round mode s e) h = refl
no_literal (Div mode s a b) h = refl
no_literal (Acc body n first) h = refl

no_right : (o : Option Typed) → both o None ≡ None
no_right (Some v) = refl
no_right None = refl

not_both : (a b : Expression) → (is_literal a && is_literal b) ≡ false → both (literal_in a) (literal_in b) ≡ None
not_both a b h = at (is_literal a) (is_literal b) refl refl h
  where
    at : (p q : Bool) → is_literal a ≡ p → is_literal b ≡ q → (p && q) ≡ false → both (literal_in a) (literal_in b) ≡ None
    at true true i j k = absurd (cc)
    at true false i j k = rw (no_literal b j) (no_right (literal_in a))
    at false q i j k = ap (λ (o : Option Typed). both o (literal_in b)) (no_literal a i)

pub nothing_folds : (e : Expression) → has_literal_operands e ≡ false → folded e ≡ e
nothing_folds (Lit m s) h = refl
nothing_folds (Yes b) h = refl
nothing_folds (Var back) h = refl
nothing_folds (Obs l t) h = refl
nothing_folds (Neg e) h = ap (λ (o : Option Typed). from_one o negated (Neg e)) (no_literal e h)
nothing_folds (Num op a b) h = ap (λ (o : Option Operands). from_two o (combined op) (Num op a b)) (not_both a b h)
nothing_folds (Cmp op a b) h = ap (λ (o : Option Operands). from_two o (compared op) (Cmp op a b)) (not_both a b h)
nothing_folds (Not e) h = ap (λ (o : Option Typed). from_one o (λ v. verdict (not (truth_in v))) (Not e)) (no_literal e h)
nothing_folds (Logic op a b) h = refl
nothing_folds (Cond t a b) h = refl
nothing_folds (Widen s e) h = ap (λ (o : Option Typed). from_one o (at_kind (Number s)) (Widen s e)) (no_literal e h)
nothing_folds (Round mode s e) h = ap (λ (o : Option Typed). from_one o (rounded mode s) (Round mode s e)) (no_literal e h)
nothing_folds (Div mode s a b) h = ap (λ (o : Option Operands). from_two o (quotient mode s) (Div mode s a b)) (not_both a b h)
nothing_folds (Acc body n first) h = refl

pub logic_stays : (d : Declarations) (ks : List Kind) (op : LogicOp) (a b : Expression) → is_literal a ≡ false → rule d ks (Logic op a b) ≡ Logic op a b
logic_stays d ks op a b h = ap (λ (x : Bool). if x then resolved d ks (Logic op a b) else Logic op a b) h

pub choice_stays : (d : Declarations) (ks : List Kind) (t a b : Expression) → is_literal t ≡ false → rule d ks (Cond t a b) ≡ Cond t a b
choice_stays d ks t a b h = ap (λ (x : Bool). if x then choice d ks (Cond t a b) else Cond t a b) h
