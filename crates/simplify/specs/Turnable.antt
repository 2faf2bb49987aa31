-- What a turn of an expression asks, by structure: at each operator on literals that its numbers fit, at each decision
-- that it is one by a truth value, and at each binder that its kind is the one that is found on the way.
use Rattle.std.specs.Prelude.{ℕ, ◌≡◌, ◌≢◌, ◌≤◌, max, Bool, if◌then◌else◌, Option, Some, None, List, ◌∷◌}
use Rattle.term_model.specs.declared.terms.LogicOp.{LogicOp}
use Rattle.term_model.specs.Declarations.{Declarations}
use Rattle.term_model.specs.declared.values.Kind.{Kind}
use Rattle.term_model.specs.Terms.{Expression, Yes, Neg, Num, Cmp, Not, Logic, Cond, Widen, Round, Div, Acc}
use Rattle.term_model.specs.Kinds.{kind_of, scale_of_op}
use Rattle.term_model.specs.Values.{kind_or}
use Rattle.term_model.specs.Reads.{decides}
use Rattle.term_model.specs.Scales.{greatest_scale}
use Rattle.interval_check.specs.RangeTrials.{kind_found}
use Rattle.rewriting.specs.Replacing.{branch_at}
use Rattle.simplify.specs.Turning.{turned, rule}
use Rattle.simplify.specs.Folding.{folded, CanFold}
use Rattle.expr_eval.specs.Comparing.{scale_found}

-- the rule at a node is that an operator on literals becomes the literal of its value, and this fits
pub record FoldsTo (d : Declarations) (ks : List Kind) (x : Expression) : Type 0 where
  pub fits : CanFold x
  pub same : rule d ks x ≡ folded x

-- the truth value that an expression is
abbrev pub truth_literal : Expression → Option Bool
truth_literal (Yes b) = Some b
truth_literal _ = None

-- what `&` and `|` come to, where the left side is a truth value
abbrev pub of_logic : LogicOp → Option Bool → Expression → Expression → Expression
of_logic op None b other = other
of_logic op (Some v) b other = if decides op v then Yes v else b

-- what a choice comes to, where the test is one; each branch has the scale of the whole
abbrev pub of_choice : Option Bool → ℕ → ℕ → Expression → Expression → Expression → Expression
of_choice None i j a b other = other
of_choice (Some v) i j a b other = if v then branch_at i (max i j) a else branch_at j (max i j) b

abbrev pub DecidesLogic : Declarations → List Kind → LogicOp → Expression → Expression → Type 0
DecidesLogic d ks op x y = rule d ks (Logic op x y) ≡ of_logic op (truth_literal x) y (Logic op x y)

abbrev pub DecidesChoice : Declarations → List Kind → ℕ → ℕ → Expression → Expression → Expression → Type 0
DecidesChoice d ks i j x y z = rule d ks (Cond x y z) ≡ of_choice (truth_literal x) i j y z (Cond x y z)

abbrev pub CanTurn : Declarations → Expression → List Kind → Type 0
CanTurn d (Neg e) ks = CanTurn d e ks × FoldsTo d ks (Neg (turned d ks e))
CanTurn d (Num op a b) ks =
    CanTurn d a ks × CanTurn d b ks × FoldsTo d ks (Num op (turned d ks a) (turned d ks b))
    × (scale_of_op op (scale_found d a ks) (scale_found d b ks) ≤ greatest_scale)
CanTurn d (Cmp op a b) ks = CanTurn d a ks × CanTurn d b ks × FoldsTo d ks (Cmp op (turned d ks a) (turned d ks b))
CanTurn d (Not e) ks = CanTurn d e ks × FoldsTo d ks (Not (turned d ks e))
CanTurn d (Logic op a b) ks = CanTurn d a ks × CanTurn d b ks × DecidesLogic d ks op (turned d ks a) (turned d ks b)
CanTurn d (Cond t a b) ks =
    CanTurn d t ks × CanTurn d a ks × CanTurn d b ks
    × DecidesChoice d ks (scale_found d a ks) (scale_found d b ks) (turned d ks t) (turned d ks a) (turned d ks b)
CanTurn d (Widen s e) ks = CanTurn d e ks × FoldsTo d ks (Widen s (turned d ks e))
CanTurn d (Round mode s e) ks = CanTurn d e ks × FoldsTo d ks (Round mode s (turned d ks e))
CanTurn d (Div mode s a b) ks = CanTurn d a ks × CanTurn d b ks × FoldsTo d ks (Div mode s (turned d ks a) (turned d ks b))
CanTurn d (Acc body n first) ks =
    CanTurn d first ks × (kind_or (kind_of d first ks) ≡ kind_found d first ks)
    × (n ≢ 0 → CanTurn d body (kind_found d first ks ∷ ks))
CanTurn d _ ks = Unit {0}
