-- Expressions whose numbers have one scale on all the way, so that none is widened.
use Rattle.std.specs.Prelude.{ℕ, ◌==◌, ◌&&◌, Bool, true, false, List, ◌∷◌, slice_get}
use Rattle.term_model.specs.Declarations.{Declarations}
use Rattle.term_model.specs.declared.terms.NumOp.{NumOp}
use Rattle.term_model.specs.declared.terms.NumOp.TheVariants.{Times}
use Rattle.term_model.specs.declared.values.Kind.{Kind}
use Rattle.term_model.specs.declared.values.Kind.TheVariants.{Truth as TruthKind, Number}
use Rattle.term_model.specs.declared.values.Value.{Value}
use Rattle.term_model.specs.declared.values.Value.TheVariants.{Num as Amount, Truth}
use Rattle.term_model.specs.Terms.{Expression, Lit, Var, Obs, Num, Cond, Widen, Round, Div}
use Rattle.term_model.specs.Values.{kind_or}
use Rattle.expr_eval.specs.declared.scratch.Binding.{Binding}
use Rattle.expr_eval.specs.declared.operations.Typed.{Typed}
use Rattle.expr_eval.specs.Rooms.{kinds_of}
use Rattle.expr_eval.specs.Operations.{scale_in}
use Rattle.expr_eval.specs.Runs.{kind_observed}

abbrev pub has_scale : Kind → ℕ → Bool
has_scale TruthKind s = false
has_scale (Number i) s = i == s

-- an operator whose value has the scale of its operands, where both have one
abbrev pub keeps_scale : NumOp → Bool
keeps_scale Times = false
keeps_scale _ = true

-- the values of an expression, of its operands and of its branches are numbers of one scale
abbrev pub is_level : Declarations → Expression → List Kind → ℕ → Bool
is_level d (Lit m i) ks s = i == s
is_level d (Var n) ks s = has_scale (kind_or (slice_get ks n)) s
is_level d (Obs l t) ks s = has_scale (kind_observed d l) s
is_level d (Num op a b) ks s = keeps_scale op && (is_level d a ks s && is_level d b ks s)
is_level d (Cond t a b) ks s = is_level d a ks s && is_level d b ks s
is_level d (Widen i e) ks s = i == s
is_level d (Round mode i e) ks s = i == s
is_level d (Div mode i a b) ks s = i == s
is_level d _ ks s = false

-- by its form alone, each value of an expression is a number, where that of the innermost name is one
abbrev pub is_numeric : Expression → Bool
is_numeric (Lit m i) = true
is_numeric (Var n) = n == 0
is_numeric (Num op a b) = true
is_numeric (Cond t a b) = is_numeric a && is_numeric b
is_numeric (Round mode i e) = true
is_numeric (Div mode i a b) = true
is_numeric _ = false

abbrev pub is_amount : Value → Bool
is_amount (Amount m) = true
is_amount (Truth b) = false

-- an accumulator with this body keeps the scale of the number that it has
abbrev pub stays_level : Declarations → Expression → List Binding → Typed → Bool
stays_level d body g v =
    is_amount v.value && (has_scale v.kind (scale_in v) && (is_numeric body && is_level d body (v.kind ∷ kinds_of g) (scale_in v)))
