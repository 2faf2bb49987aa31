-- What an evaluation in 128 bits needs, by structure: at each node that it meets, and in an accumulator in each round,
-- the value has the node's kind and its number is at most 10^37 in size; each operand that is aligned to a greater scale
-- is so too; no divisor is 0, and the numbers under a division fit.
use Rattle.std.specs.Prelude.{ℕ, suc, ℤ, pos, ◌+ℤ◌, ◌-ℤ◌, ◌-◌, ◌<◌, ◌≤◌, ◌≢◌, max, is_some, IsTrue, unsigned_abs, List, ◌∷◌}
use Rattle.decimal.specs.Rounding.{raised, DivFits}
use Rattle.term_model.specs.Declarations.{Declarations}
use Rattle.term_model.specs.declared.terms.NumOp.{NumOp}
use Rattle.term_model.specs.declared.terms.NumOp.TheVariants.{Times}
use Rattle.term_model.specs.declared.values.Kind.{Kind}
use Rattle.term_model.specs.Terms.{Expression, Lit, Yes, Var, Obs, Neg, Num, Cmp, Not, Logic, Cond, Widen, Round, Div, Acc}
use Rattle.term_model.specs.Limits.{greatest_mantissa}
use Rattle.term_model.specs.Environments.{Environment}
use Rattle.term_model.specs.Kinds.{kind_of, scale_of, scale_of_kind}
use Rattle.term_model.specs.Values.{Entry, kinds, num, of_num, kind_or, value_of, entry_after as entry_of_days}
use Rattle.term_model.specs.LawsKinds.{IsOfKind}
use Rattle.term_model.specs.Scales.{greatest_scale}

-- a mantissa is at most 10^37 in size
abbrev pub IsSmall : ℤ → Type 0
IsSmall m = unsigned_abs m ≤ greatest_mantissa

-- two numbers of scales i and j fit at the greater of the two
pub record AlignSafely (i : ℕ) (x : ℤ) (j : ℕ) (y : ℤ) : Type 0 where
  pub left : IsSmall (raised x (max i j - i))
  pub right : IsSmall (raised y (max i j - j))

-- operands of scales i and j fit under an operator, and so does the outcome; a product aligns none
abbrev pub OperateSafely : NumOp → ℕ → ℤ → ℕ → ℤ → Type 0
OperateSafely Times i x j y = IsSmall x × IsSmall y × IsSmall (of_num Times i x j y)
OperateSafely op i x j y = AlignSafely i x j y × IsSmall (of_num op i x j y)

-- a number of scale i fits at the scale s, which is no lower
pub record WidensSafely (i s : ℕ) (x : ℤ) : Type 0 where
  pub order : i ≤ s
  pub most : s ≤ greatest_scale
  pub small : IsSmall (raised x (s - i))

-- a number of scale i can be rounded to the scale s
pub record RoundsSafely (i s : ℕ) (x : ℤ) : Type 0 where
  pub most : s ≤ greatest_scale
  pub small : i ≤ s → IsSmall (raised x (s - i))

-- a number of scale i can be divided by one of scale j, at scale s
pub record DivideSafely (i : ℕ) (x : ℤ) (j : ℕ) (y : ℤ) (s : ℕ) : Type 0 where
  pub nonzero : y ≢ pos 0
  pub most : s ≤ greatest_scale
  pub fits : DivFits x i y j s

-- the value of an expression has its kind, and its number fits, at a scale of at most 27
pub record HasSafeValue (d : Declarations) (e : Expression) (es : List Entry) (env : Environment) (f : ℤ) : Type 0 where
  pub sorted : IsTrue (is_some (kind_of d e (kinds es)))
  pub of_kind : IsOfKind (kind_or (kind_of d e (kinds es))) (value_of d e es env f)
  pub most : scale_of d e (kinds es) ≤ greatest_scale
  pub small : IsSmall (num (value_of d e es env f))

-- every scale in an expression is at most 27, among names of these kinds, and none is widened to a lower one; also in the
-- body of an accumulator of 0 days, which has a kind though it is never evaluated
abbrev pub ScalesFit : Declarations → Expression → List Kind → Type 0
ScalesFit d (Lit m s) ks = s ≤ greatest_scale
ScalesFit d (Yes b) ks = Unit {0}
ScalesFit d (Var back) ks = scale_of d (Var back) ks ≤ greatest_scale
ScalesFit d (Obs l t) ks = scale_of d (Obs l t) ks ≤ greatest_scale
ScalesFit d (Neg e) ks = ScalesFit d e ks
ScalesFit d (Num op a b) ks = ScalesFit d a ks × ScalesFit d b ks × (scale_of d (Num op a b) ks ≤ greatest_scale)
ScalesFit d (Cmp op a b) ks = ScalesFit d a ks × ScalesFit d b ks
ScalesFit d (Not e) ks = ScalesFit d e ks
ScalesFit d (Logic op a b) ks = ScalesFit d a ks × ScalesFit d b ks
ScalesFit d (Cond t a b) ks = ScalesFit d t ks × ScalesFit d a ks × ScalesFit d b ks
ScalesFit d (Widen s e) ks = ScalesFit d e ks × (scale_of d e ks ≤ s) × (scale_of d (Widen s e) ks ≤ greatest_scale)
ScalesFit d (Round mode s e) ks = ScalesFit d e ks × (scale_of d (Round mode s e) ks ≤ greatest_scale)
ScalesFit d (Div mode s a b) ks = ScalesFit d a ks × ScalesFit d b ks × (scale_of d (Div mode s a b) ks ≤ greatest_scale)
ScalesFit d (Acc body n first) ks =
    let inner = kind_or (kind_of d first ks) ∷ ks in
    ScalesFit d first ks × ScalesFit d body inner × (scale_of d body inner ≤ scale_of d first ks)

-- what the name of an accumulator of n days has in its body after i of them, on day f
abbrev pub entry_after : Declarations → Expression → ℕ → Expression → List Entry → Environment → ℤ → ℕ → Entry
entry_after d body n first es env f i = entry_of_days d body first (kind_or (kind_of d first (kinds es))) es env (f -ℤ pos n) i

-- the parts of an expression have safe values, and fit under its operator
abbrev pub HasSafeParts : Declarations → Expression → List Entry → Environment → ℤ → Type 0
HasSafeParts d (Lit m s) es env f = Unit {0}
HasSafeParts d (Yes b) es env f = Unit {0}
HasSafeParts d (Var back) es env f = Unit {0}
HasSafeParts d (Obs l t) es env f = Unit {0}
HasSafeParts d (Neg e) es env f = HasSafeValue d e es env f × HasSafeParts d e es env f
HasSafeParts d (Num op a b) es env f =
    (HasSafeValue d a es env f × HasSafeParts d a es env f)
    × (HasSafeValue d b es env f × HasSafeParts d b es env f)
    × OperateSafely op (scale_of d a (kinds es)) (num (value_of d a es env f)) (scale_of d b (kinds es)) (num (value_of d b es env f))
HasSafeParts d (Cmp op a b) es env f =
    (HasSafeValue d a es env f × HasSafeParts d a es env f)
    × (HasSafeValue d b es env f × HasSafeParts d b es env f)
    × AlignSafely (scale_of d a (kinds es)) (num (value_of d a es env f)) (scale_of d b (kinds es)) (num (value_of d b es env f))
HasSafeParts d (Not e) es env f = HasSafeValue d e es env f × HasSafeParts d e es env f
HasSafeParts d (Logic op a b) es env f =
    (HasSafeValue d a es env f × HasSafeParts d a es env f) × (HasSafeValue d b es env f × HasSafeParts d b es env f)
HasSafeParts d (Cond t a b) es env f =
    (HasSafeValue d t es env f × HasSafeParts d t es env f)
    × (HasSafeValue d a es env f × HasSafeParts d a es env f)
    × (HasSafeValue d b es env f × HasSafeParts d b es env f)
    × AlignSafely (scale_of d a (kinds es)) (num (value_of d a es env f)) (scale_of d b (kinds es)) (num (value_of d b es env f))
HasSafeParts d (Widen s e) es env f =
    (HasSafeValue d e es env f × HasSafeParts d e es env f)
    × WidensSafely (scale_of d e (kinds es)) s (num (value_of d e es env f))
HasSafeParts d (Round mode s e) es env f =
    (HasSafeValue d e es env f × HasSafeParts d e es env f)
    × RoundsSafely (scale_of d e (kinds es)) s (num (value_of d e es env f))
HasSafeParts d (Div mode s a b) es env f =
    (HasSafeValue d a es env f × HasSafeParts d a es env f)
    × (HasSafeValue d b es env f × HasSafeParts d b es env f)
    × DivideSafely (scale_of d a (kinds es)) (num (value_of d a es env f)) (scale_of d b (kinds es)) (num (value_of d b es env f)) s
HasSafeParts d (Acc body n first) es env f =
    let k = kind_or (kind_of d first (kinds es)) in
    (HasSafeValue d first es env (f -ℤ pos n) × HasSafeParts d first es env (f -ℤ pos n))
    × ((i : ℕ) → i < n →
    (HasSafeValue d body (entry_after d body n first es env f i ∷ es) env (f -ℤ pos n +ℤ pos (suc i))
    × HasSafeParts d body (entry_after d body n first es env f i ∷ es) env (f -ℤ pos n +ℤ pos (suc i)))
    × WidensSafely (scale_of d body (k ∷ kinds es)) (scale_of_kind k)
    (num (value_of d body (entry_after d body n first es env f i ∷ es) env (f -ℤ pos n +ℤ pos (suc i)))))

-- the values of an expression and of all its parts are safe, with these entries for its names, on day f
abbrev pub IsSafe : Declarations → Expression → List Entry → Environment → ℤ → Type 0
IsSafe d e es env f = HasSafeValue d e es env f × HasSafeParts d e es env f

-- so it can be evaluated
pub record CanEvaluate (d : Declarations) (e : Expression) (es : List Entry) (env : Environment) (f : ℤ) : Type 0 where
  pub scales : ScalesFit d e (kinds es)
  pub safe : IsSafe d e es env f
