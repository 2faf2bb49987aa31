-- The value of an expression on a day: a truth value, or a whole number in units of ten to the minus its scale (the
-- semantics of expressions of Bahr, Berthold and Elsman, ICFP 2015, in exact decimals). Operands are widened to the
-- scale that they share. An accumulator starts some days ago, and each day since its body makes the next value.
use Rattle.std.specs.Prelude.{ℕ, zero, suc, ℤ, pos, ◌+ℤ◌, ◌-ℤ◌, ◌*ℤ◌, neg_ℤ, int_lt, ◌-◌, max, ◌&&◌, ◌||◌, not, Bool, false, List, [], ◌∷◌, Option, Some, None, if◌then◌else◌, slice_get}
use Rattle.std.specs.Int.{int_min, int_max}
use Rattle.std.specs.Ordering.{int_eq}
use Rattle.decimal.specs.Rounding.{raised, at_scale, divided}
use Rattle.term_model.specs.Declarations.{Declarations}
use Rattle.term_model.specs.declared.terms.NumOp.{NumOp}
use Rattle.term_model.specs.declared.terms.NumOp.TheVariants.{Plus, Minus, Times, Min, Max}
use Rattle.term_model.specs.declared.terms.CmpOp.{CmpOp}
use Rattle.term_model.specs.declared.terms.CmpOp.TheVariants.{Less, LessEq, Greater, GreaterEq, Equal, Unequal}
use Rattle.term_model.specs.declared.terms.LogicOp.{LogicOp}
use Rattle.term_model.specs.declared.terms.LogicOp.TheVariants.{And, Or}
use Rattle.term_model.specs.declared.values.Kind.{Kind}
use Rattle.term_model.specs.declared.values.Kind.TheVariants.{Truth as TruthKind}
use Rattle.term_model.specs.declared.values.Value.{Value}
use Rattle.term_model.specs.declared.values.Value.TheVariants.{Num as Amount, Truth}
use Rattle.term_model.specs.Terms.{Expression, Lit, Yes, Var, Obs, Neg, Num, Cmp, Not, Logic, Cond, Widen, Round, Div, Acc}
use Rattle.term_model.specs.Environments.{Environment, observed}
use Rattle.term_model.specs.Kinds.{kind_of, scale_of, scale_of_kind}

-- what a name is bound to
pub record Entry : Type 0 where
  pub value : Value
  pub kind : Kind

abbrev pub kinds : List Entry → List Kind
kinds [] = []
kinds (e ∷ es) = e.kind ∷ kinds es

abbrev pub num : Value → ℤ
num (Amount m) = m
num (Truth b) = pos 0

abbrev pub truth : Value → Bool
truth (Amount m) = false
truth (Truth b) = b

abbrev pub value_of_entry : Option Entry → Value
value_of_entry None = Truth false
value_of_entry (Some e) = e.value

-- an operator on two numbers of one scale, but for a product
abbrev pub num_op : NumOp → ℤ → ℤ → ℤ
num_op Plus x y = x +ℤ y
num_op Minus x y = x -ℤ y
num_op Times x y = x *ℤ y
num_op Min x y = int_min x y
num_op Max x y = int_max x y

abbrev pub cmp_op : CmpOp → ℤ → ℤ → Bool
cmp_op Less x y = int_lt x y
cmp_op LessEq x y = not (int_lt y x)
cmp_op Greater x y = int_lt y x
cmp_op GreaterEq x y = not (int_lt x y)
cmp_op Equal x y = int_eq x y
cmp_op Unequal x y = not (int_eq x y)

abbrev pub logic_op : LogicOp → Bool → Bool → Bool
logic_op And a b = a && b
logic_op Or a b = a || b

-- x of scale i and y of scale j, under an operator
abbrev pub of_num : NumOp → ℕ → ℤ → ℕ → ℤ → ℤ
of_num Times i x j y = x *ℤ y
of_num op i x j y = num_op op (raised x (max i j - i)) (raised y (max i j - j))

abbrev pub of_cmp : CmpOp → ℕ → ℤ → ℕ → ℤ → Bool
of_cmp op i x j y = cmp_op op (raised x (max i j - i)) (raised y (max i j - j))

-- a value of scale i at scale j
abbrev pub widened : ℕ → ℕ → Value → Value
widened i j (Amount m) = Amount (raised m (j - i))
widened i j (Truth b) = Truth b

-- the step of each day, from the first to the last
abbrev pub days_run : ℕ → (ℕ → Value → Value) → Value → Value
days_run zero step v = v
days_run (suc n) step v = step (suc n) (days_run n step v)

abbrev pub kind_or : Option Kind → Kind
kind_or None = TruthKind
kind_or (Some k) = k

-- the value of e, of an entry for each name, in an environment, on a day
abbrev pub value_of : Declarations → Expression → List Entry → Environment → ℤ → Value
value_of d (Lit m s) g env f = Amount m
value_of d (Yes b) g env f = Truth b
value_of d (Var back) g env f = value_of_entry (slice_get g back)
value_of d (Obs l t) g env f = observed d env l (f +ℤ t)
value_of d (Neg e) g env f = Amount (neg_ℤ (num (value_of d e g env f)))
value_of d (Num op a b) g env f =
    Amount (of_num op (scale_of d a (kinds g)) (num (value_of d a g env f)) (scale_of d b (kinds g)) (num (value_of d b g env f)))
value_of d (Cmp op a b) g env f =
    Truth (of_cmp op (scale_of d a (kinds g)) (num (value_of d a g env f)) (scale_of d b (kinds g)) (num (value_of d b g env f)))
value_of d (Not e) g env f = Truth (not (truth (value_of d e g env f)))
value_of d (Logic op a b) g env f = Truth (logic_op op (truth (value_of d a g env f)) (truth (value_of d b g env f)))
value_of d (Cond t a b) g env f =
    let i = scale_of d a (kinds g) in
    let j = scale_of d b (kinds g) in
    if truth (value_of d t g env f) then widened i (max i j) (value_of d a g env f) else widened j (max i j) (value_of d b g env f)
value_of d (Widen s e) g env f = widened (scale_of d e (kinds g)) s (value_of d e g env f)
value_of d (Round mode s e) g env f = Amount (at_scale mode (num (value_of d e g env f)) (scale_of d e (kinds g)) s)
value_of d (Div mode s a b) g env f =
    Amount (divided mode (num (value_of d a g env f)) (scale_of d a (kinds g)) (num (value_of d b g env f)) (scale_of d b (kinds g)) s)
value_of d (Acc body n first) g env f =
    let k = kind_or (kind_of d first (kinds g)) in
    let from = f -ℤ pos n in
    let next : ℕ → Value → Value = λ i v. value_of d body (record { value = v; kind = k } ∷ g) env (from +ℤ pos i) in
    days_run n (λ i v. widened (scale_of d body (k ∷ kinds g)) (scale_of_kind k) (next i v)) (value_of d first g env from)

-- what a name that is bound to an expression has
abbrev pub entry_of : Declarations → Expression → List Entry → Environment → ℤ → Entry
entry_of d e g env f = record { value = value_of d e g env f; kind = kind_or (kind_of d e (kinds g)) }

-- what the name of an accumulator has in its body, i days after the day of its start, where k is its kind
abbrev pub entry_after : Declarations → Expression → Expression → Kind → List Entry → Environment → ℤ → ℕ → Entry
entry_after d body first k g env from i =
    let next : ℕ → Value → Value = λ i v. value_of d body (record { value = v; kind = k } ∷ g) env (from +ℤ pos i) in
    let step : ℕ → Value → Value = λ i v. widened (scale_of d body (k ∷ kinds g)) (scale_of_kind k) (next i v) in
    record { value = days_run i step (value_of d first g env from); kind = k }

-- the least i up to d that passes
abbrev pub first_of : ℕ → (ℕ → Bool) → Option ℕ
first_of zero p = if p zero then Some zero else None
first_of (suc n) p = elim (first_of n p) [ Some i ↦ Some i | None ↦ if p (suc n) then Some (suc n) else None ]

-- the first day, counted from f, on which e is true
abbrev pub first_true : Declarations → Expression → List Entry → Environment → ℤ → ℕ → Option ℕ
first_true d e g env f n = first_of n (λ i. truth (value_of d e g env (f +ℤ pos i)))
