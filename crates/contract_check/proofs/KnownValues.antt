-- The value of an expression on a day on which it is known is the same in two environments that agree up to that day.
use Rattle.std.proofs.Common.{◌≡◌, ℕ, zero, suc, ℤ, pos, ◌+ℤ◌, ◌-ℤ◌, neg_ℤ, ◌≤◌, ◌≤ℤ◌, max, not, if◌then◌else◌, List, ◌∷◌, refl, ap, ap₂, subst, ◌∙◌, arith}
use Rattle.std.proofs.lemmas.Int.{ints}
use Rattle.decimal.specs.Rounding.{at_scale, divided}
use Rattle.term_model.specs.Declarations.{Declarations}
use Rattle.term_model.specs.declared.values.Kind.{Kind}
use Rattle.term_model.specs.declared.values.Value.{Value}
use Rattle.term_model.specs.declared.values.Value.TheVariants.{Num as Amount, Truth}
use Rattle.term_model.specs.Terms.{Expression, Lit, Yes, Var, Obs, Neg, Num, Cmp, Not, Logic, Cond, Widen, Round, Div, Acc}
use Rattle.term_model.specs.Environments.{Environment, AgreeUpTo}
use Rattle.term_model.specs.Kinds.{kind_of, scale_of, scale_of_kind}
use Rattle.term_model.specs.Values.{Entry, kinds, num, truth, of_num, of_cmp, logic_op, widened, kind_or, value_of, days_run}
use Rattle.term_model.specs.Times.{Typed, raised_by}
use Rattle.contract_check.proofs.KnownNames.{SameNames, same_kinds, same_name, raised_names}

-- a value made from two, by the kinds of the names
by_two : (F : List Kind → Value → Value → Value) (ks js : List Kind) (v w a b : Value) → ks ≡ js → v ≡ w → a ≡ b → F ks v a ≡ F js w b
by_two F ks js v w a b e h k = ap₂ (λ (x : List Kind) (y : Value). F x y a) e h ∙ ap (F js w) k

-- a value made from three
by_three : (F : List Kind → Value → Value → Value → Value) (ks js : List Kind) (t u v w a b : Value) → ks ≡ js → t ≡ u → v ≡ w → a ≡ b → F ks t v a ≡ F js u w b
by_three F ks js t u v w a b e h k l =
    ap₂ (λ (x : List Kind) (y : Value). F x y v a) e h ∙ ap₂ (λ (y z : Value). F js u y z) k l

-- days that take equal values to equal values
days_same : (n : ℕ) (p q : ℕ → Value → Value) (v w : Value) → v ≡ w → ((i : ℕ) (x y : Value) → i ≤ n → x ≡ y → p i x ≡ q i y) → days_run n p v ≡ days_run n q w
days_same zero p q v w h step = h
days_same (suc n) p q v w h step =
    step (suc n) (days_run n p v) (days_run n q w) (omega arith) (days_same n p q v w h (λ i x y le e. step i x y (omega arith) e))

abbrev pub ValuesAreKnown : Declarations → ℤ → Environment → Environment → Expression → Type 0
ValuesAreKnown d last one other e =
    (g : List ℤ) (t : ℤ) (xs ys : List Entry) (f : ℤ) → Typed g e t → SameNames t g xs ys → (f +ℤ t) ≤ℤ last
    → value_of d e xs one f ≡ value_of d e ys other f

pub values_known : (d : Declarations) (last : ℤ) (one other : Environment) → AgreeUpTo d last one other → (e : Expression) → ValuesAreKnown d last one other e
values_known d last one other same (Lit m s) g t xs ys f p n i = refl
values_known d last one other same (Yes b) g t xs ys f p n i = refl
values_known d last one other same (Var back) g t xs ys f p n i = same_name t g xs ys back n p
values_known d last one other same (Obs l u) g t xs ys f p n i =
    let j : u ≤ℤ t = p in
    same l (f +ℤ u) (omega (arith, ints))
values_known d last one other same (Neg e) g t xs ys f p n i =
    ap (λ (x : Value). Amount (neg_ℤ (num x))) (values_known d last one other same e g t xs ys f p n i)
values_known d last one other same (Num op a b) g t xs ys f p n i =
    by_two (λ ks x y. Amount (of_num op (scale_of d a ks) (num x) (scale_of d b ks) (num y))) _ _ _ _ _ _ (same_kinds t g xs ys n) (values_known d last one other same a g t xs ys f p.0 n i) (values_known d last one other same b g t xs ys f p.1 n i)
values_known d last one other same (Cmp op a b) g t xs ys f p n i =
    by_two (λ ks x y. Truth (of_cmp op (scale_of d a ks) (num x) (scale_of d b ks) (num y))) _ _ _ _ _ _ (same_kinds t g xs ys n) (values_known d last one other same a g t xs ys f p.0 n i) (values_known d last one other same b g t xs ys f p.1 n i)
values_known d last one other same (Not e) g t xs ys f p n i =
    ap (λ (x : Value). Truth (not (truth x))) (values_known d last one other same e g t xs ys f p n i)
values_known d last one other same (Logic op a b) g t xs ys f p n i =
    ap₂ (λ (x y : Value). Truth (logic_op op (truth x) (truth y))) (values_known d last one other same a g t xs ys f p.0 n i) (values_known d last one other same b g t xs ys f p.1 n i)
values_known d last one other same (Cond c a b) g t xs ys f p n i =
    by_three (λ ks x y z. if truth x then widened (scale_of d a ks) (max (scale_of d a ks) (scale_of d b ks)) y else widened (scale_of d b ks) (max (scale_of d a ks) (scale_of d b ks)) z) _ _ _ _ _ _ _ _ (same_kinds t g xs ys n) (values_known d last one other same c g t xs ys f p.0 n i) (values_known d last one other same a g t xs ys f p.1 n i) (values_known d last one other same b g t xs ys f p.2 n i)
values_known d last one other same (Widen s e) g t xs ys f p n i =
    ap₂ (λ (ks : List Kind) (x : Value). widened (scale_of d e ks) s x) (same_kinds t g xs ys n) (values_known d last one other same e g t xs ys f p n i)
values_known d last one other same (Round mode s e) g t xs ys f p n i =
    ap₂ (λ (ks : List Kind) (x : Value). Amount (at_scale mode (num x) (scale_of d e ks) s)) (same_kinds t g xs ys n) (values_known d last one other same e g t xs ys f p n i)
values_known d last one other same (Div mode s a b) g t xs ys f p n i =
    by_two (λ ks x y. Amount (divided mode (num x) (scale_of d a ks) (num y) (scale_of d b ks) s)) _ _ _ _ _ _ (same_kinds t g xs ys n) (values_known d last one other same a g t xs ys f p.0 n i) (values_known d last one other same b g t xs ys f p.1 n i)
values_known d last one other same (Acc body m first) g t xs ys f p n i =
    let from = f -ℤ pos m in
    let kind : List Kind → Kind = λ ks. kind_or (kind_of d first ks) in
    let step : List Entry → List Kind → Environment → ℕ → Value → Value = λ es ks env j v. widened (scale_of d body (kind ks ∷ ks)) (scale_of_kind (kind ks)) (value_of d body (record { value = v; kind = kind ks } ∷ es) env (from +ℤ pos j)) in
    subst (λ (ks : List Kind). days_run m (step xs (kinds xs) one) (value_of d first xs one from) ≡ days_run m (step ys ks other) (value_of d first ys other from)) (same_kinds t g xs ys n)
    (days_same m (step xs (kinds xs) one) (step ys (kinds xs) other) (value_of d first xs one from) (value_of d first ys other from)
    (values_known d last one other same first (raised_by m g) (t +ℤ pos m) xs ys from p.1 (raised_names t m g xs ys n) (omega (arith, ints)))
    (λ j x y le e.
    ap (widened (scale_of d body (kind (kinds xs) ∷ kinds xs)) (scale_of_kind (kind (kinds xs))))
    (values_known d last one other same body (t ∷ g) t (record { value = x; kind = kind (kinds xs) } ∷ xs) (record { value = y; kind = kind (kinds xs) } ∷ ys) (from +ℤ pos j) p.0 (refl, λ k. e, n) (omega (arith, ints)))))
