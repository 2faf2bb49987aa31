-- Value expressions whatever their dates: kinds, scales and intervals see no date.
use Rattle.std.proofs.Common.{◌≡◌, ℕ, ℤ, neg_ℤ, ◌-◌, List, ◌∷◌, Option, Some, refl, ap, ap₂, ◌∙◌}
use Rattle.decimal.specs.Rounding.{raised, at_scale, divided}
use Rattle.term_model.specs.Declarations.{Declarations}
use Rattle.term_model.specs.declared.values.Kind.{Kind}
use Rattle.term_model.specs.declared.values.Kind.TheVariants.{Truth as TruthKind, Number}
use Rattle.term_model.specs.Kinds.{kind_of, scale_of, scale_or_zero, scale_of_kind, on_number, on_numbers, on_truth, joined, scale_of_op}
use Rattle.term_model.specs.Values.{kind_or}
use Rattle.term_model.specs.Bounds.{Interval, Range, range_kinds, interval_of, lifted, swapped, of_op, aligned, hull, corners, stepped}
use Rattle.payoff_terms.specs.TemplateDates.{Date}
use Rattle.payoff_terms.specs.Dating.{dated_by}
use Rattle.payoff_terms.specs.Code.{ValueExpression, Lit, Yes, Var, Model, Neg, Num, Cmp, Not, Logic, Cond, Widen, Round, Div, Acc}
use Rattle.payoff_terms.proofs.DatingFacts.{same_acc}

pub kind_any : (d : Declarations) (day more : Date → ℤ) (e : ValueExpression) (ks : List Kind) → kind_of d (dated_by day e) ks ≡ kind_of d (dated_by more e) ks
kind_any d day more (Lit m s) ks = refl
kind_any d day more (Yes b) ks = refl
kind_any d day more (Var back) ks = refl
kind_any d day more (Model l x) ks = refl
kind_any d day more (Neg e) ks = ap (on_number (λ s. Some (Number s))) (kind_any d day more e ks)
kind_any d day more (Num op a b) ks = ap₂ (on_numbers (λ s t. Some (Number (scale_of_op op s t)))) (kind_any d day more a ks) (kind_any d day more b ks)
kind_any d day more (Cmp op a b) ks = ap₂ (on_numbers (λ s t. Some TruthKind)) (kind_any d day more a ks) (kind_any d day more b ks)
kind_any d day more (Not e) ks = ap (λ (o : Option Kind). on_truth o (Some TruthKind)) (kind_any d day more e ks)
kind_any d day more (Logic op a b) ks = ap₂ (λ (o u : Option Kind). on_truth o (on_truth u (Some TruthKind))) (kind_any d day more a ks) (kind_any d day more b ks)
kind_any d day more (Cond t a b) ks = ap₂ on_truth (kind_any d day more t ks) (ap₂ joined (kind_any d day more a ks) (kind_any d day more b ks))
kind_any d day more (Widen s e) ks = ap (on_number (λ _. Some (Number s))) (kind_any d day more e ks)
kind_any d day more (Round mode s e) ks = ap (on_number (λ _. Some (Number s))) (kind_any d day more e ks)
kind_any d day more (Div mode s a b) ks = ap₂ (on_numbers (λ _ _. Some (Number s))) (kind_any d day more a ks) (kind_any d day more b ks)
kind_any d day more (Acc body n first) ks =
    same_acc (kind_of d (dated_by day first) ks) (kind_of d (dated_by more first) ks) (λ j. kind_of d (dated_by day body) (j ∷ ks)) (λ j. kind_of d (dated_by more body) (j ∷ ks)) (kind_any d day more first ks) (λ j. kind_any d day more body (j ∷ ks))

pub scale_any : (d : Declarations) (day more : Date → ℤ) (e : ValueExpression) (ks : List Kind) → scale_of d (dated_by day e) ks ≡ scale_of d (dated_by more e) ks
scale_any d day more e ks = ap scale_or_zero (kind_any d day more e ks)

pub two_intervals : {A : Type 0} (F : ℕ → Interval → ℕ → Interval → A) (i i' j j' : ℕ) (v v' w w' : Interval) → i ≡ i' → v ≡ v' → j ≡ j' → w ≡ w' → F i v j w ≡ F i' v' j' w'
two_intervals F i i' j j' v v' w w' a b c e = ap₂ (λ (x : ℕ) (y : Interval). F x y j w) a b ∙ ap₂ (λ (x : ℕ) (y : Interval). F i' v' x y) c e

pub interval_any : (d : Declarations) (day more : Date → ℤ) (e : ValueExpression) (g : List Range) → interval_of d (dated_by day e) g ≡ interval_of d (dated_by more e) g
interval_any d day more (Lit m s) g = refl
interval_any d day more (Yes b) g = refl
interval_any d day more (Var back) g = refl
interval_any d day more (Model l x) g = refl
interval_any d day more (Neg e) g = ap (λ (i : Interval). lifted neg_ℤ (swapped i)) (interval_any d day more e g)
interval_any d day more (Num op a b) g =
    two_intervals (of_op op) _ _ _ _ _ _ _ _ (scale_any d day more a (range_kinds g)) (interval_any d day more a g) (scale_any d day more b (range_kinds g)) (interval_any d day more b g)
interval_any d day more (Cmp op a b) g = refl
interval_any d day more (Not e) g = refl
interval_any d day more (Logic op a b) g = refl
interval_any d day more (Cond t a b) g =
    two_intervals (λ i v j w. hull (aligned i j v) (aligned j i w)) _ _ _ _ _ _ _ _ (scale_any d day more a (range_kinds g)) (interval_any d day more a g) (scale_any d day more b (range_kinds g)) (interval_any d day more b g)
interval_any d day more (Widen s e) g =
    ap₂ (λ (i : ℕ) (v : Interval). lifted (λ m. raised m (s - i)) v) (scale_any d day more e (range_kinds g)) (interval_any d day more e g)
interval_any d day more (Round mode s e) g =
    ap₂ (λ (i : ℕ) (v : Interval). lifted (λ m. at_scale mode m i s) v) (scale_any d day more e (range_kinds g)) (interval_any d day more e g)
interval_any d day more (Div mode s a b) g =
    two_intervals (λ i v j w. corners (λ y z. divided mode y i z j s) v w) _ _ _ _ _ _ _ _ (scale_any d day more a (range_kinds g)) (interval_any d day more a g) (scale_any d day more b (range_kinds g)) (interval_any d day more b g)
interval_any d day more (Acc body n first) g =
    let ks = range_kinds g in
    let run : Option Kind → Interval = λ o. stepped n (λ i. lifted (λ m. raised m (scale_of_kind (kind_or o) - scale_of d (dated_by day body) (kind_or o ∷ ks))) (interval_of d (dated_by day body) (record { interval = i; kind = kind_or o } ∷ g))) (interval_of d (dated_by day first) g) in
    let k = kind_or (kind_of d (dated_by more first) ks) in
    ap run (kind_any d day more first ks)
    ∙ ap₂ (λ (step : Interval → Interval) (start : Interval). stepped n step start)
    (λ j i. ap₂ (λ (s : ℕ) (v : Interval). lifted (λ m. raised m (scale_of_kind k - s)) v) (scale_any d day more body (k ∷ ks)) (interval_any d day more body (record { interval = i; kind = k } ∷ g)) j)
    (interval_any d day more first g)
