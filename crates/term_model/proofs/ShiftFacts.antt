-- Shifted expressions: equal kinds, and the value of another day.
use Rattle.std.proofs.Common.{◌≡◌, ℕ, zero, suc, ℤ, pos, ◌+ℤ◌, ◌-ℤ◌, neg_ℤ, max, not, if◌then◌else◌, List, ◌∷◌, Option, Some, None, refl, ap, ap₂, subst, ◌∙◌, arith}
use Rattle.std.proofs.lemmas.Int.{ints}
use Rattle.decimal.specs.Rounding.{at_scale, divided}
use Rattle.term_model.specs.Declarations.{Declarations}
use Rattle.term_model.specs.declared.values.Kind.{Kind}
use Rattle.term_model.specs.declared.values.Kind.TheVariants.{Truth as TruthKind, Number}
use Rattle.term_model.specs.declared.values.Value.{Value}
use Rattle.term_model.specs.declared.values.Value.TheVariants.{Num as Amount, Truth}
use Rattle.term_model.specs.Terms.{Expression, Lit, Yes, Var, Obs, Neg, Num, Cmp, Not, Logic, Cond, Widen, Round, Div, Acc}
use Rattle.term_model.specs.Environments.{observed}
use Rattle.term_model.specs.Kinds.{kind_of, scale_of, scale_or_zero, scale_of_kind, on_number, on_numbers, on_truth, joined, of_acc, scale_of_op}
use Rattle.term_model.specs.Values.{Entry, kinds, num, truth, of_num, of_cmp, logic_op, widened, kind_or, value_of, days_run}
use Rattle.term_model.specs.Shifts.{shifted}
use Rattle.term_model.specs.LawsShifts.{ShiftsMoveTheDay}

pub acc_of : (o : Option Kind) (p q : Kind → Option Kind) → ((k : Kind) → p k ≡ q k) → of_acc o p ≡ of_acc o q
acc_of None p q h = refl
acc_of (Some TruthKind) p q h = ap (λ (r : Option Kind). on_truth r (Some TruthKind)) (h TruthKind)
acc_of (Some (Number s)) p q h = ap (on_number (λ _. Some (Number s))) (h (Number s))

pub same_acc : (o u : Option Kind) (p q : Kind → Option Kind) → o ≡ u → ((k : Kind) → p k ≡ q k) → of_acc o p ≡ of_acc u q
same_acc o u p q e h = subst (λ (r : Option Kind). of_acc o p ≡ of_acc r q) e (acc_of o p q h)

pub kind-shifted : (d : Declarations) (e : Expression) (k : ℤ) (ks : List Kind) → kind_of d (shifted k e) ks ≡ kind_of d e ks
kind-shifted d (Lit m s) k ks = refl
kind-shifted d (Yes b) k ks = refl
kind-shifted d (Var back) k ks = refl
kind-shifted d (Obs l t) k ks = refl
kind-shifted d (Neg e) k ks = ap (on_number (λ s. Some (Number s))) (kind-shifted d e k ks)
kind-shifted d (Num op a b) k ks = ap₂ (on_numbers (λ s t. Some (Number (scale_of_op op s t)))) (kind-shifted d a k ks) (kind-shifted d b k ks)
kind-shifted d (Cmp op a b) k ks = ap₂ (on_numbers (λ s t. Some TruthKind)) (kind-shifted d a k ks) (kind-shifted d b k ks)
kind-shifted d (Not e) k ks = ap (λ (o : Option Kind). on_truth o (Some TruthKind)) (kind-shifted d e k ks)
kind-shifted d (Logic op a b) k ks = ap₂ (λ (o u : Option Kind). on_truth o (on_truth u (Some TruthKind))) (kind-shifted d a k ks) (kind-shifted d b k ks)
kind-shifted d (Cond t a b) k ks = ap₂ on_truth (kind-shifted d t k ks) (ap₂ joined (kind-shifted d a k ks) (kind-shifted d b k ks))
kind-shifted d (Widen s e) k ks = ap (on_number (λ _. Some (Number s))) (kind-shifted d e k ks)
kind-shifted d (Round mode s e) k ks = ap (on_number (λ _. Some (Number s))) (kind-shifted d e k ks)
kind-shifted d (Div mode s a b) k ks = ap₂ (on_numbers (λ _ _. Some (Number s))) (kind-shifted d a k ks) (kind-shifted d b k ks)
kind-shifted d (Acc body n first) k ks =
    same_acc (kind_of d (shifted k first) ks) (kind_of d first ks) (λ j. kind_of d (shifted k body) (j ∷ ks)) (λ j. kind_of d body (j ∷ ks)) (kind-shifted d first k ks) (λ j. kind-shifted d body k (j ∷ ks))

scale-shifted : (d : Declarations) (e : Expression) (k : ℤ) (ks : List Kind) → scale_of d (shifted k e) ks ≡ scale_of d e ks
scale-shifted d e k ks = ap scale_or_zero (kind-shifted d e k ks)

pub same_days : (n : ℕ) (step go : ℕ → Value → Value) (v w : Value) → v ≡ w → ((i : ℕ) (x : Value) → step i x ≡ go i x) → days_run n step v ≡ days_run n go w
same_days zero step go v w e h = e
same_days (suc n) step go v w e h = ap (step (suc n)) (same_days n step go v w e h) ∙ h (suc n) (days_run n go w)

-- an operand's scale and value
pub of_two : {A : Type 0} (F : ℕ → Value → ℕ → Value → A) (i i' j j' : ℕ) (v v' w w' : Value) → i ≡ i' → v ≡ v' → j ≡ j' → w ≡ w' → F i v j w ≡ F i' v' j' w'
of_two F i i' j j' v v' w w' a b c e = ap₂ (λ (x : ℕ) (y : Value). F x y j w) a b ∙ ap₂ (λ (x : ℕ) (y : Value). F i' v' x y) c e

pub value-shifted : ShiftsMoveTheDay
value-shifted d (Lit m s) k g env f = refl
value-shifted d (Yes b) k g env f = refl
value-shifted d (Var back) k g env f = refl
value-shifted d (Obs l t) k g env f = ap (observed d env l) (omega (arith, ints))
value-shifted d (Neg e) k g env f = ap (λ (v : Value). Amount (neg_ℤ (num v))) (value-shifted d e k g env f)
value-shifted d (Num op a b) k g env f =
    of_two (λ i v j w. Amount (of_num op i (num v) j (num w))) _ _ _ _ _ _ _ _ (scale-shifted d a k (kinds g)) (value-shifted d a k g env f) (scale-shifted d b k (kinds g)) (value-shifted d b k g env f)
value-shifted d (Cmp op a b) k g env f =
    of_two (λ i v j w. Truth (of_cmp op i (num v) j (num w))) _ _ _ _ _ _ _ _ (scale-shifted d a k (kinds g)) (value-shifted d a k g env f) (scale-shifted d b k (kinds g)) (value-shifted d b k g env f)
value-shifted d (Not e) k g env f = ap (λ (v : Value). Truth (not (truth v))) (value-shifted d e k g env f)
value-shifted d (Logic op a b) k g env f =
    ap₂ (λ (v w : Value). Truth (logic_op op (truth v) (truth w))) (value-shifted d a k g env f) (value-shifted d b k g env f)
value-shifted d (Cond t a b) k g env f =
    ap (λ (v : Value). if truth v then widened (scale_of d (shifted k a) (kinds g)) (max (scale_of d (shifted k a) (kinds g)) (scale_of d (shifted k b) (kinds g))) (value_of d (shifted k a) g env f) else widened (scale_of d (shifted k b) (kinds g)) (max (scale_of d (shifted k a) (kinds g)) (scale_of d (shifted k b) (kinds g))) (value_of d (shifted k b) g env f)) (value-shifted d t k g env f)
    ∙ of_two (λ i v j w. if truth (value_of d t g env (f +ℤ k)) then widened i (max i j) v else widened j (max i j) w) _ _ _ _ _ _ _ _ (scale-shifted d a k (kinds g)) (value-shifted d a k g env f) (scale-shifted d b k (kinds g)) (value-shifted d b k g env f)
value-shifted d (Widen s e) k g env f =
    ap₂ (λ (i : ℕ) (v : Value). widened i s v) (scale-shifted d e k (kinds g)) (value-shifted d e k g env f)
value-shifted d (Round mode s e) k g env f =
    ap₂ (λ (i : ℕ) (v : Value). Amount (at_scale mode (num v) i s)) (scale-shifted d e k (kinds g)) (value-shifted d e k g env f)
value-shifted d (Div mode s a b) k g env f =
    of_two (λ i v j w. Amount (divided mode (num v) i (num w) j s)) _ _ _ _ _ _ _ _ (scale-shifted d a k (kinds g)) (value-shifted d a k g env f) (scale-shifted d b k (kinds g)) (value-shifted d b k g env f)
value-shifted d (Acc body n first) k g env f =
    let ks = kinds g in
    let from : (f -ℤ pos n) +ℤ k ≡ (f +ℤ k) -ℤ pos n = omega (arith, ints) in
    let run : Option Kind → Value = λ o. days_run n (λ i v. widened (scale_of d (shifted k body) (kind_or o ∷ ks)) (scale_of_kind (kind_or o)) (value_of d (shifted k body) (record { value = v; kind = kind_or o } ∷ g) env (f -ℤ pos n +ℤ pos i))) (value_of d (shifted k first) g env (f -ℤ pos n)) in
    ap run (kind-shifted d first k ks)
    ∙ same_days n _ _ _ _ (value-shifted d first k g env (f -ℤ pos n) ∙ ap (value_of d first g env) from) (λ i v.
    let kind = kind_or (kind_of d first ks) in
    let es : List Entry = record { value = v; kind = kind } ∷ g in
    ap₂ (λ (s : ℕ) (u : Value). widened s (scale_of_kind kind) u) (scale-shifted d body k (kind ∷ ks)) (value-shifted d body k es env (f -ℤ pos n +ℤ pos i) ∙ ap (value_of d body es env) (omega (arith, ints))))
