-- A specialised expression has the kind and the value of the expression.
use Rattle.std.proofs.Common.{◌≡◌, ℕ, ℤ, pos, ◌+ℤ◌, ◌-ℤ◌, neg_ℤ, max, not, if◌then◌else◌, Option, Some, None, List, ◌∷◌, refl, ap, ap₂, ◌∙◌, arith}
use Rattle.std.proofs.lemmas.Int.{ints}
use Rattle.decimal.specs.Rounding.{at_scale, divided}
use Rattle.term_model.specs.Declarations.{Declarations}
use Rattle.term_model.specs.declared.values.Kind.{Kind}
use Rattle.term_model.specs.declared.values.Kind.TheVariants.{Truth as TruthKind, Number}
use Rattle.term_model.specs.declared.values.Value.{Value}
use Rattle.term_model.specs.declared.values.Value.TheVariants.{Num as Amount, Truth}
use Rattle.term_model.specs.Terms.{Expression, Lit, Yes, Var, Obs, Neg, Num, Cmp, Not, Logic, Cond, Widen, Round, Div, Acc}
use Rattle.term_model.specs.Environments.{Environment}
use Rattle.term_model.specs.Kinds.{kind_of, scale_of, scale_of_kind, scale_or_zero, on_number, on_numbers, on_truth, joined, scale_of_op}
use Rattle.term_model.specs.Values.{Entry, kinds, num, truth, of_num, of_cmp, logic_op, widened, kind_or, value_of, days_run}
use Rattle.term_model.specs.Redexes.{moved}
use Rattle.term_model.proofs.ShiftFacts.{same_acc, same_days, of_two}
use Rattle.specialise.specs.Specialising.{specialised}
use Rattle.specialise.specs.LawsSpecial.{SpecialisedKinds, SpecialisedValues}
use Rattle.specialise.specs.Specialised.{IsOn}
use Rattle.specialise.proofs.ToldFacts.{told_cases, told_kind, told_value}

pub special_kind : SpecialisedKinds
special_kind d F o (Lit m s) ks = refl
special_kind d F o (Yes b) ks = refl
special_kind d F o (Var back) ks = refl
special_kind d F o (Obs l t) ks =
    told_cases (λ y. kind_of d y ks ≡ kind_of d (Obs l t) ks) d F o (Obs l t) (Obs l t) (λ f k h. told_kind d F o (Obs l t) f k _ ks h) (λ _. refl)
special_kind d F o (Neg e) ks = ap (on_number (λ s. Some (Number s))) (special_kind d F o e ks)
special_kind d F o (Num op a b) ks = ap₂ (on_numbers (λ s t. Some (Number (scale_of_op op s t)))) (special_kind d F o a ks) (special_kind d F o b ks)
special_kind d F o (Cmp op a b) ks = ap₂ (on_numbers (λ s t. Some TruthKind)) (special_kind d F o a ks) (special_kind d F o b ks)
special_kind d F o (Not e) ks = ap (λ (r : Option Kind). on_truth r (Some TruthKind)) (special_kind d F o e ks)
special_kind d F o (Logic op a b) ks = ap₂ (λ (r u : Option Kind). on_truth r (on_truth u (Some TruthKind))) (special_kind d F o a ks) (special_kind d F o b ks)
special_kind d F o (Cond t a b) ks = ap₂ on_truth (special_kind d F o t ks) (ap₂ joined (special_kind d F o a ks) (special_kind d F o b ks))
special_kind d F o (Widen s e) ks = ap (on_number (λ _. Some (Number s))) (special_kind d F o e ks)
special_kind d F o (Round mode s e) ks = ap (on_number (λ _. Some (Number s))) (special_kind d F o e ks)
special_kind d F o (Div mode s a b) ks = ap₂ (on_numbers (λ _ _. Some (Number s))) (special_kind d F o a ks) (special_kind d F o b ks)
special_kind d F o (Acc body n first) ks =
    told_cases (λ y. kind_of d y ks ≡ kind_of d (Acc body n first) ks) d F o (Acc body n first) _ (λ f k h. told_kind d F o (Acc body n first) f k _ ks h)
    (λ _. same_acc _ (kind_of d first ks) _ (λ j. kind_of d body (j ∷ ks)) (special_kind d F (moved (pos 0 -ℤ pos n) o) first ks) (λ j. special_kind d F None body (j ∷ ks)))

pub special_scale : (d : Declarations) (F : Environment) (o : Option ℤ) (e : Expression) (ks : List Kind) → scale_of d (specialised d F o e) ks ≡ scale_of d e ks
special_scale d F o e ks = ap scale_or_zero (special_kind d F o e ks)

-- the frame of a part so many days earlier or later
pub on_moved : (frame : Option ℤ) (f x h : ℤ) → f +ℤ x ≡ h → IsOn frame f → IsOn (moved x frame) h
on_moved None f x h e o = tt
on_moved (Some y) f x h e o = ap (λ (z : ℤ). z +ℤ x) o ∙ e

pub special_value : SpecialisedValues
special_value d F o (Lit m s) g env f a i = refl
special_value d F o (Yes b) g env f a i = refl
special_value d F o (Var back) g env f a i = refl
special_value d F o (Obs l t) g env f a i =
    told_cases (λ y. value_of d y g env f ≡ value_of d (Obs l t) g env f) d F o (Obs l t) (Obs l t) (λ h k e. told_value d F o (Obs l t) h k g env f a i e) (λ _. refl)
special_value d F o (Neg e) g env f a i = ap (λ (v : Value). Amount (neg_ℤ (num v))) (special_value d F o e g env f a i)
special_value d F o (Num op x y) g env f a i =
    of_two (λ s v t w. Amount (of_num op s (num v) t (num w))) _ _ _ _ _ _ _ _ (special_scale d F o x (kinds g)) (special_value d F o x g env f a i) (special_scale d F o y (kinds g)) (special_value d F o y g env f a i)
special_value d F o (Cmp op x y) g env f a i =
    of_two (λ s v t w. Truth (of_cmp op s (num v) t (num w))) _ _ _ _ _ _ _ _ (special_scale d F o x (kinds g)) (special_value d F o x g env f a i) (special_scale d F o y (kinds g)) (special_value d F o y g env f a i)
special_value d F o (Not e) g env f a i = ap (λ (v : Value). Truth (not (truth v))) (special_value d F o e g env f a i)
special_value d F o (Logic op x y) g env f a i =
    ap₂ (λ (v w : Value). Truth (logic_op op (truth v) (truth w))) (special_value d F o x g env f a i) (special_value d F o y g env f a i)
special_value d F o (Cond c x y) g env f a i =
    let s = scale_of d (specialised d F o x) (kinds g) in
    let t = scale_of d (specialised d F o y) (kinds g) in
    ap (λ (u : Value). if truth u then widened s (max s t) (value_of d (specialised d F o x) g env f) else widened t (max s t) (value_of d (specialised d F o y) g env f)) (special_value d F o c g env f a i)
    ∙ of_two (λ s v t w. if truth (value_of d c g env f) then widened s (max s t) v else widened t (max s t) w) _ _ _ _ _ _ _ _ (special_scale d F o x (kinds g)) (special_value d F o x g env f a i) (special_scale d F o y (kinds g)) (special_value d F o y g env f a i)
special_value d F o (Widen s e) g env f a i = ap₂ (λ (t : ℕ) (v : Value). widened t s v) (special_scale d F o e (kinds g)) (special_value d F o e g env f a i)
special_value d F o (Round mode s e) g env f a i =
    ap₂ (λ (t : ℕ) (v : Value). Amount (at_scale mode (num v) t s)) (special_scale d F o e (kinds g)) (special_value d F o e g env f a i)
special_value d F o (Div mode s x y) g env f a i =
    of_two (λ t v u w. Amount (divided mode (num v) t (num w) u s)) _ _ _ _ _ _ _ _ (special_scale d F o x (kinds g)) (special_value d F o x g env f a i) (special_scale d F o y (kinds g)) (special_value d F o y g env f a i)
special_value d F o (Acc body n first) g env f a i =
    let ks = kinds g in
    let body' = specialised d F None body in
    let first' = specialised d F (moved (pos 0 -ℤ pos n) o) first in
    let run : Option Kind → Value = λ r. days_run n (λ i v. widened (scale_of d body' (kind_or r ∷ ks)) (scale_of_kind (kind_or r)) (value_of d body' (record { value = v; kind = kind_or r } ∷ g) env (f -ℤ pos n +ℤ pos i))) (value_of d first' g env (f -ℤ pos n)) in
    let back : f +ℤ (pos 0 -ℤ pos n) ≡ f -ℤ pos n = omega (arith, ints) in
    told_cases (λ y. value_of d y g env f ≡ value_of d (Acc body n first) g env f) d F o (Acc body n first) (Acc body' n first') (λ h k e. told_value d F o (Acc body n first) h k g env f a i e) (λ _.
    ap run (special_kind d F (moved (pos 0 -ℤ pos n) o) first ks)
    ∙ same_days n _ _ _ _ (special_value d F (moved (pos 0 -ℤ pos n) o) first g env (f -ℤ pos n) a (on_moved o f _ _ back i)) (λ j v.
    let kind = kind_or (kind_of d first ks) in
    let entry : Entry = record { value = v; kind = kind } in
    ap₂ (λ (s : ℕ) (u : Value). widened s (scale_of_kind kind) u) (special_scale d F None body (kind ∷ ks)) (special_value d F None body (entry ∷ g) env (f -ℤ pos n +ℤ pos j) a tt)))
