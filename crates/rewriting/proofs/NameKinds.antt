-- Kinds without a name.
use Rattle.std.proofs.Common.{◌≡◌, ℕ, suc, ◌+◌, Bool, true, ◌||◌, ◌==◌, Option, Some, List, ◌∷◌, slice_get, refl, ap, ap₂, sym, subst, ◌∙◌, arith}
use Rattle.term_model.specs.Declarations.{Declarations}
use Rattle.term_model.specs.declared.values.Kind.{Kind}
use Rattle.term_model.specs.declared.values.Kind.TheVariants.{Truth as TruthKind, Number}
use Rattle.term_model.specs.Terms.{Expression, Lit, Yes, Var, Obs, Neg, Num, Cmp, Not, Logic, Cond, Widen, Round, Div, Acc}
use Rattle.term_model.specs.Kinds.{kind_of, scale_of, scale_or_zero, on_number, on_numbers, on_truth, joined, scale_of_op}
use Rattle.term_model.specs.Values.{Entry, kinds}
use Rattle.term_model.specs.Redexes.{uses}
use Rattle.term_model.proofs.ShiftFacts.{same_acc}
use Rattle.rewriting.specs.Substituting.{substituted, without}
use Rattle.rewriting.specs.LawsNames.{HasKindOf, KindsWithoutName}
use Rattle.rewriting.proofs.NameLists.{get_before, get_past, kinds-without, name_cases, on_left, on_right, eq_is}

-- a name in the body of an accumulator
pub in_body : {P : Type 0} (j : ℕ) (body : Expression) (rest : Bool) → ((uses (j + 1) body || rest) ≡ true → P) → uses (suc j) body ≡ true → P
in_body j body rest h e =
    let more : suc j ≡ j + 1 = omega arith in
    on_left (uses (j + 1) body) rest h (subst (λ (k : ℕ). uses k body ≡ true) more e)

pub kind_without : KindsWithoutName
kind_without d (Lit m s) j x ks h = refl
kind_without d (Yes b) j x ks h = refl
kind_without d (Var back) j x ks h =
    name_cases (λ e. kind_of d e (without j ks) ≡ slice_get ks back) j x back
    (λ lt. get_before j back ks lt)
    (λ e. h (ap (λ (k : ℕ). back == k) (sym e) ∙ eq_is back) (without j ks) ∙ ap (slice_get ks) (sym e))
    (λ k e le. get_past j k ks le ∙ ap (slice_get ks) (sym e))
kind_without d (Obs l t) j x ks h = refl
kind_without d (Neg e) j x ks h = ap (on_number (λ s. Some (Number s))) (kind_without d e j x ks h)
kind_without d (Num op a b) j x ks h =
    ap₂ (on_numbers (λ s t. Some (Number (scale_of_op op s t)))) (kind_without d a j x ks (on_left (uses j a) (uses j b) h)) (kind_without d b j x ks (on_right (uses j a) (uses j b) h))
kind_without d (Cmp op a b) j x ks h =
    ap₂ (on_numbers (λ s t. Some TruthKind)) (kind_without d a j x ks (on_left (uses j a) (uses j b) h)) (kind_without d b j x ks (on_right (uses j a) (uses j b) h))
kind_without d (Not e) j x ks h = ap (λ (o : Option Kind). on_truth o (Some TruthKind)) (kind_without d e j x ks h)
kind_without d (Logic op a b) j x ks h =
    ap₂ (λ (o u : Option Kind). on_truth o (on_truth u (Some TruthKind))) (kind_without d a j x ks (on_left (uses j a) (uses j b) h)) (kind_without d b j x ks (on_right (uses j a) (uses j b) h))
kind_without d (Cond t a b) j x ks h =
    ap₂ on_truth (kind_without d t j x ks (on_left (uses j t) (uses j a || uses j b) h))
    (ap₂ joined (kind_without d a j x ks (on_left (uses j a) (uses j b) (on_right (uses j t) (uses j a || uses j b) h))) (kind_without d b j x ks (on_right (uses j a) (uses j b) (on_right (uses j t) (uses j a || uses j b) h))))
kind_without d (Widen s e) j x ks h = ap (on_number (λ _. Some (Number s))) (kind_without d e j x ks h)
kind_without d (Round mode s e) j x ks h = ap (on_number (λ _. Some (Number s))) (kind_without d e j x ks h)
kind_without d (Div mode s a b) j x ks h =
    ap₂ (on_numbers (λ _ _. Some (Number s))) (kind_without d a j x ks (on_left (uses j a) (uses j b) h)) (kind_without d b j x ks (on_right (uses j a) (uses j b) h))
kind_without d (Acc body n first) j x ks h =
    same_acc (kind_of d (substituted j x first) (without j ks)) (kind_of d first ks) (λ k. kind_of d (substituted (suc j) x body) (k ∷ without j ks)) (λ k. kind_of d body (k ∷ ks))
    (kind_without d first j x ks (on_right (uses (j + 1) body) (uses j first) h)) (λ k. kind_without d body (suc j) x (k ∷ ks) (in_body j body (uses j first) h))

-- among entries
pub kind_here : (d : Declarations) (e : Expression) (j : ℕ) (x : Expression) (g : List Entry) → (uses j e ≡ true → HasKindOf d x (kinds g) j) → kind_of d (substituted j x e) (kinds (without j g)) ≡ kind_of d e (kinds g)
kind_here d e j x g h = ap (kind_of d (substituted j x e)) (kinds-without j g) ∙ kind_without d e j x (kinds g) h

pub scale_here : (d : Declarations) (e : Expression) (j : ℕ) (x : Expression) (g : List Entry) → (uses j e ≡ true → HasKindOf d x (kinds g) j) → scale_of d (substituted j x e) (kinds (without j g)) ≡ scale_of d e (kinds g)
scale_here d e j x g h = ap scale_or_zero (kind_here d e j x g h)
