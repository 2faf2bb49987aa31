-- Values without a name.
use Rattle.std.proofs.Common.{◌≡◌, ℕ, suc, pos, ◌+ℤ◌, ◌-ℤ◌, neg_ℤ, ◌+◌, max, not, true, ◌||◌, ◌==◌, if◌then◌else◌, Option, List, ◌∷◌, slice_get, refl, ap, ap₂, sym, ◌∙◌}
use Rattle.decimal.specs.Rounding.{at_scale, divided}
use Rattle.term_model.specs.Declarations.{Declarations}
use Rattle.term_model.specs.declared.values.Kind.{Kind}
use Rattle.term_model.specs.declared.values.Value.{Value}
use Rattle.term_model.specs.declared.values.Value.TheVariants.{Num as Amount, Truth}
use Rattle.term_model.specs.Terms.{Expression, Lit, Yes, Var, Obs, Neg, Num, Cmp, Not, Logic, Cond, Widen, Round, Div, Acc}
use Rattle.term_model.specs.Kinds.{kind_of, scale_of, scale_of_kind}
use Rattle.term_model.specs.Values.{Entry, kinds, num, truth, of_num, of_cmp, logic_op, widened, kind_or, value_of, value_of_entry, days_run}
use Rattle.term_model.specs.Redexes.{uses}
use Rattle.term_model.proofs.ShiftFacts.{same_days, of_two}
use Rattle.rewriting.specs.Substituting.{substituted, without}
use Rattle.rewriting.specs.LawsNames.{HasKindOf, ValuesWithoutName}
use Rattle.rewriting.proofs.NameLists.{get_before, get_past, name_cases, on_left, on_right, eq_is}
use Rattle.rewriting.proofs.NameKinds.{in_body, kind_here, scale_here}

-- the two sides of an operator
left_kind : (d : Declarations) (a b : Expression) (j : ℕ) (x : Expression) (g : List Entry) → ((uses j a || uses j b) ≡ true → HasKindOf d x (kinds g) j) → scale_of d (substituted j x a) (kinds (without j g)) ≡ scale_of d a (kinds g)
left_kind d a b j x g h = scale_here d a j x g (on_left (uses j a) (uses j b) h)

right_kind : (d : Declarations) (a b : Expression) (j : ℕ) (x : Expression) (g : List Entry) → ((uses j a || uses j b) ≡ true → HasKindOf d x (kinds g) j) → scale_of d (substituted j x b) (kinds (without j g)) ≡ scale_of d b (kinds g)
right_kind d a b j x g h = scale_here d b j x g (on_right (uses j a) (uses j b) h)

pub value_without : ValuesWithoutName
value_without d (Lit m s) j x g env f h v = refl
value_without d (Yes b) j x g env f h v = refl
value_without d (Var back) j x g env f h v =
    name_cases (λ e. value_of d e (without j g) env f ≡ value_of_entry (slice_get g back)) j x back
    (λ lt. ap value_of_entry (get_before j back g lt))
    (λ e. v (ap (λ (k : ℕ). back == k) (sym e) ∙ eq_is back) (without j g) env f ∙ ap (λ (k : ℕ). value_of_entry (slice_get g k)) (sym e))
    (λ k e le. ap value_of_entry (get_past j k g le) ∙ ap (λ (i : ℕ). value_of_entry (slice_get g i)) (sym e))
value_without d (Obs l t) j x g env f h v = refl
value_without d (Neg e) j x g env f h v = ap (λ (v : Value). Amount (neg_ℤ (num v))) (value_without d e j x g env f h v)
value_without d (Num op a b) j x g env f h v =
    of_two (λ i v j w. Amount (of_num op i (num v) j (num w))) _ _ _ _ _ _ _ _ (left_kind d a b j x g h) (value_without d a j x g env f (on_left (uses j a) (uses j b) h) (on_left (uses j a) (uses j b) v)) (right_kind d a b j x g h) (value_without d b j x g env f (on_right (uses j a) (uses j b) h) (on_right (uses j a) (uses j b) v))
value_without d (Cmp op a b) j x g env f h v =
    of_two (λ i v j w. Truth (of_cmp op i (num v) j (num w))) _ _ _ _ _ _ _ _ (left_kind d a b j x g h) (value_without d a j x g env f (on_left (uses j a) (uses j b) h) (on_left (uses j a) (uses j b) v)) (right_kind d a b j x g h) (value_without d b j x g env f (on_right (uses j a) (uses j b) h) (on_right (uses j a) (uses j b) v))
value_without d (Not e) j x g env f h v = ap (λ (v : Value). Truth (not (truth v))) (value_without d e j x g env f h v)
value_without d (Logic op a b) j x g env f h v =
    ap₂ (λ (v w : Value). Truth (logic_op op (truth v) (truth w))) (value_without d a j x g env f (on_left (uses j a) (uses j b) h) (on_left (uses j a) (uses j b) v)) (value_without d b j x g env f (on_right (uses j a) (uses j b) h) (on_right (uses j a) (uses j b) v))
value_without d (Cond t a b) j x g env f h v =
    let ht = on_left (uses j t) (uses j a || uses j b) h in
    let vt = on_left (uses j t) (uses j a || uses j b) v in
    let hr = on_right (uses j t) (uses j a || uses j b) h in
    let vr = on_right (uses j t) (uses j a || uses j b) v in
    let ks = kinds (without j g) in
    let i = scale_of d (substituted j x a) ks in
    let k = scale_of d (substituted j x b) ks in
    ap (λ (u : Value). if truth u then widened i (max i k) (value_of d (substituted j x a) (without j g) env f) else widened k (max i k) (value_of d (substituted j x b) (without j g) env f)) (value_without d t j x g env f ht vt)
    ∙ of_two (λ i v k w. if truth (value_of d t g env f) then widened i (max i k) v else widened k (max i k) w) _ _ _ _ _ _ _ _ (left_kind d a b j x g hr) (value_without d a j x g env f (on_left (uses j a) (uses j b) hr) (on_left (uses j a) (uses j b) vr)) (right_kind d a b j x g hr) (value_without d b j x g env f (on_right (uses j a) (uses j b) hr) (on_right (uses j a) (uses j b) vr))
value_without d (Widen s e) j x g env f h v =
    ap₂ (λ (i : ℕ) (v : Value). widened i s v) (scale_here d e j x g h) (value_without d e j x g env f h v)
value_without d (Round mode s e) j x g env f h v =
    ap₂ (λ (i : ℕ) (v : Value). Amount (at_scale mode (num v) i s)) (scale_here d e j x g h) (value_without d e j x g env f h v)
value_without d (Div mode s a b) j x g env f h v =
    of_two (λ i v j w. Amount (divided mode (num v) i (num w) j s)) _ _ _ _ _ _ _ _ (left_kind d a b j x g h) (value_without d a j x g env f (on_left (uses j a) (uses j b) h) (on_left (uses j a) (uses j b) v)) (right_kind d a b j x g h) (value_without d b j x g env f (on_right (uses j a) (uses j b) h) (on_right (uses j a) (uses j b) v))
value_without d (Acc body n first) j x g env f h v =
    let hf = on_right (uses (j + 1) body) (uses j first) h in
    let vf = on_right (uses (j + 1) body) (uses j first) v in
    let hb = in_body j body (uses j first) h in
    let vb = in_body j body (uses j first) v in
    let gs = without j g in
    let run : Option Kind → Value = λ o. days_run n (λ i v. widened (scale_of d (substituted (suc j) x body) (kind_or o ∷ kinds gs)) (scale_of_kind (kind_or o)) (value_of d (substituted (suc j) x body) (record { value = v; kind = kind_or o } ∷ gs) env (f -ℤ pos n +ℤ pos i))) (value_of d (substituted j x first) gs env (f -ℤ pos n)) in
    ap run (kind_here d first j x g hf)
    ∙ same_days n _ _ _ _ (value_without d first j x g env (f -ℤ pos n) hf vf) (λ i v.
    let kind = kind_or (kind_of d first (kinds g)) in
    let entry : Entry = record { value = v; kind = kind } in
    ap₂ (λ (s : ℕ) (u : Value). widened s (scale_of_kind kind) u) (scale_here d body (suc j) x (entry ∷ g) hb) (value_without d body (suc j) x (entry ∷ g) env (f -ℤ pos n +ℤ pos i) hb vb))
