-- Contracts without a name: scales and flows.
use Rattle.std.proofs.Common.{◌≡◌, ℕ, zero, suc, ℤ, pos, ◌+ℤ◌, ◌-ℤ◌, ◌*ℤ◌, ◌+◌, ◌-◌, max, Bool, true, ◌||◌, if◌then◌else◌, Option, Some, None, List, ◌∷◌, refl, ap, ap₂, subst, ◌∙◌, arith}
use Rattle.decimal.specs.Rounding.{raised}
use Rattle.term_model.specs.Declarations.{Declarations}
use Rattle.term_model.specs.declared.values.Kind.{Kind}
use Rattle.term_model.specs.declared.values.Value.{Value}
use Rattle.term_model.specs.Terms.{Expression, Contract, Zero, Pay, Both, Scale, After, Let, Within}
use Rattle.term_model.specs.Environments.{Environment}
use Rattle.term_model.specs.Kinds.{kind_of, scale_or_zero}
use Rattle.term_model.specs.Values.{Entry, kinds, num, truth, kind_or, value_of, first_of, first_true}
use Rattle.term_model.specs.Flows.{flow_of, count_of, scale_of_contract}
use Rattle.term_model.specs.Redexes.{uses, uses_in_contract}
use Rattle.rewriting.specs.Substituting.{substituted, substituted_in, without}
use Rattle.rewriting.specs.LawsNames.{HasKindOf, HasValueOf, FlowsWithoutName}
use Rattle.rewriting.proofs.Branches.{two_raised, same_branch}
use Rattle.rewriting.proofs.NameLists.{kinds-without, on_left, on_right}
use Rattle.rewriting.proofs.NameKinds.{kind_without, kind_here}
use Rattle.rewriting.proofs.NameValues.{value_without}

-- a name under a binder
pub under : {P : Type 0} (j : ℕ) (e : Expression) (c : Contract) → ((uses j e || uses_in_contract (j + 1) c) ≡ true → P) → uses_in_contract (suc j) c ≡ true → P
under j e c h k =
    let more : suc j ≡ j + 1 = omega arith in
    on_right (uses j e) (uses_in_contract (j + 1) c) h (subst (λ (i : ℕ). uses_in_contract i c ≡ true) more k)

pub scale_without : (d : Declarations) (c : Contract) (j : ℕ) (x : Expression) (ks : List Kind) → (uses_in_contract j c ≡ true → HasKindOf d x ks j) → scale_of_contract d (substituted_in j x c) (without j ks) ≡ scale_of_contract d c ks
scale_without d Zero j x ks h = refl
scale_without d (Pay a p q) j x ks h = refl
scale_without d (Both a b) j x ks h =
    ap₂ max (scale_without d a j x ks (on_left (uses_in_contract j a) (uses_in_contract j b) h)) (scale_without d b j x ks (on_right (uses_in_contract j a) (uses_in_contract j b) h))
scale_without d (Scale e c) j x ks h =
    ap₂ (λ (s t : ℕ). s + t) (ap scale_or_zero (kind_without d e j x ks (on_left (uses j e) (uses_in_contract j c) h))) (scale_without d c j x ks (on_right (uses j e) (uses_in_contract j c) h))
scale_without d (After n c) j x ks h = scale_without d c j x ks h
scale_without d (Let e c) j x ks h =
    ap (λ (o : Option Kind). scale_of_contract d (substituted_in (suc j) x c) (kind_or o ∷ without j ks)) (kind_without d e j x ks (on_left (uses j e) (uses_in_contract (j + 1) c) h))
    ∙ scale_without d c (suc j) x (kind_or (kind_of d e ks) ∷ ks) (under j e c h)
scale_without d (Within e n a b) j x ks h =
    let r = on_right (uses j e) (uses_in_contract j a || uses_in_contract j b) h in
    ap₂ max (scale_without d a j x ks (on_left (uses_in_contract j a) (uses_in_contract j b) r)) (scale_without d b j x ks (on_right (uses_in_contract j a) (uses_in_contract j b) r))

pub contract_scale_here : (d : Declarations) (c : Contract) (j : ℕ) (x : Expression) (g : List Entry) → (uses_in_contract j c ≡ true → HasKindOf d x (kinds g) j) → scale_of_contract d (substituted_in j x c) (kinds (without j g)) ≡ scale_of_contract d c (kinds g)
contract_scale_here d c j x g h = ap (scale_of_contract d (substituted_in j x c)) (kinds-without j g) ∙ scale_without d c j x (kinds g) h

pub same_first : (n : ℕ) (p q : ℕ → Bool) → ((i : ℕ) → p i ≡ q i) → first_of n p ≡ first_of n q
same_first zero p q h = ap (λ (b : Bool). if b then Some zero else None) (h zero)
same_first (suc n) p q h =
    ap₂ (λ (o : Option ℕ) (b : Bool). let r : Option ℕ = elim o [ Some i ↦ Some i | None ↦ if b then Some (suc n) else None ] in r) (same_first n p q h) (h (suc n))

pub first_without : (d : Declarations) (e : Expression) (j : ℕ) (x : Expression) (g : List Entry) (env : Environment) (f : ℤ) (n : ℕ) → (uses j e ≡ true → HasKindOf d x (kinds g) j) → (uses j e ≡ true → HasValueOf d x g j) → first_true d (substituted j x e) (without j g) env f n ≡ first_true d e g env f n
first_without d e j x g env f n h v = same_first n _ _ (λ i. ap truth (value_without d e j x g env (f +ℤ pos i) h v))

pub entry_without : (d : Declarations) (e : Expression) (j : ℕ) (x : Expression) (g : List Entry) (env : Environment) (f : ℤ) → (uses j e ≡ true → HasKindOf d x (kinds g) j) → (uses j e ≡ true → HasValueOf d x g j) → (let entry : Entry = record { value = value_of d (substituted j x e) (without j g) env f; kind = kind_or (kind_of d (substituted j x e) (kinds (without j g))) } in entry) ≡ record { value = value_of d e g env f; kind = kind_or (kind_of d e (kinds g)) }
entry_without d e j x g env f h v =
    ap₂ (λ (u : Value) (k : Option Kind). let entry : Entry = record { value = u; kind = kind_or k } in entry) (value_without d e j x g env f h v) (kind_here d e j x g h)

pub flow_without : FlowsWithoutName
flow_without d Zero j x g env f n w h v = refl
flow_without d (Pay a p q) j x g env f n w h v = refl
flow_without d (Both a b) j x g env f n w h v =
    let ua = uses_in_contract j a in
    let ub = uses_in_contract j b in
    two_raised _ _ _ _ _ _ _ _ (flow_without d a j x g env f n w (on_left ua ub h) (on_left ua ub v)) (flow_without d b j x g env f n w (on_right ua ub h) (on_right ua ub v)) (contract_scale_here d a j x g (on_left ua ub h)) (contract_scale_here d b j x g (on_right ua ub h))
flow_without d (Scale e c) j x g env f n w h v =
    let ue = uses j e in
    let uc = uses_in_contract j c in
    ap₂ (λ (p q : ℤ). p *ℤ q) (ap num (value_without d e j x g env f (on_left ue uc h) (on_left ue uc v))) (flow_without d c j x g env f n w (on_right ue uc h) (on_right ue uc v))
flow_without d (After m c) j x g env f n w h v = flow_without d c j x g env (f +ℤ pos (count_of m)) (n -ℤ pos (count_of m)) w h v
flow_without d (Let e c) j x g env f n w h v =
    let ue = uses j e in
    let uc = uses_in_contract (j + 1) c in
    ap (λ (entry : Entry). flow_of d (substituted_in (suc j) x c) (entry ∷ without j g) env f n w) (entry_without d e j x g env f (on_left ue uc h) (on_left ue uc v))
    ∙ flow_without d c (suc j) x (record { value = value_of d e g env f; kind = kind_or (kind_of d e (kinds g)) } ∷ g) env f n w (under j e c h) (under j e c v)
flow_without d (Within e m a b) j x g env f n w h v =
    let ue = uses j e in
    let ua = uses_in_contract j a in
    let ub = uses_in_contract j b in
    let hr = on_right ue (ua || ub) h in
    let vr = on_right ue (ua || ub) v in
    let ia = contract_scale_here d a j x g (on_left ua ub hr) in
    let ib = contract_scale_here d b j x g (on_right ua ub hr) in
    same_branch _ (first_true d e g env f (count_of m)) _ _ _ _ (first_without d e j x g env f (count_of m) (on_left ue (ua || ub) h) (on_left ue (ua || ub) v))
    (λ k. ap (λ (z : ℤ). raised z (max (scale_of_contract d (substituted_in j x a) (kinds (without j g))) (scale_of_contract d (substituted_in j x b) (kinds (without j g))) - scale_of_contract d (substituted_in j x a) (kinds (without j g)))) (flow_without d a j x g env (f +ℤ pos k) (n -ℤ pos k) w (on_left ua ub hr) (on_left ua ub vr)) ∙ ap₂ (λ (s t : ℕ). raised (flow_of d a g env (f +ℤ pos k) (n -ℤ pos k) w) (max s t - s)) ia ib)
    (ap (λ (z : ℤ). raised z (max (scale_of_contract d (substituted_in j x a) (kinds (without j g))) (scale_of_contract d (substituted_in j x b) (kinds (without j g))) - scale_of_contract d (substituted_in j x b) (kinds (without j g)))) (flow_without d b j x g env (f +ℤ pos (count_of m)) (n -ℤ pos (count_of m)) w (on_right ua ub hr) (on_right ua ub vr)) ∙ ap₂ (λ (s t : ℕ). raised (flow_of d b g env (f +ℤ pos (count_of m)) (n -ℤ pos (count_of m)) w) (max s t - t)) ia ib)
