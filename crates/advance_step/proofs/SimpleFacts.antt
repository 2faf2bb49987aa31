-- Reduced simple contracts: what is left of one is one too, or nothing. So it is a residual.
use Rattle.std.proofs.Common.{◌≡◌, ℕ, suc, zero, ℤ, pos, negsuc, ◌+ℤ◌, ◌+◌, ◌-◌, ◌≤◌, ◌||◌, ◌==◌, not, nat_le, if◌then◌else◌, Bool, true, false, List, [], Some, Option, refl, ap, ap₂, sym, subst, ◌∙◌, inl, inr, ◌⊎◌, arith}
use Rattle.std.specs.Ordering.{int_eq}
use Rattle.std.proofs.lemmas.Bool.Decides.{nat_tests}
use Rattle.term_model.specs.Declarations.{Declarations}
use Rattle.term_model.specs.Terms.{Expression, Lit, Yes, Var, Obs, Neg, Num, Cmp, Not, Logic, Cond, Widen, Round, Div, Acc}
use Rattle.term_model.specs.Terms.{Contract, Zero, Pay, Both, Scale, After, Let, Within}
use Rattle.term_model.specs.Environments.{Environment, IsAdmitted}
use Rattle.term_model.specs.Values.{Entry}
use Rattle.term_model.specs.Flows.{count_of}
use Rattle.term_model.specs.Shifts.{shifted}
use Rattle.term_model.specs.Acceptance.{IsAccepted}
use Rattle.term_model.specs.Literals.{HasLiteralsIn}
use Rattle.term_model.specs.Redexes.{Redex, FixedPlace, FixedSteps, HasNone, IsReduced, is_zero_literal, moved}
use Rattle.term_model.specs.WellFormed.{IsClosed, HasOnlyNumbers}
use Rattle.interval_check.specs.Within.{KeepsLimits}
use Rattle.rewriting.proofs.Choices.{if_cases}
use Rattle.specialise.specs.Specialising.{specialised, specialised_in}
use Rattle.specialise.proofs.SpecialRedexes.{special_leaves_none}
use Rattle.simplify.specs.Turning.{HasNoPlain, turned}
use Rattle.simplify.specs.TurningContracts.{HasNoPlainIn, is_contract_redex, is_later, is_nothing, made, rule_in, turned_in}
use Rattle.simplify.proofs.SimplifyingFacts.{literals_fit}
use Rattle.advance_step.specs.Advancing.{IsResidual}
use Rattle.advance_step.specs.SimpleContracts.{IsLeftAnywhere, IsReducedSimple, is_factor}
use Rattle.advance_step.specs.WhatIsLeft.{both_left, delayed, left_of, scale_left}
use Rattle.advance_step.proofs.KnownFacts.{left_after, near_enough, nothing_reduced}
use Rattle.advance_step.proofs.LeftForms.{left_formed}
use Rattle.advance_step.proofs.LeftParts.{both_cases, scale_cases}
use Rattle.rewriting.specs.Measures.{size_in}
use Rattle.term_model.specs.declared.values.Kind.{Kind}
use Rattle.advance_step.specs.Reducing.{reduced as reduced_by}
use Rattle.advance_step.proofs.ReducingFacts.{each_kind, stays}

-- ---- factors

pub not_so : (b : Bool) → not b ≡ true → b ≡ false
not_so true h = absurd (cc)
not_so false h = refl

-- what holds of each decimal that is not 0 holds of a factor
each_factor : (P : Expression → Type 0) → ((m : ℤ) (s : ℕ) → int_eq m (pos 0) ≡ false → P (Lit m s)) → (e : Expression) → is_factor e ≡ true → P e
each_factor P h (Lit m s) is = h m s (not_so (int_eq m (pos 0)) is)
each_factor P h (Yes b) is = absurd (cc)
each_factor P h (Var k) is = absurd (cc)
each_factor P h (Obs l t) is = absurd (cc)
each_factor P h (Neg e) is = absurd (cc)
each_factor P h (Num op a b) is = absurd (cc)
each_factor P h (Cmp op a b) is = absurd (cc)
each_factor P h (Not e) is = absurd (cc)
each_factor P h (Logic op a b) is = absurd (cc)
each_factor P h (Cond t a b) is = absurd (cc)
each_factor P h (Widen s e) is = absurd (cc)
each_factor P h (Round mode s e) is = absurd (cc)
each_factor P h (Div mode s a b) is = absurd (cc)
each_factor P h (Acc body n first) is = absurd (cc)

no_zero : (e : Expression) → is_factor e ≡ true → is_zero_literal e ≡ false
no_zero = each_factor (λ e. is_zero_literal e ≡ false) (λ m s not_zero. not_zero)

no_redex : (e : Expression) → is_factor e ≡ true → HasNoPlain e
no_redex = each_factor HasNoPlain (λ m s not_zero. tt)

not_moved : (k : ℤ) (e : Expression) → is_factor e ≡ true → shifted k e ≡ e
not_moved k = each_factor (λ e. shifted k e ≡ e) (λ m s not_zero. refl)

not_told : (d : Declarations) (F : Environment) (o : Option ℤ) (e : Expression) → is_factor e ≡ true → specialised d F o e ≡ e
not_told d F o = each_factor (λ e. specialised d F o e ≡ e) (λ m s not_zero. refl)

-- ---- no part reduces

pub neither : (a b : Bool) → a ≡ false → b ≡ false → (a || b) ≡ false
neither true b p q = absurd (cc)
neither false b p q = q

pub not_now : (n : ℕ) → 1 ≤ n → (n == 0) ≡ false
not_now n h = grind (arith, nat_tests, h)

some : (c : Contract) → IsReducedSimple c → is_nothing c ≡ false
some Zero h = absurd h
some (Pay a p q) h = refl
some (Both a b) h = refl
some (Scale e c) h = refl
some (After n c) h = refl
some (Let e c) h = refl
some (Within e n a b) h = refl

plain : (c : Contract) → IsReducedSimple c → HasNoPlainIn c
plain Zero h = tt
plain (Pay a p q) h = tt
plain (Both a b) h = (plain a h.0, plain b h.1, neither (is_nothing a) (is_nothing b) (some a h.0) (some b h.1))
plain (Scale e c) h = (no_redex e h.0, plain c h.1, neither (is_nothing c) (is_zero_literal e) (some c h.1) (no_zero e h.0))
plain (After n c) h =
    (plain c h.2, neither (is_nothing c) ((count_of n == 0) || is_later c) (some c h.2) (neither (count_of n == 0) (is_later c) (not_now (count_of n) h.0) h.1))
plain (Let e c) h = absurd h
plain (Within e n a b) h = absurd h

untold : (d : Declarations) (F : Environment) (c : Contract) (o : Option ℤ) → IsReducedSimple c → specialised_in d F o c ≡ c
untold d F Zero o h = refl
untold d F (Pay a p q) o h = refl
untold d F (Both a b) o h = ap₂ Both (untold d F a o h.0) (untold d F b o h.1)
untold d F (Scale e c) o h = ap₂ Scale (not_told d F o e h.0) (untold d F c o h.1)
untold d F (After n c) o h = ap (λ (x : Contract). After n x) (untold d F c (moved (pos (count_of n)) o) h.2)
untold d F (Let e c) o h = absurd h
untold d F (Within e n a b) o h = absurd h

simple_reduced : (d : Declarations) (F : Environment) (f : ℤ) (c : Contract) → IsAdmitted d F → IsAccepted d c → IsReducedSimple c → IsReduced d c F f
simple_reduced d F f c admitted a h =
    let none : (kind : Redex) → HasNone d F (Some f) kind (specialised_in d F (Some f) c) → HasNone d F (Some f) kind c =
    λ kind. subst (λ (x : Contract). HasNone d F (Some f) kind x) (untold d F c (Some f) h) in
    each_kind d F f c (plain c h)
    (none FixedPlace (special_leaves_none d c F (Some f) FixedPlace tt admitted a.sorts))
    (none FixedSteps (special_leaves_none d c F (Some f) FixedSteps tt admitted a.sorts))

-- ---- what is left

-- reduced and simple, or nothing
abbrev StaysSimple : Contract → Type 0
StaysSimple c = (c ≡ Zero) ⊎ IsReducedSimple c

both_stay : (a b : Contract) → StaysSimple a → StaysSimple b → StaysSimple (both_left a b)
both_stay a b (inl none) k = subst (λ (x : Contract). StaysSimple (both_left x b)) (sym none) k
both_stay a b (inr h) (inl none) =
    subst (λ (x : Contract). StaysSimple (both_left a x)) (sym none)
    (if_cases StaysSimple (is_nothing a) Zero a (λ _. inl refl) (λ _. inr h))
both_stay a b (inr h) (inr k) = both_cases StaysSimple a b (λ _. inr k) (λ _. inr h) (inr (h, k))

scaled_stays : (e : Expression) (c : Contract) → is_factor e ≡ true → StaysSimple c → StaysSimple (scale_left e c)
scaled_stays e c is (inl none) = subst (λ (x : Contract). StaysSimple (scale_left e x)) (sym none) (inl refl)
scaled_stays e c is (inr h) = scale_cases StaysSimple e c (λ _. inl refl) (inr (is, h))

delayed_stays : (n : ℕ) (c : Contract) → is_later c ≡ false → IsReducedSimple c → StaysSimple (delayed n c)
delayed_stays zero c first h = inr h
delayed_stays (suc n) c first h = inr (omega arith, first, h)

left_stays : (d : Declarations) (c : Contract) (g : List Entry) (env : Environment) (f : ℤ) (j : ℕ) → IsReducedSimple c → StaysSimple (left_of d c g env f j)
left_stays d Zero g env f j h = inl refl
left_stays d (Pay a p q) g env f j h = inl refl
left_stays d (Both a b) g env f j h = both_stay (left_of d a g env f j) (left_of d b g env f j) (left_stays d a g env f j h.0) (left_stays d b g env f j h.1)
left_stays d (Scale e c) g env f j h =
    let still : is_factor (shifted (negsuc j) e) ≡ true = ap is_factor (not_moved (negsuc j) e h.0) ∙ h.0 in
    scaled_stays (shifted (negsuc j) e) (left_of d c g env f j) still (left_stays d c g env f j h.1)
left_stays d (After m c) g env f j h =
    let n = count_of m in
    if_cases StaysSimple (nat_le n j) (left_of d c g env (f +ℤ pos n) (j - n)) (delayed (n - suc j) c)
    (λ _. left_stays d c g env (f +ℤ pos n) (j - n) h.2)
    (λ _. delayed_stays (n - suc j) c h.1 h.2)
left_stays d (Let e c) g env f j h = absurd h
left_stays d (Within e n a b) g env f j h = absurd h

-- ---- a round changes nothing

no_turn : (d : Declarations) (ks : List Kind) (e : Expression) → is_factor e ≡ true → turned d ks e ≡ e
no_turn d ks = each_factor (λ e. turned d ks e ≡ e) (λ m s not_zero. refl)

pub no_rule : (c : Contract) → is_contract_redex c ≡ false → rule_in c ≡ c
no_rule c h = ap (λ (b : Bool). if b then made c else c) h

unturned : (d : Declarations) (ks : List Kind) (c : Contract) → IsReducedSimple c → turned_in d ks c ≡ c
unturned d ks Zero h = absurd h
unturned d ks (Pay a p q) h = refl
unturned d ks (Both a b) h = ap rule_in (ap₂ Both (unturned d ks a h.0) (unturned d ks b h.1)) ∙ no_rule (Both a b) (plain (Both a b) h).2
unturned d ks (Scale e c) h = ap rule_in (ap₂ Scale (no_turn d ks e h.0) (unturned d ks c h.1)) ∙ no_rule (Scale e c) (plain (Scale e c) h).2
unturned d ks (After n c) h = ap (λ (x : Contract). rule_in (After n x)) (unturned d ks c h.2) ∙ no_rule (After n c) (plain (After n c) h).1
unturned d ks (Let e c) h = absurd h
unturned d ks (Within e n a b) h = absurd h

rounds_stay : (d : Declarations) (F : Environment) (f : ℤ) (c : Contract) → StaysSimple c → reduced_by d F f c ≡ c
rounds_stay d F f c (inl none) = subst (λ (x : Contract). reduced_by d F f x ≡ x) (sym none) (stays d F f Zero (size_in Zero) refl)
rounds_stay d F f c (inr h) = stays d F f c (size_in c) (ap (λ (x : Contract). turned_in d [] x) (untold d F c (Some f) h) ∙ unturned d [] c h)

-- ---- a residual

-- such a contract has no redex, and the literals of texts
reduced_rest : (d : Declarations) (F : Environment) (f : ℤ) (c : Contract) → KeepsLimits d → IsAdmitted d F → IsAccepted d c → StaysSimple c → IsReduced d c F f × HasLiteralsIn c
reduced_rest d F f c limits admitted a (inl none) =
    subst (λ (x : Contract). IsReduced d x F f × HasLiteralsIn x) (sym none) (nothing_reduced d F f, tt)
reduced_rest d F f c limits admitted a (inr h) = (simple_reduced d F f c admitted a h, literals_fit d c limits a (plain c h))

simple_rest : (d : Declarations) (F : Environment) (c rest : Contract) (f : ℤ) (j : ℕ) → KeepsLimits d → IsAdmitted d F → IsAccepted d c → IsClosed d c → HasOnlyNumbers c → IsReducedSimple c → IsLeftAnywhere c j rest
    → IsResidual d F f (suc j) c rest
simple_rest d F c rest f j limits admitted a w n h is =
    let left = left_after d F c rest f j limits a n (λ env _. is d [] env f) in
    let here : rest ≡ left_of d c [] F f j = is d [] F f in
    let stays : StaysSimple rest = subst StaysSimple (sym here) (left_stays d c [] F f j h) in
    let there = f +ℤ pos (suc j) in
    let reduced = reduced_rest d F there rest limits admitted left.accepted stays in
    record {
      exact = λ env same. sym (rounds_stay d env there rest stays) ∙ ap (reduced_by d env there) (is d [] env f);
      accepted = left.accepted;
      carries = left.carries;
      reduced = reduced.0;
      gone = left.gone;
      closed = left.closed w;
      numbers = subst HasOnlyNumbers (sym here) (left_formed d c [] F f j 0 (near_enough d c a) w n).1;
      literals = reduced.1;
    }

pub simple_residual : (d : Declarations) (F : Environment) (c rest : Contract) (f : ℤ) (n j : ℕ) → KeepsLimits d → IsAdmitted d F → IsAccepted d c → IsClosed d c → HasOnlyNumbers c → IsReducedSimple c → j + 1 ≡ n → IsLeftAnywhere c j rest
    → IsResidual d F f n c rest
simple_residual d F c rest f n j limits admitted a w numbers h days is =
    let same : suc j ≡ n = omega (arith, days) in
    subst (λ (k : ℕ). IsResidual d F f k c rest) same (simple_rest d F c rest f j limits admitted a w numbers h is)
