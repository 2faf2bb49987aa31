-- A specialised expression is the same, or smaller.
use Rattle.std.proofs.Common.{◌≡◌, ℕ, pos, ◌-ℤ◌, ◌+◌, ◌<◌, ◌≤◌, None, refl, ap, ap₂, ◌∙◌, inl, inr, ◌⊎◌, arith}
use Rattle.term_model.specs.Declarations.{Declarations}
use Rattle.term_model.specs.declared.values.Kind.{Kind}
use Rattle.term_model.specs.declared.values.Kind.TheVariants.{Truth as TruthKind, Number}
use Rattle.term_model.specs.declared.values.Value.{Value}
use Rattle.term_model.specs.Terms.{Expression, Lit, Yes, Var, Obs, Neg, Num, Cmp, Not, Logic, Cond, Widen, Round, Div, Acc}
use Rattle.term_model.specs.Environments.{Environment}
use Rattle.term_model.specs.Redexes.{moved}
use Rattle.rewriting.specs.Replacing.{literal_of}
use Rattle.rewriting.specs.Measures.{size}
use Rattle.rewriting.proofs.SizeFacts.{some_size}
use Rattle.specialise.specs.Specialising.{specialised, told_or}
use Rattle.specialise.specs.LawsSpecial.{SpecialisedIsSmaller, NothingIsTold}
use Rattle.specialise.proofs.ToldFacts.{told_cases}

pub literal_size : (k : Kind) (v : Value) → size (literal_of k v) ≡ 1
literal_size TruthKind v = refl
literal_size (Number s) v = refl

pub literal_is_less : (k : Kind) (v : Value) (n : ℕ) → 2 ≤ n → size (literal_of k v) < n
literal_is_less k v n h = omega (arith, literal_size k v, h)

abbrev pub IsLess : {A : Type 0} → (A → ℕ) → A → A → Type 0
IsLess w y e = (y ≡ e) ⊎ (w y < w e)

-- parts that are the same or less, by any sizes
pub less_one : {A B : Type 0} (v : A → ℕ) (w : B → ℕ) (F : A → B) (n : ℕ) → ((e : A) → w (F e) ≡ v e + n) → (y e : A) → IsLess v y e → IsLess w (F y) (F e)
less_one v w F n s y e (inl h) = inl (ap F h)
less_one v w F n s y e (inr h) = inr (omega (arith, s y, s e, h))

pub less_two : {A B C : Type 0} (u : A → ℕ) (v : B → ℕ) (w : C → ℕ) (F : A → B → C) (n : ℕ) → ((a : A) (b : B) → w (F a b) ≡ u a + v b + n) → (y a : A) (z b : B) → IsLess u y a → IsLess v z b → IsLess w (F y z) (F a b)
less_two u v w F n s y a z b (inl h) (inl k) = inl (ap₂ F h k)
less_two u v w F n s y a z b (inl h) (inr k) = inr (omega (arith, s y z, s a b, ap u h, k))
less_two u v w F n s y a z b (inr h) (inl k) = inr (omega (arith, s y z, s a b, ap v k, h))
less_two u v w F n s y a z b (inr h) (inr k) = inr (omega (arith, s y z, s a b, h, k))

-- three parts, two of them together
pub less_three : {A B C D : Type 0} (t : A → ℕ) (u : B → ℕ) (v : C → ℕ) (w : D → ℕ) (F : A → B → C → D) (n : ℕ) → ((a : A) (b : B) (c : C) → w (F a b c) ≡ t a + u b + v c + n) → (x a : A) (y b : B) (z c : C) → IsLess t x a → IsLess u y b → IsLess v z c → IsLess w (F x y z) (F a b c)
less_three t u v w F n s x a y b z c (inl g) (inl h) (inl k) = inl (cc (g, h, k))
less_three t u v w F n s x a y b z c (inl g) (inl h) (inr k) = inr (omega (arith, s x y z, s a b c, ap t g, ap u h, k))
less_three t u v w F n s x a y b z c (inl g) (inr h) (inl k) = inr (omega (arith, s x y z, s a b c, ap t g, h, ap v k))
less_three t u v w F n s x a y b z c (inl g) (inr h) (inr k) = inr (omega (arith, s x y z, s a b c, ap t g, h, k))
less_three t u v w F n s x a y b z c (inr g) (inl h) (inl k) = inr (omega (arith, s x y z, s a b c, g, ap u h, ap v k))
less_three t u v w F n s x a y b z c (inr g) (inl h) (inr k) = inr (omega (arith, s x y z, s a b c, g, ap u h, k))
less_three t u v w F n s x a y b z c (inr g) (inr h) (inl k) = inr (omega (arith, s x y z, s a b c, g, h, ap v k))
less_three t u v w F n s x a y b z c (inr g) (inr h) (inr k) = inr (omega (arith, s x y z, s a b c, g, h, k))

pub special_smaller : SpecialisedIsSmaller
special_smaller d F o (Lit m s) = inl refl
special_smaller d F o (Yes b) = inl refl
special_smaller d F o (Var back) = inl refl
special_smaller d F o (Obs l t) = told_cases (λ y. IsLess size y (Obs l t)) d F o (Obs l t) (Obs l t) (λ f k e. inr (literal_is_less k _ _ (omega arith))) (λ _. inl refl)
special_smaller d F o (Neg e) = less_one size size Neg 1 (λ _. refl) _ e (special_smaller d F o e)
special_smaller d F o (Num op a b) = less_two size size size (Num op) 1 (λ _ _. refl) _ a _ b (special_smaller d F o a) (special_smaller d F o b)
special_smaller d F o (Cmp op a b) = less_two size size size (Cmp op) 1 (λ _ _. refl) _ a _ b (special_smaller d F o a) (special_smaller d F o b)
special_smaller d F o (Not e) = less_one size size Not 1 (λ _. refl) _ e (special_smaller d F o e)
special_smaller d F o (Logic op a b) = less_two size size size (Logic op) 1 (λ _ _. refl) _ a _ b (special_smaller d F o a) (special_smaller d F o b)
special_smaller d F o (Cond t a b) = less_three size size size size Cond 1 (λ _ _ _. refl) _ t _ a _ b (special_smaller d F o t) (special_smaller d F o a) (special_smaller d F o b)
special_smaller d F o (Widen s e) = less_one size size (Widen s) 1 (λ _. refl) _ e (special_smaller d F o e)
special_smaller d F o (Round mode s e) = less_one size size (Round mode s) 1 (λ _. refl) _ e (special_smaller d F o e)
special_smaller d F o (Div mode s a b) = less_two size size size (Div mode s) 1 (λ _ _. refl) _ a _ b (special_smaller d F o a) (special_smaller d F o b)
special_smaller d F o (Acc body n first) =
    told_cases (λ y. IsLess size y (Acc body n first)) d F o (Acc body n first) _ (λ f k e. inr (literal_is_less k _ _ (omega (arith, some_size body)))) (λ _.
    less_two size size size (λ x y. Acc x n y) 1 (λ _ _. refl) _ body _ first (special_smaller d F None body) (special_smaller d F (moved (pos 0 -ℤ pos n) o) first))

-- on no frame nothing is told
untold : (d : Declarations) (F : Environment) (e other : Expression) → told_or d F None e other ≡ other
untold d F e other = told_cases (λ y. y ≡ other) d F None e other (λ f k h. absurd (cc (h.on))) (λ _. refl)

pub nothing_told : NothingIsTold
nothing_told d F (Lit m s) = refl
nothing_told d F (Yes b) = refl
nothing_told d F (Var back) = refl
nothing_told d F (Obs l t) = untold d F (Obs l t) (Obs l t)
nothing_told d F (Neg e) = ap Neg (nothing_told d F e)
nothing_told d F (Num op a b) = ap₂ (Num op) (nothing_told d F a) (nothing_told d F b)
nothing_told d F (Cmp op a b) = ap₂ (Cmp op) (nothing_told d F a) (nothing_told d F b)
nothing_told d F (Not e) = ap Not (nothing_told d F e)
nothing_told d F (Logic op a b) = ap₂ (Logic op) (nothing_told d F a) (nothing_told d F b)
nothing_told d F (Cond t a b) = ap₂ (λ (x y : Expression). Cond x y (specialised d F None b)) (nothing_told d F t) (nothing_told d F a) ∙ ap (Cond t a) (nothing_told d F b)
nothing_told d F (Widen s e) = ap (Widen s) (nothing_told d F e)
nothing_told d F (Round mode s e) = ap (Round mode s) (nothing_told d F e)
nothing_told d F (Div mode s a b) = ap₂ (Div mode s) (nothing_told d F a) (nothing_told d F b)
nothing_told d F (Acc body n first) = untold d F (Acc body n first) _ ∙ ap₂ (λ (x y : Expression). Acc x n y) (nothing_told d F body) (nothing_told d F first)
