-- Turns end.
use Rattle.rewriting.proofs.SizeFacts.{some_size}
use Rattle.std.proofs.Common.{◌≡◌, ℕ, ◌+◌, ◌<◌, ◌≤◌, ◌||◌, Bool, true, false, max, nat_lt, List, ◌∷◌, if◌then◌else◌, refl, ap, ap₂, sym, subst, ◌∙◌, inl, inr, ◌⊎◌, arith}
use Rattle.term_model.specs.Declarations.{Declarations}
use Rattle.term_model.specs.declared.values.Kind.{Kind}
use Rattle.term_model.specs.Terms.{Expression, Lit, Yes, Var, Obs, Neg, Num, Cmp, Not, Logic, Cond, Widen, Round, Div, Acc}
use Rattle.term_model.specs.Kinds.{kind_of, scale_of}
use Rattle.term_model.specs.Values.{kind_or}
use Rattle.term_model.specs.Redexes.{has_literal_operands}
use Rattle.rewriting.specs.Replacing.{branch_at}
use Rattle.rewriting.specs.Measures.{size}
use Rattle.simplify.specs.Turning.{is_chosen, is_plain_redex, resolved, choice, rule, HasNoPlain, IsTurn, TurnsEnd}
use Rattle.specialise.proofs.SpecialSizes.{literal_is_less}

if_size : (b : Bool) (x y : Expression) (n : ℕ) → size x < n → size y < n → size (if b then x else y) < n
if_size true x y n h k = h
if_size false x y n h k = k

branch_size : (i s : ℕ) (e : Expression) → size (branch_at i s e) ≤ size e + 1
branch_size i s e = at (nat_lt i s)
  where
    at : (b : Bool) → size (if b then Widen s e else e) ≤ size e + 1
    at true = omega arith
    at false = omega arith

resolved_size : (d : Declarations) (ks : List Kind) (e : Expression) → has_literal_operands e ≡ true → size (resolved d ks e) < size e
resolved_size d ks (Lit m s) h = absurd (cc)
resolved_size d ks (Yes b) h = absurd (cc)
resolved_size d ks (Var back) h = absurd (cc)
resolved_size d ks (Obs l t) h = absurd (cc)
resolved_size d ks (Neg e) h = literal_is_less _ _ _ (omega (arith, some_size e))
resolved_size d ks (Num op a b) h = literal_is_less _ _ _ (omega (arith, some_size a, some_size b))
resolved_size d ks (Cmp op a b) h = literal_is_less _ _ _ (omega (arith, some_size a, some_size b))
resolved_size d ks (Not e) h = literal_is_less _ _ _ (omega (arith, some_size e))
resolved_size d ks (Logic op (Yes v) b) h = if_size _ (Yes v) b _ (omega (arith, some_size b)) (omega arith)
resolved_size d ks (Logic op a b) h = omega (arith, some_size a)
resolved_size d ks (Cond t a b) h = absurd (cc)
resolved_size d ks (Widen s e) h = literal_is_less _ _ _ (omega (arith, some_size e))
resolved_size d ks (Round mode s e) h = literal_is_less _ _ _ (omega (arith, some_size e))
resolved_size d ks (Div mode s a b) h = literal_is_less _ _ _ (omega (arith, some_size a, some_size b))
resolved_size d ks (Acc body n first) h = absurd (cc)

choice_size : (d : Declarations) (ks : List Kind) (e : Expression) → is_chosen e ≡ true → size (choice d ks e) < size e
choice_size d ks (Cond (Yes v) a b) h =
    let i = scale_of d a ks in
    let j = scale_of d b ks in
    if_size v (branch_at i (max i j) a) (branch_at j (max i j) b) _ (omega (arith, branch_size i (max i j) a, some_size b)) (omega (arith, branch_size j (max i j) b, some_size a))
choice_size d ks (Cond t a b) h = omega (arith, some_size t)
choice_size d ks (Acc body n first) h = omega (arith, some_size body)
choice_size d ks (Lit m s) h = absurd (cc)
choice_size d ks (Yes b) h = absurd (cc)
choice_size d ks (Var back) h = absurd (cc)
choice_size d ks (Obs l t) h = absurd (cc)
choice_size d ks (Neg e) h = absurd (cc)
choice_size d ks (Num op a b) h = absurd (cc)
choice_size d ks (Cmp op a b) h = absurd (cc)
choice_size d ks (Not e) h = absurd (cc)
choice_size d ks (Logic op a b) h = absurd (cc)
choice_size d ks (Widen s e) h = absurd (cc)
choice_size d ks (Round mode s e) h = absurd (cc)
choice_size d ks (Div mode s a b) h = absurd (cc)

-- the whole, once its parts are turned
abbrev IsRuled : Expression → Expression → Type 0
IsRuled y e = ((y ≡ e) × (is_plain_redex e ≡ false)) ⊎ (size y < size e)

ruled : (d : Declarations) (ks : List Kind) (e : Expression) → IsRuled (rule d ks e) e
ruled d ks e = at (has_literal_operands e) (is_chosen e) refl refl
  where
    at : (b c : Bool) → has_literal_operands e ≡ b → is_chosen e ≡ c → ((if b then resolved d ks e else (if c then choice d ks e else e)) ≡ e × ((b || c) ≡ false)) ⊎ (size (if b then resolved d ks e else (if c then choice d ks e else e)) < size e)
    at true c h k = inr (resolved_size d ks e h)
    at false true h k = inr (choice_size d ks e k)
    at false false h k = inl (refl, refl)

-- where parts of an expression are turned, x is the expression with the turned parts
whole : (d : Declarations) (ks : List Kind) (x e : Expression) (Parts : Type 0) → ((x ≡ e) × Parts) ⊎ (size x < size e) → (Parts → is_plain_redex e ≡ false → HasNoPlain e) → IsTurn (rule d ks x) e
whole d ks x e Parts (inr less) h =
    elim (ruled d ks x) [
      | inl same ↦ inr (subst (λ (y : Expression). size y < size e) (sym same.0) less)
      | inr smaller ↦ inr (omega (arith, smaller, less))
    ]
whole d ks x e Parts (inl same) h =
    elim (ruled d ks x) [
      | inl still ↦ inl (still.0 ∙ same.0, h same.1 (subst (λ (y : Expression). is_plain_redex y ≡ false) same.0 still.1))
      | inr smaller ↦ inr (subst (λ (y : Expression). size (rule d ks x) < size y) same.0 smaller)
    ]

of_one : (F : Expression → Expression) (n : ℕ) → ((e : Expression) → size (F e) ≡ size e + n) → (y e : Expression) → IsTurn y e → ((F y ≡ F e) × HasNoPlain e) ⊎ (size (F y) < size (F e))
of_one F n s y e (inl h) = inl (ap F h.0, h.1)
of_one F n s y e (inr h) = inr (omega (arith, s y, s e, h))

of_two : (F : Expression → Expression → Expression) (n : ℕ) → ((a b : Expression) → size (F a b) ≡ size a + size b + n) → (y a z b : Expression) → IsTurn y a → IsTurn z b → ((F y z ≡ F a b) × (HasNoPlain a × HasNoPlain b)) ⊎ (size (F y z) < size (F a b))
of_two F n s y a z b (inl h) (inl k) = inl (ap₂ F h.0 k.0, (h.1, k.1))
of_two F n s y a z b (inl h) (inr k) = inr (omega (arith, s y z, s a b, ap size h.0, k))
of_two F n s y a z b (inr h) (inl k) = inr (omega (arith, s y z, s a b, ap size k.0, h))
of_two F n s y a z b (inr h) (inr k) = inr (omega (arith, s y z, s a b, h, k))

of_three : (x t y a z b : Expression) → IsTurn x t → IsTurn y a → IsTurn z b → ((Cond x y z ≡ Cond t a b) × (HasNoPlain t × HasNoPlain a × HasNoPlain b)) ⊎ (size (Cond x y z) < size (Cond t a b))
of_three x t y a z b (inl g) (inl h) (inl k) = inl (cc (g.0, h.0, k.0), (g.1, h.1, k.1))
of_three x t y a z b (inl g) (inl h) (inr k) = inr (omega (arith, ap size g.0, ap size h.0, k))
of_three x t y a z b (inl g) (inr h) (inl k) = inr (omega (arith, ap size g.0, h, ap size k.0))
of_three x t y a z b (inl g) (inr h) (inr k) = inr (omega (arith, ap size g.0, h, k))
of_three x t y a z b (inr g) (inl h) (inl k) = inr (omega (arith, g, ap size h.0, ap size k.0))
of_three x t y a z b (inr g) (inl h) (inr k) = inr (omega (arith, g, ap size h.0, k))
of_three x t y a z b (inr g) (inr h) (inl k) = inr (omega (arith, g, h, ap size k.0))
of_three x t y a z b (inr g) (inr h) (inr k) = inr (omega (arith, g, h, k))

pub turns_end : TurnsEnd
turns_end d (Lit m s) ks = inl (refl, tt)
turns_end d (Yes b) ks = inl (refl, tt)
turns_end d (Var back) ks = inl (refl, tt)
turns_end d (Obs l t) ks = inl (refl, tt)
turns_end d (Neg e) ks = whole d ks _ (Neg e) _ (of_one Neg 1 (λ _. refl) _ e (turns_end d e ks)) (λ p r. (p, r))
turns_end d (Num op a b) ks = whole d ks _ (Num op a b) _ (of_two (Num op) 1 (λ _ _. refl) _ a _ b (turns_end d a ks) (turns_end d b ks)) (λ p r. (p.0, p.1, r))
turns_end d (Cmp op a b) ks = whole d ks _ (Cmp op a b) _ (of_two (Cmp op) 1 (λ _ _. refl) _ a _ b (turns_end d a ks) (turns_end d b ks)) (λ p r. (p.0, p.1, r))
turns_end d (Not e) ks = whole d ks _ (Not e) _ (of_one Not 1 (λ _. refl) _ e (turns_end d e ks)) (λ p r. (p, r))
turns_end d (Logic op a b) ks = whole d ks _ (Logic op a b) _ (of_two (Logic op) 1 (λ _ _. refl) _ a _ b (turns_end d a ks) (turns_end d b ks)) (λ p r. (p.0, p.1, r))
turns_end d (Cond t a b) ks = whole d ks _ (Cond t a b) _ (of_three _ t _ a _ b (turns_end d t ks) (turns_end d a ks) (turns_end d b ks)) (λ p r. (p.0, p.1, p.2, r))
turns_end d (Widen s e) ks = whole d ks _ (Widen s e) _ (of_one (Widen s) 1 (λ _. refl) _ e (turns_end d e ks)) (λ p r. (p, r))
turns_end d (Round mode s e) ks = whole d ks _ (Round mode s e) _ (of_one (Round mode s) 1 (λ _. refl) _ e (turns_end d e ks)) (λ p r. (p, r))
turns_end d (Div mode s a b) ks = whole d ks _ (Div mode s a b) _ (of_two (Div mode s) 1 (λ _ _. refl) _ a _ b (turns_end d a ks) (turns_end d b ks)) (λ p r. (p.0, p.1, r))
turns_end d (Acc body n first) ks =
    whole d ks _ (Acc body n first) _ (of_two (λ x y. Acc x n y) 1 (λ _ _. refl) _ body _ first (turns_end d body (kind_or (kind_of d first ks) ∷ ks)) (turns_end d first ks)) (λ p r. (p.0, p.1, r))
