-- A turn sees no offsets.
use Rattle.std.proofs.Common.{◌≡◌, ℕ, ℤ, max, nat_lt, ◌&&◌, Bool, true, false, if◌then◌else◌, Option, List, ◌∷◌, refl, ap, ap₂, ◌∙◌}
use Rattle.term_model.specs.Declarations.{Declarations}
use Rattle.term_model.specs.declared.values.Kind.{Kind}
use Rattle.term_model.specs.Terms.{Expression, Lit, Yes, Var, Obs, Neg, Num, Cmp, Not, Logic, Cond, Widen, Round, Div, Acc}
use Rattle.term_model.specs.Kinds.{kind_of, scale_of, scale_or_zero}
use Rattle.term_model.specs.Values.{kind_or}
use Rattle.term_model.specs.Reads.{decides}
use Rattle.term_model.specs.Redexes.{is_literal, has_literal_operands}
use Rattle.term_model.specs.Shifts.{shifted}
use Rattle.term_model.proofs.ShiftFacts.{kind-shifted}
use Rattle.rewriting.specs.Replacing.{branch_at}
use Rattle.simplify.specs.Turning.{is_chosen, resolved, choice, rule, turned}
use Rattle.simplify.specs.LawsTurnShifts.{TurnsSeeNoOffsets}
use Rattle.simplify.proofs.OffsetFacts.{offsets_turned}

literal-shifted : (e : Expression) (k : ℤ) → is_literal (shifted k e) ≡ is_literal e
literal-shifted (Lit m s) k = refl
literal-shifted (Yes v) k = refl
literal-shifted (Var back) k = refl
literal-shifted (Obs l t) k = refl
literal-shifted (Neg x) k = refl
literal-shifted (Num op a b) k = refl
literal-shifted (Cmp op a b) k = refl
literal-shifted (Not x) k = refl
literal-shifted (Logic op a b) k = refl
literal-shifted (Cond t a b) k = refl
literal-shifted (Widen s x) k = refl
literal-shifted (Round mode s x) k = refl
literal-shifted (Div mode s a b) k = refl
literal-shifted (Acc body n first) k = refl

operands-shifted : (e : Expression) (k : ℤ) → has_literal_operands (shifted k e) ≡ has_literal_operands e
operands-shifted (Neg x) k = literal-shifted x k
operands-shifted (Num op a b) k = ap₂ (λ (p q : Bool). p && q) (literal-shifted a k) (literal-shifted b k)
operands-shifted (Cmp op a b) k = ap₂ (λ (p q : Bool). p && q) (literal-shifted a k) (literal-shifted b k)
operands-shifted (Not x) k = literal-shifted x k
operands-shifted (Logic op a b) k = literal-shifted a k
operands-shifted (Widen s x) k = literal-shifted x k
operands-shifted (Round mode s x) k = literal-shifted x k
operands-shifted (Div mode s a b) k = ap₂ (λ (p q : Bool). p && q) (literal-shifted a k) (literal-shifted b k)
operands-shifted (Lit m s) k = refl
operands-shifted (Yes v) k = refl
operands-shifted (Var back) k = refl
operands-shifted (Obs l t) k = refl
operands-shifted (Cond t a b) k = refl
operands-shifted (Acc body n first) k = refl

chosen-shifted : (e : Expression) (k : ℤ) → is_chosen (shifted k e) ≡ is_chosen e
chosen-shifted (Cond t a b) k = literal-shifted t k
chosen-shifted (Lit m s) k = refl
chosen-shifted (Yes v) k = refl
chosen-shifted (Var back) k = refl
chosen-shifted (Obs l t) k = refl
chosen-shifted (Neg x) k = refl
chosen-shifted (Num op a b) k = refl
chosen-shifted (Cmp op a b) k = refl
chosen-shifted (Not x) k = refl
chosen-shifted (Logic op a b) k = refl
chosen-shifted (Widen s x) k = refl
chosen-shifted (Round mode s x) k = refl
chosen-shifted (Div mode s a b) k = refl
chosen-shifted (Acc body n first) k = refl

if-shifted : (c : Bool) (x y : Expression) (k : ℤ) → (if c then shifted k x else shifted k y) ≡ shifted k (if c then x else y)
if-shifted true x y k = refl
if-shifted false x y k = refl

resolved-shifted : (d : Declarations) (ks : List Kind) (e : Expression) (k : ℤ) → has_literal_operands e ≡ true → resolved d ks (shifted k e) ≡ shifted k (resolved d ks e)
resolved-shifted d ks (Neg (Lit m i)) k h = refl
resolved-shifted d ks (Neg (Yes v)) k h = refl
resolved-shifted d ks (Neg x) k h = absurd (cc)
resolved-shifted d ks (Not (Lit m i)) k h = refl
resolved-shifted d ks (Not (Yes v)) k h = refl
resolved-shifted d ks (Not x) k h = absurd (cc)
resolved-shifted d ks (Widen s (Lit m i)) k h = refl
resolved-shifted d ks (Widen s (Yes v)) k h = refl
resolved-shifted d ks (Widen s x) k h = absurd (cc)
resolved-shifted d ks (Round mode s (Lit m i)) k h = refl
resolved-shifted d ks (Round mode s (Yes v)) k h = refl
resolved-shifted d ks (Round mode s x) k h = absurd (cc)
resolved-shifted d ks (Num op (Lit m i) (Lit n j)) k h = refl
resolved-shifted d ks (Num op (Lit m i) (Yes w)) k h = refl
resolved-shifted d ks (Num op (Yes v) (Lit n j)) k h = refl
resolved-shifted d ks (Num op (Yes v) (Yes w)) k h = refl
resolved-shifted d ks (Num op x y) k h = absurd (cc)
resolved-shifted d ks (Cmp op (Lit m i) (Lit n j)) k h = refl
resolved-shifted d ks (Cmp op (Lit m i) (Yes w)) k h = refl
resolved-shifted d ks (Cmp op (Yes v) (Lit n j)) k h = refl
resolved-shifted d ks (Cmp op (Yes v) (Yes w)) k h = refl
resolved-shifted d ks (Cmp op x y) k h = absurd (cc)
resolved-shifted d ks (Div mode s (Lit m i) (Lit n j)) k h = refl
resolved-shifted d ks (Div mode s (Lit m i) (Yes w)) k h = refl
resolved-shifted d ks (Div mode s (Yes v) (Lit n j)) k h = refl
resolved-shifted d ks (Div mode s (Yes v) (Yes w)) k h = refl
resolved-shifted d ks (Div mode s x y) k h = absurd (cc)
resolved-shifted d ks (Logic op (Yes v) b) k h = if-shifted (decides op v) (Yes v) b k
resolved-shifted d ks (Logic op (Lit m i) b) k h = refl
resolved-shifted d ks (Logic op x b) k h = absurd (cc)
resolved-shifted d ks (Lit m s) k h = absurd (cc)
resolved-shifted d ks (Yes v) k h = absurd (cc)
resolved-shifted d ks (Var back) k h = absurd (cc)
resolved-shifted d ks (Obs l t) k h = absurd (cc)
resolved-shifted d ks (Cond t a b) k h = absurd (cc)
resolved-shifted d ks (Acc body n first) k h = absurd (cc)

branch-shifted : (i s : ℕ) (e : Expression) (k : ℤ) → branch_at i s (shifted k e) ≡ shifted k (branch_at i s e)
branch-shifted i s e k = if-shifted (nat_lt i s) (Widen s e) e k

scale-shifted : (d : Declarations) (e : Expression) (ks : List Kind) (k : ℤ) → scale_of d (shifted k e) ks ≡ scale_of d e ks
scale-shifted d e ks k = ap scale_or_zero (kind-shifted d e k ks)

choice-shifted : (d : Declarations) (ks : List Kind) (e : Expression) (k : ℤ) → is_chosen e ≡ true → choice d ks (shifted k e) ≡ shifted k (choice d ks e)
choice-shifted d ks (Cond (Yes true) a b) k h =
    ap₂ (λ (i j : ℕ). branch_at i (max i j) (shifted k a)) (scale-shifted d a ks k) (scale-shifted d b ks k) ∙ branch-shifted (scale_of d a ks) (max (scale_of d a ks) (scale_of d b ks)) a k
choice-shifted d ks (Cond (Yes false) a b) k h =
    ap₂ (λ (i j : ℕ). branch_at j (max i j) (shifted k b)) (scale-shifted d a ks k) (scale-shifted d b ks k) ∙ branch-shifted (scale_of d b ks) (max (scale_of d a ks) (scale_of d b ks)) b k
choice-shifted d ks (Cond (Lit m i) a b) k h = refl
choice-shifted d ks (Cond t a b) k h = absurd (cc)
choice-shifted d ks (Acc body n first) k h = refl
choice-shifted d ks (Lit m s) k h = absurd (cc)
choice-shifted d ks (Yes v) k h = absurd (cc)
choice-shifted d ks (Var back) k h = absurd (cc)
choice-shifted d ks (Obs l t) k h = absurd (cc)
choice-shifted d ks (Neg x) k h = absurd (cc)
choice-shifted d ks (Num op a b) k h = absurd (cc)
choice-shifted d ks (Cmp op a b) k h = absurd (cc)
choice-shifted d ks (Not x) k h = absurd (cc)
choice-shifted d ks (Logic op a b) k h = absurd (cc)
choice-shifted d ks (Widen s x) k h = absurd (cc)
choice-shifted d ks (Round mode s x) k h = absurd (cc)
choice-shifted d ks (Div mode s a b) k h = absurd (cc)

rule-shifted : (d : Declarations) (ks : List Kind) (e : Expression) (k : ℤ) → rule d ks (shifted k e) ≡ shifted k (rule d ks e)
rule-shifted d ks e k = at (has_literal_operands (shifted k e)) (has_literal_operands e) (is_chosen (shifted k e)) (is_chosen e) (operands-shifted e k) (chosen-shifted e k) refl refl
  where
    at : (p q s t : Bool) → p ≡ q → s ≡ t → has_literal_operands e ≡ q → is_chosen e ≡ t
        → (if p then resolved d ks (shifted k e) else (if s then choice d ks (shifted k e) else shifted k e)) ≡ shifted k (if q then resolved d ks e else (if t then choice d ks e else e))
    at true true s t i j x y = resolved-shifted d ks e k x
    at true false s t i j x y = absurd (cc)
    at false true s t i j x y = absurd (cc)
    at false false true true i j x y = choice-shifted d ks e k y
    at false false true false i j x y = absurd (cc)
    at false false false true i j x y = absurd (cc)
    at false false false false i j x y = refl

pub turns-shifted : TurnsSeeNoOffsets
turns-shifted d (Lit m s) ks k = refl
turns-shifted d (Yes v) ks k = refl
turns-shifted d (Var back) ks k = refl
turns-shifted d (Obs l t) ks k = refl
turns-shifted d (Neg x) ks k = ap (λ (y : Expression). rule d ks (Neg y)) (turns-shifted d x ks k) ∙ rule-shifted d ks (Neg (turned d ks x)) k
turns-shifted d (Not x) ks k = ap (λ (y : Expression). rule d ks (Not y)) (turns-shifted d x ks k) ∙ rule-shifted d ks (Not (turned d ks x)) k
turns-shifted d (Widen s x) ks k = ap (λ (y : Expression). rule d ks (Widen s y)) (turns-shifted d x ks k) ∙ rule-shifted d ks (Widen s (turned d ks x)) k
turns-shifted d (Round mode s x) ks k = ap (λ (y : Expression). rule d ks (Round mode s y)) (turns-shifted d x ks k) ∙ rule-shifted d ks (Round mode s (turned d ks x)) k
turns-shifted d (Num op a b) ks k = ap₂ (λ (x y : Expression). rule d ks (Num op x y)) (turns-shifted d a ks k) (turns-shifted d b ks k) ∙ rule-shifted d ks (Num op (turned d ks a) (turned d ks b)) k
turns-shifted d (Cmp op a b) ks k = ap₂ (λ (x y : Expression). rule d ks (Cmp op x y)) (turns-shifted d a ks k) (turns-shifted d b ks k) ∙ rule-shifted d ks (Cmp op (turned d ks a) (turned d ks b)) k
turns-shifted d (Logic op a b) ks k = ap₂ (λ (x y : Expression). rule d ks (Logic op x y)) (turns-shifted d a ks k) (turns-shifted d b ks k) ∙ rule-shifted d ks (Logic op (turned d ks a) (turned d ks b)) k
turns-shifted d (Div mode s a b) ks k = ap₂ (λ (x y : Expression). rule d ks (Div mode s x y)) (turns-shifted d a ks k) (turns-shifted d b ks k) ∙ rule-shifted d ks (Div mode s (turned d ks a) (turned d ks b)) k
turns-shifted d (Cond t a b) ks k =
    ap₂ (λ (x y : Expression). rule d ks (Cond x y (turned d ks (shifted k b)))) (turns-shifted d t ks k) (turns-shifted d a ks k)
    ∙ ap (λ (z : Expression). rule d ks (Cond (shifted k (turned d ks t)) (shifted k (turned d ks a)) z)) (turns-shifted d b ks k)
    ∙ rule-shifted d ks (Cond (turned d ks t) (turned d ks a) (turned d ks b)) k
turns-shifted d (Acc body n first) ks k =
    let js = kind_or (kind_of d first ks) ∷ ks in
    ap (λ (o : Option Kind). rule d ks (Acc (turned d (kind_or o ∷ ks) (shifted k body)) n (turned d ks (shifted k first)))) (kind-shifted d first k ks)
    ∙ ap₂ (λ (x y : Expression). rule d ks (Acc x n y)) (turns-shifted d body js k) (turns-shifted d first ks k)
    ∙ rule-shifted d ks (Acc (turned d js body) n (turned d ks first)) k

pub turned_shifted : (d : Declarations) (ks : List Kind) (k : ℤ) (e : Expression) → turned d ks (shifted k e) ≡ shifted k (turned d ks e)
turned_shifted d ks k e = turns-shifted d e ks k

-- what follows for a turn of a stored expression
pub ruleset for_stored = (offsets_turned, turned_shifted)
