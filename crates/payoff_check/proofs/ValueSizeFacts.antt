-- The trial of the size of a value expression at a setting finds the first node that breaks the rule on sizes, and else its
-- size.
use Rattle.std.proofs.Common.{◌≡◌, ℕ, zero, ◌+◌, Bool, ◌&&◌, nat_le, List, [], ◌∷◌, ◌++◌, Ok, refl, ap, subst, arith}
use Rattle.std.proofs.Math.Bool.{and-true}
use Rattle.term_model.specs.Terms.{Expression, Lit, Yes, Var, Obs, Neg, Num, Cmp, Not, Logic, Cond, Widen, Round, Div, Acc}
use Rattle.term_model.specs.Sizes.{nodes}
use Rattle.term_model.specs.Sites.{Site, Layer, Counting, Earlier, Once, sites_of, expression_at}
use Rattle.scale_check.proofs.Finding.{Finds, here}
use Rattle.scale_check.proofs.Measuring.{Is, node, one_finds, two_find, three_find}
use Rattle.payoff_terms.specs.CodeAcceptance.{value_is_small, is_date}
use Rattle.payoff_check.specs.declared.part_sizes.ValueSize.{ValueSize}
use Rattle.payoff_check.proofs.DateFreeFacts.{size_of}
use Rattle.payoff_check.specs.SizeTrials.{Answer, leaf, over_one, over_two, over_three, over_days, value_fits, one_tried, two_tried, size_tried}

abbrev pub is_small : Site → Bool
is_small s = value_is_small s.part

-- what the rule asks of a size with a count of days
abbrev pub is_within : ℕ → ValueSize → Bool
is_within days s = value_fits s && nat_le days 100_000

abbrev pub SizeFinds : Expression → Type 0
SizeFinds e = (r : List Layer) (k : ℕ) → Finds is_small (sites_of Once e r k) k (Is (size_of e)) (size_tried e)

one : (e whole : Expression) (r : List Layer) (k : ℕ) → is_small (expression_at k r whole) ≡ is_within 0 (size_of whole) → over_one (size_of e) ≡ size_of whole → SizeFinds e → Finds is_small (sites_of Once e r (k + 1) ++ expression_at k r whole ∷ []) k (Is (size_of whole)) (one_tried (size_tried e))
one e whole r k t q h =
    one_finds is_small (is_within 0) over_one (sites_of Once e r (k + 1)) (expression_at k r whole) k (size_of e) (size_of whole) (size_tried e) refl t q (h r (k + 1))

two : (a b whole : Expression) (r : List Layer) (k : ℕ) → is_small (expression_at k r whole) ≡ is_within 0 (size_of whole) → over_two (size_of a) (size_of b) ≡ size_of whole → SizeFinds a → SizeFinds b → Finds is_small (sites_of Once a r (k + 1) ++ (sites_of Once b r (k + 1 + nodes a) ++ expression_at k r whole ∷ [])) k (Is (size_of whole)) (two_tried (nodes a) (size_tried a) (size_tried b))
two a b whole r k t q ha hb =
    let j : ℕ = k + 1 + nodes a in
    two_find is_small (is_within 0) over_two (sites_of Once a r (k + 1)) (sites_of Once b r j) (expression_at k r whole) k (k + 1) j 1 (1 + nodes a) (size_of a) (size_of b) (size_of whole) (size_tried a) (size_tried b)
    refl t q refl (omega arith) (ha r (k + 1)) (hb r j)

choice : (t a b : Expression) → SizeFinds t → SizeFinds a → SizeFinds b → SizeFinds (Cond t a b)
choice t a b ht ha hb r k =
    let i : ℕ = k + 1 + nodes t in
    let j : ℕ = k + 1 + nodes t + nodes a in
    let e : Expression = Cond t a b in
    three_find is_small (is_within 0) over_three (sites_of Once t r (k + 1)) (sites_of Once a r i) (sites_of Once b r j) (expression_at k r e) k (nodes t) (nodes a) (size_of t) (size_of a) (size_of b) (size_of e) (size_tried t) (size_tried a) (size_tried b)
    refl refl refl (ht r (k + 1)) (ha r i) (hb r j)

over_some_days : (body : Expression) (n : ℕ) (first : Expression) → SizeFinds body → SizeFinds first → SizeFinds (Acc body n first)
over_some_days body n first hb hf r k =
    let i : ℕ = k + 1 + nodes body in
    let e : Expression = Acc body n first in
    let l : List Layer = Counting body zero first ∷ r in
    two_find is_small (is_within n) (λ (x y : ValueSize). over_days y n x) (sites_of Once first (Earlier n ∷ r) i) (sites_of Once body l (k + 1)) (expression_at k r e) k i (k + 1) (1 + nodes body) 1 (size_of first) (size_of body) (size_of e) (size_tried first) (size_tried body)
    refl (ap (λ (b : Bool). value_fits (size_of e) && b) (and-true (nat_le n 100_000))) refl (omega arith) refl (hf (Earlier n ∷ r) i) (hb l (k + 1))

pub size_finds : (e : Expression) → SizeFinds e
size_finds (Lit m s) r k = node is_small (is_within 0) (expression_at k r (Lit m s)) k leaf leaf refl refl refl
size_finds (Yes b) r k = node is_small (is_within 0) (expression_at k r (Yes b)) k leaf leaf refl refl refl
size_finds (Var back) r k = node is_small (is_within 0) (expression_at k r (Var back)) k leaf leaf refl refl refl
size_finds (Obs l t) r k = here is_small (expression_at k r (Obs l t)) k (Is leaf) (is_date t) leaf refl refl (λ _. refl)
size_finds (Neg e) r k = one e (Neg e) r k refl refl (size_finds e)
size_finds (Num op a b) r k = two a b (Num op a b) r k refl refl (size_finds a) (size_finds b)
size_finds (Cmp op a b) r k = two a b (Cmp op a b) r k refl refl (size_finds a) (size_finds b)
size_finds (Not e) r k = one e (Not e) r k refl refl (size_finds e)
size_finds (Logic op a b) r k = two a b (Logic op a b) r k refl refl (size_finds a) (size_finds b)
size_finds (Cond t a b) r k = choice t a b (size_finds t) (size_finds a) (size_finds b) r k
size_finds (Widen s e) r k = one e (Widen s e) r k refl refl (size_finds e)
size_finds (Round mode s e) r k = one e (Round mode s e) r k refl refl (size_finds e)
size_finds (Div mode s a b) r k = two a b (Div mode s a b) r k refl refl (size_finds a) (size_finds b)
size_finds (Acc body n first) r k = over_some_days body n first (size_finds body) (size_finds first) r k

-- a size that is found is that of the expression
pub size_there : (e : Expression) (s : ValueSize) → size_tried e ≡ Ok s → s ≡ size_of e
size_there e s h =
    let q : Finds is_small (sites_of Once e [] 0) 0 (Is (size_of e)) (Ok s) = subst (λ (a : Answer). Finds is_small (sites_of Once e [] 0) 0 (Is (size_of e)) a) h (size_finds e [] 0) in
    q.1
