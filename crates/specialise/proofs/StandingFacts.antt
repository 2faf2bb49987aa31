-- What stands in an accepted contract is low, and may be evaluated where it uses no name from outside.
use Rattle.std.proofs.Common.{◌≡◌, ◌≤◌, ◌+◌, ◌<◌, ℕ, zero, suc, ℤ, true, IsTrue, inl, inr, Option, Some, None, is_some, List, [], ◌∷◌, length, slice_get, refl, ap, arith}
use Rattle.std.proofs.lemmas.Bool.Decides.{nat_tests}
use Rattle.term_model.specs.Declarations.{Declarations}
use Rattle.term_model.specs.declared.name.Name.{Name}
use Rattle.term_model.specs.declared.label.Label.{Label}
use Rattle.term_model.specs.Environments.{label_of}
use Rattle.term_model.specs.Kinds.{kind_of_label}
use Rattle.term_core.specs.SharedTerms.{HasOffsets}
use Rattle.term_model.specs.Terms.{Expression, Lit, Yes, Var, Obs, Neg, Num, Cmp, Not, Logic, Cond, Widen, Round, Div, Acc}
use Rattle.term_model.specs.Terms.{Contract, Zero, Pay, Both, Scale, After, Let, Within}
use Rattle.term_model.specs.Shifts.{shifted}
use Rattle.term_model.specs.Sizes.{height, height_of_contract, nodes_of_contract, reach, past_of_contract, work_of_contract}
use Rattle.term_model.specs.Smallness.{is_small, within_limits, days_of_contract}
use Rattle.term_model.specs.WellFormed.{IsWellFormed}
use Rattle.term_model.specs.Redexes.{names_within}
use Rattle.term_model.specs.Acceptance.{IsAccepted}
use Rattle.term_model.specs.Bounds.{Range}
use Rattle.term_model.proofs.AlikeFacts.{and_left, and_right}
use Rattle.term_model.proofs.TimeFacts.{whole_passes}
use Rattle.interval_check.specs.Nodes.{range_of, range_after, IsSorted}
use Rattle.interval_check.proofs.GuaranteeFacts.{accepted_meet_rules, parts_meet_rules}
use Rattle.interval_check.specs.Parts.{IsPart, StandsIn}
use Rattle.expr_eval.specs.declared.scratch.Binding.{Binding}
use Rattle.expr_eval.specs.Evaluable.{MayEvaluate}
use Rattle.specialise.specs.Specialisable.{MaySpecialise}
use Rattle.rewriting.proofs.ShiftedSizes.{shifted_height}

height_of_part : (e x : Expression) → IsPart e x → height e ≤ height x
height_of_part e (Lit m s) p = let q = ap height p in omega arith
height_of_part e (Yes b) p = let q = ap height p in omega arith
height_of_part e (Var back) p = let q = ap height p in omega arith
height_of_part e (Obs l t) p = let q = ap height p in omega arith
height_of_part e (Neg a) (inl p) = let q = ap height p in omega arith
height_of_part e (Neg a) (inr p) = let q = height_of_part e a p in omega arith
height_of_part e (Num op a b) (inl p) = let q = ap height p in omega arith
height_of_part e (Num op a b) (inr (inl p)) = let q = height_of_part e a p in omega arith
height_of_part e (Num op a b) (inr (inr p)) = let q = height_of_part e b p in omega arith
height_of_part e (Cmp op a b) (inl p) = let q = ap height p in omega arith
height_of_part e (Cmp op a b) (inr (inl p)) = let q = height_of_part e a p in omega arith
height_of_part e (Cmp op a b) (inr (inr p)) = let q = height_of_part e b p in omega arith
height_of_part e (Not a) (inl p) = let q = ap height p in omega arith
height_of_part e (Not a) (inr p) = let q = height_of_part e a p in omega arith
height_of_part e (Logic op a b) (inl p) = let q = ap height p in omega arith
height_of_part e (Logic op a b) (inr (inl p)) = let q = height_of_part e a p in omega arith
height_of_part e (Logic op a b) (inr (inr p)) = let q = height_of_part e b p in omega arith
height_of_part e (Cond t a b) (inl p) = let q = ap height p in omega arith
height_of_part e (Cond t a b) (inr (inl p)) = let q = height_of_part e t p in omega arith
height_of_part e (Cond t a b) (inr (inr (inl p))) = let q = height_of_part e a p in omega arith
height_of_part e (Cond t a b) (inr (inr (inr p))) = let q = height_of_part e b p in omega arith
height_of_part e (Widen s a) (inl p) = let q = ap height p in omega arith
height_of_part e (Widen s a) (inr p) = let q = height_of_part e a p in omega arith
height_of_part e (Round mode s a) (inl p) = let q = ap height p in omega arith
height_of_part e (Round mode s a) (inr p) = let q = height_of_part e a p in omega arith
height_of_part e (Div mode s a b) (inl p) = let q = ap height p in omega arith
height_of_part e (Div mode s a b) (inr (inl p)) = let q = height_of_part e a p in omega arith
height_of_part e (Div mode s a b) (inr (inr p)) = let q = height_of_part e b p in omega arith
height_of_part e (Acc body n first) (inl p) = let q = ap height p in omega arith
height_of_part e (Acc body n first) (inr p) = let q = height_of_part e first p in omega arith

height_of_standing : (d : Declarations) (e : Expression) (h : List Range) (c : Contract) (g : List Range) → StandsIn d e h c g → height e ≤ height_of_contract c
height_of_standing d e h Zero g p = absurd p
height_of_standing d e h (Pay a x y) g p = absurd p
height_of_standing d e h (Both a b) g (inl p) = let q = height_of_standing d e h a g p in omega arith
height_of_standing d e h (Both a b) g (inr p) = let q = height_of_standing d e h b g p in omega arith
height_of_standing d e h (Scale x c) g (inl p) = let q = height_of_part e x p.part in omega arith
height_of_standing d e h (Scale x c) g (inr p) = let q = height_of_standing d e h c g p in omega arith
height_of_standing d e h (After n c) g p = let q = height_of_standing d e h c g p in omega arith
height_of_standing d e h (Let x c) g (inl p) = let q = height_of_part e x p.part in omega arith
height_of_standing d e h (Let x c) g (inr p) = let q = height_of_standing d e h c (range_of d x g ∷ g) p in omega arith
height_of_standing d e h (Within x n a b) g (inl p) = let q = height_of_part e x p.part in omega arith
height_of_standing d e h (Within x n a b) g (inr (inl p)) = let q = height_of_standing d e h a g p in omega arith
height_of_standing d e h (Within x n a b) g (inr (inr p)) = let q = height_of_standing d e h b g p in omega arith

low_within : (h n days far back steps : ℕ) → IsTrue (within_limits h n days far back steps) → h ≤ 200
low_within h n days far back steps p = grind (arith, nat_tests)

low_contract : (d : Declarations) (c : Contract) → IsAccepted d c → height_of_contract c ≤ 200
low_contract d c h =
    low_within (height_of_contract c) (nodes_of_contract c) (days_of_contract c) (reach c) (past_of_contract c) (work_of_contract c) (whole_passes (λ s. IsTrue (is_small s)) c [] 0 h.sizes)

pub is_low : (d : Declarations) (e : Expression) → MaySpecialise d e → height e ≤ 200
is_low d e h =
    let whole = low_contract d h.part.contract h.part.accepted in
    let here = height_of_standing d (shifted h.moved e) h.part.ranges h.part.contract [] h.part.stands in
    let same = shifted_height h.moved e in
    omega (arith, whole, here, same)

-- a label of a kind is declared
is_there : {A : Type 0} (xs : List A) (i : ℕ) → IsTrue (is_some (slice_get xs i)) → i < length xs
is_there [] i h = absurd (cc)
is_there (x ∷ xs) zero h = omega arith
is_there (x ∷ xs) (suc i) h = let p = is_there xs i h in omega (arith, p)

label_there : (d : Declarations) (l : ℕ) → IsTrue (is_some (kind_of_label (label_of d l))) → l < length d.labels
label_there d l h = is_there d.labels l (at (slice_get d.labels l) h)
  where
    at : (o : Option (Name × Label)) → IsTrue (is_some (kind_of_label (elim o as (λ x. Option Label) [ Some e ↦ Some e.1 | None ↦ None ]))) → IsTrue (is_some o)
    at (Some e) h = refl
    at None h = absurd (cc)

-- so what is sorted is well formed, where its offsets are within their limit and its names are bound
sorted_formed : (d : Declarations) (e : Expression) (m : ℤ) (g : List Range) (k : ℕ) → IsSorted d (shifted m e) g → HasOffsets e → names_within k e ≡ true → IsWellFormed d k e
sorted_formed d (Lit x s) m g k h o i = tt
sorted_formed d (Yes b) m g k h o i = tt
sorted_formed d (Var back) m g k h o i = grind (arith, nat_tests)
sorted_formed d (Obs l t) m g k h o i = (label_there d l h, o)
sorted_formed d (Neg e) m g k h o i = sorted_formed d e m g k h.0 o i
sorted_formed d (Num op a b) m g k h o i = (sorted_formed d a m g k h.0 o.0 (and_left _ _ i), sorted_formed d b m g k h.1 o.1 (and_right (names_within k a) _ i))
sorted_formed d (Cmp op a b) m g k h o i = (sorted_formed d a m g k h.0 o.0 (and_left _ _ i), sorted_formed d b m g k h.1 o.1 (and_right (names_within k a) _ i))
sorted_formed d (Not e) m g k h o i = sorted_formed d e m g k h.0 o i
sorted_formed d (Logic op a b) m g k h o i = (sorted_formed d a m g k h.0 o.0 (and_left _ _ i), sorted_formed d b m g k h.1 o.1 (and_right (names_within k a) _ i))
sorted_formed d (Cond t a b) m g k h o i =
    let rest = and_right (names_within k t) _ i in
    (sorted_formed d t m g k h.0 o.0 (and_left _ _ i), sorted_formed d a m g k h.1 o.1 (and_left _ _ rest), sorted_formed d b m g k h.2 o.2 (and_right (names_within k a) _ rest))
sorted_formed d (Widen s e) m g k h o i = sorted_formed d e m g k h.0 o i
sorted_formed d (Round mode s e) m g k h o i = sorted_formed d e m g k h.0 o i
sorted_formed d (Div mode s a b) m g k h o i = (sorted_formed d a m g k h.0 o.0 (and_left _ _ i), sorted_formed d b m g k h.1 o.1 (and_right (names_within k a) _ i))
sorted_formed d (Acc body n first) m g k h o i =
    (sorted_formed d body m (range_after d (shifted m body) 0 (shifted m first) g ∷ g) (k + 1) h.1.0 o.0 (and_left _ _ i), sorted_formed d first m g k h.0 o.1 (and_right (names_within (k + 1) body) _ i))

-- so an expression may be evaluated without entries where it uses no name from outside
pub closed_may_evaluate : (d : Declarations) (e : Expression) (bs : List Binding) → MaySpecialise d e → bs ≡ [] → names_within 0 e ≡ true → MayEvaluate d e bs
closed_may_evaluate d e bs h none i =
    let p = h.part in
    let rules = parts_meet_rules d (shifted h.moved e) p.ranges p.contract [] p.stands (accepted_meet_rules d p.contract p.accepted) in
    record {
      contract = p.contract;
      moved = h.moved;
      ranges = p.ranges;
      accepted = p.accepted;
      stands = p.stands;
      entries = inr (record { empty = none; closed = sorted_formed d e h.moved p.ranges 0 rules.sorts h.offsets i });
    }
