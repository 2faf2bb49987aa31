-- An expression of which each node has a kind has one itself.
use Rattle.std.proofs.Common.{◌≡◌, ℕ, zero, ◌+◌, List, [], ◌∷◌, ◌++◌, Option, Some, None, IsTrue, is_some, refl}
use Rattle.term_model.specs.Declarations.{Declarations}
use Rattle.term_model.specs.declared.values.Kind.{Kind}
use Rattle.term_model.specs.declared.rules.Rule.TheVariants.{Sort}
use Rattle.term_model.specs.Terms.{Expression, Lit, Yes, Var, Obs, Neg, Num, Cmp, Not, Logic, Cond, Widen, Round, Div, Acc}
use Rattle.term_model.specs.Kinds.{kind_of}
use Rattle.term_model.specs.Sites.{Site, Layer, Earlier, Counting, Once, sites_of, expression_at, kinds_round, AllPass}
use Rattle.term_model.specs.Sizes.{nodes}
use Rattle.term_model.specs.Acceptance.{Passes}
use Rattle.term_model.proofs.Trials.{AllPass-right}

pub record HasKind (v : Option Kind) : Type 0 where
  pub kind : Kind
  pub has : v ≡ Some kind

some_kind : (v : Option Kind) → IsTrue (is_some v) → HasKind v
some_kind None h = absurd (cc)
some_kind (Some x) h = record { kind = x; has = refl }

abbrev Whole : Declarations → Expression → List Layer → ℕ → Type 0
Whole d e r k = Passes d Sort (expression_at k r e)

last : (d : Declarations) (xs : List Site) (s : Site) → AllPass (Passes d Sort) (xs ++ s ∷ []) → Passes d Sort s
last d xs s h = let q = AllPass-right (Passes d Sort) xs (s ∷ []) h in q.0

last_of_two : (d : Declarations) (xs ys : List Site) (s : Site) → AllPass (Passes d Sort) (xs ++ (ys ++ s ∷ [])) → Passes d Sort s
last_of_two d xs ys s h = last d ys s (AllPass-right (Passes d Sort) xs (ys ++ s ∷ []) h)

last_of_three : (d : Declarations) (xs ys zs : List Site) (s : Site) → AllPass (Passes d Sort) (xs ++ (ys ++ (zs ++ s ∷ []))) → Passes d Sort s
last_of_three d xs ys zs s h = last_of_two d ys zs s (AllPass-right (Passes d Sort) xs (ys ++ (zs ++ s ∷ [])) h)

whole_sorted : (d : Declarations) (e : Expression) (r : List Layer) (k : ℕ) → AllPass (Passes d Sort) (sites_of Once e r k) → Whole d e r k
whole_sorted d (Lit m s) r k h = h.0
whole_sorted d (Yes b) r k h = h.0
whole_sorted d (Var back) r k h = h.0
whole_sorted d (Obs l t) r k h = h.0
whole_sorted d (Neg e) r k h = last d (sites_of Once e r (k + 1)) (expression_at k r (Neg e)) h
whole_sorted d (Not e) r k h = last d (sites_of Once e r (k + 1)) (expression_at k r (Not e)) h
whole_sorted d (Widen s e) r k h = last d (sites_of Once e r (k + 1)) (expression_at k r (Widen s e)) h
whole_sorted d (Round mode s e) r k h = last d (sites_of Once e r (k + 1)) (expression_at k r (Round mode s e)) h
whole_sorted d (Num op a b) r k h =
    last_of_two d (sites_of Once a r (k + 1)) (sites_of Once b r (k + 1 + nodes a)) (expression_at k r (Num op a b)) h
whole_sorted d (Cmp op a b) r k h =
    last_of_two d (sites_of Once a r (k + 1)) (sites_of Once b r (k + 1 + nodes a)) (expression_at k r (Cmp op a b)) h
whole_sorted d (Logic op a b) r k h =
    last_of_two d (sites_of Once a r (k + 1)) (sites_of Once b r (k + 1 + nodes a)) (expression_at k r (Logic op a b)) h
whole_sorted d (Div mode s a b) r k h =
    last_of_two d (sites_of Once a r (k + 1)) (sites_of Once b r (k + 1 + nodes a)) (expression_at k r (Div mode s a b)) h
whole_sorted d (Cond t a b) r k h =
    last_of_three d (sites_of Once t r (k + 1)) (sites_of Once a r (k + 1 + nodes t)) (sites_of Once b r (k + 1 + nodes t + nodes a)) (expression_at k r (Cond t a b)) h
whole_sorted d (Acc body n first) r k h =
    last_of_two d (sites_of Once first (Earlier n ∷ r) (k + 1 + nodes body)) (sites_of Once body (Counting body zero first ∷ r) (k + 1)) (expression_at k r (Acc body n first)) h

pub kind_sorted : (d : Declarations) (e : Expression) (r : List Layer) (k : ℕ) → AllPass (Passes d Sort) (sites_of Once e r k) → HasKind (kind_of d e (kinds_round d r))
kind_sorted d e r k h = some_kind (kind_of d e (kinds_round d r)) (whole_sorted d e r k h)
