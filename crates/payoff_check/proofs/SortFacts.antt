-- The trial of the rule on sorts finds the first node that breaks it.
use Rattle.std.proofs.Common.{◌≡◌, ℕ, pos, ◌+◌, Bool, List, [], ◌∷◌, map, Option, Some, None, Ok}
use Rattle.std.proofs.Common.{Err, refl, ap, ◌∙◌}
use Rattle.term_model.specs.Declarations.{Declarations}
use Rattle.term_model.specs.declared.values.Kind.{Kind}
use Rattle.term_model.specs.declared.values.Kind.TheVariants.{Truth as TruthKind}
use Rattle.term_model.specs.declared.values.Kind.TheVariants.{Number as NumberKind}
use Rattle.term_model.specs.declared.rules.Rule.TheVariants.{Sort as SortRule}
use Rattle.term_model.specs.Kinds.{kind_of}
use Rattle.term_model.specs.Values.{kind_or}
use Rattle.term_model.specs.Sizes.{nodes}
use Rattle.term_model.specs.Sorts.{is_number, is_truth}
use Rattle.term_model.specs.Sites.{Layer, Site, Once, sites_of, kinds_round}
use Rattle.term_core.specs.Trying.{then_do, moved}
use Rattle.time_types.specs.declared.observed_sorts.Sort.{Sort}
use Rattle.time_types.specs.declared.observed_sorts.Sort.TheVariants.{Truth, Number}
use Rattle.time_types.specs.SortKinds.{sort_of_kind, sort_of}
use Rattle.time_types.specs.SortTrials.{sort_tried}
use Rattle.time_types.specs.SortTrials as expressions
use Rattle.time_types.proofs.SortFacts.{names, sort_finds}
use Rattle.time_types.proofs.SortFacts as found
use Rattle.payoff_terms.specs.Dating.{undated}
use Rattle.payoff_terms.specs.Code.{ValueExpression, PayoffCode, Nothing, PayOn, Add, ScaleBy, LetBe}
use Rattle.payoff_terms.specs.Code.{Loop, Cut}
use Rattle.payoff_terms.specs.CodeSites.{CodeSite, InValue, AtCode, sites_of_code}
use Rattle.payoff_terms.specs.CodeAcceptance.{code_is_sorted, MeetsInCode, FailsInCode}
use Rattle.payoff_check.specs.declared.sort_rule.Sorted.{Sorted}
use Rattle.payoff_check.specs.SortTrials.{needed, sorting, sorts_tried}
use Rattle.payoff_check.proofs.Finding.{Finds, first_failing-map, fine, faulty, Follows, code_finds}
use Rattle.payoff_check.proofs.Finding.{each_any, meets, fails}

-- the sort that is found of a value expression is that of its kind
abbrev pub IsSortOf : Declarations → ValueExpression → List Layer → Sorted → Type 0
IsSortOf d v r u = sort_of (kind_of d (undated v) (kinds_round d r)) ≡ Some u.sort

value_found :
    (p : CodeSite → Bool) (xs : List Site) (n m : ℕ) (a : expressions.Answer) (w : Option Kind)
    → found.Finds (λ s. p (InValue s)) xs n a w
    → Finds p (map (λ s. InValue s) xs) (λ (u : Sorted). sort_of w ≡ Some u.sort)
    (then_do (moved n a) (λ s. Ok (record { sort = s; nodes = m })))
value_found p xs n m (Ok s) w h = (first_failing-map p xs ∙ h.0, h.1)
value_found p xs n m (Err j) w h = first_failing-map p xs ∙ h

-- a node whose expression has to be a number, and one whose expression has to be a truth value
factor :
    (p : CodeSite → Bool) (k : PayoffCode) (r : List Layer) (n count : ℕ) (o : Option Kind)
    (u : Sort) → p (AtCode n k r) ≡ is_number o → sort_of o ≡ Some u
    → Finds p (AtCode n k r ∷ []) (λ (_ : ℕ). Unit {0}) (needed Number u count n)
factor p k r n count None u e h = absurd (cc)
factor p k r n count (Some TruthKind) Truth e h = faulty p (AtCode n k r) (λ (_ : ℕ). Unit {0}) e
factor p k r n count (Some TruthKind) Number e h = absurd (cc)
factor p k r n count (Some (NumberKind i)) Truth e h = absurd (cc)
factor p k r n count (Some (NumberKind i)) Number e h =
    fine p (AtCode n k r) (λ (_ : ℕ). Unit {0}) count e tt

test :
    (p : CodeSite → Bool) (k : PayoffCode) (r : List Layer) (n count : ℕ) (o : Option Kind)
    (u : Sort) → p (AtCode n k r) ≡ is_truth o → sort_of o ≡ Some u
    → Finds p (AtCode n k r ∷ []) (λ (_ : ℕ). Unit {0}) (needed Truth u count n)
test p k r n count None u e h = absurd (cc)
test p k r n count (Some TruthKind) Truth e h =
    fine p (AtCode n k r) (λ (_ : ℕ). Unit {0}) count e tt
test p k r n count (Some TruthKind) Number e h = absurd (cc)
test p k r n count (Some (NumberKind i)) Truth e h = absurd (cc)
test p k r n count (Some (NumberKind i)) Number e h =
    faulty p (AtCode n k r) (λ (_ : ℕ). Unit {0}) e

entered : (o : Option Kind) (u : Sort) → sort_of o ≡ Some u → u ≡ sort_of_kind (kind_or o)
entered None u h = absurd (cc)
entered (Some k) u h = let q : Some (sort_of_kind k) ≡ Some u = h in cc

sort_follows :
    (d : Declarations)
    → Follows (sorting d) Once (λ _. pos 0) (code_is_sorted d) (λ r. names d r)
    (λ v r u. IsSortOf d v r u) (λ _ _ _. Unit {0}) (λ _ _ _. Unit {0}) (λ _ _ _. Unit {0})
sort_follows d = record {
  values = λ v r n _. value_found (code_is_sorted d) (sites_of Once (undated v) r n) n
      (nodes (undated v)) (sort_tried d (undated v) (names d r)) (kind_of d (undated v) (kinds_round d r))
      (sort_finds d (undated v) r n);
  enters = λ v r u h. ap (λ (s : Sort). s ∷ names d r)
      (entered (kind_of d (undated v) (kinds_round d r)) u.sort h);
  nothings = λ r n _. fine (code_is_sorted d) (AtCode n Nothing r) (λ (_ : ℕ). Unit {0}) 1 refl tt;
  payments = λ x a b c r n _. fine (code_is_sorted d) (AtCode n (PayOn x a b c) r)
      (λ (_ : ℕ). Unit {0}) 1 refl tt;
  sums = λ k l r n a b _ _ _. fine (code_is_sorted d) (AtCode n (Add k l) r) (λ (_ : ℕ). Unit {0})
      (a + b + 1) refl tt;
  factors = λ v k r n u a h _ _. factor (code_is_sorted d) (ScaleBy v k) r n (u.nodes + a + 1)
      (kind_of d (undated v) (kinds_round d r)) u.sort refl h;
  binders = λ v k r n u a _ _ _. fine (code_is_sorted d) (AtCode n (LetBe v k) r)
      (λ (_ : ℕ). Unit {0}) (u.nodes + a + 1) refl tt;
  loops = λ v x k l r n u a b h _ _ _. test (code_is_sorted d) (Loop v x k l) r n
      (u.nodes + a + b + 1) (kind_of d (undated v) (kinds_round d r)) u.sort refl h;
  cuts = λ x k r n a _ _. fine (code_is_sorted d) (AtCode n (Cut x k) r) (λ (_ : ℕ). Unit {0})
      (a + 1) refl tt;
}

sorts_find :
    (d : Declarations) (k : PayoffCode)
    → Finds (code_is_sorted d) (sites_of_code Once (λ _. pos 0) k [] 0) (λ (_ : ℕ). Unit {0})
    (sorts_tried d k [] 0)
sorts_find d k =
    code_finds (sorting d) Once (λ _. pos 0) (code_is_sorted d) (λ r. names d r)
    (λ v r u. IsSortOf d v r u) (λ _ _ _. Unit {0}) (λ _ _ _. Unit {0}) (λ _ _ _. Unit {0})
    (sort_follows d) k [] 0 (each_any k [] 0)

pub sorts_meet :
    (d : Declarations) (xs : List ℕ) (k : PayoffCode) (a : ℕ) → sorts_tried d k [] 0 ≡ Ok a
    → MeetsInCode d xs SortRule k
sorts_meet d xs k a e =
    let h = meets (code_is_sorted d) (sites_of_code Once (λ _. pos 0) k [] 0) (λ (_ : ℕ). Unit {0})
    (sorts_tried d k [] 0) a (sorts_find d k) e in
    h.0

pub sorts_fail :
    (d : Declarations) (xs : List ℕ) (k : PayoffCode) (j : ℕ) → sorts_tried d k [] 0 ≡ Err j
    → FailsInCode d xs SortRule k j
sorts_fail d xs k j e =
    fails (code_is_sorted d) (sites_of_code Once (λ _. pos 0) k [] 0) (λ (_ : ℕ). Unit {0})
    (sorts_tried d k [] 0) j (sorts_find d k) e
