-- What a rule that holds everywhere tells of an expression and of a contract as wholes: each part has a kind, every
-- scale is within its limit, and the nodes are not too many.
use Rattle.std.proofs.Common.{◌≡◌, ℕ, zero, ◌+◌, List, [], ◌∷◌, ◌++◌, Option, Some, None, IsTrue, is_some, refl}
use Rattle.term_model.specs.declared.values.Kind.{Kind}
use Rattle.term_model.specs.declared.rules.Rule.TheVariants.{Sort}
use Rattle.term_model.specs.Declarations.{Declarations}
use Rattle.term_model.specs.Terms.{Expression, Lit, Yes, Var, Obs, Neg, Num, Cmp, Not, Logic, Cond, Widen, Round, Div, Acc}
use Rattle.term_model.specs.Terms.{Contract, Zero, Pay, Both, Scale, After, Let, Within}
use Rattle.term_model.specs.Flows.{count_of}
use Rattle.term_model.specs.Kinds.{kind_of}
use Rattle.term_model.specs.Values.{kind_or}
use Rattle.term_model.specs.Sizes.{nodes, nodes_of_contract}
use Rattle.term_model.specs.Sites.{Site, Layer, Naming, Counting, Later, Earlier, Undated, Once, sites_of, sites_of_contract, expression_at, contract_at, kinds_round, AllPass}
use Rattle.term_model.specs.Sorts.{is_sorted}
use Rattle.term_model.specs.Acceptance.{Meets}
use Rattle.term_model.proofs.Trials.{AllPass-left, AllPass-right}

-- the last site of a list
last : (P : Site → Type 0) (xs : List Site) (s : Site) → AllPass P (xs ++ s ∷ []) → P s
last P xs s h = let q = AllPass-right P xs (s ∷ []) h in q.0

-- A whole, after its parts.

pub root : (P : Site → Type 0) (e : Expression) (r : List Layer) (k : ℕ) → AllPass P (sites_of Once e r k) → P (expression_at k r e)
root P (Lit m s) r k h = h.0
root P (Yes b) r k h = h.0
root P (Var back) r k h = h.0
root P (Obs l t) r k h = h.0
root P (Neg e) r k h = last P (sites_of Once e r (k + 1)) _ h
root P (Num op a b) r k h =
    last P (sites_of Once b r (k + 1 + nodes a)) _ (AllPass-right P (sites_of Once a r (k + 1)) _ h)
root P (Cmp op a b) r k h =
    last P (sites_of Once b r (k + 1 + nodes a)) _ (AllPass-right P (sites_of Once a r (k + 1)) _ h)
root P (Not e) r k h = last P (sites_of Once e r (k + 1)) _ h
root P (Logic op a b) r k h =
    last P (sites_of Once b r (k + 1 + nodes a)) _ (AllPass-right P (sites_of Once a r (k + 1)) _ h)
root P (Cond t a b) r k h =
    last P (sites_of Once b r (k + 1 + nodes t + nodes a)) _
    (AllPass-right P (sites_of Once a r (k + 1 + nodes t)) _ (AllPass-right P (sites_of Once t r (k + 1)) _ h))
root P (Widen s e) r k h = last P (sites_of Once e r (k + 1)) _ h
root P (Round mode s e) r k h = last P (sites_of Once e r (k + 1)) _ h
root P (Div mode s a b) r k h =
    last P (sites_of Once b r (k + 1 + nodes a)) _ (AllPass-right P (sites_of Once a r (k + 1)) _ h)
root P (Acc body n first) r k h =
    last P (sites_of Once body (Counting body zero first ∷ r) (k + 1)) _
    (AllPass-right P (sites_of Once first (Earlier n ∷ r) (k + 1 + nodes body)) _ h)

pub root_of_contract : (P : Site → Type 0) (c : Contract) (r : List Layer) (k : ℕ) → AllPass P (sites_of_contract Once c r k) → P (contract_at k r c)
root_of_contract P Zero r k h = h.0
root_of_contract P (Pay a p q) r k h = h.0
root_of_contract P (Both a b) r k h =
    last P (sites_of_contract Once b r (k + 1 + nodes_of_contract a)) _ (AllPass-right P (sites_of_contract Once a r (k + 1)) _ h)
root_of_contract P (Scale e c) r k h =
    last P (sites_of_contract Once c r (k + 1 + nodes e)) _ (AllPass-right P (sites_of Once e r (k + 1)) _ h)
root_of_contract P (After n c) r k h = last P (sites_of_contract Once c (Later (count_of n) ∷ r) (k + 1)) _ h
root_of_contract P (Let e c) r k h =
    last P (sites_of_contract Once c (Naming e ∷ r) (k + 1 + nodes e)) _ (AllPass-right P (sites_of Once e r (k + 1)) _ h)
root_of_contract P (Within e n a b) r k h =
    last P (sites_of_contract Once b (Later (count_of n) ∷ r) (k + 1 + nodes e + nodes_of_contract a)) _
    (AllPass-right P (sites_of_contract Once a (Undated ∷ r) (k + 1 + nodes e)) _ (AllPass-right P (sites_of Once e (Undated ∷ r) (k + 1)) _ h))

-- Kinds.

pub record Has (d : Declarations) (e : Expression) (ks : List Kind) : Type 0 where
  pub kind : Kind
  pub is : kind_of d e ks ≡ Some kind

-- every expression of a contract has a kind
abbrev pub HaveKinds : Declarations → Contract → List Kind → Type 0
HaveKinds d Zero ks = Unit {0}
HaveKinds d (Pay a p q) ks = Unit {0}
HaveKinds d (Both a b) ks = HaveKinds d a ks × HaveKinds d b ks
HaveKinds d (Scale e c) ks = Has d e ks × HaveKinds d c ks
HaveKinds d (After n c) ks = HaveKinds d c ks
HaveKinds d (Let e c) ks = Has d e ks × HaveKinds d c (kind_or (kind_of d e ks) ∷ ks)
HaveKinds d (Within e n a b) ks = Has d e ks × HaveKinds d a ks × HaveKinds d b ks

some_kind : (d : Declarations) (e : Expression) (ks : List Kind) (o : Option Kind) → kind_of d e ks ≡ o → IsTrue (is_some o) → Has d e ks
some_kind d e ks (Some k) q h = record { kind = k; is = q }
some_kind d e ks None q h = absurd (cc)

has : (d : Declarations) (e : Expression) (r : List Layer) (k : ℕ) → AllPass (λ s. IsTrue (is_sorted d s)) (sites_of Once e r k) → Has d e (kinds_round d r)
has d e r k h =
    some_kind d e (kinds_round d r) (kind_of d e (kinds_round d r)) refl (root (λ s. IsTrue (is_sorted d s)) e r k h)

have_kinds : (d : Declarations) (c : Contract) (r : List Layer) (k : ℕ) → AllPass (λ s. IsTrue (is_sorted d s)) (sites_of_contract Once c r k) → HaveKinds d c (kinds_round d r)
have_kinds d Zero r k h = tt
have_kinds d (Pay a p q) r k h = tt
have_kinds d (Both a b) r k h =
    let P = λ (s : Site). IsTrue (is_sorted d s) in
    let rest = AllPass-right P (sites_of_contract Once a r (k + 1)) _ h in
    (have_kinds d a r (k + 1) (AllPass-left P (sites_of_contract Once a r (k + 1)) _ h), have_kinds d b r (k + 1 + nodes_of_contract a) (AllPass-left P (sites_of_contract Once b r (k + 1 + nodes_of_contract a)) _ rest))
have_kinds d (Scale e c) r k h =
    let P = λ (s : Site). IsTrue (is_sorted d s) in
    let rest = AllPass-right P (sites_of Once e r (k + 1)) _ h in
    (has d e r (k + 1) (AllPass-left P (sites_of Once e r (k + 1)) _ h), have_kinds d c r (k + 1 + nodes e) (AllPass-left P (sites_of_contract Once c r (k + 1 + nodes e)) _ rest))
have_kinds d (After n c) r k h =
    let P = λ (s : Site). IsTrue (is_sorted d s) in
    have_kinds d c (Later (count_of n) ∷ r) (k + 1) (AllPass-left P (sites_of_contract Once c (Later (count_of n) ∷ r) (k + 1)) _ h)
have_kinds d (Let e c) r k h =
    let P = λ (s : Site). IsTrue (is_sorted d s) in
    let rest = AllPass-right P (sites_of Once e r (k + 1)) _ h in
    (has d e r (k + 1) (AllPass-left P (sites_of Once e r (k + 1)) _ h), have_kinds d c (Naming e ∷ r) (k + 1 + nodes e) (AllPass-left P (sites_of_contract Once c (Naming e ∷ r) (k + 1 + nodes e)) _ rest))
have_kinds d (Within e n a b) r k h =
    let P = λ (s : Site). IsTrue (is_sorted d s) in
    let xs = sites_of Once e (Undated ∷ r) (k + 1) in
    let ys = sites_of_contract Once a (Undated ∷ r) (k + 1 + nodes e) in
    let zs = sites_of_contract Once b (Later (count_of n) ∷ r) (k + 1 + nodes e + nodes_of_contract a) in
    let rest = AllPass-right P xs _ h in
    let more = AllPass-right P ys _ rest in
    (has d e (Undated ∷ r) (k + 1) (AllPass-left P xs _ h), have_kinds d a (Undated ∷ r) (k + 1 + nodes e) (AllPass-left P ys _ rest), have_kinds d b (Later (count_of n) ∷ r) (k + 1 + nodes e + nodes_of_contract a) (AllPass-left P zs _ more))

pub sorted_kinds : (d : Declarations) (c : Contract) → Meets d Sort c → HaveKinds d c []
sorted_kinds d c h = have_kinds d c [] 0 h
