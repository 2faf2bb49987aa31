-- The rule on times at every node, and the type of the whole.
use Rattle.std.proofs.Common.{ℕ, zero, ℤ, pos, ◌-ℤ◌, ◌+◌, List, [], ◌∷◌, ◌++◌, refl, subst}
use Rattle.term_model.specs.declared.rules.Rule.TheVariants.{Time}
use Rattle.term_model.specs.Terms.{Expression, Lit, Yes, Var, Obs, Neg, Num, Cmp, Not, Logic, Cond, Widen, Round, Div, Acc}
use Rattle.term_model.specs.Terms.{Contract, Zero, Pay, Both, Scale, After, Let, Within}
use Rattle.term_model.specs.Flows.{count_of}
use Rattle.term_model.specs.Sizes.{nodes, nodes_of_contract}
use Rattle.term_model.specs.Sites.{Layer, Naming, Counting, Later, Earlier, Undated, Site, Once, sites_of, sites_of_contract, expression_at, contract_at, AllPass}
use Rattle.term_model.specs.Times.{IsTimed, IsAllowed, TypedContract, lowered_by}
use Rattle.term_model.specs.Acceptance.{Meets}
use Rattle.term_model.specs.LawsTimes.{TimesMeanTyped}
use Rattle.term_model.proofs.Trials.{AllPass-append, AllPass-right}

two_pass : (a b : Expression) (r : List Layer) (j k : ℕ) (s : Site) → IsTimed s → AllPass IsTimed (sites_of Once a r j) → AllPass IsTimed (sites_of Once b r k) → AllPass IsTimed (sites_of Once a r j ++ (sites_of Once b r k ++ s ∷ []))
two_pass a b r j k s h x y =
    AllPass-append IsTimed (sites_of Once a r j) _ x (AllPass-append IsTimed (sites_of Once b r k) _ y (h, tt))

-- expressions pass
pub expressions_pass : (e : Expression) (r : List Layer) (k : ℕ) → AllPass IsTimed (sites_of Once e r k)
expressions_pass (Lit m s) r k = (tt, tt)
expressions_pass (Yes b) r k = (tt, tt)
expressions_pass (Var back) r k = (tt, tt)
expressions_pass (Obs l t) r k = (tt, tt)
expressions_pass (Neg e) r k = AllPass-append IsTimed (sites_of Once e r (k + 1)) _ (expressions_pass e r (k + 1)) (tt, tt)
expressions_pass (Num op a b) r k = two_pass a b r (k + 1) (k + 1 + nodes a) (expression_at k r (Num op a b)) tt (expressions_pass a r (k + 1)) (expressions_pass b r (k + 1 + nodes a))
expressions_pass (Cmp op a b) r k = two_pass a b r (k + 1) (k + 1 + nodes a) (expression_at k r (Cmp op a b)) tt (expressions_pass a r (k + 1)) (expressions_pass b r (k + 1 + nodes a))
expressions_pass (Not e) r k = AllPass-append IsTimed (sites_of Once e r (k + 1)) _ (expressions_pass e r (k + 1)) (tt, tt)
expressions_pass (Logic op a b) r k = two_pass a b r (k + 1) (k + 1 + nodes a) (expression_at k r (Logic op a b)) tt (expressions_pass a r (k + 1)) (expressions_pass b r (k + 1 + nodes a))
expressions_pass (Cond t a b) r k =
    AllPass-append IsTimed (sites_of Once t r (k + 1)) _ (expressions_pass t r (k + 1)) (two_pass a b r (k + 1 + nodes t) (k + 1 + nodes t + nodes a) (expression_at k r (Cond t a b)) tt (expressions_pass a r (k + 1 + nodes t)) (expressions_pass b r (k + 1 + nodes t + nodes a)))
expressions_pass (Widen s e) r k = AllPass-append IsTimed (sites_of Once e r (k + 1)) _ (expressions_pass e r (k + 1)) (tt, tt)
expressions_pass (Round mode s e) r k = AllPass-append IsTimed (sites_of Once e r (k + 1)) _ (expressions_pass e r (k + 1)) (tt, tt)
expressions_pass (Div mode s a b) r k = two_pass a b r (k + 1) (k + 1 + nodes a) (expression_at k r (Div mode s a b)) tt (expressions_pass a r (k + 1)) (expressions_pass b r (k + 1 + nodes a))
expressions_pass (Acc body n first) r k =
    AllPass-append IsTimed (sites_of Once first (Earlier n ∷ r) (k + 1 + nodes body)) _ (expressions_pass first (Earlier n ∷ r) (k + 1 + nodes body))
    (AllPass-append IsTimed (sites_of Once body (Counting body zero first ∷ r) (k + 1)) _ (expressions_pass body (Counting body zero first ∷ r) (k + 1)) (tt, tt))

-- where a contract has a type in an allowed context, each of its nodes has
pub nodes_timed : (c : Contract) (r : List Layer) (k : ℕ) (g : List ℤ) (t : ℤ) → IsAllowed r g → TypedContract g c t → AllPass IsTimed (sites_of_contract Once c r k)
nodes_timed Zero r k g t a h = ((g, t, a, h), tt)
nodes_timed (Pay x p q) r k g t a h = ((g, t, a, h), tt)
nodes_timed (Both x y) r k g t a h =
    AllPass-append IsTimed (sites_of_contract Once x r (k + 1)) _ (nodes_timed x r (k + 1) g t a h.0)
    (AllPass-append IsTimed (sites_of_contract Once y r (k + 1 + nodes_of_contract x)) _ (nodes_timed y r (k + 1 + nodes_of_contract x) g t a h.1) ((g, t, a, h), tt))
nodes_timed (Scale e c) r k g t a h =
    AllPass-append IsTimed (sites_of Once e r (k + 1)) _ (expressions_pass e r (k + 1))
    (AllPass-append IsTimed (sites_of_contract Once c r (k + 1 + nodes e)) _ (nodes_timed c r (k + 1 + nodes e) g h.0 a h.3) ((g, t, a, h), tt))
nodes_timed (After n c) r k g t a h =
    AllPass-append IsTimed (sites_of_contract Once c (Later (count_of n) ∷ r) (k + 1)) _ (nodes_timed c (Later (count_of n) ∷ r) (k + 1) (lowered_by (count_of n) g) (t -ℤ pos (count_of n)) (g, refl, a) h) ((g, t, a, h), tt)
nodes_timed (Let e c) r k g t a h =
    AllPass-append IsTimed (sites_of Once e r (k + 1)) _ (expressions_pass e r (k + 1))
    (AllPass-append IsTimed (sites_of_contract Once c (Naming e ∷ r) (k + 1 + nodes e)) _ (nodes_timed c (Naming e ∷ r) (k + 1 + nodes e) (h.0 ∷ g) t (h.0, g, refl, h.1, a) h.2) ((g, t, a, h), tt))
nodes_timed (Within e n x y) r k g t a h =
    AllPass-append IsTimed (sites_of Once e (Undated ∷ r) (k + 1)) _ (expressions_pass e (Undated ∷ r) (k + 1))
    (AllPass-append IsTimed (sites_of_contract Once x (Undated ∷ r) (k + 1 + nodes e)) _ (nodes_timed x (Undated ∷ r) (k + 1 + nodes e) g t a h.1)
    (AllPass-append IsTimed (sites_of_contract Once y (Later (count_of n) ∷ r) (k + 1 + nodes e + nodes_of_contract x)) _ (nodes_timed y (Later (count_of n) ∷ r) (k + 1 + nodes e + nodes_of_contract x) (lowered_by (count_of n) g) (t -ℤ pos (count_of n)) (g, refl, a) h.2) ((g, t, a, h), tt)))

-- the last node that is tried is the whole
pub whole_passes : (P : Site → Type 0) (c : Contract) (r : List Layer) (k : ℕ) → AllPass P (sites_of_contract Once c r k) → P (contract_at k r c)
whole_passes P Zero r k h = h.0
whole_passes P (Pay x p q) r k h = h.0
whole_passes P (Both x y) r k h =
    (AllPass-right P (sites_of_contract Once y r (k + 1 + nodes_of_contract x)) _ (AllPass-right P (sites_of_contract Once x r (k + 1)) _ h)).0
whole_passes P (Scale e c) r k h =
    (AllPass-right P (sites_of_contract Once c r (k + 1 + nodes e)) _ (AllPass-right P (sites_of Once e r (k + 1)) _ h)).0
whole_passes P (After n c) r k h = (AllPass-right P (sites_of_contract Once c (Later (count_of n) ∷ r) (k + 1)) _ h).0
whole_passes P (Let e c) r k h =
    (AllPass-right P (sites_of_contract Once c (Naming e ∷ r) (k + 1 + nodes e)) _ (AllPass-right P (sites_of Once e r (k + 1)) _ h)).0
whole_passes P (Within e n x y) r k h =
    (AllPass-right P (sites_of_contract Once y (Later (count_of n) ∷ r) (k + 1 + nodes e + nodes_of_contract x)) _ (AllPass-right P (sites_of_contract Once x (Undated ∷ r) (k + 1 + nodes e)) _ (AllPass-right P (sites_of Once e (Undated ∷ r) (k + 1)) _ h))).0

pub times_mean_typed : TimesMeanTyped
times_mean_typed d c =
    let there : Meets d Time c → (t : ℤ) × TypedContract [] c t = λ h. (let root = whole_passes IsTimed c [] 0 h in (root.1, subst (λ (g : List ℤ). TypedContract g c root.1) root.2 root.3)) in
    let back : ((t : ℤ) × TypedContract [] c t) → Meets d Time c = λ h. nodes_timed c [] 0 [] h.0 refl h.1 in
    (there, back)
