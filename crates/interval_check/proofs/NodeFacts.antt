-- A rule that passes at every site of a term holds at each node of it by structure, and the other way.
use Rattle.std.proofs.Common.{◌≡◌, ℕ, zero, suc, ◌+◌, ◌<◌, ◌≤◌, ◌⊎◌, inl, inr, List, [], ◌∷◌, ◌++◌, subst, arith}
use Rattle.std.proofs.lemmas.Bool.{cases_lt}
use Rattle.term_model.specs.Declarations.{Declarations}
use Rattle.term_model.specs.Terms.{Expression, Lit, Yes, Var, Obs, Neg, Num, Cmp, Not, Logic, Cond, Widen, Round, Div, Acc}
use Rattle.term_model.specs.Terms.{Contract, Zero, Pay, Both, Scale, After, Let, Within}
use Rattle.term_model.specs.Flows.{count_of}
use Rattle.term_model.specs.Sizes.{nodes, nodes_of_contract}
use Rattle.term_model.specs.Sites.{Layer, Naming, Counting, Later, Earlier, Undated, Trial, Once, EachDay, Site, Part, OfExpression, OfContract, sites_of, sites_of_contract, days_tried, rounds, expression_at, contract_at, AllPass}
use Rattle.term_model.specs.Bounds.{Range, ranges_round}
use Rattle.term_model.proofs.Trials.{AllPass-append, AllPass-left, AllPass-right}
use Rattle.interval_check.specs.Nodes.{InRounds, EachNode, EachContractNode, range_after}

-- at each site of the days before n
pub days_pass : (P : Site → Type 0) (n : ℕ) (day : ℕ → List Site) → AllPass P (days_tried n day) → (i : ℕ) → i < n → AllPass P (day i)
days_pass P zero day h i l = absurd (omega arith)
days_pass P (suc n) day h i l = by (cases_lt i n) (days_pass P n day (AllPass-left P (days_tried n day) (day n) h) i)
  where
    by : (i < n) ⊎ (n ≤ i) → (i < n → AllPass P (day i)) → AllPass P (day i)
    by (inl less) before = before less
    by (inr least) before =
        let same : n ≡ i = omega arith in
        subst (λ (j : ℕ). AllPass P (day j)) same (AllPass-right P (days_tried n day) (day n) h)

pub days_pass_all : (P : Site → Type 0) (n : ℕ) (day : ℕ → List Site) → ((i : ℕ) → i < n → AllPass P (day i)) → AllPass P (days_tried n day)
days_pass_all P zero day h = tt
days_pass_all P (suc n) day h =
    AllPass-append P (days_tried n day) (day n) (days_pass_all P n day (λ i l. h i (omega arith))) (h n (omega arith))

-- the last of some sites
last : (P : Site → Type 0) (xs : List Site) (s : Site) → AllPass P (xs ++ s ∷ []) → AllPass P xs × P s
last P xs s h = (AllPass-left P xs (s ∷ []) h, (AllPass-right P xs (s ∷ []) h).0)

with_last : (P : Site → Type 0) (xs : List Site) (s : Site) → AllPass P xs → P s → AllPass P (xs ++ s ∷ [])
with_last P xs s h p = AllPass-append P xs (s ∷ []) h (p, tt)

-- two parts and the whole, and three
two_and_last : (P : Site → Type 0) (xs ys : List Site) (s : Site) → AllPass P (xs ++ (ys ++ s ∷ [])) → AllPass P xs × AllPass P ys × P s
two_and_last P xs ys s h =
    let rest = last P ys s (AllPass-right P xs (ys ++ s ∷ []) h) in
    (AllPass-left P xs (ys ++ s ∷ []) h, rest.0, rest.1)

three_and_last : (P : Site → Type 0) (ws xs ys : List Site) (s : Site) → AllPass P (ws ++ (xs ++ (ys ++ s ∷ []))) → AllPass P ws × AllPass P xs × AllPass P ys × P s
three_and_last P ws xs ys s h =
    let rest = two_and_last P xs ys s (AllPass-right P ws (xs ++ (ys ++ s ∷ [])) h) in
    (AllPass-left P ws (xs ++ (ys ++ s ∷ [])) h, rest.0, rest.1, rest.2)

-- what passes at a site holds among the ranges of the names round it
abbrev pub Holds : Declarations → (Site → Type 0) → (List Range → Part → Type 0) → Type 0
Holds d P Q = (k : ℕ) (r : List Layer) (part : Part) → P (record { number = k; part = part; layers = r }) → Q (ranges_round d r) part

abbrev pub Passes : Declarations → (Site → Type 0) → (List Range → Part → Type 0) → Type 0
Passes d P Q = (k : ℕ) (r : List Layer) (part : Part) → Q (ranges_round d r) part → P (record { number = k; part = part; layers = r })

in_rounds : (P : Site → Type 0) (w : Trial) (n : ℕ) (body : ℕ → List Site) (whole : ℕ → Site) (B W : ℕ → Type 0) → ((i : ℕ) → AllPass P (body i) → B i) → ((i : ℕ) → P (whole i) → W i) → AllPass P (rounds w n body whole) → InRounds w n B W
in_rounds P Once n body whole B W b v h =
    let parts = last P (body zero) (whole n) h in
    (b zero parts.0, v n parts.1)
in_rounds P EachDay n body whole B W b v h = λ i l.
    let parts = last P (body i) (whole (suc i)) (days_pass P n (λ j. body j ++ whole (suc j) ∷ []) h i l) in
    (b i parts.0, v (suc i) parts.1)

from_rounds : (P : Site → Type 0) (w : Trial) (n : ℕ) (body : ℕ → List Site) (whole : ℕ → Site) (B W : ℕ → Type 0) → ((i : ℕ) → B i → AllPass P (body i)) → ((i : ℕ) → W i → P (whole i)) → InRounds w n B W → AllPass P (rounds w n body whole)
from_rounds P Once n body whole B W b v h = with_last P (body zero) (whole n) (b zero h.0) (v n h.1)
from_rounds P EachDay n body whole B W b v h =
    days_pass_all P n (λ j. body j ++ whole (suc j) ∷ []) (λ i l. let both = h i l in with_last P (body i) (whole (suc i)) (b i both.0) (v (suc i) both.1))

abbrev HoldsAtNodes : Declarations → (Site → Type 0) → (List Range → Part → Type 0) → Trial → Expression → Type 0
HoldsAtNodes d P Q w e = (r : List Layer) (k : ℕ) → AllPass P (sites_of w e r k) → EachNode Q w d e (ranges_round d r)

one_holds : (d : Declarations) (P : Site → Type 0) (Q : List Range → Part → Type 0) (w : Trial) (a e : Expression) (r : List Layer) (j k : ℕ) → Holds d P Q → HoldsAtNodes d P Q w a → AllPass P (sites_of w a r j ++ expression_at k r e ∷ []) → EachNode Q w d a (ranges_round d r) × Q (ranges_round d r) (OfExpression e)
one_holds d P Q w a e r j k q here h =
    let parts = last P (sites_of w a r j) (expression_at k r e) h in
    (here r j parts.0, q k r (OfExpression e) parts.1)

two_hold : (d : Declarations) (P : Site → Type 0) (Q : List Range → Part → Type 0) (w : Trial) (a b e : Expression) (r : List Layer) (i j k : ℕ) → Holds d P Q → HoldsAtNodes d P Q w a → HoldsAtNodes d P Q w b → AllPass P (sites_of w a r i ++ (sites_of w b r j ++ expression_at k r e ∷ [])) → EachNode Q w d a (ranges_round d r) × EachNode Q w d b (ranges_round d r) × Q (ranges_round d r) (OfExpression e)
two_hold d P Q w a b e r i j k q left right h =
    let parts = two_and_last P (sites_of w a r i) (sites_of w b r j) (expression_at k r e) h in
    (left r i parts.0, right r j parts.1, q k r (OfExpression e) parts.2)

pub nodes_hold : (d : Declarations) (P : Site → Type 0) (Q : List Range → Part → Type 0) → Holds d P Q → (w : Trial) (e : Expression) → HoldsAtNodes d P Q w e
nodes_hold d P Q q w (Lit m s) r k h = q k r (OfExpression (Lit m s)) h.0
nodes_hold d P Q q w (Yes b) r k h = q k r (OfExpression (Yes b)) h.0
nodes_hold d P Q q w (Var back) r k h = q k r (OfExpression (Var back)) h.0
nodes_hold d P Q q w (Obs l t) r k h = q k r (OfExpression (Obs l t)) h.0
nodes_hold d P Q q w (Neg e) r k h = one_holds d P Q w e (Neg e) r (k + 1) k q (nodes_hold d P Q q w e) h
nodes_hold d P Q q w (Num op a b) r k h = two_hold d P Q w a b (Num op a b) r (k + 1) (k + 1 + nodes a) k q (nodes_hold d P Q q w a) (nodes_hold d P Q q w b) h
nodes_hold d P Q q w (Cmp op a b) r k h = two_hold d P Q w a b (Cmp op a b) r (k + 1) (k + 1 + nodes a) k q (nodes_hold d P Q q w a) (nodes_hold d P Q q w b) h
nodes_hold d P Q q w (Not e) r k h = one_holds d P Q w e (Not e) r (k + 1) k q (nodes_hold d P Q q w e) h
nodes_hold d P Q q w (Logic op a b) r k h = two_hold d P Q w a b (Logic op a b) r (k + 1) (k + 1 + nodes a) k q (nodes_hold d P Q q w a) (nodes_hold d P Q q w b) h
nodes_hold d P Q q w (Cond t a b) r k h =
    let parts = three_and_last P (sites_of w t r (k + 1)) (sites_of w a r (k + 1 + nodes t)) (sites_of w b r (k + 1 + nodes t + nodes a)) (expression_at k r (Cond t a b)) h in
    (nodes_hold d P Q q w t r (k + 1) parts.0, nodes_hold d P Q q w a r (k + 1 + nodes t) parts.1, nodes_hold d P Q q w b r (k + 1 + nodes t + nodes a) parts.2, q k r (OfExpression (Cond t a b)) parts.3)
nodes_hold d P Q q w (Widen s e) r k h = one_holds d P Q w e (Widen s e) r (k + 1) k q (nodes_hold d P Q q w e) h
nodes_hold d P Q q w (Round mode s e) r k h = one_holds d P Q w e (Round mode s e) r (k + 1) k q (nodes_hold d P Q q w e) h
nodes_hold d P Q q w (Div mode s a b) r k h = two_hold d P Q w a b (Div mode s a b) r (k + 1) (k + 1 + nodes a) k q (nodes_hold d P Q q w a) (nodes_hold d P Q q w b) h
nodes_hold d P Q q w (Acc body n first) r k h =
    let start = sites_of w first (Earlier n ∷ r) (k + 1 + nodes body) in
    let bodies : ℕ → List Site = λ i. sites_of w body (Counting body i first ∷ r) (k + 1) in
    let wholes : ℕ → Site = λ i. expression_at k r (Acc body i first) in (
      nodes_hold d P Q q w first (Earlier n ∷ r) (k + 1 + nodes body) (AllPass-left P start (rounds w n bodies wholes) h),
      in_rounds P w n bodies wholes (λ i. EachNode Q w d body (range_after d body i first (ranges_round d r) ∷ ranges_round d r)) (λ i. Q (ranges_round d r) (OfExpression (Acc body i first)))
          (λ i p. nodes_hold d P Q q w body (Counting body i first ∷ r) (k + 1) p)
          (λ i p. q k r (OfExpression (Acc body i first)) p)
          (AllPass-right P start (rounds w n bodies wholes) h),
    )

abbrev PassesAtSites : Declarations → (Site → Type 0) → (List Range → Part → Type 0) → Trial → Expression → Type 0
PassesAtSites d P Q w e = (r : List Layer) (k : ℕ) → EachNode Q w d e (ranges_round d r) → AllPass P (sites_of w e r k)

pub nodes_pass : (d : Declarations) (P : Site → Type 0) (Q : List Range → Part → Type 0) → Passes d P Q → (w : Trial) (e : Expression) → PassesAtSites d P Q w e
nodes_pass d P Q q w (Lit m s) r k h = (q k r (OfExpression (Lit m s)) h, tt)
nodes_pass d P Q q w (Yes b) r k h = (q k r (OfExpression (Yes b)) h, tt)
nodes_pass d P Q q w (Var back) r k h = (q k r (OfExpression (Var back)) h, tt)
nodes_pass d P Q q w (Obs l t) r k h = (q k r (OfExpression (Obs l t)) h, tt)
nodes_pass d P Q q w (Neg e) r k h = with_last P _ _ (nodes_pass d P Q q w e r (k + 1) h.0) (q k r (OfExpression (Neg e)) h.1)
nodes_pass d P Q q w (Num op a b) r k h =
    AllPass-append P _ _ (nodes_pass d P Q q w a r (k + 1) h.0) (with_last P _ _ (nodes_pass d P Q q w b r (k + 1 + nodes a) h.1) (q k r (OfExpression (Num op a b)) h.2))
nodes_pass d P Q q w (Cmp op a b) r k h =
    AllPass-append P _ _ (nodes_pass d P Q q w a r (k + 1) h.0) (with_last P _ _ (nodes_pass d P Q q w b r (k + 1 + nodes a) h.1) (q k r (OfExpression (Cmp op a b)) h.2))
nodes_pass d P Q q w (Not e) r k h = with_last P _ _ (nodes_pass d P Q q w e r (k + 1) h.0) (q k r (OfExpression (Not e)) h.1)
nodes_pass d P Q q w (Logic op a b) r k h =
    AllPass-append P _ _ (nodes_pass d P Q q w a r (k + 1) h.0) (with_last P _ _ (nodes_pass d P Q q w b r (k + 1 + nodes a) h.1) (q k r (OfExpression (Logic op a b)) h.2))
nodes_pass d P Q q w (Cond t a b) r k h =
    AllPass-append P _ _ (nodes_pass d P Q q w t r (k + 1) h.0)
    (AllPass-append P _ _ (nodes_pass d P Q q w a r (k + 1 + nodes t) h.1) (with_last P _ _ (nodes_pass d P Q q w b r (k + 1 + nodes t + nodes a) h.2) (q k r (OfExpression (Cond t a b)) h.3)))
nodes_pass d P Q q w (Widen s e) r k h = with_last P _ _ (nodes_pass d P Q q w e r (k + 1) h.0) (q k r (OfExpression (Widen s e)) h.1)
nodes_pass d P Q q w (Round mode s e) r k h = with_last P _ _ (nodes_pass d P Q q w e r (k + 1) h.0) (q k r (OfExpression (Round mode s e)) h.1)
nodes_pass d P Q q w (Div mode s a b) r k h =
    AllPass-append P _ _ (nodes_pass d P Q q w a r (k + 1) h.0) (with_last P _ _ (nodes_pass d P Q q w b r (k + 1 + nodes a) h.1) (q k r (OfExpression (Div mode s a b)) h.2))
nodes_pass d P Q q w (Acc body n first) r k h =
    AllPass-append P _ _ (nodes_pass d P Q q w first (Earlier n ∷ r) (k + 1 + nodes body) h.0)
    (from_rounds P w n (λ i. sites_of w body (Counting body i first ∷ r) (k + 1)) (λ i. expression_at k r (Acc body i first)) (λ i. EachNode Q w d body (range_after d body i first (ranges_round d r) ∷ ranges_round d r)) (λ i. Q (ranges_round d r) (OfExpression (Acc body i first)))
    (λ i p. nodes_pass d P Q q w body (Counting body i first ∷ r) (k + 1) p)
    (λ i p. q k r (OfExpression (Acc body i first)) p) h.1)

-- contracts

pub contract_nodes_hold : (d : Declarations) (P : Site → Type 0) (Q : List Range → Part → Type 0) → Holds d P Q → (w : Trial) (c : Contract) (r : List Layer) (k : ℕ) → AllPass P (sites_of_contract w c r k) → EachContractNode Q w d c (ranges_round d r)
contract_nodes_hold d P Q q w Zero r k h = q k r (OfContract Zero) h.0
contract_nodes_hold d P Q q w (Pay a x y) r k h = q k r (OfContract (Pay a x y)) h.0
contract_nodes_hold d P Q q w (Both a b) r k h =
    let parts = two_and_last P (sites_of_contract w a r (k + 1)) (sites_of_contract w b r (k + 1 + nodes_of_contract a)) (contract_at k r (Both a b)) h in
    (contract_nodes_hold d P Q q w a r (k + 1) parts.0, contract_nodes_hold d P Q q w b r (k + 1 + nodes_of_contract a) parts.1, q k r (OfContract (Both a b)) parts.2)
contract_nodes_hold d P Q q w (Scale e c) r k h =
    let parts = two_and_last P (sites_of w e r (k + 1)) (sites_of_contract w c r (k + 1 + nodes e)) (contract_at k r (Scale e c)) h in
    (nodes_hold d P Q q w e r (k + 1) parts.0, contract_nodes_hold d P Q q w c r (k + 1 + nodes e) parts.1, q k r (OfContract (Scale e c)) parts.2)
contract_nodes_hold d P Q q w (After n c) r k h =
    let parts = last P (sites_of_contract w c (Later (count_of n) ∷ r) (k + 1)) (contract_at k r (After n c)) h in
    (contract_nodes_hold d P Q q w c (Later (count_of n) ∷ r) (k + 1) parts.0, q k r (OfContract (After n c)) parts.1)
contract_nodes_hold d P Q q w (Let e c) r k h =
    let parts = two_and_last P (sites_of w e r (k + 1)) (sites_of_contract w c (Naming e ∷ r) (k + 1 + nodes e)) (contract_at k r (Let e c)) h in
    (nodes_hold d P Q q w e r (k + 1) parts.0, contract_nodes_hold d P Q q w c (Naming e ∷ r) (k + 1 + nodes e) parts.1, q k r (OfContract (Let e c)) parts.2)
contract_nodes_hold d P Q q w (Within e n a b) r k h =
    let tests = sites_of w e (Undated ∷ r) (k + 1) in
    let hits = sites_of_contract w a (Undated ∷ r) (k + 1 + nodes e) in
    let misses = sites_of_contract w b (Later (count_of n) ∷ r) (k + 1 + nodes e + nodes_of_contract a) in
    let parts = three_and_last P tests hits misses (contract_at k r (Within e n a b)) h in
    (nodes_hold d P Q q w e (Undated ∷ r) (k + 1) parts.0, contract_nodes_hold d P Q q w a (Undated ∷ r) (k + 1 + nodes e) parts.1, contract_nodes_hold d P Q q w b (Later (count_of n) ∷ r) (k + 1 + nodes e + nodes_of_contract a) parts.2, q k r (OfContract (Within e n a b)) parts.3)

pub contract_nodes_pass : (d : Declarations) (P : Site → Type 0) (Q : List Range → Part → Type 0) → Passes d P Q → (w : Trial) (c : Contract) (r : List Layer) (k : ℕ) → EachContractNode Q w d c (ranges_round d r) → AllPass P (sites_of_contract w c r k)
contract_nodes_pass d P Q q w Zero r k h = (q k r (OfContract Zero) h, tt)
contract_nodes_pass d P Q q w (Pay a x y) r k h = (q k r (OfContract (Pay a x y)) h, tt)
contract_nodes_pass d P Q q w (Both a b) r k h =
    AllPass-append P _ _ (contract_nodes_pass d P Q q w a r (k + 1) h.0)
    (with_last P _ _ (contract_nodes_pass d P Q q w b r (k + 1 + nodes_of_contract a) h.1) (q k r (OfContract (Both a b)) h.2))
contract_nodes_pass d P Q q w (Scale e c) r k h =
    AllPass-append P _ _ (nodes_pass d P Q q w e r (k + 1) h.0)
    (with_last P _ _ (contract_nodes_pass d P Q q w c r (k + 1 + nodes e) h.1) (q k r (OfContract (Scale e c)) h.2))
contract_nodes_pass d P Q q w (After n c) r k h =
    with_last P _ _ (contract_nodes_pass d P Q q w c (Later (count_of n) ∷ r) (k + 1) h.0) (q k r (OfContract (After n c)) h.1)
contract_nodes_pass d P Q q w (Let e c) r k h =
    AllPass-append P _ _ (nodes_pass d P Q q w e r (k + 1) h.0)
    (with_last P _ _ (contract_nodes_pass d P Q q w c (Naming e ∷ r) (k + 1 + nodes e) h.1) (q k r (OfContract (Let e c)) h.2))
contract_nodes_pass d P Q q w (Within e n a b) r k h =
    AllPass-append P _ _ (nodes_pass d P Q q w e (Undated ∷ r) (k + 1) h.0)
    (AllPass-append P _ _ (contract_nodes_pass d P Q q w a (Undated ∷ r) (k + 1 + nodes e) h.1)
    (with_last P _ _ (contract_nodes_pass d P Q q w b (Later (count_of n) ∷ r) (k + 1 + nodes e + nodes_of_contract a) h.2) (q k r (OfContract (Within e n a b)) h.3)))
