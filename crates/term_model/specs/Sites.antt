-- The nodes of a contract in the order in which the rules of acceptance try them: parts before wholes, parts in
-- written order, but an accumulator's start before its body. A node has the number of its first byte's place among all
-- nodes, from 0. All five rules share this one list: a rule is a test on a site, and the node at fault is the number of
-- the first site that fails. To prove code that goes by structure against it, use `first_failing`,
-- `first_failing-append` and `first_failing-is` of proofs/Trials, or for a rule that does not compute `AllPass-append`,
-- `FirstFault-left` and `FirstFault-right`. proofs/BoundTrials is a whole such proof, for the rule on bounds and its
-- accumulators.
use Rattle.std.specs.Prelude.{ℕ, zero, suc, ◌+◌, ◌≡◌, ◌⊎◌, List, [], ◌∷◌, ◌++◌}
use Rattle.term_model.specs.Declarations.{Declarations}
use Rattle.term_model.specs.declared.values.Kind.{Kind}
use Rattle.term_model.specs.Terms.{Expression, Lit, Yes, Var, Obs, Neg, Num, Cmp, Not, Logic, Cond, Widen, Round, Div, Acc}
use Rattle.term_model.specs.Terms.{Contract, Zero, Pay, Both, Scale, After, Let, Within}
use Rattle.term_model.specs.Kinds.{kind_of}
use Rattle.term_model.specs.Values.{kind_or}
use Rattle.term_model.specs.Flows.{count_of}
use Rattle.term_model.specs.Sizes.{nodes, nodes_of_contract}

-- what stands between a node and a part of it: a `let` round its body, whose name stands for an expression; an
-- accumulator round its body, whose name stands for its value after some days; days by which a part stands later or
-- earlier; and where the day of a part is not known, as in the test of an `if .. within`
pub data Layer : Type 0 where
  Naming : (bound : Expression) → Layer
  Counting : (body : Expression) (days : ℕ) (first : Expression) → Layer
  Later : (days : ℕ) → Layer
  Earlier : (days : ℕ) → Layer
  Undated : Layer

pub data Part : Type 0 where
  OfExpression : (e : Expression) → Part
  OfContract : (c : Contract) → Part

-- a node: its number, what it is, and what stands round it, innermost first
pub record Site : Type 0 where
  pub number : ℕ
  pub part : Part
  pub layers : List Layer

abbrev pub expression_at : ℕ → List Layer → Expression → Site
expression_at k r e = record { number = k; part = OfExpression e; layers = r }

abbrev pub contract_at : ℕ → List Layer → Contract → Site
contract_at k r c = record { number = k; part = OfContract c; layers = r }

-- how often an accumulator's body is tried: once, or for each of its days
pub data Trial : Type 0 where
  Once : Trial
  EachDay : Trial

-- the sites of the days before n, one day after another
abbrev pub days_tried : ℕ → (ℕ → List Site) → List Site
days_tried zero day = []
days_tried (suc n) day = days_tried n day ++ day n

-- the body and then the whole; or on each day the body, with the value after the days before it for the name, and then
-- the accumulator of the days so far
abbrev pub rounds : Trial → ℕ → (ℕ → List Site) → (ℕ → Site) → List Site
rounds Once n body whole = body zero ++ whole n ∷ []
rounds EachDay n body whole = days_tried n (λ i. body i ++ whole (suc i) ∷ [])

-- the nodes of an expression with number k
abbrev pub sites_of : Trial → Expression → List Layer → ℕ → List Site
sites_of w (Lit m s) r k = expression_at k r (Lit m s) ∷ []
sites_of w (Yes b) r k = expression_at k r (Yes b) ∷ []
sites_of w (Var back) r k = expression_at k r (Var back) ∷ []
sites_of w (Obs l t) r k = expression_at k r (Obs l t) ∷ []
sites_of w (Neg e) r k = sites_of w e r (k + 1) ++ expression_at k r (Neg e) ∷ []
sites_of w (Num op a b) r k =
    sites_of w a r (k + 1) ++ (sites_of w b r (k + 1 + nodes a) ++ expression_at k r (Num op a b) ∷ [])
sites_of w (Cmp op a b) r k =
    sites_of w a r (k + 1) ++ (sites_of w b r (k + 1 + nodes a) ++ expression_at k r (Cmp op a b) ∷ [])
sites_of w (Not e) r k = sites_of w e r (k + 1) ++ expression_at k r (Not e) ∷ []
sites_of w (Logic op a b) r k =
    sites_of w a r (k + 1) ++ (sites_of w b r (k + 1 + nodes a) ++ expression_at k r (Logic op a b) ∷ [])
sites_of w (Cond t a b) r k =
    sites_of w t r (k + 1)
    ++ (sites_of w a r (k + 1 + nodes t)
    ++ (sites_of w b r (k + 1 + nodes t + nodes a)
    ++ expression_at k r (Cond t a b) ∷ []))
sites_of w (Widen s e) r k = sites_of w e r (k + 1) ++ expression_at k r (Widen s e) ∷ []
sites_of w (Round mode s e) r k = sites_of w e r (k + 1) ++ expression_at k r (Round mode s e) ∷ []
sites_of w (Div mode s a b) r k =
    sites_of w a r (k + 1) ++ (sites_of w b r (k + 1 + nodes a) ++ expression_at k r (Div mode s a b) ∷ [])
sites_of w (Acc body n first) r k =
    sites_of w first (Earlier n ∷ r) (k + 1 + nodes body)
    ++ rounds w n (λ i. sites_of w body (Counting body i first ∷ r) (k + 1)) (λ i. expression_at k r (Acc body i first))

-- the nodes of a contract with number k
abbrev pub sites_of_contract : Trial → Contract → List Layer → ℕ → List Site
sites_of_contract w Zero r k = contract_at k r Zero ∷ []
sites_of_contract w (Pay a p q) r k = contract_at k r (Pay a p q) ∷ []
sites_of_contract w (Both a b) r k =
    sites_of_contract w a r (k + 1) ++ (sites_of_contract w b r (k + 1 + nodes_of_contract a) ++ contract_at k r (Both a b) ∷ [])
sites_of_contract w (Scale e c) r k =
    sites_of w e r (k + 1) ++ (sites_of_contract w c r (k + 1 + nodes e) ++ contract_at k r (Scale e c) ∷ [])
sites_of_contract w (After n c) r k = sites_of_contract w c (Later (count_of n) ∷ r) (k + 1) ++ contract_at k r (After n c) ∷ []
sites_of_contract w (Let e c) r k =
    sites_of w e r (k + 1) ++ (sites_of_contract w c (Naming e ∷ r) (k + 1 + nodes e) ++ contract_at k r (Let e c) ∷ [])
sites_of_contract w (Within e n a b) r k =
    sites_of w e (Undated ∷ r) (k + 1)
    ++ (sites_of_contract w a (Undated ∷ r) (k + 1 + nodes e)
    ++ (sites_of_contract w b (Later (count_of n) ∷ r) (k + 1 + nodes e + nodes_of_contract a)
    ++ contract_at k r (Within e n a b) ∷ []))

-- the nodes of a whole contract
abbrev pub sites : Trial → Contract → List Site
sites w c = sites_of_contract w c [] 0

-- the kinds of the names that stand round a node
abbrev pub kinds_round : Declarations → List Layer → List Kind
kinds_round d [] = []
kinds_round d (Naming e ∷ r) = kind_or (kind_of d e (kinds_round d r)) ∷ kinds_round d r
kinds_round d (Counting body n first ∷ r) = kind_or (kind_of d first (kinds_round d r)) ∷ kinds_round d r
kinds_round d (Later n ∷ r) = kinds_round d r
kinds_round d (Earlier n ∷ r) = kinds_round d r
kinds_round d (Undated ∷ r) = kinds_round d r

-- every site passes
abbrev pub AllPass : (Site → Type 0) → List Site → Type 0
AllPass P [] = Unit {0}
AllPass P (s ∷ rest) = P s × AllPass P rest

-- the first site that does not pass has number k
abbrev pub FirstFault : (Site → Type 0) → List Site → ℕ → Type 0
FirstFault P [] k = ⊥
FirstFault P (s ∷ rest) k = ((P s → ⊥) × (s.number ≡ k)) ⊎ (P s × FirstFault P rest k)
