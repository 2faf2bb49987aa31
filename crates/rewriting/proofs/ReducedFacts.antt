-- The sites of a term and its frames.
use Rattle.std.proofs.Common.{ℕ, zero, ℤ, ◌+◌, Option, List, [], ◌∷◌}
use Rattle.term_model.specs.Terms.{Expression, Lit, Yes, Var, Obs, Neg, Num, Cmp, Not, Logic, Cond, Widen, Round, Div, Acc}
use Rattle.term_model.specs.Terms.{Contract, Zero, Pay, Both, Scale, After, Let, Within}
use Rattle.term_model.specs.Flows.{count_of}
use Rattle.term_model.specs.Sizes.{nodes, nodes_of_contract}
use Rattle.term_model.specs.Sites.{Layer, Naming, Counting, Later, Earlier, Undated, Part, Once, Site, sites_of, sites_of_contract, AllPass}
use Rattle.term_model.specs.Redexes.{frame_round}
use Rattle.term_model.proofs.Trials.{AllPass-append}
use Rattle.rewriting.specs.Reduced.{IsNoRedex, NoneIn, NoneInContract, ReducedByStructure}

abbrev AtFrames : (Option ℤ → Part → Type 0) → Option ℤ → Site → Type 0
AtFrames P whole s = P (frame_round whole s.layers) s.part

one : (P : Site → Type 0) (s : Site) → P s → AllPass P (s ∷ [])
one P s h = (h, tt)

pub none_at_sites : (P : Option ℤ → Part → Type 0) (whole : Option ℤ) (e : Expression) (r : List Layer) (k : ℕ) → NoneIn P (frame_round whole r) e → AllPass (AtFrames P whole) (sites_of Once e r k)
none_at_sites P whole (Lit m s) r k h = (h, tt)
none_at_sites P whole (Yes b) r k h = (h, tt)
none_at_sites P whole (Var back) r k h = (h, tt)
none_at_sites P whole (Obs l t) r k h = (h, tt)
none_at_sites P whole (Neg e) r k h = AllPass-append _ _ _ (none_at_sites P whole e r (k + 1) h.0) (h.1, tt)
none_at_sites P whole (Num op a b) r k h =
    AllPass-append _ _ _ (none_at_sites P whole a r (k + 1) h.0) (AllPass-append _ _ _ (none_at_sites P whole b r (k + 1 + nodes a) h.1) (h.2, tt))
none_at_sites P whole (Cmp op a b) r k h =
    AllPass-append _ _ _ (none_at_sites P whole a r (k + 1) h.0) (AllPass-append _ _ _ (none_at_sites P whole b r (k + 1 + nodes a) h.1) (h.2, tt))
none_at_sites P whole (Not e) r k h = AllPass-append _ _ _ (none_at_sites P whole e r (k + 1) h.0) (h.1, tt)
none_at_sites P whole (Logic op a b) r k h =
    AllPass-append _ _ _ (none_at_sites P whole a r (k + 1) h.0) (AllPass-append _ _ _ (none_at_sites P whole b r (k + 1 + nodes a) h.1) (h.2, tt))
none_at_sites P whole (Cond t a b) r k h =
    AllPass-append _ _ _ (none_at_sites P whole t r (k + 1) h.0) (AllPass-append _ _ _ (none_at_sites P whole a r (k + 1 + nodes t) h.1) (AllPass-append _ _ _ (none_at_sites P whole b r (k + 1 + nodes t + nodes a) h.2) (h.3, tt)))
none_at_sites P whole (Widen s e) r k h = AllPass-append _ _ _ (none_at_sites P whole e r (k + 1) h.0) (h.1, tt)
none_at_sites P whole (Round mode s e) r k h = AllPass-append _ _ _ (none_at_sites P whole e r (k + 1) h.0) (h.1, tt)
none_at_sites P whole (Div mode s a b) r k h =
    AllPass-append _ _ _ (none_at_sites P whole a r (k + 1) h.0) (AllPass-append _ _ _ (none_at_sites P whole b r (k + 1 + nodes a) h.1) (h.2, tt))
none_at_sites P whole (Acc body n first) r k h =
    AllPass-append _ _ _ (none_at_sites P whole first (Earlier n ∷ r) (k + 1 + nodes body) h.0)
    (AllPass-append _ _ _ (none_at_sites P whole body (Counting body zero first ∷ r) (k + 1) h.1) (h.2, tt))

pub none_at_contract : (P : Option ℤ → Part → Type 0) (whole : Option ℤ) (c : Contract) (r : List Layer) (k : ℕ) → NoneInContract P (frame_round whole r) c → AllPass (AtFrames P whole) (sites_of_contract Once c r k)
none_at_contract P whole Zero r k h = (h, tt)
none_at_contract P whole (Pay a p q) r k h = (h, tt)
none_at_contract P whole (Both a b) r k h =
    AllPass-append _ _ _ (none_at_contract P whole a r (k + 1) h.0) (AllPass-append _ _ _ (none_at_contract P whole b r (k + 1 + nodes_of_contract a) h.1) (h.2, tt))
none_at_contract P whole (Scale e c) r k h =
    AllPass-append _ _ _ (none_at_sites P whole e r (k + 1) h.0) (AllPass-append _ _ _ (none_at_contract P whole c r (k + 1 + nodes e) h.1) (h.2, tt))
none_at_contract P whole (After n c) r k h = AllPass-append _ _ _ (none_at_contract P whole c (Later (count_of n) ∷ r) (k + 1) h.0) (h.1, tt)
none_at_contract P whole (Let e c) r k h =
    AllPass-append _ _ _ (none_at_sites P whole e r (k + 1) h.0) (AllPass-append _ _ _ (none_at_contract P whole c (Naming e ∷ r) (k + 1 + nodes e) h.1) (h.2, tt))
none_at_contract P whole (Within e n a b) r k h =
    AllPass-append _ _ _ (none_at_sites P whole e (Undated ∷ r) (k + 1) h.0)
    (AllPass-append _ _ _ (none_at_contract P whole a (Undated ∷ r) (k + 1 + nodes e) h.1)
    (AllPass-append _ _ _ (none_at_contract P whole b (Later (count_of n) ∷ r) (k + 1 + nodes e + nodes_of_contract a) h.2) (h.3, tt)))

pub reduced_by_structure : ReducedByStructure
reduced_by_structure d c fixings whole kind h = none_at_contract (IsNoRedex d fixings kind) whole c [] 0 h
