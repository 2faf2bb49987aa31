-- A part of what meets the rules meets them.
use Rattle.std.proofs.Common.{◌≡◌, inl, inr, List, ◌∷◌, sym, subst}
use Rattle.term_model.specs.Declarations.{Declarations}
use Rattle.term_model.specs.Terms.{Expression, Lit, Yes, Var, Obs, Neg, Num, Cmp, Not, Logic, Cond, Widen, Round, Div, Acc}
use Rattle.term_model.specs.Terms.{Contract, Zero, Pay, Both, Scale, After, Let, Within}
use Rattle.term_model.specs.Sites.{Trial, Part}
use Rattle.term_model.specs.Bounds.{Range}
use Rattle.interval_check.specs.Nodes.{EachNode, EachContractNode, range_of}
use Rattle.interval_check.specs.Parts.{IsPart, IsPartHere, StandsIn}

-- the expression itself
same_meets : (P : List Range → Part → Type 0) (w : Trial) (d : Declarations) (e x : Expression) (g : List Range) → e ≡ x → EachNode P w d x g → EachNode P w d e g
same_meets P w d e x g same h = subst (λ (y : Expression). EachNode P w d y g) (sym same) h

pub part_meets : (P : List Range → Part → Type 0) (w : Trial) (d : Declarations) (e x : Expression) (g : List Range) → IsPart e x → EachNode P w d x g → EachNode P w d e g
part_meets P w d e (Lit m s) g p h = same_meets P w d e (Lit m s) g p h
part_meets P w d e (Yes b) g p h = same_meets P w d e (Yes b) g p h
part_meets P w d e (Var back) g p h = same_meets P w d e (Var back) g p h
part_meets P w d e (Obs l t) g p h = same_meets P w d e (Obs l t) g p h
part_meets P w d e (Neg a) g (inl p) h = same_meets P w d e (Neg a) g p h
part_meets P w d e (Neg a) g (inr p) h = part_meets P w d e a g p h.0
part_meets P w d e (Num op a b) g (inl p) h = same_meets P w d e (Num op a b) g p h
part_meets P w d e (Num op a b) g (inr (inl p)) h = part_meets P w d e a g p h.0
part_meets P w d e (Num op a b) g (inr (inr p)) h = part_meets P w d e b g p h.1
part_meets P w d e (Cmp op a b) g (inl p) h = same_meets P w d e (Cmp op a b) g p h
part_meets P w d e (Cmp op a b) g (inr (inl p)) h = part_meets P w d e a g p h.0
part_meets P w d e (Cmp op a b) g (inr (inr p)) h = part_meets P w d e b g p h.1
part_meets P w d e (Not a) g (inl p) h = same_meets P w d e (Not a) g p h
part_meets P w d e (Not a) g (inr p) h = part_meets P w d e a g p h.0
part_meets P w d e (Logic op a b) g (inl p) h = same_meets P w d e (Logic op a b) g p h
part_meets P w d e (Logic op a b) g (inr (inl p)) h = part_meets P w d e a g p h.0
part_meets P w d e (Logic op a b) g (inr (inr p)) h = part_meets P w d e b g p h.1
part_meets P w d e (Cond t a b) g (inl p) h = same_meets P w d e (Cond t a b) g p h
part_meets P w d e (Cond t a b) g (inr (inl p)) h = part_meets P w d e t g p h.0
part_meets P w d e (Cond t a b) g (inr (inr (inl p))) h = part_meets P w d e a g p h.1
part_meets P w d e (Cond t a b) g (inr (inr (inr p))) h = part_meets P w d e b g p h.2
part_meets P w d e (Widen s a) g (inl p) h = same_meets P w d e (Widen s a) g p h
part_meets P w d e (Widen s a) g (inr p) h = part_meets P w d e a g p h.0
part_meets P w d e (Round mode s a) g (inl p) h = same_meets P w d e (Round mode s a) g p h
part_meets P w d e (Round mode s a) g (inr p) h = part_meets P w d e a g p h.0
part_meets P w d e (Div mode s a b) g (inl p) h = same_meets P w d e (Div mode s a b) g p h
part_meets P w d e (Div mode s a b) g (inr (inl p)) h = part_meets P w d e a g p h.0
part_meets P w d e (Div mode s a b) g (inr (inr p)) h = part_meets P w d e b g p h.1
part_meets P w d e (Acc body n first) g (inl p) h = same_meets P w d e (Acc body n first) g p h
part_meets P w d e (Acc body n first) g (inr p) h = part_meets P w d e first g p h.0

here_meets : (P : List Range → Part → Type 0) (w : Trial) (d : Declarations) (e : Expression) (h : List Range) (x : Expression) (g : List Range) → IsPartHere e h x g → EachNode P w d x g → EachNode P w d e h
here_meets P w d e h x g p q =
    subst (λ (k : List Range). EachNode P w d e k) (sym p.ranges) (part_meets P w d e x g p.part q)

pub standing_meets : (P : List Range → Part → Type 0) (w : Trial) (d : Declarations) (e : Expression) (h : List Range) (c : Contract) (g : List Range) → StandsIn d e h c g → EachContractNode P w d c g → EachNode P w d e h
standing_meets P w d e h Zero g p q = absurd p
standing_meets P w d e h (Pay a x y) g p q = absurd p
standing_meets P w d e h (Both a b) g (inl p) q = standing_meets P w d e h a g p q.0
standing_meets P w d e h (Both a b) g (inr p) q = standing_meets P w d e h b g p q.1
standing_meets P w d e h (Scale x c) g (inl p) q = here_meets P w d e h x g p q.0
standing_meets P w d e h (Scale x c) g (inr p) q = standing_meets P w d e h c g p q.1
standing_meets P w d e h (After n c) g p q = standing_meets P w d e h c g p q.0
standing_meets P w d e h (Let x c) g (inl p) q = here_meets P w d e h x g p q.0
standing_meets P w d e h (Let x c) g (inr p) q = standing_meets P w d e h c (range_of d x g ∷ g) p q.1
standing_meets P w d e h (Within x n a b) g (inl p) q = here_meets P w d e h x g p q.0
standing_meets P w d e h (Within x n a b) g (inr (inl p)) q = standing_meets P w d e h a g p q.1
standing_meets P w d e h (Within x n a b) g (inr (inr p)) q = standing_meets P w d e h b g p q.2
