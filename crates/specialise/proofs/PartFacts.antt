-- Parts of what may be specialised may be specialised.
use Rattle.std.proofs.Common.{◌≡◌, inl, inr, subst, sym, ℤ, pos, List, [], ◌∷◌}
use Rattle.term_model.specs.Declarations.{Declarations}
use Rattle.term_model.specs.Terms.{Expression, Lit, Yes, Var, Obs, Neg, Num, Cmp, Not, Logic, Cond, Widen, Round, Div, Acc}
use Rattle.term_model.specs.Terms.{Contract, Zero, Pay, Both, Scale, After, Let, Within}
use Rattle.term_model.specs.Shifts.{shifted}
use Rattle.term_core.specs.SharedTerms.{HasOffsets}
use Rattle.term_model.proofs.ShiftedFacts.{shifted_zero}
use Rattle.term_model.specs.Bounds.{Range}
use Rattle.interval_check.specs.Nodes.{range_of}
use Rattle.interval_check.specs.Parts.{IsPart, IsPartHere, StandsIn}
use Rattle.specialise.specs.LawsParts.{AcceptedMaySpecialise, PartsOfPartsMaySpecialise}
use Rattle.specialise.specs.Specialisable.{IsPartOfAccepted, MaySpecialise, MaySpecialiseIn}
use Rattle.expr_eval.proofs.PartFacts.{here, part_of_itself}

by_whole : (x e y : Expression) → IsPart x e → e ≡ y → IsPart x y
by_whole x e y p h = subst (λ (z : Expression). IsPart x z) h p

-- a part of a part is a part
pub part_of_part : (x e y : Expression) → IsPart x e → IsPart e y → IsPart x y
part_of_part x e (Lit m s) p q = by_whole x e (Lit m s) p q
part_of_part x e (Yes b) p q = by_whole x e (Yes b) p q
part_of_part x e (Var back) p q = by_whole x e (Var back) p q
part_of_part x e (Obs l t) p q = by_whole x e (Obs l t) p q
part_of_part x e (Neg a) p (inl q) = by_whole x e (Neg a) p q
part_of_part x e (Neg a) p (inr q) = inr (part_of_part x e a p q)
part_of_part x e (Num op a b) p (inl q) = by_whole x e (Num op a b) p q
part_of_part x e (Num op a b) p (inr (inl q)) = inr (inl (part_of_part x e a p q))
part_of_part x e (Num op a b) p (inr (inr q)) = inr (inr (part_of_part x e b p q))
part_of_part x e (Cmp op a b) p (inl q) = by_whole x e (Cmp op a b) p q
part_of_part x e (Cmp op a b) p (inr (inl q)) = inr (inl (part_of_part x e a p q))
part_of_part x e (Cmp op a b) p (inr (inr q)) = inr (inr (part_of_part x e b p q))
part_of_part x e (Not a) p (inl q) = by_whole x e (Not a) p q
part_of_part x e (Not a) p (inr q) = inr (part_of_part x e a p q)
part_of_part x e (Logic op a b) p (inl q) = by_whole x e (Logic op a b) p q
part_of_part x e (Logic op a b) p (inr (inl q)) = inr (inl (part_of_part x e a p q))
part_of_part x e (Logic op a b) p (inr (inr q)) = inr (inr (part_of_part x e b p q))
part_of_part x e (Cond t a b) p (inl q) = by_whole x e (Cond t a b) p q
part_of_part x e (Cond t a b) p (inr (inl q)) = inr (inl (part_of_part x e t p q))
part_of_part x e (Cond t a b) p (inr (inr (inl q))) = inr (inr (inl (part_of_part x e a p q)))
part_of_part x e (Cond t a b) p (inr (inr (inr q))) = inr (inr (inr (part_of_part x e b p q)))
part_of_part x e (Widen s a) p (inl q) = by_whole x e (Widen s a) p q
part_of_part x e (Widen s a) p (inr q) = inr (part_of_part x e a p q)
part_of_part x e (Round mode s a) p (inl q) = by_whole x e (Round mode s a) p q
part_of_part x e (Round mode s a) p (inr q) = inr (part_of_part x e a p q)
part_of_part x e (Div mode s a b) p (inl q) = by_whole x e (Div mode s a b) p q
part_of_part x e (Div mode s a b) p (inr (inl q)) = inr (inl (part_of_part x e a p q))
part_of_part x e (Div mode s a b) p (inr (inr q)) = inr (inr (part_of_part x e b p q))
part_of_part x e (Acc body n first) p (inl q) = by_whole x e (Acc body n first) p q
part_of_part x e (Acc body n first) p (inr q) = inr (part_of_part x e first p q)

part_here : (x e : Expression) (h : List Range) (y : Expression) (g : List Range) → IsPart x e → IsPartHere e h y g → IsPartHere x h y g
part_here x e h y g p q = record { part = part_of_part x e y p q.part; ranges = q.ranges }

-- a part of what stands in a contract stands there
pub part_stands : (d : Declarations) (x e : Expression) (h : List Range) (c : Contract) (g : List Range) → IsPart x e → StandsIn d e h c g → StandsIn d x h c g
part_stands d x e h Zero g p q = absurd q
part_stands d x e h (Pay a s t) g p q = absurd q
part_stands d x e h (Both a b) g p (inl q) = inl (part_stands d x e h a g p q)
part_stands d x e h (Both a b) g p (inr q) = inr (part_stands d x e h b g p q)
part_stands d x e h (Scale y c) g p (inl q) = inl (part_here x e h y g p q)
part_stands d x e h (Scale y c) g p (inr q) = inr (part_stands d x e h c g p q)
part_stands d x e h (After n c) g p q = part_stands d x e h c g p q
part_stands d x e h (Let y c) g p (inl q) = inl (part_here x e h y g p q)
part_stands d x e h (Let y c) g p (inr q) = inr (part_stands d x e h c (range_of d y g ∷ g) p q)
part_stands d x e h (Within y n a b) g p (inl q) = inl (part_here x e h y g p q)
part_stands d x e h (Within y n a b) g p (inr (inl q)) = inr (inl (part_stands d x e h a g p q))
part_stands d x e h (Within y n a b) g p (inr (inr q)) = inr (inr (part_stands d x e h b g p q))

-- a part may be specialised
smaller : (d : Declarations) (e x : Expression) → (h : MaySpecialise d e) → IsPart (shifted h.moved x) (shifted h.moved e) → HasOffsets x → MaySpecialise d x
smaller d e x h p o =
    let whole = h.part in
    record {
      moved = h.moved;
      part = record {
        contract = whole.contract;
        ranges = whole.ranges;
        accepted = whole.accepted;
        stands = part_stands d (shifted h.moved x) (shifted h.moved e) whole.ranges whole.contract [] p whole.stands;
      };
      offsets = o;
    }

-- the parts that a walk goes into
abbrev pub PartsMaySpecialise : Declarations → Expression → Type 0
PartsMaySpecialise d (Neg e) = MaySpecialise d e
PartsMaySpecialise d (Num op a b) = MaySpecialise d a × MaySpecialise d b
PartsMaySpecialise d (Cmp op a b) = MaySpecialise d a × MaySpecialise d b
PartsMaySpecialise d (Not e) = MaySpecialise d e
PartsMaySpecialise d (Logic op a b) = MaySpecialise d a × MaySpecialise d b
PartsMaySpecialise d (Cond t a b) = MaySpecialise d t × MaySpecialise d a × MaySpecialise d b
PartsMaySpecialise d (Widen s e) = MaySpecialise d e
PartsMaySpecialise d (Round mode s e) = MaySpecialise d e
PartsMaySpecialise d (Div mode s a b) = MaySpecialise d a × MaySpecialise d b
PartsMaySpecialise d (Acc body n first) = MaySpecialise d first
PartsMaySpecialise d e = Unit {0}

pub parts_may_be_specialised : (d : Declarations) (e : Expression) → MaySpecialise d e → PartsMaySpecialise d e
parts_may_be_specialised d (Lit m s) h = tt
parts_may_be_specialised d (Yes b) h = tt
parts_may_be_specialised d (Var back) h = tt
parts_may_be_specialised d (Obs l t) h = tt
parts_may_be_specialised d (Neg e) h = smaller d (Neg e) e h (inr (part_of_itself _)) h.offsets
parts_may_be_specialised d (Num op a b) h =
    (smaller d (Num op a b) a h (inr (inl (part_of_itself _))) h.offsets.0, smaller d (Num op a b) b h (inr (inr (part_of_itself _))) h.offsets.1)
parts_may_be_specialised d (Cmp op a b) h =
    (smaller d (Cmp op a b) a h (inr (inl (part_of_itself _))) h.offsets.0, smaller d (Cmp op a b) b h (inr (inr (part_of_itself _))) h.offsets.1)
parts_may_be_specialised d (Not e) h = smaller d (Not e) e h (inr (part_of_itself _)) h.offsets
parts_may_be_specialised d (Logic op a b) h =
    (smaller d (Logic op a b) a h (inr (inl (part_of_itself _))) h.offsets.0, smaller d (Logic op a b) b h (inr (inr (part_of_itself _))) h.offsets.1)
parts_may_be_specialised d (Cond t a b) h = (
  smaller d (Cond t a b) t h (inr (inl (part_of_itself _))) h.offsets.0,
  smaller d (Cond t a b) a h (inr (inr (inl (part_of_itself _)))) h.offsets.1,
  smaller d (Cond t a b) b h (inr (inr (inr (part_of_itself _)))) h.offsets.2,
)
parts_may_be_specialised d (Widen s e) h = smaller d (Widen s e) e h (inr (part_of_itself _)) h.offsets
parts_may_be_specialised d (Round mode s e) h = smaller d (Round mode s e) e h (inr (part_of_itself _)) h.offsets
parts_may_be_specialised d (Div mode s a b) h =
    (smaller d (Div mode s a b) a h (inr (inl (part_of_itself _))) h.offsets.0, smaller d (Div mode s a b) b h (inr (inr (part_of_itself _))) h.offsets.1)
parts_may_be_specialised d (Acc body n first) h = smaller d (Acc body n first) first h (inr (part_of_itself _)) h.offsets.1

-- so may what stands in an accepted contract, as it is, or where it is read later
pub standing_may_be_specialised : (d : Declarations) (e : Expression) → IsPartOfAccepted d e → HasOffsets e → MaySpecialise d e
standing_may_be_specialised d e h o =
    record { moved = pos 0; part = subst (λ (x : Expression). IsPartOfAccepted d x) (sym (shifted_zero e)) h; offsets = o }

pub stored_may_be_specialised : (d : Declarations) (k : ℤ) (e : Expression) → IsPartOfAccepted d (shifted k e) → HasOffsets e → MaySpecialise d e
stored_may_be_specialised d k e h o = record { moved = k; part = h; offsets = o }

-- the parts of a contract that a walk goes into

one_stands : (d : Declarations) (c : Contract) (e : Expression) → (h : MaySpecialiseIn d c) → StandsIn d e h.ranges c h.ranges → IsPartOfAccepted d e
one_stands d c e h p = record { contract = h.contract; ranges = h.ranges; accepted = h.accepted; stands = h.inside e h.ranges p }

one_inside : (d : Declarations) (c part : Contract) → (h : MaySpecialiseIn d c) → ((e : Expression) (inner : List Range) → StandsIn d e inner part h.ranges → StandsIn d e inner c h.ranges) → MaySpecialiseIn d part
one_inside d c part h p =
    record { contract = h.contract; ranges = h.ranges; accepted = h.accepted; inside = λ e inner q. h.inside e inner (p e inner q) }

pub parts_inside : PartsOfPartsMaySpecialise
parts_inside d Zero h = tt
parts_inside d (Pay a p q) h = tt
parts_inside d (Both a b) h = (one_inside d (Both a b) a h (λ e inner q. inl q), one_inside d (Both a b) b h (λ e inner q. inr q))
parts_inside d (Scale e c) h = (one_stands d (Scale e c) e h (inl (here e h.ranges)), one_inside d (Scale e c) c h (λ x inner q. inr q))
parts_inside d (After n c) h = one_inside d (After n c) c h (λ e inner q. q)
parts_inside d (Let e c) h = (
  one_stands d (Let e c) e h (inl (here e h.ranges)),
  record {
    contract = h.contract;
    ranges = range_of d e h.ranges ∷ h.ranges;
    accepted = h.accepted;
    inside = λ x inner q. h.inside x inner (inr q);
  },
)
parts_inside d (Within e n a b) h = (
  one_stands d (Within e n a b) e h (inl (here e h.ranges)),
  one_inside d (Within e n a b) a h (λ x inner q. inr (inl q)),
  one_inside d (Within e n a b) b h (λ x inner q. inr (inr q)),
)

-- an accepted contract
pub whole_inside : AcceptedMaySpecialise
whole_inside d c h = record { contract = c; ranges = []; accepted = h; inside = λ e inner q. q }
