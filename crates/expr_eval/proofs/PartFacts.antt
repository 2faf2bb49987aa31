-- What stands directly in a contract may be evaluated where the contract may be.
use Rattle.std.proofs.Common.{pos, inl, inr, refl, sym, subst, List, [], ◌∷◌, Result}
use Rattle.term_model.specs.Declarations.{Declarations}
use Rattle.term_model.specs.declared.values.Value.{Value}
use Rattle.term_model.specs.declared.values.Missing.{Missing}
use Rattle.term_model.specs.Terms.{Expression, Lit, Yes, Var, Obs, Neg, Num, Cmp, Not, Logic, Cond, Widen, Round, Div, Acc}
use Rattle.term_model.specs.Terms.{Contract, Zero, Pay, Both, Scale, After, Let, Within}
use Rattle.term_model.specs.Shifts.{shifted}
use Rattle.term_model.specs.Bounds.{Range}
use Rattle.interval_check.specs.Nodes.{range_of}
use Rattle.interval_check.specs.Parts.{IsPart, IsPartHere, StandsIn}
use Rattle.expr_eval.specs.declared.scratch.Binding.{Binding}
use Rattle.expr_eval.specs.Evaluable.{MayEvaluate, MayEvaluateIn}
use Rattle.expr_eval.specs.Answers.{entry_from, SuitsBinding}
use Rattle.expr_eval.specs.LawsEntries.{AcceptedMayEvaluate, PartsOfPartsMayEvaluate}
use Rattle.term_model.proofs.ShiftedFacts.{shifted_zero}

pub part_of_itself : (e : Expression) → IsPart e e
part_of_itself (Lit m s) = refl
part_of_itself (Yes b) = refl
part_of_itself (Var back) = refl
part_of_itself (Obs l t) = refl
part_of_itself (Neg a) = inl refl
part_of_itself (Num op a b) = inl refl
part_of_itself (Cmp op a b) = inl refl
part_of_itself (Not a) = inl refl
part_of_itself (Logic op a b) = inl refl
part_of_itself (Cond t a b) = inl refl
part_of_itself (Widen s a) = inl refl
part_of_itself (Round mode s a) = inl refl
part_of_itself (Div mode s a b) = inl refl
part_of_itself (Acc body n first) = inl refl

pub here : (e : Expression) (g : List Range) → IsPartHere e g e g
here e g = record { part = part_of_itself e; ranges = refl }

-- an expression as it stands is moved by nothing
pub as_it_is : (d : Declarations) (e : Expression) (g : List Range) (c : Contract) → StandsIn d e g c [] → StandsIn d (shifted (pos 0) e) g c []
as_it_is d e g c p = subst (λ (x : Expression). StandsIn d x g c []) (sym (shifted_zero e)) p

-- an expression and a contract of which all that stands there stands in the contract

one_expression : (d : Declarations) (c : Contract) (e : Expression) (bs : List Binding) → (h : MayEvaluateIn d c bs) → StandsIn d e h.ranges c h.ranges → MayEvaluate d e bs
one_expression d c e bs h p =
    record {
      contract = h.contract;
      moved = pos 0;
      ranges = h.ranges;
      accepted = h.accepted;
      stands = as_it_is d e h.ranges h.contract (h.inside e h.ranges p);
      entries = inl h.entries;
    }

one_contract : (d : Declarations) (c part : Contract) (bs : List Binding) → (h : MayEvaluateIn d c bs) → ((e : Expression) (inner : List Range) → StandsIn d e inner part h.ranges → StandsIn d e inner c h.ranges) → MayEvaluateIn d part bs
one_contract d c part bs h p =
    record { contract = h.contract; ranges = h.ranges; accepted = h.accepted; inside = λ e inner q. h.inside e inner (p e inner q); entries = h.entries }

in_body : (d : Declarations) (e : Expression) (c : Contract) (bs : List Binding) → MayEvaluateIn d (Let e c) bs → (r : Result Value Missing) → SuitsBinding d e bs r → MayEvaluateIn d c (entry_from d e bs r ∷ bs)
in_body d e c bs h r suits =
    record {
      contract = h.contract;
      ranges = range_of d e h.ranges ∷ h.ranges;
      accepted = h.accepted;
      inside = λ x inner q. h.inside x inner (inr q);
      entries = (suits h.contract (pos 0) h.ranges h.accepted (as_it_is d e h.ranges h.contract (h.inside e h.ranges (inl (here e h.ranges)))) h.entries, h.entries);
    }

pub accepted_may_evaluate : AcceptedMayEvaluate
accepted_may_evaluate d c h =
    record { contract = c; ranges = []; accepted = h; inside = λ e inner q. q; entries = tt }

pub parts_of_parts_may_evaluate : PartsOfPartsMayEvaluate
parts_of_parts_may_evaluate d Zero bs h = tt
parts_of_parts_may_evaluate d (Pay a p q) bs h = tt
parts_of_parts_may_evaluate d (Both a b) bs h =
    (one_contract d (Both a b) a bs h (λ e inner q. inl q), one_contract d (Both a b) b bs h (λ e inner q. inr q))
parts_of_parts_may_evaluate d (Scale e c) bs h =
    (one_expression d (Scale e c) e bs h (inl (here e h.ranges)), one_contract d (Scale e c) c bs h (λ x inner q. inr q))
parts_of_parts_may_evaluate d (After n c) bs h = one_contract d (After n c) c bs h (λ e inner q. q)
parts_of_parts_may_evaluate d (Let e c) bs h =
    (one_expression d (Let e c) e bs h (inl (here e h.ranges)), in_body d e c bs h)
parts_of_parts_may_evaluate d (Within e n a b) bs h = (
  one_expression d (Within e n a b) e bs h (inl (here e h.ranges)),
  one_contract d (Within e n a b) a bs h (λ x inner q. inr (inl q)),
  one_contract d (Within e n a b) b bs h (λ x inner q. inr (inr q)),
)
