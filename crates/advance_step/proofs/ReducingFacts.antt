-- Reducing ends, and residuals hold.
use Rattle.std.proofs.Common.{◌≡◌, ℕ, zero, suc, ℤ, pos, ◌+ℤ◌, ◌+◌, ◌≤◌, ◌<◌, nat_le, true, [], Some, refl, ap, sym, subst, ◌∙◌, inl, inr, ◌⊎◌, arith}
use Rattle.std.proofs.lemmas.Int.{ints}
use Rattle.std.proofs.lemmas.Bool.Decides.{nat_tests}
use Rattle.term_model.specs.Declarations.{Declarations}
use Rattle.term_model.specs.Terms.{Contract, Zero}
use Rattle.term_model.specs.Environments.{Environment}
use Rattle.term_model.specs.Residuals.{Carries}
use Rattle.term_model.specs.Redexes.{EmptyLeft, EmptyRight, ScaledNothing, ZeroFactor, NoDelay, TwoDelays, DelayedNothing, UnusedName, LiteralName, NothingEither, DecidedTest, LiteralOperands, DecidedChoice, FixedPlace, NoSteps, FixedSteps, HasNone, IsReduced}
use Rattle.term_model.specs.Acceptance.{IsAccepted}
use Rattle.term_model.proofs.ResidualFacts.{carries_composes}
use Rattle.advance_step.specs.WhatIsLeft.{left_of}
use Rattle.advance_step.proofs.CarryFacts.{left_carries}
use Rattle.advance_step.proofs.LeftSizes.{gone}
use Rattle.rewriting.specs.Measures.{size_in}
use Rattle.simplify.specs.TurningContracts.{turned_in, HasNoPlainIn}
use Rattle.simplify.proofs.ContractTurns.{contract_turns_end, some_size_in}
use Rattle.simplify.proofs.PlainFacts.{plain_leaves_none}
use Rattle.specialise.specs.Specialising.{specialised_in}
use Rattle.specialise.proofs.SpecialContracts.{special_carries, contract_smaller}
use Rattle.specialise.proofs.SpecialRedexes.{special_leaves_none}
use Rattle.specialise.proofs.AcceptedFacts.{special_accepted}
use Rattle.simplify.proofs.ContractTurnReads.{turns_carry}
use Rattle.simplify.proofs.TurnAccepted.{turn_accepted}
use Rattle.simplify.proofs.SimplifyingFacts.{right_scale}
use Rattle.advance_step.proofs.LeftAcceptedFacts.{left_accepted}
use Rattle.advance_step.specs.LawsReducing.{ReducingOnce, ReducingEnds, ResidualsHold}
use Rattle.advance_step.specs.Reducing.{reduced_once, reduced_times}

at_most : (a b : ℕ) → nat_le a b ≡ true → a ≤ b
at_most a b h = grind (arith, nat_tests)

-- over no more days
pub then_carries : (d : Declarations) (c r s : Contract) (f : ℤ) (F : Environment) (m : ℕ) → Carries d c f F m r → Carries d r (f +ℤ pos m) F 0 s → Carries d c f F m s
then_carries d c r s f F m h k =
    let same : m + 0 ≡ m = omega arith in
    subst (λ (n : ℕ). Carries d c f F n s) same (carries_composes d c r s f F F m 0 h k (λ q v e. e))

pub from_here : (d : Declarations) (c r s : Contract) (f : ℤ) (F : Environment) → Carries d c f F 0 r → Carries d r f F 0 s → Carries d c f F 0 s
from_here d c r s f F h k =
    let here : f ≡ f +ℤ pos 0 = omega (arith, ints) in
    then_carries d c r s f F 0 h (subst (λ (x : ℤ). Carries d r x F 0 s) here k)

-- none of the kinds that ask for no frame, and none of those that do
pub each_kind : (d : Declarations) (F : Environment) (f : ℤ) (s : Contract) → HasNoPlainIn s → HasNone d F (Some f) FixedPlace s → HasNone d F (Some f) FixedSteps s → IsReduced d s F f
each_kind d F f s h p q FixedPlace = p
each_kind d F f s h p q FixedSteps = q
each_kind d F f s h p q EmptyLeft = plain_leaves_none d s F (Some f) EmptyLeft tt h
each_kind d F f s h p q EmptyRight = plain_leaves_none d s F (Some f) EmptyRight tt h
each_kind d F f s h p q ScaledNothing = plain_leaves_none d s F (Some f) ScaledNothing tt h
each_kind d F f s h p q ZeroFactor = plain_leaves_none d s F (Some f) ZeroFactor tt h
each_kind d F f s h p q NoDelay = plain_leaves_none d s F (Some f) NoDelay tt h
each_kind d F f s h p q TwoDelays = plain_leaves_none d s F (Some f) TwoDelays tt h
each_kind d F f s h p q DelayedNothing = plain_leaves_none d s F (Some f) DelayedNothing tt h
each_kind d F f s h p q UnusedName = plain_leaves_none d s F (Some f) UnusedName tt h
each_kind d F f s h p q LiteralName = plain_leaves_none d s F (Some f) LiteralName tt h
each_kind d F f s h p q NothingEither = plain_leaves_none d s F (Some f) NothingEither tt h
each_kind d F f s h p q DecidedTest = plain_leaves_none d s F (Some f) DecidedTest tt h
each_kind d F f s h p q LiteralOperands = plain_leaves_none d s F (Some f) LiteralOperands tt h
each_kind d F f s h p q DecidedChoice = plain_leaves_none d s F (Some f) DecidedChoice tt h
each_kind d F f s h p q NoSteps = plain_leaves_none d s F (Some f) NoSteps tt h

-- a round over s, what is specialised of c
round_ends : (d : Declarations) (F : Environment) (f : ℤ) (c s k : Contract) → (s ≡ c) ⊎ (size_in s < size_in c) → ((k ≡ s) × HasNoPlainIn s) ⊎ (size_in k < size_in s) → HasNone d F (Some f) FixedPlace s → HasNone d F (Some f) FixedSteps s → ((k ≡ c) × IsReduced d c F f) ⊎ (size_in k < size_in c)
round_ends d F f c s k (inl e) (inl h) p q = inl (h.0 ∙ e, subst (λ (x : Contract). IsReduced d x F f) e (each_kind d F f s h.1 p q))
round_ends d F f c s k (inl e) (inr less) p q = inr (omega (arith, less, ap size_in e))
round_ends d F f c s k (inr small) (inl h) p q = inr (omega (arith, small, ap size_in h.0))
round_ends d F f c s k (inr small) (inr less) p q = inr (omega (arith, small, less))

pub reducing_once : ReducingOnce
reducing_once d F f c limits a h =
    let s = specialised_in d F (Some f) c in
    let k = turned_in d [] s in
    let accepted = special_accepted d c F (Some f) limits a h in (
      turn_accepted d s limits accepted,
      from_here d c s k f F (special_carries d F c f) (turns_carry d F s f accepted.sorts (right_scale d s accepted)),
      round_ends d F f c s k (contract_smaller d F (Some f) c) (contract_turns_end d s []) (special_leaves_none d c F (Some f) FixedPlace tt a h.sorts) (special_leaves_none d c F (Some f) FixedSteps tt a h.sorts),
    )

-- what one round leaves as it is, all rounds do
pub stays : (d : Declarations) (F : Environment) (f : ℤ) (c : Contract) (n : ℕ) → reduced_once d F f c ≡ c → reduced_times d F f n c ≡ c
stays d F f c zero e = refl
stays d F f c (suc n) e = ap (reduced_times d F f n) e ∙ stays d F f c n e

pub reducing_ends : ReducingEnds
reducing_ends d F f c zero limits a h le = absurd (omega (arith, some_size_in c, le))
reducing_ends d F f c (suc n) limits a h le =
    let once = reducing_once d F f c limits a h in
    let k = reduced_once d F f c in
    elim once.2 [
      | inl still ↦
          let same : reduced_times d F f (suc n) c ≡ c = stays d F f c (suc n) still.0 in
          let none : Carries d c f F 0 c = subst (λ (x : Contract). Carries d c f F 0 x) still.0 once.1 in
          (subst (IsAccepted d) (sym same) h, subst (Carries d c f F 0) (sym same) none, subst (λ (x : Contract). IsReduced d x F f) (sym same) still.1)
      | inr less ↦
          let rest = reducing_ends d F f k n limits a once.0 (omega (arith, less, le)) in
          (rest.0, from_here d c k (reduced_times d F f n k) f F once.1 rest.1, rest.2)
    ]

pub residuals_hold : ResidualsHold
residuals_hold d F f c rest j n limits a h is le =
    let there = f +ℤ pos (suc j) in
    let here : rest ≡ left_of d c [] F f j = is F a (λ q v e. e) in
    let accepted : IsAccepted d rest = subst (IsAccepted d) (sym here) (left_accepted d c F f j limits h) in
    let ends = reducing_ends d F there rest n limits a accepted le in (
      ends.0,
      then_carries d c rest (reduced_times d F there n rest) f F (suc j) (left_carries d c f F j rest (right_scale d c h) is) ends.1,
      ends.2,
      λ past. ap (reduced_times d F there n) (here ∙ gone d c [] F f j past) ∙ stays d F there Zero n refl,
    )
