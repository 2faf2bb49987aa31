-- Where the flows of a contract are known, no place that it reads on the days gone by is missing,
-- and what is left of it is what is asked.
use Rattle.std.proofs.Common.{◌≡◌, ℕ, zero, suc, ◌<◌, ℤ, pos, ◌+ℤ◌, ◌-ℤ◌, ◌+◌, ◌≤◌, true, false}
use Rattle.std.proofs.Common.{Bool, List, [], ◌∷◌, Some, None, Result, Ok, Err, if◌then◌else◌, refl}
use Rattle.std.proofs.Common.{ap, sym, subst, ◌∙◌, arith, IsTrue}
use Rattle.std.specs.List.{All, Contains}
use Rattle.std.proofs.lemmas.Int.{ints}
use Rattle.std.proofs.lemmas.List.Elements.{All-cons, All-contains}
use Rattle.std.specs.declared.rc.Rc.{Rc}
use Rattle.std.specs.Global.{Global}
use Rattle.term_model.specs.Declarations.{Declarations}
use Rattle.term_core.specs.declared.shared.SharedContr.{SharedContr}
use Rattle.term_core.specs.SharedTerms.{shared}
use Rattle.term_model.specs.Terms.{Contract, Zero}
use Rattle.term_model.specs.Environments.{Environment, Place}
use Rattle.term_model.specs.Acceptance.{IsAccepted}
use Rattle.term_model.specs.Reads.{first_unfixed, is_fixed, reads_of_contract}
use Rattle.term_model.specs.Redexes.{IsReduced, EmptyLeft, EmptyRight, ScaledNothing, ZeroFactor}
use Rattle.term_model.specs.Redexes.{NoDelay, TwoDelays, DelayedNothing, UnusedName, LiteralName}
use Rattle.term_model.specs.Redexes.{NothingEither, DecidedTest, LiteralOperands, DecidedChoice}
use Rattle.term_model.specs.Redexes.{FixedPlace, NoSteps, FixedSteps}
use Rattle.term_model.specs.Sizes.{reach, past_of_contract}
use Rattle.term_model.specs.Smallness.{is_small}
use Rattle.term_model.specs.WellFormed.{IsClosed, HasOnlyNumbers}
use Rattle.term_model.proofs.TimeFacts.{whole_passes}
use Rattle.interval_check.specs.Within.{KeepsLimits}
use Rattle.simplify.proofs.SimplifyingFacts.{right_scale}
use Rattle.flow_eval.specs.FlowAnswers.{reads_until}
use Rattle.flow_eval.specs.Faults.{lacks_memory}
use Rattle.flow_eval.specs.declared.faults.FlowErr.{FlowErr}
use Rattle.flow_eval.specs.declared.faults.FlowErr.TheVariants.{Missing, NoMemory}
use Rattle.advance_step.specs.WhatIsLeft.{left_of}
use Rattle.advance_step.specs.Advancing.{IsResidual}
use Rattle.advance_step.specs.CarryingWalk.{AnswersLeft, IsLeftEverywhere, NamesUnfixedRead}
use Rattle.advance_step.specs.Residual.{AnswersLeftAfter, IsLeftAfter, ReadsAreFixed}
use Rattle.rewriting.specs.Measures.{size_in}
use Rattle.advance_step.specs.Reducing.{reduced}
use Rattle.advance_step.proofs.CarryFacts.{left_carries}
use Rattle.advance_step.proofs.ReducingFacts.{stays}
use Rattle.advance_step.proofs.LeftAcceptedFacts.{left_accepted}
use Rattle.advance_step.proofs.LeftForms.{left_formed}
use Rattle.advance_step.proofs.LeftSizes.{gone}
use Rattle.advance_step.proofs.LeftSmall.{contract_limits}
use Rattle.specialise.proofs.CallFacts.{shared_numbers}

-- ---- nothing is missing

step_fixed : (F : Environment) (x : Place) (xs : List Place) (b : Bool) → is_fixed F x ≡ b
    → (first_unfixed F xs ≡ None → All (λ (q : Place). is_fixed F q ≡ true) xs)
    → (if b then first_unfixed F xs else Some x) ≡ None
    → All (λ (q : Place). is_fixed F q ≡ true) (x ∷ xs)
step_fixed F x xs true is h e = All-cons (λ (q : Place). is_fixed F q ≡ true) x xs is (h e)
step_fixed F x xs false is h e = absurd (cc)

all_fixed : (F : Environment) (xs : List Place) → first_unfixed F xs ≡ None
    → All (λ (q : Place). is_fixed F q ≡ true) xs
all_fixed F [] e = λ k x l. absurd (omega arith)
all_fixed F (x ∷ xs) e = step_fixed F x xs (is_fixed F x) refl (all_fixed F xs) e

none_missing : (F : Environment) (xs : List Place) (q : Place) → first_unfixed F xs ≡ None
    → Contains xs q → is_fixed F q ≡ false → ⊥
none_missing F xs q e h u =
    let fixed : is_fixed F q ≡ true = All-contains (λ (y : Place). is_fixed F y ≡ true) xs q
    (all_fixed F xs e) h in
    cc

-- the days from the first to the last, counted
counted : (d : Declarations) (c : Contract) (F : Environment) (f : ℤ) (j : ℕ)
    → reads_until d c F f (f +ℤ pos j) ≡ reads_of_contract d c [] [] F f (pos 0) (pos j)
counted d c F f j =
    let days : (f +ℤ pos j) -ℤ f ≡ pos j = omega (arith, ints) in
    ap (λ (b : ℤ). reads_of_contract d c [] [] F f (pos 0) b) days

only_memory : (d : Declarations) (F : Environment) (c : Contract) (f : ℤ) (j : ℕ)
    → ReadsAreFixed d c F f (f +ℤ pos j) → (e : FlowErr) → NamesUnfixedRead d F c f j e
    → e ≡ lacks_memory
only_memory d F c f j known NoMemory h = refl
only_memory d F c f j known (Missing l t) h =
    absurd (none_missing F (reads_of_contract d c [] [] F f (pos 0) (pos j))
    (record { label = l; day = t }) (ap (first_unfixed F) (sym (counted d c F f j)) ∙ known) h.0
    h.1)

-- ---- what is left

pub near_enough : (d : Declarations) (c : Contract) → IsAccepted d c
    → reach c + past_of_contract c ≤ 1_000_000
near_enough d c h = (contract_limits c
    (whole_passes (λ s. IsTrue (is_small s)) c [] 0 h.sizes)).both

pub left_after : (d : Declarations) (F : Environment) (c rest : Contract) (f : ℤ) (j : ℕ)
    → KeepsLimits d
    → IsAccepted d c → HasOnlyNumbers c → IsLeftEverywhere d F c f j rest
    → IsLeftAfter d F f (suc j) c rest
left_after d F c rest f j limits h n is =
    let here : rest ≡ left_of d c [] F f j = is F (λ q v e. e) in
    record {
      exact = λ env x. is env x;
      accepted = subst (λ (x : Contract). IsAccepted d x) (sym here)
          (left_accepted d c F f j limits h);
      carries = left_carries d c f F j rest (right_scale d c h) (λ env b x. is env x);
      gone = λ past. here ∙ gone d c [] F f j (omega (arith, past));
      closed = λ w.
          subst (λ (x : Contract). IsClosed d x) (sym here)
          (left_formed d c [] F f j 0 (near_enough d c h) w n).0;
    }

-- nothing has no redex
pub nothing_reduced : (d : Declarations) (F : Environment) (f : ℤ) → IsReduced d Zero F f
nothing_reduced d F f EmptyLeft = (refl, tt)
nothing_reduced d F f EmptyRight = (refl, tt)
nothing_reduced d F f ScaledNothing = (refl, tt)
nothing_reduced d F f ZeroFactor = (refl, tt)
nothing_reduced d F f NoDelay = (refl, tt)
nothing_reduced d F f TwoDelays = (refl, tt)
nothing_reduced d F f DelayedNothing = (refl, tt)
nothing_reduced d F f UnusedName = (refl, tt)
nothing_reduced d F f LiteralName = (refl, tt)
nothing_reduced d F f NothingEither = (refl, tt)
nothing_reduced d F f DecidedTest = (refl, tt)
nothing_reduced d F f LiteralOperands = (refl, tt)
nothing_reduced d F f DecidedChoice = (refl, tt)
nothing_reduced d F f FixedPlace = (refl, tt)
nothing_reduced d F f NoSteps = (refl, tt)
nothing_reduced d F f FixedSteps = (refl, tt)

-- past the reach nothing is the residual
pub gone_residual : (d : Declarations) (F : Environment) (c : Contract) (f : ℤ) (n : ℕ)
    → KeepsLimits d
    → IsAccepted d c → IsClosed d c → HasOnlyNumbers c → reach c < n → IsResidual d F f n c Zero
gone_residual d F c f zero limits h w numbers past = absurd (omega arith)
gone_residual d F c f (suc j) limits h w numbers past =
    let none : IsLeftEverywhere d F c f j Zero =
    λ env ext. sym (gone d c [] env f j (omega (arith, past))) in
    let left = left_after d F c Zero f j limits h numbers none in
    let there = f +ℤ pos (suc j) in
    record {
      exact = λ env same.
          sym (ap (reduced d env there) (gone d c [] env f j (omega (arith, past)))
          ∙ stays d env there Zero (size_in Zero) refl);
      accepted = left.accepted;
      carries = left.carries;
      reduced = nothing_reduced d F (f +ℤ pos (suc j));
      gone = λ _. refl;
      closed = left.closed w;
      numbers = tt;
      literals = tt;
    }

-- ---- the answer

pub known_answers : (d : Declarations) (F : Environment) (s : SharedContr) (f : ℤ) (j : ℕ)
    (o : Result (Rc SharedContr Global) FlowErr) → KeepsLimits d → IsAccepted d (shared s)
    → ReadsAreFixed d (shared s) F f (f +ℤ pos j) → AnswersLeft d F (shared s) f j o
    → AnswersLeftAfter d F f (j + 1) (shared s) o
known_answers d F s f j (Ok r) limits a known h =
    let days : suc j ≡ j + 1 = omega arith in
    let rest = left_after d F (shared s) (shared r.value) f j limits a (shared_numbers s) h.0 in
    (subst (λ (n : ℕ). IsLeftAfter d F f n (shared s) (shared r.value)) days rest, h.1)
known_answers d F s f j (Err e) limits a known h = only_memory d F (shared s) f j known e h
