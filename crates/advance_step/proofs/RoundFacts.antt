-- Rounds of reducing: a contract is specialised, and then turned.
use Rattle.std.proofs.Common.{◌≡◌, ℤ, [], Some, Result, Ok, Err, IfOk, ap, sym, subst, ◌∙◌, inl, inr, ◌<◌, arith}
use Rattle.std.specs.declared.rc.Rc.{Rc}
use Rattle.std.specs.Global.{Global}
use Rattle.term_model.specs.Declarations.{Declarations}
use Rattle.term_core.specs.declared.shared.SharedContr.{SharedContr}
use Rattle.term_core.specs.SharedTerms.{shared}
use Rattle.term_model.specs.Terms.{Contract}
use Rattle.term_model.specs.Environments.{Environment, IsAdmitted}
use Rattle.term_model.specs.Acceptance.{IsAccepted}
use Rattle.term_model.specs.Redexes.{FixedPlace, FixedSteps, HasNone}
use Rattle.term_model.specs.Residuals.{Carries}
use Rattle.term_model.specs.WellFormed.{IsClosed, HasOnlyNumbers}
use Rattle.interval_check.specs.Within.{KeepsLimits}
use Rattle.rewriting.specs.Measures.{size_in}
use Rattle.specialise.specs.Specialising.{specialised_in}
use Rattle.rewriting.specs.Keeping.{IsNoLargerIn}
use Rattle.specialise.proofs.AcceptedFacts.{special_accepted}
use Rattle.specialise.proofs.SpecialContracts.{special_carries}
use Rattle.specialise.proofs.SpecialForms.{contract_formed}
use Rattle.specialise.proofs.SpecialRedexes.{special_leaves_none}
use Rattle.specialise.proofs.CallFacts.{shared_numbers}
use Rattle.simplify.specs.TurningContracts.{turned_in}
use Rattle.simplify.proofs.TurnForms.{turns_keep_forms}
use Rattle.simplify.proofs.SimplifyingFacts.{literals_fit, nothing_plain}
use Rattle.advance_step.specs.Reducing.{reduced_once}
use Rattle.advance_step.specs.Residual.{IsReducedFrom}
use Rattle.advance_step.proofs.ReducingFacts.{each_kind, from_here, reducing_once}
use Rattle.advance_step.proofs.RoundsEnd.{last_is, once_more}

-- what a turn k of what is specialised of c is reduced to, that c is reduced to
after_round : (d : Declarations) (F : Environment) (f : ℤ) (c s k r : Contract) → KeepsLimits d → IsAdmitted d F → IsAccepted d c → HasOnlyNumbers c
    → s ≡ specialised_in d F (Some f) c → k ≡ turned_in d [] s → size_in k < size_in c → IsReducedFrom d F f k r → IsReducedFrom d F f c r
after_round d F f c s k r limits a h n hs hk less p =
    let one = reduced_once d F f c in
    let same : k ≡ one = hk ∙ ap (λ (x : Contract). turned_in d [] x) hs in
    let q : IsReducedFrom d F f one r = subst (λ (x : Contract). IsReducedFrom d F f x r) same p in
    record {
      exact = q.exact ∙ sym (once_more d F f c limits a h (subst (λ (x : Contract). size_in x < size_in c) same less));
      accepted = q.accepted;
      carries = from_here d c one r f F (reducing_once d F f c limits a h).1 q.carries;
      reduced = q.reduced;
      gone = λ z. q.gone (ap (λ (x : Contract). reduced_once d F f x) z);
      closed = λ w.
          let y = contract_formed d F (Some f) c 0 w n in
          q.closed (turns_keep_forms d (specialised_in d F (Some f) c) [] 0 y.0 y.1).0;
      literals = q.literals;
    }

-- where the turn changes nothing, what is specialised of c is reduced
last_round : (d : Declarations) (F : Environment) (f : ℤ) (c s : Contract) → KeepsLimits d → IsAdmitted d F → IsAccepted d c → HasOnlyNumbers c
    → s ≡ specialised_in d F (Some f) c → s ≡ turned_in d [] s → IsReducedFrom d F f c s
last_round d F f c s limits a h n hs still =
    let special = specialised_in d F (Some f) c in
    let accepted : IsAccepted d s = subst (λ (x : Contract). IsAccepted d x) (sym hs) (special_accepted d c F (Some f) limits a h) in
    let plain = nothing_plain d s still in
    record {
      exact = last_is d F f c s a h hs still;
      accepted = accepted;
      carries = subst (λ (x : Contract). Carries d c f F 0 x) (sym hs) (special_carries d F c f);
      reduced =
          each_kind d F f s plain
          (subst (λ (x : Contract). HasNone d F (Some f) FixedPlace x) (sym hs) (special_leaves_none d c F (Some f) FixedPlace tt a h.sorts))
          (subst (λ (x : Contract). HasNone d F (Some f) FixedSteps x) (sym hs) (special_leaves_none d c F (Some f) FixedSteps tt a h.sorts));
      gone = λ z. hs ∙ ap (λ (x : Contract). specialised_in d F (Some f) x) z;
      closed = λ w. subst (λ (x : Contract). IsClosed d x) (sym hs) (contract_formed d F (Some f) c 0 w n).0;
      literals = literals_fit d s limits accepted plain;
    }

-- the same of contracts with shared parts

pub round_then : {E : Type 0} (d : Declarations) (F : Environment) (f : ℤ) (c s k : SharedContr) (o : Result (Rc SharedContr Global) E) → KeepsLimits d → IsAdmitted d F → IsAccepted d (shared c)
    → shared s ≡ specialised_in d F (Some f) (shared c) → shared k ≡ turned_in d [] (shared s) → size_in (shared k) < size_in (shared c)
    → IfOk o (λ r. IsReducedFrom d F f (shared k) (shared r.value)) → IfOk o (λ r. IsReducedFrom d F f (shared c) (shared r.value))
round_then d F f c s k (Err e) limits a h hs hk less p = tt
round_then d F f c s k (Ok r) limits a h hs hk less p =
    after_round d F f (shared c) (shared s) (shared k) (shared r.value) limits a h (shared_numbers c) hs hk less p

pub round_last : (d : Declarations) (F : Environment) (f : ℤ) (c s : SharedContr) → KeepsLimits d → IsAdmitted d F → IsAccepted d (shared c)
    → shared s ≡ specialised_in d F (Some f) (shared c) → shared s ≡ turned_in d [] (shared s) → IsReducedFrom d F f (shared c) (shared s)
round_last d F f c s limits a h hs still = last_round d F f (shared c) (shared s) limits a h (shared_numbers c) hs still

-- a turn of what is specialised is smaller
pub round_less : (c s k : Contract) → IsNoLargerIn s c → size_in k < size_in s → size_in k < size_in c
round_less c s k (inl e) l = omega (arith, l, ap (λ (x : Contract). size_in x) e)
round_less c s k (inr m) l = omega (arith, l, m)
