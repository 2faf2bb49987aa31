-- Rounds of reducing come to one contract: behind a round that makes a contract smaller it is what that is reduced to, and
-- where a turn changes nothing of what is specialised it is this.
use Rattle.std.proofs.Common.{◌≡◌, ◌∙◌, ◌≤◌, ◌<◌, ℕ, zero, suc, ℤ, pos, ◌-ℤ◌, ◌&&◌, Bool, true, false, if◌then◌else◌, [], Option, Some, None, refl, ap, ap₂, sym, inl, inr, arith}
use Rattle.term_model.specs.Declarations.{Declarations}
use Rattle.term_model.specs.Terms.{Expression, Lit, Yes, Var, Obs, Neg, Num, Cmp, Not, Logic, Cond, Widen, Round, Div, Acc}
use Rattle.term_model.specs.Terms.{Contract, Zero, Pay, Both, Scale, After, Let, Within}
use Rattle.term_model.specs.Environments.{Environment, IsAdmitted}
use Rattle.term_model.specs.Acceptance.{IsAccepted}
use Rattle.term_model.specs.Flows.{count_of}
use Rattle.term_model.specs.Redexes.{FixedPlace, FixedSteps, moved}
use Rattle.interval_check.specs.Within.{KeepsLimits}
use Rattle.interval_check.proofs.GuaranteeFacts.{rules_are_by_structure}
use Rattle.rewriting.specs.Measures.{size_in}
use Rattle.rewriting.specs.Reduced.{IsNoRedex, NoneIn, NoneInContract}
use Rattle.simplify.specs.TurningContracts.{turned_in}
use Rattle.simplify.proofs.ContractTurns.{some_size_in}
use Rattle.specialise.specs.Specialising.{is_known, specialised, specialised_in, told, told_or}
use Rattle.specialise.proofs.SpecialRedexes.{none_told_in}
use Rattle.specialise.proofs.SpecialSizes.{nothing_told}
use Rattle.advance_step.specs.Reducing.{reduced, reduced_once, reduced_times}
use Rattle.advance_step.proofs.ReducingFacts.{reducing_once, stays}

-- ---- nothing more is told of a term that holds nothing that the fixings tell

module _ (d : Declarations) (F : Environment) where
  abbrev NoPlace : Option ℤ → Expression → Type 0
  NoPlace o e = NoneIn (IsNoRedex d F FixedPlace) o e

  abbrev NoSteps : Option ℤ → Expression → Type 0
  NoSteps o e = NoneIn (IsNoRedex d F FixedSteps) o e

  unknown : (o : Option ℤ) (e x : Expression) → is_known d F o e ≡ false → told_or d F o e x ≡ x
  unknown o e x h = ap (λ (b : Bool). if b then told d F o e x else x) h

  no_more : (b : Bool) → b ≡ false → (b && true) ≡ false
  no_more b h = ap (λ (x : Bool). x && true) h

  place_stays : (o : Option ℤ) (l : ℕ) (t : ℤ) → NoPlace o (Obs l t) → is_known d F o (Obs l t) ≡ false
  place_stays None l t h = refl
  place_stays (Some f) l t h = no_more _ h

  untold : (o : Option ℤ) (e : Expression) → NoPlace o e → NoSteps o e → specialised d F o e ≡ e
  untold o (Lit m s) h k = refl
  untold o (Yes b) h k = refl
  untold o (Var back) h k = refl
  untold o (Obs l t) h k = unknown o (Obs l t) (Obs l t) (place_stays o l t h)
  untold o (Neg e) h k = ap Neg (untold o e h.0 k.0)
  untold o (Num op a b) h k = ap₂ (Num op) (untold o a h.0 k.0) (untold o b h.1 k.1)
  untold o (Cmp op a b) h k = ap₂ (Cmp op) (untold o a h.0 k.0) (untold o b h.1 k.1)
  untold o (Not e) h k = ap Not (untold o e h.0 k.0)
  untold o (Logic op a b) h k = ap₂ (Logic op) (untold o a h.0 k.0) (untold o b h.1 k.1)
  untold o (Cond t a b) h k =
      ap (λ (x : Expression). Cond x (specialised d F o a) (specialised d F o b)) (untold o t h.0 k.0) ∙ ap₂ (Cond t) (untold o a h.1 k.1) (untold o b h.2 k.2)
  untold o (Widen s e) h k = ap (Widen s) (untold o e h.0 k.0)
  untold o (Round mode s e) h k = ap (Round mode s) (untold o e h.0 k.0)
  untold o (Div mode s a b) h k = ap₂ (Div mode s) (untold o a h.0 k.0) (untold o b h.1 k.1)
  untold o (Acc body n first) h k =
      unknown o (Acc body n first) _ k.2
      ∙ ap₂ (λ (x y : Expression). Acc x n y) (nothing_told d F body) (untold (moved (pos 0 -ℤ pos n) o) first h.0 k.0)

  abbrev NoPlaceIn : Option ℤ → Contract → Type 0
  NoPlaceIn o c = NoneInContract (IsNoRedex d F FixedPlace) o c

  abbrev NoStepsIn : Option ℤ → Contract → Type 0
  NoStepsIn o c = NoneInContract (IsNoRedex d F FixedSteps) o c

  untold_in : (o : Option ℤ) (c : Contract) → NoPlaceIn o c → NoStepsIn o c → specialised_in d F o c ≡ c
  untold_in o Zero h k = refl
  untold_in o (Pay a p q) h k = refl
  untold_in o (Both a b) h k = ap₂ Both (untold_in o a h.0 k.0) (untold_in o b h.1 k.1)
  untold_in o (Scale e c) h k = ap₂ Scale (untold o e h.0 k.0) (untold_in o c h.1 k.1)
  untold_in o (After n c) h k = ap (After n) (untold_in (moved (pos (count_of n)) o) c h.0 k.0)
  untold_in o (Let e c) h k = ap₂ Let (untold o e h.0 k.0) (untold_in o c h.1 k.1)
  untold_in o (Within e n a b) h k =
      ap (λ (x : Expression). Within x n (specialised_in d F None a) (specialised_in d F (moved (pos (count_of n)) o) b)) (untold None e h.0 k.0)
      ∙ ap₂ (Within e n) (untold_in None a h.1 k.1) (untold_in (moved (pos (count_of n)) o) b h.2 k.2)

  -- so what is specialised stays as it is
  special_stays : (f : ℤ) (c : Contract) → IsAdmitted d F → IsAccepted d c
      → specialised_in d F (Some f) (specialised_in d F (Some f) c) ≡ specialised_in d F (Some f) c
  special_stays f c a h =
      let sorted = (rules_are_by_structure d c).0.0 h.sorts in
      untold_in (Some f) (specialised_in d F (Some f) c)
      (none_told_in d F FixedPlace tt a (Some f) c [] sorted) (none_told_in d F FixedSteps tt a (Some f) c [] sorted)

-- ---- more rounds than the size change nothing

enough : (d : Declarations) (F : Environment) (f : ℤ) (n m : ℕ) (c : Contract) → KeepsLimits d → IsAdmitted d F → IsAccepted d c
    → size_in c ≤ n → n ≤ m → reduced_times d F f m c ≡ reduced_times d F f n c
enough d F f zero m c limits a h le more = absurd (omega (arith, some_size_in c, le))
enough d F f (suc n) zero c limits a h le more = absurd (omega (arith, more))
enough d F f (suc n) (suc m) c limits a h le more =
    let once = reducing_once d F f c limits a h in
    elim once.2 [
      | inl still ↦ stays d F f c (suc m) still.0 ∙ sym (stays d F f c (suc n) still.0)
      | inr less ↦ enough d F f n m (reduced_once d F f c) limits a once.0 (omega (arith, less, le)) (omega (arith, more))
    ]

-- behind a round that makes a contract smaller
behind_round : (d : Declarations) (F : Environment) (f : ℤ) (n : ℕ) (c : Contract) → KeepsLimits d → IsAdmitted d F → IsAccepted d c
    → size_in c ≡ n → size_in (reduced_once d F f c) < size_in c → reduced_times d F f n c ≡ reduced d F f (reduced_once d F f c)
behind_round d F f zero c limits a h is less = absurd (omega (arith, some_size_in c, is))
behind_round d F f (suc n) c limits a h is less =
    let once = reduced_once d F f c in
    enough d F f (size_in once) n once limits a (reducing_once d F f c limits a h).0 (omega arith) (omega (arith, is, less))

pub once_more : (d : Declarations) (F : Environment) (f : ℤ) (c : Contract) → KeepsLimits d → IsAdmitted d F → IsAccepted d c
    → size_in (reduced_once d F f c) < size_in c → reduced d F f c ≡ reduced d F f (reduced_once d F f c)
once_more d F f c limits a h less = behind_round d F f (size_in c) c limits a h refl less

-- ---- the last round

last_stays : (d : Declarations) (F : Environment) (f : ℤ) (n : ℕ) (c s : Contract) → size_in c ≡ n → reduced_once d F f c ≡ s → reduced_once d F f s ≡ s
    → reduced_times d F f n c ≡ s
last_stays d F f zero c s is first again = absurd (omega (arith, some_size_in c, is))
last_stays d F f (suc n) c s is first again = ap (reduced_times d F f n) first ∙ stays d F f s n again

pub last_is : (d : Declarations) (F : Environment) (f : ℤ) (c s : Contract) → IsAdmitted d F → IsAccepted d c
    → s ≡ specialised_in d F (Some f) c → s ≡ turned_in d [] s → s ≡ reduced d F f c
last_is d F f c s a h special still =
    let again : specialised_in d F (Some f) s ≡ s =
    ap (specialised_in d F (Some f)) special ∙ special_stays d F f c a h ∙ sym special in
    let turn : Contract → Contract = λ x. turned_in d [] x in
    sym (last_stays d F f (size_in c) c s refl (ap turn (sym special) ∙ sym still) (ap turn again ∙ sym still))
