-- Worked rows of residuals and of discount factors: the residuals of worked rows hold no redex on their day, what they
-- are residuals of holds some, and a curve of two rows.
use Rattle.std.proofs.Common.{◌≡◌, ℤ, pos, negsuc, ◌+ℤ◌, ◌-ℤ◌, ◌*ℤ◌, ◌+◌, Bool, true, false, not, if◌then◌else◌, List, [], ◌∷◌, ◌++◌, Some, Contains, refl, sym, ap₂, ◌∙◌, arith}
use Rattle.std.proofs.lemmas.Int.{ints}
use Rattle.std.specs.List.{list_all}
use Rattle.std.specs.Prelude.{IsFalse}
use Rattle.decimal.specs.declared.Mode.TheVariants.{HalfEven}
use Rattle.term_model.specs.DayCounts.{Num as Count}
use Rattle.term_model.specs.Terms.{Lit, Var, Obs, Round, Contract, Scale, After, Let}
use Rattle.decimal.specs.Rounding.{raised}
use Rattle.term_model.specs.Environments.{Environment, Place}
use Rattle.term_model.specs.Flows.{Flow, on_day_zero, unit_flow}
use Rattle.term_model.specs.Reads.{live, reads_of_contract}
use Rattle.term_model.specs.Factors.{CurveRow, IsCurve, discount_factor}
use Rattle.term_model.specs.Residuals.{Carries}
use Rattle.term_model.specs.Redexes.{Redex, EmptyLeft, EmptyRight, ScaledNothing, ZeroFactor, NoDelay, TwoDelays, DelayedNothing, UnusedName, LiteralName, NothingEither, DecidedTest, LiteralOperands, DecidedChoice, FixedPlace, NoSteps, FixedSteps, is_redex, frame_round, HasNone, IsReduced}
use Rattle.term_model.specs.Sites.{Site, Once, sites_of_contract, AllPass}
use Rattle.term_model.proofs.AlikeFacts.{and_left, and_right}
use Rattle.term_model.proofs.FlowFacts.{differs}
use Rattle.term_model.proofs.ResidualFacts.{carries_itself}
use Rattle.term_model.proofs.RowsSample.{with_fx, pay_ab, pay_ba, loan, touch, average, fx}

-- ---- redexes in a whole contract, each part on the frame that it has there

abbrev holds_none : Environment → ℤ → Contract → Redex → Bool
holds_none fixings f c kind =
    list_all (λ s. not (is_redex with_fx fixings (frame_round (Some f) s.layers) kind s.part)) (sites_of_contract Once c [] 0)

none_here : (b : Bool) → not b ≡ true → IsFalse b
none_here true e = absurd (cc)
none_here false e = refl

none_of : (p : Site → Bool) (xs : List Site) → list_all (λ s. not (p s)) xs ≡ true → AllPass (λ s. IsFalse (p s)) xs
none_of p [] e = tt
none_of p (x ∷ xs) e =
    (none_here (p x) (and_left (not (p x)) (list_all (λ s. not (p s)) xs) e), none_of p xs (and_right (not (p x)) (list_all (λ s. not (p s)) xs) e))

has_none : (fixings : Environment) (f : ℤ) (c : Contract) (kind : Redex) → holds_none fixings f c kind ≡ true → HasNone with_fx fixings (Some f) kind c
has_none fixings f c kind e =
    none_of (λ s. is_redex with_fx fixings (frame_round (Some f) s.layers) kind s.part) (sites_of_contract Once c [] 0) e

-- three days at 1.0000 and one at 1.2000
abbrev risen : Environment
risen = fx (pos 0) (pos 10000) (fx (pos 1) (pos 10000) (fx (pos 2) (pos 10000) (fx (pos 3) (pos 12000) [])))

-- the touch of three days, two days on, with all days fixed: its test stands on no known day
touch_left : (kind : Redex) → holds_none risen (pos 2) (touch 1) kind ≡ true
touch_left EmptyLeft = refl
touch_left EmptyRight = refl
touch_left ScaledNothing = refl
touch_left ZeroFactor = refl
touch_left NoDelay = refl
touch_left TwoDelays = refl
touch_left DelayedNothing = refl
touch_left UnusedName = refl
touch_left LiteralName = refl
touch_left NothingEither = refl
touch_left DecidedTest = refl
touch_left LiteralOperands = refl
touch_left DecidedChoice = refl
touch_left FixedPlace = refl
touch_left NoSteps = refl
touch_left FixedSteps = refl

touch_is_reduced : IsReduced with_fx (touch 1) risen (pos 2)
touch_is_reduced kind = has_none risen (pos 2) (touch 1) kind (touch_left kind)

-- let x = round(half_even, 2, obs(FX, 29)) in after(29, scale(x, AB)), a day on and with nothing fixed
abbrev rate_left : Contract
rate_left = Let (Round HalfEven 2 (Obs 0 (pos 29))) (After (Count 29) (Scale (Var 0) pay_ab))

rate_holds_none : (kind : Redex) → holds_none [] (pos 1) rate_left kind ≡ true
rate_holds_none EmptyLeft = refl
rate_holds_none EmptyRight = refl
rate_holds_none ScaledNothing = refl
rate_holds_none ZeroFactor = refl
rate_holds_none NoDelay = refl
rate_holds_none TwoDelays = refl
rate_holds_none DelayedNothing = refl
rate_holds_none UnusedName = refl
rate_holds_none LiteralName = refl
rate_holds_none NothingEither = refl
rate_holds_none DecidedTest = refl
rate_holds_none LiteralOperands = refl
rate_holds_none DecidedChoice = refl
rate_holds_none FixedPlace = refl
rate_holds_none NoSteps = refl
rate_holds_none FixedSteps = refl

rate_is_reduced : IsReduced with_fx rate_left [] (pos 1)
rate_is_reduced kind = has_none [] (pos 1) rate_left kind (rate_holds_none kind)

-- the same with FX fixed on day 30: the observable stands on day 1 and reads that day
rate_is_fixed : holds_none (fx (pos 30) (pos 12345) []) (pos 1) rate_left FixedPlace ≡ false
rate_is_fixed = refl

-- and fixed on day 29 alone it does not
rate_is_not_fixed : holds_none (fx (pos 29) (pos 12345) []) (pos 1) rate_left FixedPlace ≡ true
rate_is_not_fixed = refl

-- an observable below a delay stands that many days later
later_is_fixed : holds_none (fx (pos 7) (pos 12345) []) (pos 2) (After (Count 5) (Scale (Obs 0 (pos 0)) pay_ab)) FixedPlace ≡ false
later_is_fixed = refl

later_is_not_fixed : holds_none (fx (pos 2) (pos 12345) []) (pos 2) (After (Count 5) (Scale (Obs 0 (pos 0)) pay_ab)) FixedPlace ≡ true
later_is_not_fixed = refl

-- an accumulator below a delay stands on the day of its last value, and its body on no known day
average_is_fixed : holds_none (fx (pos 1) (pos 10000) (fx (pos 2) (pos 11000) (fx (pos 3) (pos 12000) []))) (pos 0) average FixedSteps ≡ false
average_is_fixed = refl

average_is_not_fixed : holds_none (fx (pos 1) (pos 10000) (fx (pos 2) (pos 11000) [])) (pos 0) average FixedSteps ≡ true
average_is_not_fixed = refl

average_body : holds_none risen (pos 0) average FixedPlace ≡ true
average_body = refl

-- scale(1.23, AB), what is left of the later rate on day 30
abbrev paid_rate : Contract
paid_rate = Scale (Lit (pos 123) 2) pay_ab

paid_holds_none : (kind : Redex) → holds_none (fx (pos 30) (pos 12345) []) (pos 30) paid_rate kind ≡ true
paid_holds_none EmptyLeft = refl
paid_holds_none EmptyRight = refl
paid_holds_none ScaledNothing = refl
paid_holds_none ZeroFactor = refl
paid_holds_none NoDelay = refl
paid_holds_none TwoDelays = refl
paid_holds_none DelayedNothing = refl
paid_holds_none UnusedName = refl
paid_holds_none LiteralName = refl
paid_holds_none NothingEither = refl
paid_holds_none DecidedTest = refl
paid_holds_none LiteralOperands = refl
paid_holds_none DecidedChoice = refl
paid_holds_none FixedPlace = refl
paid_holds_none NoSteps = refl
paid_holds_none FixedSteps = refl

paid_is_reduced : IsReduced with_fx paid_rate (fx (pos 30) (pos 12345) []) (pos 30)
paid_is_reduced kind = has_none (fx (pos 30) (pos 12345) []) (pos 30) paid_rate kind (paid_holds_none kind)

-- after(60, scale(105.00, BA)), what is left of the loan on day 30
abbrev loan_left : Contract
loan_left = After (Count 60) (Scale (Lit (pos 10500) 2) pay_ba)

loan_holds_none : (kind : Redex) → holds_none [] (pos 30) loan_left kind ≡ true
loan_holds_none EmptyLeft = refl
loan_holds_none EmptyRight = refl
loan_holds_none ScaledNothing = refl
loan_holds_none ZeroFactor = refl
loan_holds_none NoDelay = refl
loan_holds_none TwoDelays = refl
loan_holds_none DelayedNothing = refl
loan_holds_none UnusedName = refl
loan_holds_none LiteralName = refl
loan_holds_none NothingEither = refl
loan_holds_none DecidedTest = refl
loan_holds_none LiteralOperands = refl
loan_holds_none DecidedChoice = refl
loan_holds_none FixedPlace = refl
loan_holds_none NoSteps = refl
loan_holds_none FixedSteps = refl

loan_is_reduced : IsReduced with_fx loan_left [] (pos 30)
loan_is_reduced kind = has_none [] (pos 30) loan_left kind (loan_holds_none kind)

-- the loan carries itself over no days
loan_carries : Carries with_fx loan (pos 0) [] 0 loan
loan_carries = carries_itself with_fx loan (pos 0) []

-- the amounts of the loan on a day, from what its two parts pay
abbrev paid : ℤ → ℤ → Flow → ℤ
paid x day w = raised (raised (pos 10000 *ℤ x) 0 +ℤ raised (pos 10500 *ℤ on_day_zero day (unit_flow 0 1 0 w)) 0) 0

only_back : (y : ℤ) → raised (pos 0 +ℤ raised y 0) 0 ≡ raised y 0
only_back y = omega (arith, ints)

nothing_read : (b : Bool) (q : Place) (ps : List Place) → Contains ([] ++ (if b then [] else [])) q → Contains ps q
nothing_read true q ps h = absurd (omega (arith, h.1))
nothing_read false q ps h = absurd (omega (arith, h.1))

-- what is left of the loan on day 30 carries it
loan_is_carried : Carries with_fx loan (pos 0) [] 30 loan_left
loan_is_carried =
    record {
      amounts = λ env a x n w.
          let due : on_day_zero (pos (30 + n)) (unit_flow 0 0 1 w) ≡ pos 0 = rw (differs (30 + n) (omega arith)) refl in
          let later : pos (30 + n) -ℤ pos 90 ≡ pos n -ℤ pos 60 = omega (arith, ints) in
          sym (ap₂ (λ (y day : ℤ). paid y day w) due later ∙ only_back (pos 10500 *ℤ on_day_zero (pos n -ℤ pos 60) (unit_flow 0 1 0 w)));
      reads = λ env a x b q h.
          nothing_read (live with_fx (Scale (Lit (pos 10500) 2) pay_ba) [] env (pos 90) (pos 0 -ℤ pos 60) (pos b -ℤ pos 60)) q (reads_of_contract with_fx loan [] [] env (pos 0) (pos 0) (pos (30 + b))) h;
    }

-- ---- discount factors

-- 1 from day 0 on, and 0.99 from day 90 on
abbrev curve : List CurveRow
curve = record { offset = 0; factor = pos 1_000_000_000 } ∷ record { offset = 90; factor = pos 990_000_000 } ∷ []

curve_is : IsCurve curve
curve_is = (refl, (omega arith, tt), ((omega (arith, ints), omega (arith, ints)), ((omega (arith, ints), omega (arith, ints)), tt)))

today : discount_factor curve (pos 1_000_000_000) (pos 0) ≡ pos 1_000_000_000
today = refl

a_day_before : discount_factor curve (pos 1_000_000_000) (pos 89) ≡ pos 1_000_000_000
a_day_before = refl

on_the_day : discount_factor curve (pos 1_000_000_000) (pos 90) ≡ pos 990_000_000
on_the_day = refl

long_after : discount_factor curve (pos 1_000_000_000) (pos 1000) ≡ pos 990_000_000
long_after = refl

gone_by : discount_factor curve (pos 7) (negsuc 0) ≡ pos 7
gone_by = refl
