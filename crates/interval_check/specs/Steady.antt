-- Accumulators that add the same range on each of their days, and the range that they have after some days.
use Rattle.std.specs.Prelude.{ℕ, ℤ, pos, ◌+ℤ◌, ◌-ℤ◌, ◌*ℤ◌, ◌+◌, ◌==◌, ◌≡◌, ◌&&◌, ◌||◌, not, Bool, false, Option, Some, None, Result, Ok, Err}
use Rattle.term_model.specs.declared.terms.NumOp.TheVariants.{Plus, Minus}
use Rattle.term_model.specs.Terms.{Expression, Lit, Yes, Var, Obs, Neg, Num, Cmp, Not, Logic, Cond, Widen, Round, Div, Acc}
use Rattle.term_model.specs.Bounds.{Range}
use Rattle.interval_check.specs.declared.ranges.Range.{Range as Found}
use Rattle.interval_check.specs.Ranges.{range, IsFit}
use Rattle.interval_check.specs.RangeTrials.{Answer}

-- whether an expression uses a name, counted in binders from the innermost
abbrev pub uses : ℕ → Expression → Bool
uses k (Lit m s) = false
uses k (Yes b) = false
uses k (Var back) = back == k
uses k (Obs l t) = false
uses k (Neg e) = uses k e
uses k (Num op a b) = uses k a || uses k b
uses k (Cmp op a b) = uses k a || uses k b
uses k (Not e) = uses k e
uses k (Logic op a b) = uses k a || uses k b
uses k (Cond t a b) = uses k t || (uses k a || uses k b)
uses k (Widen s e) = uses k e
uses k (Round mode s e) = uses k e
uses k (Div mode s a b) = uses k a || uses k b
uses k (Acc body n first) = uses (k + 1) body || uses k first

-- the innermost name, and that with an expression that does not use it
abbrev pub is_own : Expression → Bool
is_own (Var back) = back == 0
is_own _ = false

abbrev pub is_added : Expression → Expression → Bool
is_added own other = is_own own && not (uses 0 other)

-- a body that adds to its accumulator's name, or takes from it, what does not use it
abbrev pub adds_alike : Expression → Bool
adds_alike (Num Plus a b) = is_added a b || is_added b a
adds_alike (Num Minus a b) = is_added a b
adds_alike _ = false

-- an end point that moves on each of n days as far as on the first one
abbrev pub moved : ℤ → ℤ → ℕ → ℤ
moved start next n = start +ℤ (next -ℤ start) *ℤ pos n

-- the range after n days, by those before and after the first one
pub record IsAfterDays (start next : Range) (n : ℕ) (r : Range) : Type 0 where
  pub same_kind : next.kind ≡ start.kind
  pub kind : r.kind ≡ start.kind
  pub low : r.interval.low ≡ moved start.interval.low next.interval.low n
  pub high : r.interval.high ≡ moved start.interval.high next.interval.high n
  pub fit : IsFit r

-- what is found of the days of an accumulator, if anything, is what they come to
abbrev pub TellsDays : Result (Option Found) ℕ → Answer → Type 0
TellsDays (Ok None) a = Unit {0}
TellsDays (Ok (Some r)) a = (Ok (range r) ≡ a) × IsFit (range r)
TellsDays (Err k) a = Err k ≡ a
