-- The trial of the rule on bounds, of code whose sorts and scales are right: a value expression has
-- the range of its undated expression, and every total is at most 10^37, as it is and at nine more
-- decimals than the portfolio's.
use Rattle.std.specs.Prelude.{◌≡◌, ℕ, ◌+◌, ◌-◌, ◌*◌, ◌^◌, ◌≤◌, max, ◌&&◌, Bool, nat_le}
use Rattle.std.specs.Prelude.{List, ◌∷◌, Result, Ok, Err, if◌then◌else◌}
use Rattle.term_model.specs.declared.values.Kind.{Kind}
use Rattle.term_model.specs.declared.decls.Decls.{Decls}
use Rattle.term_model.specs.declared.scope.Scope.{Scope}
use Rattle.term_model.specs.Declarations.{Declarations, declarations}
use Rattle.term_model.specs.Limits.{greatest_mantissa}
use Rattle.term_model.specs.Terms.{Expression}
use Rattle.term_model.specs.Sizes.{nodes}
use Rattle.term_model.specs.Bounds.{Range, range_kinds, greatest_size}
use Rattle.term_core.specs.Trying.{then_do, moved}
use Rattle.interval_check.specs.Ranges.{range}
use Rattle.interval_check.specs.declared.ranges.Range.{Range as HeldRange}
use Rattle.interval_check.specs.RangeScopes.{ranges_in}
use Rattle.interval_check.specs.RangeTrials.{scale_in, range_tried, kind_found, AreScaled}
use Rattle.payoff_terms.specs.Dating.{undated}
use Rattle.payoff_terms.specs.Code.{PayoffCode, Nothing, PayOn, Add, ScaleBy, LetBe, Loop, Cut}
use Rattle.payoff_check.specs.declared.bound_rule.Ranged.{Ranged}
use Rattle.payoff_check.specs.declared.totals.CodeTotal.{CodeTotal}
use Rattle.payoff_check.specs.Trials.{Steps, code_tried}

-- what is found of a value expression
pub record Found : Type 0 where
  pub range : Range
  pub nodes : ℕ

abbrev pub ranged : Ranged → Found
ranged r = record { range = range r.range; nodes = r.nodes }

-- the kind that is found of an expression, among names of these ranges
abbrev pub HasKind : Declarations → Expression → List Range → Ranged → Type 0
HasKind d e g r = r.range.kind ≡ kind_found d e (range_kinds g)

-- an undated expression whose first node has number n
abbrev pub value_tried : Declarations → Expression → List Range → ℕ → Result Found ℕ
value_tried d e g n =
    then_do (moved n (range_tried d e g)) (λ r. Ok (record { range = r; nodes = nodes e }))

-- at a count of decimals that is not less than its scale
abbrev pub at_decimals : ℕ → CodeTotal → ℕ
at_decimals k t = t.amount * 10 ^ (k - t.scale)

abbrev pub total_fits : ℕ → CodeTotal → Bool
total_fits k t = nat_le t.amount greatest_mantissa && nat_le (at_decimals k t) greatest_mantissa

-- a total that fits, of no more decimals than those
abbrev pub total_here : ℕ → CodeTotal → ℕ → Result CodeTotal ℕ
total_here k t n = if nat_le t.scale k then (if total_fits k t then Ok t else Err n) else Err n

abbrev pub of_nothing : CodeTotal
of_nothing = record { amount = 0; scale = 0; nodes = 1 }

abbrev pub of_payment : CodeTotal
of_payment = record { amount = 10 ^ 10; scale = 9; nodes = 1 }

abbrev pub of_sum : CodeTotal → CodeTotal → CodeTotal
of_sum a b =
    let s = max a.scale b.scale in
    record { amount = at_decimals s a + at_decimals s b; scale = s; nodes = a.nodes + b.nodes + 1 }

abbrev pub of_product : Found → CodeTotal → CodeTotal
of_product u a =
    record {
      amount = a.amount * greatest_size u.range.interval;
      scale = scale_in u.range + a.scale;
      nodes = u.nodes + a.nodes + 1;
    }

abbrev pub of_branches : ℕ → CodeTotal → CodeTotal → CodeTotal
of_branches count a b =
    let s = max a.scale b.scale in
    record {
      amount = max (at_decimals s a) (at_decimals s b);
      scale = s;
      nodes = count + a.nodes + b.nodes + 1;
    }

-- the total of a part, where some nodes more stand in the whole
abbrev pub of_part : ℕ → CodeTotal → CodeTotal
of_part count a = record { amount = a.amount; scale = a.scale; nodes = count + a.nodes + 1 }

abbrev pub bounding : Declarations → Steps Found CodeTotal (List Range)
bounding d = record {
  value = λ v g n. value_tried d (undated v) g n;
  enter = λ u g. u.range ∷ g;
  nothing = λ n. total_here (d.amounts + 9) of_nothing n;
  payment = λ x n. total_here (d.amounts + 9) of_payment n;
  sum = λ a b n. total_here (d.amounts + 9) (of_sum a b) n;
  scaled = λ u a n. total_here (d.amounts + 9) (of_product u a) n;
  bound = λ u a n. total_here (d.amounts + 9) (of_part u.nodes a) n;
  looped = λ u x a b n. total_here (d.amounts + 9) (of_branches u.nodes a b) n;
  cut = λ x a n. total_here (d.amounts + 9) (of_part 0 a) n;
}

abbrev pub bounds_tried : Declarations → PayoffCode → List Range → ℕ → Result CodeTotal ℕ
bounds_tried d k g n = code_tried (bounding d) k g n

-- what is known of a total that fits
pub record IsFitting (k : ℕ) (t : CodeTotal) : Type 0 where
  pub amount : t.amount ≤ 10 ^ 37
  pub scale : t.scale ≤ k
  pub aligned : at_decimals k t ≤ 10 ^ 37

-- every scale of a value expression is at most 27, where each name has the kind that is found
abbrev pub AreValuesScaled : Declarations → PayoffCode → List Kind → Type 0
AreValuesScaled d Nothing ks = Unit {0}
AreValuesScaled d (PayOn x a p q) ks = Unit {0}
AreValuesScaled d (Add k l) ks = AreValuesScaled d k ks × AreValuesScaled d l ks
AreValuesScaled d (ScaleBy v k) ks = AreScaled d (undated v) ks × AreValuesScaled d k ks
AreValuesScaled d (LetBe v k) ks =
    AreScaled d (undated v) ks × AreValuesScaled d k (kind_found d (undated v) ks ∷ ks)
AreValuesScaled d (Loop v x k l) ks =
    AreScaled d (undated v) ks × AreValuesScaled d k ks × AreValuesScaled d l ks
AreValuesScaled d (Cut x k) ks = AreValuesScaled d k ks

-- the same among the names of a scope
abbrev pub range_among : Decls → Expression → Scope HeldRange → ℕ → Result Found ℕ
range_among decls e scope n = value_tried (declarations decls) e (ranges_in scope) n

abbrev pub bounds_among : Decls → PayoffCode → Scope HeldRange → ℕ → Result CodeTotal ℕ
bounds_among decls k scope n = bounds_tried (declarations decls) k (ranges_in scope) n

abbrev pub HasKindAmong : Decls → Expression → Scope HeldRange → Ranged → Type 0
HasKindAmong decls e scope r = HasKind (declarations decls) e (ranges_in scope) r

abbrev pub AreScaledAmong : Decls → PayoffCode → Scope HeldRange → Type 0
AreScaledAmong decls k scope =
    AreValuesScaled (declarations decls) k (range_kinds (ranges_in scope))
