-- Factors of simple contracts, and what is measured of them.
use Rattle.std.specs.Prelude.{ℕ, ℤ, pos, ◌≤ℤ◌, ◌^◌, ◌≤◌, ◌≡◌, true, List, [], Some}
use Rattle.decimal.specs.declared.Mode.{Mode}
use Rattle.decimal.specs.Rounding.{at_scale}
use Rattle.term_model.specs.Declarations.{Declarations}
use Rattle.term_model.specs.declared.rules.Rule.{Rule}
use Rattle.term_model.specs.declared.terms.NumOp.TheVariants.{Times}
use Rattle.term_model.specs.declared.values.Kind.{Kind}
use Rattle.term_model.specs.declared.values.Kind.TheVariants.{Number}
use Rattle.term_model.specs.Terms.{Expression}
use Rattle.term_model.specs.Kinds.{kind_of}
use Rattle.term_model.specs.Sizes.{height, nodes, past, work}
use Rattle.term_model.specs.Times.{Typed}
use Rattle.term_model.specs.Bounds.{Interval, fits, greatest_size, interval_of, lifted, on_intervals, single}
use Rattle.term_model.specs.Sites.{Trial, Layer, sites_of, AllPass}
use Rattle.term_model.specs.Acceptance.{Passes}
use Rattle.contract_check.specs.declared.simple_factors.Factor.{Factor}

-- the greatest total, and factor, that is measured, and the most decimals of the factors round a part
abbrev pub greatest_measured : ℕ
greatest_measured = 10 ^ 18

abbrev pub most_decimals : ℕ
most_decimals = 9

-- how many days before its own a factor may be observed
abbrev pub most_past : ℕ
most_past = 900_000

-- a number in an interval times another one
abbrev pub product : Interval → ℤ → Interval
product i m = on_intervals Times i (single m)

-- the same at fewer decimals
abbrev pub rounded : Mode → Interval → ℤ → ℕ → ℕ → Interval
rounded mode i m from to = lifted (λ x. at_scale mode x from to) (product i m)

-- the greatest size of such a number, of which each is a mantissa
pub record IsGreatest (mode : Mode) (i : Interval) (m : ℤ) (from to size : ℕ) : Type 0 where
  pub product_fits : fits (product i m) ≡ true
  pub right_size : size ≡ greatest_size (rounded mode i m from to)
  pub small : size ≤ greatest_measured

-- a measure is right: each rule holds at each node, whatever stands round the factor, which is a number and is known on
-- the day on which it stands
pub record IsFactor (d : Declarations) (e : Expression) (f : Factor) : Type 0 where
  pub met : (rule : Rule) (w : Trial) (r : List Layer) (k : ℕ) → AllPass (Passes d rule) (sites_of w e r k)
  pub number : (ks : List Kind) → kind_of d e ks ≡ Some (Number f.scale)
  pub right_height : f.height ≡ height e
  pub right_nodes : f.nodes ≡ nodes e
  pub few : f.nodes ≤ 4
  pub low : f.height ≤ 3
  pub recent : past e ≤ most_past
  pub little : work e ≤ nodes e
  pub known : (t : ℤ) → pos 0 ≤ℤ t → Typed [] e t
  pub decimals : f.scale ≤ most_decimals
  pub right_size : f.size ≡ greatest_size (interval_of d e [])
  pub small : f.size ≤ greatest_measured
