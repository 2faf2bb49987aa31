-- Which contracts are accepted: those that meet the rules on sorts, times, scales, sizes and bounds, in this order. A
-- contract is refused with the first rule that fails anywhere, at the first node in the order of trial where it fails.
use Rattle.std.specs.Prelude.{ℕ, ℤ, ◌≡◌, [], Option, IsTrue}
use Rattle.term_model.specs.Declarations.{Declarations}
use Rattle.term_model.specs.declared.rules.Rule.{Rule}
use Rattle.term_model.specs.declared.rules.Rule.TheVariants.{Sort, Time, Scale, Size, Bound}
use Rattle.term_model.specs.Terms.{Contract}
use Rattle.term_model.specs.Flows.{scale_of_contract}
use Rattle.term_model.specs.Horizons.{horizon_of}
use Rattle.term_model.specs.Sites.{Trial, Once, EachDay, Site, sites, AllPass, FirstFault}
use Rattle.term_model.specs.Sorts.{is_sorted}
use Rattle.term_model.specs.Times.{IsTimed, IsStart}
use Rattle.term_model.specs.Scales.{is_scaled}
use Rattle.term_model.specs.Smallness.{is_small}
use Rattle.term_model.specs.Bounds.{is_bounded, aligned_total}

-- what a rule asks of a node
abbrev pub Passes : Declarations → Rule → Site → Type 0
Passes d Sort s = IsTrue (is_sorted d s)
Passes d Time s = IsTimed s
Passes d Scale s = IsTrue (is_scaled d s)
Passes d Size s = IsTrue (is_small s)
Passes d Bound s = IsTrue (is_bounded d s)

-- the rule on bounds tries the body of an accumulator once for each of its days, and the others once
abbrev pub trial_of : Rule → Trial
trial_of Bound = EachDay
trial_of _ = Once

abbrev pub Meets : Declarations → Rule → Contract → Type 0
Meets d rule c = AllPass (Passes d rule) (sites (trial_of rule) c)

-- the rule fails, and first at node k
abbrev pub FailsAt : Declarations → Rule → Contract → ℕ → Type 0
FailsAt d rule c k = FirstFault (Passes d rule) (sites (trial_of rule) c) k

pub record IsAccepted (d : Declarations) (c : Contract) : Type 0 where
  pub sorts : Meets d Sort c
  pub times : Meets d Time c
  pub scales : Meets d Scale c
  pub sizes : Meets d Size c
  pub bounds : Meets d Bound c

-- the rules before it hold everywhere, and the rule fails, first at node k
abbrev pub IsRefusal : Declarations → Contract → Rule → ℕ → Type 0
IsRefusal d c Sort k = FailsAt d Sort c k
IsRefusal d c Time k = Meets d Sort c × FailsAt d Time c k
IsRefusal d c Scale k = Meets d Sort c × Meets d Time c × FailsAt d Scale c k
IsRefusal d c Size k = Meets d Sort c × Meets d Time c × Meets d Scale c × FailsAt d Size c k
IsRefusal d c Bound k = Meets d Sort c × Meets d Time c × Meets d Scale c × Meets d Size c × FailsAt d Bound c k

-- what is said of an accepted contract: the day before which it transfers nothing, or none where it transfers nothing
-- at all; its scale; its total at the portfolio's decimals; and its horizon
pub record Facts : Type 0 where
  pub start : Option ℤ
  pub scale : ℕ
  pub total : ℕ
  pub horizon : ℕ

pub record AreFacts (d : Declarations) (c : Contract) (facts : Facts) : Type 0 where
  pub right_start : IsStart c facts.start
  pub right_scale : facts.scale ≡ scale_of_contract d c []
  pub right_total : facts.total ≡ aligned_total d c []
  pub right_horizon : facts.horizon ≡ horizon_of c
