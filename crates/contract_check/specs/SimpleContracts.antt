-- Simple contracts, of transfers, sums, waits and simple factors: what one walk measures of them. Round a part stand
-- waits, and factors that have `above` decimals together.
use Rattle.std.specs.Prelude.{ℕ, ℤ, pos, ◌≤ℤ◌, ◌+◌, ◌-◌, ◌*◌, ◌^◌, ◌≤◌, min, max, ◌≡◌, ◌↔◌, true, List, [], ◌∷◌, Option, Some, None, option_map, IfSome}
use Rattle.term_model.specs.Declarations.{Declarations}
use Rattle.term_model.specs.declared.rules.Rule.{Rule}
use Rattle.term_model.specs.Terms.{Contract}
use Rattle.term_model.specs.Limits.{most_days, most_height, most_nodes}
use Rattle.term_model.specs.Flows.{scale_of_contract}
use Rattle.term_model.specs.Sizes.{nodes_of_contract, height_of_contract, reach, past_of_contract, work_of_contract}
use Rattle.term_model.specs.Times.{TypedContract}
use Rattle.term_model.specs.AssetScales.{payments_fit}
use Rattle.term_model.specs.Bounds.{total_of}
use Rattle.term_model.specs.Horizons.{horizon_of}
use Rattle.term_model.specs.Horizons as horizons
use Rattle.term_model.specs.Sites.{Trial, Layer, Later, sites_of_contract, AllPass}
use Rattle.term_model.specs.Acceptance.{Passes}
use Rattle.contract_check.specs.SimpleFactors.{greatest_measured, most_past}
use Rattle.contract_check.specs.declared.simple_factors.Factor.{Factor}
use Rattle.contract_check.specs.declared.simple_contracts.Measure.{Measure}

-- How a whole is measured from its parts.

abbrev pub nothing : Measure
nothing =
    record { height = 1; nodes = 1; reach = 0; start = None; horizon = 0; scale = 0; total = 0 }

-- a transfer of one unit, of so many decimals at the portfolio's
abbrev pub payment : ℕ → Measure
payment decimals =
    record { height = 1; nodes = 1; reach = 0; start = Some 0; horizon = 1; scale = 0; total = 10 ^ decimals }

-- the earlier of two days, where there are any
abbrev pub sooner : Option ℕ → Option ℕ → Option ℕ
sooner None b = b
sooner (Some a) None = Some a
sooner (Some a) (Some b) = Some (min a b)

abbrev pub joined : Measure → Measure → Measure
joined x y =
    record {
      height = max x.height y.height + 1;
      nodes = x.nodes + y.nodes + 1;
      reach = max x.reach y.reach;
      start = sooner x.start y.start;
      horizon = max x.horizon y.horizon;
      scale = max x.scale y.scale;
      total = x.total + y.total;
    }

abbrev pub multiplied : Factor → Measure → Measure
multiplied f x =
    record {
      height = max f.height x.height + 1;
      nodes = f.nodes + x.nodes + 1;
      reach = x.reach;
      start = x.start;
      horizon = x.horizon;
      scale = f.scale + x.scale;
      total = x.total * f.size;
    }

abbrev pub delayed : ℕ → Measure → Measure
delayed n x =
    record {
      height = x.height + 1;
      nodes = x.nodes + 1;
      reach = n + x.reach;
      start = option_map (λ day. n + day) x.start;
      horizon = horizons.delayed n x.horizon;
      scale = x.scale;
      total = x.total;
    }

-- What is known of a measure.

pub record IsWithin (m : Measure) : Type 0 where
  pub height : m.height ≤ most_height
  pub nodes : m.nodes ≤ most_nodes
  pub reach : m.reach ≤ most_days
  pub total : m.total ≤ greatest_measured

abbrev pub IsEarly : ℕ → Option ℕ → Type 0
IsEarly last start = IfSome start (λ day. day ≤ last)

-- day t is no later than a start
abbrev pub IsBy : ℤ → Option ℕ → Type 0
IsBy t None = Unit {0}
IsBy t (Some day) = t ≤ℤ pos day

-- the types of a contract are the days up to its start
abbrev pub StartsOn : Contract → Option ℕ → Type 0
StartsOn c start = (t : ℤ) → TypedContract [] c t ↔ IsBy t start

-- only waits stand round a part
abbrev pub IsUnderWaits : List Layer → Type 0
IsUnderWaits [] = Unit {0}
IsUnderWaits (Later n ∷ r) = IsUnderWaits r
IsUnderWaits (_ ∷ r) = ⊥

-- each rule holds at each node of a contract, after whatever waits
abbrev pub MeetsRules : Declarations → Contract → Type 0
MeetsRules d c =
    (rule : Rule) (w : Trial) (r : List Layer) (k : ℕ) → IsUnderWaits r → AllPass (Passes d rule) (sites_of_contract w c r k)

-- a measure is right: its total is that of the part at the portfolio's decimals, under the factors round it, and the
-- part has room for them
pub record IsMeasure (d : Declarations) (above : ℕ) (c : Contract) (m : Measure) : Type 0 where
  pub within : IsWithin m
  pub height : m.height ≡ height_of_contract c
  pub nodes : m.nodes ≡ nodes_of_contract c
  pub reach : m.reach ≡ reach c
  pub past : past_of_contract c ≤ most_past
  pub work : work_of_contract c ≤ nodes_of_contract c
  pub start : StartsOn c m.start
  pub early : IsEarly m.reach m.start
  pub horizon : m.horizon ≡ horizon_of c
  pub scale : m.scale ≡ scale_of_contract d c []
  pub decimals : above + scale_of_contract d c [] ≤ d.amounts
  pub payments : payments_fit d c [] above ≡ true
  pub total : m.total ≡ total_of d c [] * 10 ^ (d.amounts - above - scale_of_contract d c [])

abbrev pub IsMeasured : Declarations → ℕ → Contract → Measure → Type 0
IsMeasured d above c m = MeetsRules d c × IsMeasure d above c m
