-- From the verdict on each rule to the answer for all of them.
use Rattle.std.proofs.Common.{ℤ, pos, unsigned_abs, ◌≡◌, ◌≤◌, [], arith, sym, ap, ◌∙◌}
use Rattle.std.proofs.lemmas.Int.{ints}
use Rattle.term_model.specs.Declarations.{Declarations}
use Rattle.term_model.specs.declared.rules.Rule.TheVariants.{Sort, Time, Scale, Size, Bound}
use Rattle.term_model.specs.Terms.{Contract}
use Rattle.term_model.specs.Times.{IsStart}
use Rattle.term_model.specs.Flows.{scale_of_contract}
use Rattle.term_model.specs.Bounds.{aligned_total}
use Rattle.term_model.specs.Horizons.{horizon_of}
use Rattle.term_model.specs.Acceptance.{Meets}
use Rattle.time_types.specs.Starts.{start_day}
use Rattle.interval_check.specs.Sums.{sum_of_amounts}
use Rattle.interval_check.specs.Within.{KeepsLimits}
use Rattle.interval_check.proofs.GuaranteeFacts.{amounts_add_up_to_total}
use Rattle.contract_check.specs.declared.checks.Facts.{Facts as Answer}
use Rattle.contract_check.specs.Checks.{PaysAtMost, IsGranted}
use Rattle.contract_check.proofs.CausalFlows.{timed_are_causal}

pays_at_most : (d : Declarations) (c : Contract) (most : ℤ) → KeepsLimits d → Meets d Bound c → most ≡ pos (aligned_total d c []) → PaysAtMost d c most
pays_at_most d c most limits bounds total env f m n w admitted =
    let below : sum_of_amounts d c env f m n w ≤ aligned_total d c [] = (amounts_add_up_to_total d c env f m n w limits bounds admitted).1 in
    omega (arith, ints)

-- a contract that meets each rule is granted with these facts
pub granted : (d : Declarations) (c : Contract) (a : Answer) → Meets d Sort c → Meets d Time c → Meets d Scale c → Meets d Size c → Meets d Bound c → KeepsLimits d → IsStart c (start_day a.start) → a.scale ≡ scale_of_contract d c [] → a.total ≡ pos (aligned_total d c []) → a.horizon ≡ horizon_of c → IsGranted d c a
granted d c a sorts times scales sizes bounds limits start scale total horizon =
    let size : unsigned_abs a.total ≡ aligned_total d c [] = ap unsigned_abs total in
    record {
      accepted = record { sorts = sorts; times = times; scales = scales; sizes = sizes; bounds = bounds };
      right = record { right_start = start; right_scale = scale; right_total = size; right_horizon = horizon };
      positive = total ∙ sym (ap pos size);
      causal = timed_are_causal d c times;
      bounded = pays_at_most d c a.total limits bounds total;
    }
