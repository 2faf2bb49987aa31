-- What is left of a contract after some days carries it.
use Rattle.std.proofs.Common.{◌≡◌, ℕ, suc, ℤ, pos, ◌+ℤ◌, ◌+◌, ◌-◌, ◌≤◌, ap, subst, ◌∙◌, [], Contains, arith}
use Rattle.std.proofs.lemmas.Int.{ints}
use Rattle.decimal.specs.Rounding.{raised}
use Rattle.term_model.specs.Declarations.{Declarations}
use Rattle.term_model.specs.Terms.{Contract}
use Rattle.term_model.specs.Environments.{Environment}
use Rattle.term_model.specs.Flows.{Flow, flow_of, amount_of, scale_of_contract}
use Rattle.term_model.specs.Reads.{reads_of_contract}
use Rattle.advance_step.specs.WhatIsLeft.{left_of}
use Rattle.advance_step.specs.LawsLeft.{LeftCarries}
use Rattle.rewriting.proofs.RaisedFacts.{raised_by}
use Rattle.advance_step.proofs.LeftFlowFacts.{left_scales, left_flows}
use Rattle.advance_step.proofs.LeftReadFacts.{left_reads}
use Rattle.advance_step.proofs.SpanFacts.{reads_longer}

left_amount : (d : Declarations) (c : Contract) (env : Environment) (f : ℤ) (j n : ℕ) (w : Flow) → scale_of_contract d c [] ≤ d.amounts → amount_of d (left_of d c [] env f j) env (f +ℤ pos (suc j)) (pos n) w ≡ amount_of d c env f (pos (suc j + n)) w
left_amount d c env f j n w le =
    raised_by (flow_of d (left_of d c [] env f j) [] env (f +ℤ pos (suc j)) (pos n) w) (scale_of_contract d (left_of d c [] env f j) []) (scale_of_contract d c []) d.amounts (left_scales d c [] env f j) le
    ∙ ap (λ (x : ℤ). raised x (d.amounts - scale_of_contract d c [])) (left_flows d c [] env f j n w)

pub left_carries : LeftCarries
left_carries d c f fixings j rest le h =
    record {
      amounts = λ env a x n w. ap (λ (l : Contract). amount_of d l env (f +ℤ pos (suc j)) (pos n) w) (h env a x) ∙ left_amount d c env f j n w le;
      reads = λ env a x b q p.
          let there : Contains (reads_of_contract d (left_of d c [] env f j) [] [] env (f +ℤ pos (suc j)) (pos 0) (pos b)) q = subst (λ (l : Contract). Contains (reads_of_contract d l [] [] env (f +ℤ pos (suc j)) (pos 0) (pos b)) q) (h env a x) p in
          let last : pos (suc j) +ℤ pos b ≡ pos (suc j + b) = omega (arith, ints) in
          subst (λ (y : ℤ). Contains (reads_of_contract d c [] [] env f (pos 0) y) q) last
          (reads_longer d c [] [] env f (pos 0) (pos (suc j) +ℤ pos 0) (pos (suc j) +ℤ pos b) (omega (arith, ints)) q (left_reads d c [] [] env f j (pos 0) b q there));
    }
