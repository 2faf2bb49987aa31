use Rattle.std.proofs.Common.{◌∙◌, ℕ, List, ap, sym}
use Rattle.std.specs.Prelude.{option_map}
use Rattle.report.specs.declared.fault_lines.Fault.TheVariants as fault
use Rattle.used_contracts.proofs.choosing.know.Goals as goal

pub returns-then-met : goal.returns-then-met
returns-then-met c = λ b met. sym met ∙ c.if-met.true

pub returns : goal.returns
returns c = λ b met. record {
  name = c.in-Some.word.now;
  given = ap (option_map (λ w. w.now)) c.in-Some.is;
  unknown = sym met ∙ c.if-met.false;
  fault_is = ap (λ (n : List ℕ). fault.UnknownName n) (c.in_ok-name.ensures ∙ c.as_bytes.ensures.value);
}
