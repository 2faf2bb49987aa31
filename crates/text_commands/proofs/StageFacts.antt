-- The stages of a schedule file, of a named contract and of its acceptance exclude each what passes and what stops it, and each has
-- one fault, with its status.
use Rattle.std.proofs.Common.{◌∙◌, ℕ, List, ap, refl, sym}
use Rattle.term_model.specs.Books.{Book}
use Rattle.term_model.specs.Declarations.{Declarations}
use Rattle.term_model.specs.Terms.{Contract}
use Rattle.term_model.specs.Instances.{instance, declared_numbers}
use Rattle.term_model.proofs.RefusalFacts as contracts
use Rattle.contract_grammar.specs.declared.faults.TextFault.{TextFault}
use Rattle.schedule_forms.specs.PlanBooks.{PlanBook}
use Rattle.schedule_forms.proofs.FileFacts.{one_plan_fault}
use Rattle.report.specs.declared.fault_lines.Fault.TheVariants as fault
use Rattle.command_courses.specs.Statuses.{status_of}
use Rattle.command_courses.proofs.CourseFacts.{IsStage}
use Rattle.command_courses.proofs.StageFacts.{none_or_some, refused_same}
use Rattle.used_contracts.specs.UsedContracts.{contract_named}
use Rattle.text_commands.specs.ExpandStages.{plans_of}
use Rattle.text_commands.specs.PayoffStages.{accepted_at_defaults, named}

-- ---- texts

pub plans_is : (bytes : List ℕ) → IsStage PlanBook (plans_of bytes)
plans_is bytes = record {
  excludes = λ b f p h. h.no_plans b p;
  one_fault = λ f g h k. h.fault_is ∙ ap (λ (x : TextFault). fault.Text x) (one_plan_fault bytes h.first k.first h.is_first k.is_first) ∙ sym k.fault_is;
  status_is = λ f h. ap status_of h.fault_is;
}

-- ---- names

pub named_is : (b : Book) (name : List ℕ) → IsStage Contract (named b name)
named_is b name = record {
  excludes = λ c f p h. none_or_some (contract_named name b) c h.none p;
  one_fault = λ f g h k. h.fault_is ∙ sym k.fault_is;
  status_is = λ f h. ap status_of h.fault_is;
}

-- ---- acceptance

pub accepted_at_defaults_is : (d : Declarations) (name : List ℕ) (c : Contract) → IsStage (Unit {0}) (accepted_at_defaults d name c)
accepted_at_defaults_is d name c = record {
  excludes = λ a f p h. contracts.accepted_not_refused d (instance (declared_numbers d) c) h.rule h.node p h.refused;
  one_fault = λ f g h k.
      (let one = contracts.refusals_unique d (instance (declared_numbers d) c) h.rule k.rule h.node k.node h.refused k.refused in
      h.fault_is ∙ refused_same name name h.rule k.rule h.node k.node refl one.0 one.1 ∙ sym k.fault_is);
  status_is = λ f h. ap status_of h.fault_is;
}
