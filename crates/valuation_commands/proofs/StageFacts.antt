-- The stages of code exclude each what passes and what stops it, and each has one fault, with its status.
use Rattle.std.proofs.Common.{◌∙◌, ℕ, List, ap, refl, sym}
use Rattle.term_model.specs.Declarations.{Declarations}
use Rattle.term_model.specs.Environments.{Environment, Place}
use Rattle.term_model.specs.Factors.{CurveRow}
use Rattle.term_model.specs.Flows.{Flow}
use Rattle.contract_grammar.specs.declared.faults.TextFault.{TextFault}
use Rattle.contract_grammar.specs.declared.terms.Language.{Language}
use Rattle.fixing_files.specs.Tables.{table_of}
use Rattle.fixing_files.specs.declared.faults.RowFault.{RowFault}
use Rattle.fixing_files.proofs.CurveLawFacts.{faulty_hold_none}
use Rattle.fixing_files.proofs.CurveLawFacts as curves
use Rattle.payoff_terms.specs.CodeBooks.{CodeBook}
use Rattle.payoff_terms.specs.CodeValues.{Asked as Question}
use Rattle.payoff_check.proofs.VerdictFacts.{accepted_not_refused, refusals_unique}
use Rattle.report.specs.declared.fault_lines.Fault.TheVariants as fault
use Rattle.command_words.specs.Commands.{ValueAsked}
use Rattle.command_courses.specs.Names.{label_name}
use Rattle.command_courses.specs.Statuses.{status_of}
use Rattle.command_courses.proofs.CourseFacts.{IsStage}
use Rattle.command_courses.proofs.StageFacts.{none_or_some, refused_same, some_same}
use Rattle.command_courses.proofs.TextFaults.{one_text_fault}
use Rattle.valuation_commands.specs.ValuePromise.{first_unknown, missing_of_code}
use Rattle.valuation_commands.specs.ValueStages.{accepted_code, code_fixed, code_of, curve_of, names_of_value}

-- ---- texts

pub code_is : (bytes : List ℕ) → IsStage CodeBook (code_of bytes)
code_is bytes = record {
  excludes = λ b f p h. h.no_code b p;
  one_fault = λ f g h k. h.fault_is ∙ ap (λ (x : TextFault). fault.Text x) (one_text_fault Language.Code bytes h.first k.first h.is_first k.is_first) ∙ sym k.fault_is;
  status_is = λ f h. ap status_of h.fault_is;
}

-- ---- names

pub names_is : (d : Declarations) (asked : ValueAsked) → IsStage Flow (names_of_value d asked)
names_is d asked = record {
  excludes = λ flow f p h. none_or_some (first_unknown d asked) h.name p.known h.first;
  one_fault = λ f g h k. h.fault_is ∙ ap (λ (x : List ℕ). fault.UnknownName x) (some_same h.name k.name (sym h.first ∙ k.first)) ∙ sym k.fault_is;
  status_is = λ f h. ap status_of h.fault_is;
}

-- ---- acceptance

pub accepted_code_is : (b : CodeBook) (setting : List ℕ) → IsStage (Unit {0}) (accepted_code b setting)
accepted_code_is b setting = record {
  excludes = λ a f p h. accepted_not_refused b.declarations setting b.code h.rule h.node p h.refusal;
  one_fault = λ f g h k.
      (let one = refusals_unique b.declarations setting b.code h.rule k.rule h.node k.node h.refusal k.refusal in
      h.fault_is ∙ refused_same b.name b.name h.rule k.rule h.node k.node refl one.0 one.1 ∙ sym k.fault_is);
  status_is = λ f h. ap status_of h.fault_is;
}

-- ---- tables

pub curve_is : (bytes : List ℕ) (place : ℕ) → IsStage (List CurveRow) (curve_of bytes place)
curve_is bytes place = record {
  excludes = λ curve f p h. faulty_hold_none (table_of bytes) h.row curve h.first p;
  one_fault = λ f g h k. h.fault_is ∙ ap (λ (x : RowFault). fault.Row place x) (curves.faults_unique (table_of bytes) h.row k.row h.first k.first) ∙ sym k.fault_is;
  status_is = λ f h. ap status_of h.fault_is;
}

-- ---- reads

pub code_fixed_is : (b : CodeBook) (setting : List ℕ) (fixings : Environment) (asks : Question) → IsStage (Unit {0}) (code_fixed b setting fixings asks)
code_fixed_is b setting fixings asks = record {
  excludes = λ a f p h. none_or_some (missing_of_code b.declarations b.code setting fixings asks) h.place p h.first;
  one_fault = λ f g h k. h.fault_is ∙ ap (λ (x : Place). fault.Missing (label_name b.declarations x.label) x.day) (some_same h.place k.place (sym h.first ∙ k.first)) ∙ sym k.fault_is;
  status_is = λ f h. ap status_of h.fault_is;
}
