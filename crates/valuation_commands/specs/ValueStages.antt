-- The stages of commands on code: those of its text, of names, of acceptance, of the curve, and of reads that are fixed.
use Rattle.std.specs.Prelude.{◌≡◌, ℕ, List, Some, None}
use Rattle.term_model.specs.declared.rules.Rule.{Rule}
use Rattle.term_model.specs.Declarations.{Declarations}
use Rattle.term_model.specs.Environments.{Environment, Place}
use Rattle.term_model.specs.Factors.{CurveRow}
use Rattle.term_model.specs.Flows.{Flow}
use Rattle.contract_grammar.specs.declared.faults.TextFault.{TextFault}
use Rattle.fixing_files.specs.CurveTables.{HoldsCurve, IsFirstCurveFault}
use Rattle.fixing_files.specs.Tables.{table_of}
use Rattle.fixing_files.specs.declared.faults.RowFault.{RowFault}
use Rattle.payoff_terms.specs.CodeAcceptance.{IsAcceptedCode, IsCodeRefusal}
use Rattle.payoff_lang.specs.CodeAnswers.{IsCodeFault}
use Rattle.payoff_terms.specs.CodeBooks.{CodeBook}
use Rattle.payoff_lang.specs.CodeFiles.{CodeText}
use Rattle.payoff_terms.specs.CodeValues.{Asked as Question}
use Rattle.report.specs.declared.fault_lines.Fault.{Fault}
use Rattle.report.specs.declared.fault_lines.Fault.TheVariants as fault
use Rattle.command_words.specs.Commands.{ValueAsked}
use Rattle.command_courses.specs.Course.{Stage}
use Rattle.command_courses.specs.Names.{label_name}
use Rattle.command_courses.specs.declared.status.Status.TheVariants as status
use Rattle.valuation_commands.specs.ValuePromise.{AreBetween, first_unknown, missing_of_code}

-- ---- texts

-- the bytes are no code file's text, and the fault is their first
pub record IsBadCode (bytes : List ℕ) (f : Fault) : Type 0 where
  pub first : TextFault
  pub is_first : IsCodeFault bytes first
  pub no_code : (b : CodeBook) → CodeText bytes b → ⊥
  pub fault_is : f ≡ fault.Text first

-- the code file of a text
abbrev pub code_of : List ℕ → Stage CodeBook
code_of bytes = record { status = status.BadText; Passes = CodeText bytes; FaultIs = IsBadCode bytes }

-- ---- names

-- the names of `value` are declared, and the parties and the asset have these places
pub record KnowsNames (d : Declarations) (asked : ValueAsked) (flow : Flow) : Type 0 where
  pub known : first_unknown d asked ≡ None
  pub between : AreBetween d asked.between flow

-- the first name of the words that is not declared
pub record IsFirstUnknown (d : Declarations) (asked : ValueAsked) (f : Fault) : Type 0 where
  pub name : List ℕ
  pub first : first_unknown d asked ≡ Some name
  pub fault_is : f ≡ fault.UnknownName name

-- the names of `value`, and the parties and the asset by their places
abbrev pub names_of_value : Declarations → ValueAsked → Stage Flow
names_of_value d asked = record { status = status.UnknownName; Passes = KnowsNames d asked; FaultIs = IsFirstUnknown d asked }

-- ---- acceptance

-- code is refused at a setting
pub record IsRefusedCode (b : CodeBook) (setting : List ℕ) (f : Fault) : Type 0 where
  pub rule : Rule
  pub node : ℕ
  pub refusal : IsCodeRefusal b.declarations setting b.code rule node
  pub fault_is : f ≡ fault.Refused b.name rule node

-- code that is accepted at a setting
abbrev pub accepted_code : CodeBook → List ℕ → Stage (Unit {0})
accepted_code b setting =
    record { status = status.Refused; Passes = λ _. IsAcceptedCode b.declarations setting b.code; FaultIs = IsRefusedCode b setting }

-- ---- tables

-- the first row of a curve at a place that is refused
pub record IsCurveFault (bytes : List ℕ) (place : ℕ) (f : Fault) : Type 0 where
  pub row : RowFault
  pub first : IsFirstCurveFault (table_of bytes) row
  pub fault_is : f ≡ fault.Row place row

-- the discount factors of the table at a place
abbrev pub curve_of : List ℕ → ℕ → Stage (List CurveRow)
curve_of bytes place = record { status = status.BadRow; Passes = HoldsCurve (table_of bytes); FaultIs = IsCurveFault bytes place }

-- ---- reads

-- the first read of code that is not fixed
pub record IsMissingOfCode (b : CodeBook) (setting : List ℕ) (fixings : Environment) (asks : Question) (f : Fault) : Type 0 where
  pub place : Place
  pub first : missing_of_code b.declarations b.code setting fixings asks ≡ Some place
  pub fault_is : f ≡ fault.Missing (label_name b.declarations place.label) place.day

-- code of which each read is fixed
abbrev pub code_fixed : CodeBook → List ℕ → Environment → Question → Stage (Unit {0})
code_fixed b setting fixings asks = record {
  status = status.Missing;
  Passes = λ _. missing_of_code b.declarations b.code setting fixings asks ≡ None;
  FaultIs = IsMissingOfCode b setting fixings asks;
}
