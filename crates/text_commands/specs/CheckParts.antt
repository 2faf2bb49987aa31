-- What the parts of `check` answer: the line of each contract behind those before it, and whether all of them were
-- accepted so far.
use Rattle.std.specs.Prelude.{◌≡◌, ◌↔◌, ◌&&◌, ℕ, Bool, true, IsTrue, List, [], ◌++◌, map, None, Result}
use Rattle.term_model.specs.declared.name.Name.{Name}
use Rattle.term_model.specs.Books.{Book}
use Rattle.term_model.specs.Declarations.{Declarations}
use Rattle.term_model.specs.Terms.{Contract}
use Rattle.term_model.specs.Acceptance.{IsAccepted}
use Rattle.contract_grammar.specs.Texts.{Text}
use Rattle.contract_parse.specs.NextContracts.{IsReadTo}
use Rattle.contract_parse.specs.declared.next_contracts.ContractReader.{ContractReader}
use Rattle.command_courses.specs.Stopping.{AnswersBy}
use Rattle.command_courses.specs.declared.stop.Stop.{Stop}
use Rattle.used_contracts.specs.AllAccepted.{AreAllAccepted}
use Rattle.used_contracts.specs.Portfolios.{IsBadText}
use Rattle.used_contracts.specs.ReadingParts.{IsBegun}
use Rattle.used_contracts.specs.UsedContracts.{at_defaults, used}
use Rattle.text_commands.specs.CheckPromise.{AreCheckLines, IsCheckLine}
use Rattle.text_commands.specs.declared.check.CheckText.{CheckText}

-- the text after is the text before and the line of a contract
pub record AppendsVerdict (d : Declarations) (entry : Name × Contract) (accepted : Bool) (before after : List ℕ) : Type 0 where
  pub line : List ℕ
  pub is_line : IsCheckLine d entry.0 entry.1 line
  pub appended : after ≡ before ++ line
  pub decides : IsTrue accepted ↔ IsAccepted d entry.1

-- the same of contracts, one after another, of which all are accepted, and all before them were
pub record AppendsVerdicts (d : Declarations) (entries : List (Name × Contract)) (so_far all : Bool) (before after : List ℕ) : Type 0 where
  pub text : List ℕ
  pub lines : AreCheckLines d entries text
  pub appended : after ≡ before ++ text
  pub decides : IsTrue all ↔ (IsTrue so_far × AreAllAccepted d entries)

-- the verdicts on contracts, with nothing before them
abbrev pub AreVerdicts : Declarations → List (Name × Contract) → CheckText → Type 0
AreVerdicts d entries check = AppendsVerdicts d entries true check.all_accepted [] check.text.items

-- the same with one more contract
pub record AddsVerdict (d : Declarations) (entry : Name × Contract) (before after : CheckText) : Type 0 where
  pub accepted : Bool
  pub appended : AppendsVerdict d entry accepted before.text.items after.text.items
  pub joined : after.all_accepted ≡ (before.all_accepted && accepted)

-- ---- the verdicts on a text

-- so many contracts of a text are read, and the verdicts on them, at the defaults, are there
pub record HasVerdicts (text : List ℕ) (d : Declarations) (reader : ContractReader) (check : CheckText) : Type 0 where
  pub entries : List (Name × Contract)
  pub read : IsReadTo text d entries reader
  pub verdicts : AreVerdicts d (map (at_defaults d) entries) check

-- the verdicts on all contracts of a text, or the fault of the text
pub record AreTextVerdicts (text : List ℕ) (check : CheckText) : Type 0 where
  pub of : Book
  pub is_text : Text text of
  pub verdicts : AreVerdicts of.declarations (used None of) check

abbrev pub AnswersCheck : List ℕ → Result CheckText Stop → Type 0
AnswersCheck text r = AnswersBy (AreTextVerdicts text) (IsBadText text) r

-- whichever text is begun
abbrev pub AnswersAllVerdicts : Declarations → ContractReader → Result CheckText Stop → Type 0
AnswersAllVerdicts d reader r = (text : List ℕ) → IsBegun text d reader → AnswersCheck text r
