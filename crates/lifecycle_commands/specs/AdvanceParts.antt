-- What the parts of `advance` answer: what is due and what is left of each contract, behind those that were there before, and what
-- comes of all contracts of a text.
use Rattle.std.specs.Prelude.{◌≡◌, ◌-◌, ℕ, pos, true, map, List, [], ◌∷◌, ◌++◌, Option, Some, None, Result}
use Rattle.std.specs.Global.{Vec}
use Rattle.term_model.specs.declared.name.Name.{Name}
use Rattle.term_model.specs.Books.{Book}
use Rattle.term_model.specs.Declarations.{Declarations, declarations}
use Rattle.term_model.specs.Environments.{Environment}
use Rattle.term_model.specs.Terms.{Contract, contract}
use Rattle.contract_grammar.specs.Names.{declared_by}
use Rattle.contract_grammar.specs.Texts.{Text}
use Rattle.contract_parse.specs.declared.next_contracts.ContractReader.{ContractReader}
use Rattle.contract_print.specs.Canon.{IsCanon, contract_text}
use Rattle.flow_eval.specs.FlowAnswers.{AreKnownFlows}
use Rattle.flow_eval.specs.declared.flow_table.FlowRow.{FlowRow}
use Rattle.advance_step.specs.Advancing.{IsResidual}
use Rattle.advance_step.specs.declared.advancing.Advanced.{Advanced}
use Rattle.command_words.specs.Commands.{AdvanceAsked}
use Rattle.report.specs.declared.fault_lines.Fault.{Fault}
use Rattle.lifecycle_commands.specs.AdvanceCourse.{advance_on}
use Rattle.lifecycle_commands.specs.AdvancePromise.{AreComments, AreDueLines, AreResiduals, CanAdvance, IsAdvancedWith}
use Rattle.lifecycle_commands.specs.AdvancePromise.{IsNewDay, greatest_new_day, last_gone, rest_declarations}
use Rattle.used_contracts.specs.AllAccepted.{AreAllAccepted}
use Rattle.used_contracts.specs.ChoosingParts.{Holds, IsWalkedThrough, Selection, StopsByName, StopsIn, StopsOn, selection, so_far}
use Rattle.command_courses.specs.Course.{Course, Stops, behind}
use Rattle.used_contracts.specs.AllFixed.{IsMissingOne}
use Rattle.used_contracts.specs.AllFixed.{AreAllFixed}
use Rattle.lifecycle_commands.specs.NovatePromise.{novated_entry}
use Rattle.used_contracts.specs.ReadingParts.{IsBegun}
use Rattle.used_contracts.specs.Portfolios.{IsBadText, portfolio_of}
use Rattle.used_contracts.specs.AllFixed.{IsMissingOf, all_fixed}
use Rattle.command_courses.specs.Days.{IsWordFault}
use Rattle.command_courses.specs.Stopping.{AnswersBy}
use Rattle.used_contracts.specs.UsedContracts.{is_known, used}
use Rattle.lifecycle_commands.specs.declared.advance_to.AdvanceTo.{AdvanceTo}
use Rattle.lifecycle_commands.specs.declared.advance.KeptRest.{KeptRest}
use Rattle.lifecycle_commands.specs.declared.advance.Left.{Left}
use Rattle.lifecycle_commands.specs.declared.advance_to.Renaming.{Renaming}
use Rattle.used_contracts.specs.declared.choice.Choice.{Choice}
use Rattle.used_contracts.specs.declared.choosing.Tried.{Tried}
use Rattle.command_courses.specs.declared.stop.Stop.{Stop}

-- the new day of a word
abbrev pub AnswersNewDay : Declarations → List ℕ → Result ℕ Stop → Type 0
AnswersNewDay d word r = AnswersBy (IsNewDay d word) (IsWordFault d greatest_new_day word) r

-- ---- a renaming

-- what is left of a contract, with the new party if it is the one that is renamed
abbrev pub changed : Option Renaming → Name × Contract → Name × Contract
changed None entry = entry
changed (Some renaming) entry = novated_entry renaming.contract.now renaming.old renaming.new entry

abbrev pub changed_book : Option Renaming → Book → Book
changed_book renaming b = record b { contracts = map (changed renaming) b.contracts }

-- ---- one contract

-- the comments of rows, behind what was there before
pub record AppendsComments (d : Declarations) (name : List ℕ) (rows : List FlowRow) (before after : List ℕ) : Type 0 where
  pub text : List ℕ
  pub comments : AreComments d name rows text
  pub appended : after ≡ before ++ text

abbrev pub declared_to : AdvanceTo → Declarations
declared_to to = declarations to.choice.decls.now

-- the line of what is left of a contract
abbrev pub rest_line : AdvanceTo → Name × Contract → List ℕ
rest_line to rest = contract_text (declared_by (declared_to to) []) rest.0 (changed to.renaming rest).1

-- what is due of a contract before the new day, and what is left of it then
pub record IsCarriedOne (to : AdvanceTo) (c : Contract) (advanced : Advanced) : Type 0 where
  pub flows :
      AreKnownFlows (declared_to to) c to.fixings.now (pos (declared_to to).start) (last_gone to.day) advanced.due.rows.items
  pub residual :
      IsResidual (declared_to to) to.fixings.now (pos (declared_to to).start) (to.day - (declared_to to).start) c
      (contract advanced.rest)

abbrev pub AnswersAdvanced : AdvanceTo → Contract → Result Advanced Stop → Type 0
AnswersAdvanced to c r =
    AnswersBy (IsCarriedOne to c) (IsMissingOne (declared_to to) to.fixings.now (last_gone to.day) c) r

-- ---- contract by contract

-- what is due of contracts, and the text of what is left of them
pub record AreLeft (to : AdvanceTo) (left : Left) (entries : List (Name × Contract)) : Type 0 where
  pub due : AreDueLines (declared_to to) to.fixings.now (last_gone to.day) entries left.due.items
  pub rest : List (Name × Contract)
  pub residuals : AreResiduals (declared_to to) to.fixings.now to.day entries rest
  pub canon : IsCanon left.rest.items (so_far (rest_declarations (declared_to to) to.day) (map (changed to.renaming) rest))

-- the same, or the first read of theirs that is not fixed
pub record HasRests (to : AdvanceTo) (kept : KeptRest) (entries : List (Name × Contract)) : Type 0 where
  pub fixed : Holds (all_fixed (declared_to to) to.fixings.now (last_gone to.day) entries) kept.missing
  pub left : kept.missing ≡ None → AreLeft to kept.left entries

-- the same with a contract more, whatever was before it
abbrev pub AddsRest : AdvanceTo → Name × Contract → KeptRest → KeptRest → Type 0
AddsRest to entry before after =
    (entries : List (Name × Contract)) → HasRests to before entries → HasRests to after (entries ++ entry ∷ [])

abbrev pub AnswersKeptRest : AdvanceTo → ContractReader → Result (Tried × KeptRest) Stop → Type 0
AnswersKeptRest to reader r =
    (text : List ℕ) → IsBegun text (declared_to to) reader
    → AnswersBy (λ all. IsWalkedThrough text (declared_to to) (selection to.choice) (HasRests to all.1) all.0) (IsBadText text) r

-- contracts that nothing stops: the name is met, they are accepted, and each of their reads is fixed
pub record PassesRest (to : AdvanceTo) (b : Book) : Type 0 where
  pub known : is_known (selection to.choice).named b ≡ true
  pub accepted : AreAllAccepted b.declarations (used (selection to.choice).only b)
  pub fixed : AreAllFixed b.declarations to.fixings.now (last_gone to.day) (used (selection to.choice).only b)

-- what is due of such contracts of a text, and behind it the text of what is left of them
pub record IsLeftText (text : List ℕ) (to : AdvanceTo) (out : List ℕ) : Type 0 where
  pub entries : List (Name × Contract)
  pub is_text : Text text (so_far (declared_to to) entries)
  pub passes : PassesRest to (so_far (declared_to to) entries)
  pub left : Left
  pub are_left : AreLeft to left (used (selection to.choice).only (so_far (declared_to to) entries))
  pub is : out ≡ left.due.items ++ left.rest.items

abbrev pub IsMissingTo : AdvanceTo → Book → Fault → Type 0
IsMissingTo to b f = IsMissingOf b.declarations to.fixings.now (last_gone to.day) (used (selection to.choice).only b) f

abbrev pub AnswersLeft : AdvanceTo → ContractReader → Result (Vec ℕ) Stop → Type 0
AnswersLeft to reader r =
    (text : List ℕ) → IsBegun text (declared_to to) reader
    → AnswersBy (λ out. IsLeftText text to out.items)
    (StopsIn text (declared_to to) (λ b. StopsOn b (selection to.choice) (IsMissingTo to b))) r

-- ---- from the name on

-- the contracts of a text, with the name that is asked for, are carried to the day of a word, with a renaming if there is one
pub record IsCarriedText (text : List ℕ) (choice : Choice) (renaming : Option Renaming) (asked : AdvanceAsked)
    (table : Option (List ℕ)) (out : List ℕ) : Type 0 where
  pub entries : List (Name × Contract)
  pub is_text : Text text (so_far (declarations choice.decls.now) entries)
  pub known : is_known (selection choice).named (so_far (declarations choice.decls.now) entries) ≡ true
  pub day : ℕ
  pub fixings : Environment
  pub can : CanAdvance (so_far (declarations choice.decls.now) entries) asked table day fixings
  pub advanced : IsAdvancedWith (changed_book renaming) (so_far (declarations choice.decls.now) entries) day fixings out

-- what stops it: the name, or what stops `advance`
abbrev pub StopsCarry : Selection → AdvanceAsked → Option (List ℕ) → Book → Fault → Type 0
StopsCarry s asked table b f = StopsByName b s (Stops (advance_on asked b table)) f

abbrev pub AnswersCarried :
    Choice → Option Renaming → AdvanceAsked → Option (List ℕ) → ContractReader → Result (Vec ℕ) Stop → Type 0
AnswersCarried choice renaming asked table reader r =
    (text : List ℕ) → IsBegun text (declarations choice.decls.now) reader
    → AnswersBy (λ out. IsCarriedText text choice renaming asked table out.items)
    (StopsIn text (declarations choice.decls.now) (StopsCarry (selection choice) asked table)) r

-- the course of `advance` on a text and a table
abbrev pub advance_of_text : AdvanceAsked → List ℕ → Option (List ℕ) → Course
advance_of_text asked text table = behind (portfolio_of text) (λ b. advance_on asked b table)
