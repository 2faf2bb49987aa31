-- The contracts of a text that a command uses, as they are met one after another: which of them it uses, whether all of these
-- are accepted so far, and what it keeps of them.
use Rattle.std.specs.Prelude.{◌≡◌, ◌⊎◌, ℕ, Bool, true, false, List, [], ◌∷◌, ◌++◌, Option, Some, None, Result, Ok, Err, if◌then◌else◌}
use Rattle.term_model.specs.declared.name.Name.{Name}
use Rattle.term_model.specs.declared.rules.RuleFault.{RuleFault}
use Rattle.term_model.specs.Acceptance.{IsAccepted}
use Rattle.term_model.specs.Books.{Book}
use Rattle.term_model.specs.Declarations.{Declarations}
use Rattle.term_model.specs.Terms.{Contract, contract}
use Rattle.contract_parse.specs.NextContracts.{IsReadTo}
use Rattle.contract_grammar.specs.Texts.{Text}
use Rattle.contract_parse.specs.declared.next_contracts.ContractReader.{ContractReader}
use Rattle.contract_parse.specs.declared.next_contracts.NextContract.{NextContract}
use Rattle.command_words.specs.Arguments.{given_text}
use Rattle.report.specs.declared.fault_lines.Fault.{Fault}
use Rattle.report.specs.declared.fault_lines.Fault.TheVariants as fault
use Rattle.used_contracts.specs.AllAccepted.{AreAllAccepted}
use Rattle.command_courses.specs.Course.{Stage}
use Rattle.used_contracts.specs.ReadingParts.{IsBegun}
use Rattle.used_contracts.specs.Portfolios.{IsBadText, IsUnknownName, known}
use Rattle.used_contracts.specs.AllAccepted.{IsRefusedOf, all_accepted}
use Rattle.command_courses.specs.Stopping.{AnswersBy, AnswersStage}
use Rattle.used_contracts.specs.UsedContracts.{at_defaults, is_asked, is_known, used}
use Rattle.used_contracts.specs.UsedParts.{IsTriable}
use Rattle.used_contracts.specs.declared.choice.Choice.{Choice}
use Rattle.used_contracts.specs.declared.choosing.Tried.{Tried}
use Rattle.command_courses.specs.declared.stop.Stop.{Stop}
use Rattle.command_courses.specs.declared.stop.Stop.TheVariants as stop

-- ---- stages that are held

-- a stage passes, or it has the fault that is held
abbrev pub Holds : Stage (Unit {0}) → Option Fault → Type 0
Holds stage None = stage.Passes tt
Holds stage (Some f) = stage.FaultIs f

-- nothing, or a stop at the fault that is held
abbrev pub stop_at : Option Fault → Result (Unit {0}) Stop
stop_at None = Ok tt
stop_at (Some f) = Err (stop.Fault f)

-- a stop by such a fault, or for want of memory
abbrev pub StopsBy : (Fault → Type 0) → Stop → Type 0
StopsBy Stopped (stop.Fault f) = Stopped f
StopsBy Stopped stop.NoMemory = Unit {0}

-- ---- one contract

-- which contracts a command uses, all or the one of a name; and the name, if any, that is to be that of one
pub record Selection : Type 0 where
  pub named : Option (List ℕ)
  pub only : Option (List ℕ)

abbrev pub selection : Choice → Selection
selection choice =
    record { named = given_text choice.named; only = if choice.only then given_text choice.named else None }

-- all contracts, and a name, if any, that is to be that of one
abbrev pub every : Option (List ℕ) → Selection
every named = record { named = named; only = None }

-- the portfolio of so many contracts
abbrev pub so_far : Declarations → List (Name × Contract) → Book
so_far d entries = record { declarations = d; contracts = entries }

abbrev pub refused_fault : List ℕ → RuleFault → Fault
refused_fault name f = fault.Refused name f.rule f.node

-- the name that is asked for is met if it is that of one of the contracts; and they are all accepted, or the first that is not
-- is held
pub record IsTried (s : Selection) (b : Book) (tried : Tried) : Type 0 where
  pub met : tried.met ≡ is_known s.named b
  pub refused : Holds (all_accepted b.declarations (used s.only b)) tried.refused

-- a contract at the defaults, that is accepted, as are all before it
pub record IsUsed (d : Declarations) (entry : Name × Contract) (before after : Option Fault) (one : NextContract) : Type 0 where
  pub is : (one.name.now, contract one.contr) ≡ entry
  pub triable : IsTriable d entry.1
  pub accepted : IsAccepted d entry.1
  pub none_before : before ≡ None
  pub none_behind : after ≡ None

-- such a one, or none where it is refused or one before it is
abbrev pub Uses : Declarations → Name × Contract → Option Fault → Option Fault → Option NextContract → Type 0
Uses d entry before after (Some one) = IsUsed d entry before after one
Uses d entry before after None = after ≡ None → ⊥

-- a contract at the defaults is tried behind others
pub record TriesNext (d : Declarations) (entry : Name × Contract) (before after : Option Fault) (one : Option NextContract) : Type 0 where
  pub held :
      (entries : List (Name × Contract)) → Holds (all_accepted d entries) before
      → Holds (all_accepted d (entries ++ entry ∷ [])) after
  pub uses : Uses d entry before after one

-- a contract that is read is passed over, or used
pub data Meets (d : Declarations) (s : Selection) (entry : Name × Contract) (before after : Tried) (one : Option NextContract) : Type 0 where
  passed : is_asked s.only entry.0 ≡ false → one ≡ None → after.refused ≡ before.refused → Meets d s entry before after one
  asked : is_asked s.only entry.0 ≡ true → Uses d (at_defaults d entry) before.refused after.refused one → Meets d s entry before after one

-- whatever was tried before
pub record Chooses (d : Declarations) (s : Selection) (entry : Name × Contract) (before after : Tried) (one : Option NextContract) : Type 0 where
  pub tried :
      (entries : List (Name × Contract)) → IsTried s (so_far d entries) before
      → IsTried s (so_far d (entries ++ entry ∷ [])) after
  pub meets : Meets d s entry before after one

-- ---- one contract after another

-- with a contract more, what is kept of those that are used goes from one to the other, while all are accepted
pub record Steps (d : Declarations) (s : Selection) (Kept Keeps : List (Name × Contract) → Type 0)
    (entry : Name × Contract) (before after : Tried) : Type 0 where
  pub tried :
      (entries : List (Name × Contract)) → IsTried s (so_far d entries) before
      → IsTried s (so_far d (entries ++ entry ∷ [])) after
  pub kept :
      (entries : List (Name × Contract)) → (before.refused ≡ None → Kept (used s.only (so_far d entries)))
      → after.refused ≡ None → Keeps (used s.only (so_far d (entries ++ entry ∷ [])))

-- so many contracts of a text are read and tried, and while all that are used are accepted, this is kept of them
pub record IsWalked (text : List ℕ) (d : Declarations) (s : Selection) (Kept : List (Name × Contract) → Type 0)
    (reader : ContractReader) (tried : Tried) : Type 0 where
  pub entries : List (Name × Contract)
  pub read : IsReadTo text d entries reader
  pub trial : IsTried s (so_far d entries) tried
  pub kept : tried.refused ≡ None → Kept (used s.only (so_far d entries))

-- the same of all contracts of a text
pub record IsWalkedThrough (text : List ℕ) (d : Declarations) (s : Selection) (Kept : List (Name × Contract) → Type 0)
    (tried : Tried) : Type 0 where
  pub entries : List (Name × Contract)
  pub is_text : Text text (so_far d entries)
  pub trial : IsTried s (so_far d entries) tried
  pub kept : tried.refused ≡ None → Kept (used s.only (so_far d entries))

-- nothing is kept
abbrev pub Nothing : List (Name × Contract) → Type 0
Nothing entries = Unit {0}

-- whichever text is begun
abbrev pub TriesAll : Declarations → Selection → ContractReader → Result Tried Stop → Type 0
TriesAll d s reader r =
    (text : List ℕ) → IsBegun text d reader → AnswersBy (IsWalkedThrough text d s Nothing) (IsBadText text) r

-- ---- what stops a command at the contracts

-- whether the name is met is known of all contracts
abbrev pub TellsName : Option (List ℕ) → Bool → Result (Unit {0}) Stop → Type 0
TellsName named met r = (b : Book) → met ≡ is_known named b → AnswersStage (known b named) (λ _. tt) r

-- what stops a command on a portfolio by the name, or by what comes behind it
pub data StopsByName (b : Book) (s : Selection) (Then : Fault → Type 0) (f : Fault) : Type 0 where
  unknown : IsUnknownName b s.named f → StopsByName b s Then f
  then_stops : is_known s.named b ≡ true → Then f → StopsByName b s Then f

-- or by the name, by acceptance, or by what comes behind both
pub data StopsOn (b : Book) (s : Selection) (Then : Fault → Type 0) (f : Fault) : Type 0 where
  unknown : IsUnknownName b s.named f → StopsOn b s Then f
  refused : is_known s.named b ≡ true → IsRefusedOf b.declarations (used s.only b) f → StopsOn b s Then f
  then_stops : is_known s.named b ≡ true → AreAllAccepted b.declarations (used s.only b) → Then f → StopsOn b s Then f

-- a fault of the text, or a stop of the portfolio with these declarations that it is
abbrev pub StopsIn : List ℕ → Declarations → (Book → Fault → Type 0) → Fault → Type 0
StopsIn text d StopsOf f =
    IsBadText text f ⊎ ((entries : List (Name × Contract)) × Text text (so_far d entries) × StopsOf (so_far d entries) f)

-- a text with the name that is asked for
pub record HasName (text : List ℕ) (d : Declarations) (s : Selection) (tried : Tried) : Type 0 where
  pub walked : IsWalkedThrough text d s Nothing tried
  pub known : is_known s.named (so_far d walked.entries) ≡ true

abbrev pub KnowsName : Declarations → Selection → ContractReader → Result Tried Stop → Type 0
KnowsName d s reader r =
    (text : List ℕ) → IsBegun text d reader
    → AnswersBy (HasName text d s) (StopsIn text d (λ b. StopsByName b s (λ _. ⊥))) r

-- a stop of its own, behind what stops the command at the text or by the name; or also by acceptance
abbrev pub IsBehindNames : Declarations → Selection → ContractReader → Stop → Stop → Type 0
IsBehindNames d s reader own first =
    (text : List ℕ) → IsBegun text d reader
    → StopsBy (StopsIn text d (λ b. StopsByName b s (λ f. own ≡ stop.Fault f))) first

abbrev pub IsBehindAcceptance : Declarations → Selection → ContractReader → Stop → Stop → Type 0
IsBehindAcceptance d s reader own first =
    (text : List ℕ) → IsBegun text d reader
    → StopsBy (StopsIn text d (λ b. StopsOn b s (λ f. own ≡ stop.Fault f))) first

-- nothing stops the command by the name, by acceptance, or by a fault that is held; or the first of these does
pub record IsPassed (b : Book) (s : Selection) (tried : Tried) (held : Option Fault) : Type 0 where
  pub known : is_known s.named b ≡ true
  pub accepted : tried.refused ≡ None
  pub none : held ≡ None

-- of whichever portfolio's contracts are tried, and of the one that is used whichever is
abbrev pub TellsFirst : Option (List ℕ) → Tried → Option Fault → Result (Unit {0}) Stop → Type 0
TellsFirst named tried held r =
    (b : Book) (s : Selection) → s.named ≡ named → IsTried s b tried
    → AnswersBy (λ _. IsPassed b s tried held) (StopsOn b s (λ f. (tried.refused ≡ None) × (held ≡ Some f))) r
