-- What the parts of `value` answer, each that of its own or the fault that stops the command. `scenarios` shares those up to its
-- tables, and the curve.
use Rattle.std.specs.Prelude.{◌≡◌, ◌≤◌, ◌<◌, ◌^◌, ℕ, ℤ, pos, List, [], Option, Some, None, Result, unsigned_abs}
use Rattle.term_model.specs.Declarations.{Declarations}
use Rattle.term_model.specs.Environments.{Environment, Place}
use Rattle.term_model.specs.Factors.{CurveRow}
use Rattle.term_model.specs.Flows.{Flow}
use Rattle.payoff_terms.specs.CodeAcceptance.{IsAcceptedCode}
use Rattle.payoff_terms.specs.CodeBooks.{CodeBook, code_book}
use Rattle.payoff_lang.specs.CodeFiles.{CodeText}
use Rattle.payoff_terms.specs.CodeSizes.{height_of_code, nodes_of_code}
use Rattle.payoff_terms.specs.CodeTotals.{aligned_code_total}
use Rattle.payoff_terms.specs.WellFormedCode.{IsClosedCode}
use Rattle.payoff_terms.specs.declared.code_file.CodeFile.{CodeFile}
use Rattle.payoff_eval.specs.Questions.{HasNumberForEach, IsQuestion}
use Rattle.report.specs.declared.fault_lines.Fault.{Fault}
use Rattle.report.specs.declared.fault_lines.Fault.TheVariants as fault
use Rattle.command_words.specs.Commands.{Between, ValueAsked}
use Rattle.command_courses.specs.Course.{Course, Stops, behind, tells}
use Rattle.command_courses.specs.Days.{IsDayAsked, greatest_day}
use Rattle.valuation_commands.specs.ValueStages.{IsMissingOfCode, KnowsNames, code_fixed, curve_of}
use Rattle.command_courses.specs.FixingTables.{fixed_by}
use Rattle.command_courses.specs.Stopping.{AnswersBy}
use Rattle.valuation_commands.specs.ValueCourse.{asks_code, numbers}
use Rattle.valuation_commands.specs.ValuePromise.{AreBetween, IsValue, IsWorth, first_unknown_of, missing_of_code, names_between, names_set, question}
use Rattle.command_courses.specs.declared.stop.Stop.{Stop}
use Rattle.valuation_commands.specs.declared.value_names.Parties.{Parties}
use Rattle.valuation_commands.specs.declared.asking.Asking.{Asking}

-- ---- the names

abbrev pub flow_of : Parties → Flow
flow_of parties = record { from = parties.from; to = parties.to; asset = parties.asset }

-- the fault names a name that is the first of some that is not declared
pub record NamesUnknown (first : List ℕ → Type 0) (f : Fault) : Type 0 where
  pub name : List ℕ
  pub is_first : first name
  pub fault_is : f ≡ fault.UnknownName name

abbrev pub IsUnknownBetween : Declarations → Between → Fault → Type 0
IsUnknownBetween d between f = NamesUnknown (λ name. first_unknown_of (names_between d between) ≡ Some name) f

abbrev pub AnswersParties : Declarations → Between → Result Parties Stop → Type 0
AnswersParties d between r = AnswersBy (λ parties. AreBetween d between (flow_of parties)) (IsUnknownBetween d between) r

abbrev pub SettingsAreKnown : Declarations → List (List ℕ × ℕ) → Type 0
SettingsAreKnown d settings = first_unknown_of (names_set d settings) ≡ None

abbrev pub IsUnknownSetting : Declarations → List (List ℕ × ℕ) → Fault → Type 0
IsUnknownSetting d settings f = NamesUnknown (λ name. first_unknown_of (names_set d settings) ≡ Some name) f

-- nothing, where the names of all settings are declared; else the first that is not
abbrev pub AnswersSettings : Declarations → List (List ℕ × ℕ) → Result (Unit {0}) Stop → Type 0
AnswersSettings d settings r = AnswersBy (λ _. SettingsAreKnown d settings) (IsUnknownSetting d settings) r

-- ---- the code

-- a code file with what is asked of it: at a setting, on a day, between parties in an asset
pub record Inquiry : Type 0 where
  pub book : CodeBook
  pub setting : List ℕ
  pub day : ℤ
  pub flow : Flow

abbrev pub inquiry_of : CodeFile → Asking → Inquiry
inquiry_of file asking =
    record { book = code_book file; setting = asking.setting.days.items; day = asking.day; flow = flow_of asking.parties }

-- what a text gives: closed code of which at most 400 terms are open at once, with fewer nodes than can be counted
pub record IsReadable (b : CodeBook) : Type 0 where
  pub closed : IsClosedCode b.declarations b.code
  pub low : height_of_code b.code ≤ 400
  pub small : nodes_of_code b.code < 2 ^ 32

-- the bytes are a text of the code file
pub record IsReadFrom (bytes : List ℕ) (b : CodeBook) : Type 0 where
  pub spelled : CodeText bytes b
  pub readable : IsReadable b

-- the most that accepted code can be worth in size, at nine decimals more than amounts
abbrev pub most_of : CodeBook → ℤ
most_of b = pos (aligned_code_total b.declarations b.code [])

-- the code is accepted at a setting, and this is the most that it can be worth
pub record IsAcceptedUpTo (b : CodeBook) (setting : List ℕ) (most : ℤ) : Type 0 where
  pub accepted : IsAcceptedCode b.declarations setting b.code
  pub is_most : most ≡ most_of b

-- the day is in range, and the parties and the asset are declared
abbrev pub IsQuestionOf : Inquiry → Type 0
IsQuestionOf q = (curve : List CurveRow) → IsQuestion q.book.declarations (question q.day curve q.flow)

-- the code may be asked: it is accepted at the setting
pub record MayAsk (q : Inquiry) : Type 0 where
  pub setting : HasNumberForEach q.book.declarations q.setting
  pub accepted : IsAcceptedCode q.book.declarations q.setting q.book.code
  pub is_question : IsQuestionOf q

-- what is asked is what the words say, of code that is accepted at the numbers that are set
pub record IsAskedBy (asked : ValueAsked) (file : CodeFile) (asking : Asking) : Type 0 where
  pub names : KnowsNames (code_book file).declarations asked (flow_of asking.parties)
  pub is_day : IsDayAsked (code_book file).declarations greatest_day asked.at asking.day
  pub setting : asking.setting.days.items ≡ numbers (code_book file) asked
  pub is_most : asking.most ≡ most_of (code_book file)
  pub may : MayAsk (inquiry_of file asking)

-- what stops a command before its tables
abbrev pub StopsAsking : ValueAsked → CodeBook → Fault → Type 0
StopsAsking asked b f = Stops (asks_code asked b (λ flow day. tells (λ text. ⊥))) f

abbrev pub AnswersAsking : ValueAsked → CodeFile → Result Asking Stop → Type 0
AnswersAsking asked file r = AnswersBy (IsAskedBy asked file) (StopsAsking asked (code_book file)) r

-- ---- the value

-- the first read of the code that is not fixed
abbrev pub missing_by : Inquiry → Environment → List CurveRow → Option Place
missing_by q fixings curve = missing_of_code q.book.declarations q.book.code q.setting fixings (question q.day curve q.flow)

-- what the code is worth, where each read is fixed
pub record IsValueOver (q : Inquiry) (fixings : Environment) (curve : List CurveRow) (amount : ℤ) : Type 0 where
  pub fixed : missing_by q fixings curve ≡ None
  pub is_value : IsValue q.book q.setting fixings (question q.day curve q.flow) amount
  pub small : unsigned_abs amount ≤ 10 ^ 37

-- a read is not fixed, and the fault names the first
abbrev pub IsMissingBy : Inquiry → Environment → List CurveRow → Fault → Type 0
IsMissingBy q fixings curve f = IsMissingOfCode q.book q.setting fixings (question q.day curve q.flow) f

abbrev pub AnswersValueOver : Inquiry → Environment → List CurveRow → Result ℤ Stop → Type 0
AnswersValueOver q fixings curve r = AnswersBy (IsValueOver q fixings curve) (IsMissingBy q fixings curve) r

-- ---- what is left of the course of `value`, behind its names and its day

-- behind the fixings
abbrev pub by_curve : Inquiry → Environment → List ℕ → Course
by_curve q fixings curve =
    behind (curve_of curve 3) (λ factors.
    behind (code_fixed q.book q.setting fixings (question q.day factors q.flow)) (λ _.
    tells (IsWorth q.book q.setting fixings (question q.day factors q.flow))))

-- behind the setting, at which the code is accepted
abbrev pub by_tables : Inquiry → List ℕ → List ℕ → Course
by_tables q table curve = behind (fixed_by q.book.declarations (Some table) 2) (λ fixings. by_curve q fixings curve)
