-- What the command `value` says of a code file over fixings and discount factors: the line of what the code is worth on a day,
-- from one party to another in an asset, at the numbers that are set for templates and the declared ones of the others.
use Rattle.std.specs.Prelude.{◌≡◌, ◌+◌, ℕ, ℤ, pos, List, [], ◌∷◌, ◌++◌, Option, Some, None, find, is_none, map, option_map, unwrap_or}
use Rattle.std.specs.Map.{keys_of, lookup}
use Rattle.std.specs.Str.{bytes_eq}
use Rattle.term_model.specs.Declarations.{Declarations}
use Rattle.term_model.specs.Environments.{Environment, Extends, Place}
use Rattle.term_model.specs.Factors.{CurveRow}
use Rattle.term_model.specs.Flows.{Flow}
use Rattle.term_model.specs.Reads.{first_unfixed}
use Rattle.contract_grammar.specs.Names.{index_in}
use Rattle.fixing_files.specs.CurveTables.{HoldsCurve}
use Rattle.fixing_files.specs.Tables.{Holds, table_of}
use Rattle.payoff_terms.specs.Code.{PayoffCode}
use Rattle.payoff_terms.specs.CodeAcceptance.{IsAcceptedCode}
use Rattle.payoff_terms.specs.CodeBooks.{CodeBook}
use Rattle.payoff_terms.specs.CodeReads.{reads_of_code}
use Rattle.payoff_terms.specs.CodeValues.{Asked as Question}
use Rattle.payoff_terms.specs.Meaning.{face_value}
use Rattle.payoff_eval.specs.CodeAnswers.{aligned_value}
use Rattle.report.specs.ValueLines.{value_text}
use Rattle.command_words.specs.Commands.{Between, ValueAsked}
use Rattle.command_courses.specs.Days.{IsDayAsked, greatest_day}

-- ---- the setting

-- the number that is set for a name, or else this
abbrev pub number_set : List (List ℕ × ℕ) → List ℕ → ℕ → ℕ
number_set settings name number = unwrap_or (lookup (bytes_eq name) settings) number

-- a number for each template, in their order
abbrev pub setting_by : Declarations → List (List ℕ × ℕ) → List ℕ
setting_by d settings = map (λ entry. number_set settings entry.0 entry.1) d.templates

-- ---- the names of the words

-- a name, and the names that it has to be one of
pub record Naming : Type 0 where
  pub name : List ℕ
  pub among : List (List ℕ)

-- the names of the words, in their order
abbrev pub names_between : Declarations → Between → List Naming
names_between d between =
    record { name = between.from; among = d.parties } ∷ record { name = between.to; among = d.parties }
    ∷ record { name = between.asset; among = keys_of d.assets } ∷ []

abbrev pub names_set : Declarations → List (List ℕ × ℕ) → List Naming
names_set d settings = map (λ setting. let n : Naming = record { name = setting.0; among = keys_of d.templates } in n) settings

-- the first that is not declared
abbrev pub first_unknown_of : List Naming → Option (List ℕ)
first_unknown_of names = option_map (λ n. n.name) (find (λ n. is_none (index_in n.among n.name)) names)

abbrev pub first_unknown : Declarations → ValueAsked → Option (List ℕ)
first_unknown d asked = first_unknown_of (names_between d asked.between ++ names_set d asked.settings)

-- the parties and the asset, by their places
pub record AreBetween (d : Declarations) (between : Between) (flow : Flow) : Type 0 where
  pub from : index_in d.parties between.from ≡ Some flow.from
  pub to : index_in d.parties between.to ≡ Some flow.to
  pub asset : index_in (keys_of d.assets) between.asset ≡ Some flow.asset

-- the names are declared, and the day is in range
pub record WordsFitCode (d : Declarations) (asked : ValueAsked) (day : ℤ) : Type 0 where
  pub known : first_unknown d asked ≡ None
  pub is_day : IsDayAsked d greatest_day asked.at day

-- ---- the answer

-- what is asked of code: payments gone by count at face value
abbrev pub question : ℤ → List CurveRow → Flow → Question
question day curve flow = record { now = day; curve = curve; gone = face_value; flow = flow }

-- the first read that is not fixed
abbrev pub missing_of_code : Declarations → PayoffCode → List ℕ → Environment → Question → Option Place
missing_of_code d k setting fixings asks = first_unfixed fixings (reads_of_code d k [] [] fixings setting asks (pos d.start))

-- nothing stops the command: names are known, the day is in range, the code is accepted, the rows are taken and each read is
-- fixed
pub record CanValue (b : CodeBook) (asked : ValueAsked) (table curve_table : List ℕ) : Type 0 where
  pub day : ℤ
  pub fit : WordsFitCode b.declarations asked day
  pub flow : Flow
  pub between : AreBetween b.declarations asked.between flow
  pub accepted : IsAcceptedCode b.declarations (setting_by b.declarations asked.settings) b.code
  pub fixings : Environment
  pub are_fixings : Holds b.declarations (table_of table) fixings
  pub curve : List CurveRow
  pub is_curve : HoldsCurve (table_of curve_table) curve
  pub fixed : missing_of_code b.declarations b.code (setting_by b.declarations asked.settings) fixings (question day curve flow) ≡ None

-- the value, at nine decimals more than amounts, the same in every environment that extends the fixings
abbrev pub IsValue : CodeBook → List ℕ → Environment → Question → ℤ → Type 0
IsValue b setting fixings asks m =
    (env : Environment) → Extends fixings env → aligned_value b.declarations b.code env setting asks (pos b.declarations.start) ≡ m

-- the line of the value
pub record IsWorth (b : CodeBook) (setting : List ℕ) (fixings : Environment) (asks : Question) (text : List ℕ) : Type 0 where
  pub amount : ℤ
  pub is_value : IsValue b setting fixings asks amount
  pub line : text ≡ value_text amount (b.declarations.amounts + 9)

-- the whole answer
pub record IsValueText (b : CodeBook) (asked : ValueAsked) (table curve_table text : List ℕ) : Type 0 where
  pub can : CanValue b asked table curve_table
  pub worth : IsWorth b (setting_by b.declarations asked.settings) can.fixings (question can.day can.curve can.flow) text
