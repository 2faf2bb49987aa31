-- What words mean to a command that is declared by its name and its arguments: the matches that the crate `clap` states
-- for it, where it takes the words.
use Rattle.std.specs.Prelude.{◌≡◌, Bool, true, false, List, [], ◌∷◌, Option, Some, None, Result, Ok, Err, codes, fold, option_map, if◌then◌else◌}
use Rattle.std.specs.Borrow.{Bor}
use Rattle.std.specs.Str.{bytes_eq}
use Rattle.clap.specs.Words.{App, Kinds, Row, Rule, Text, all_of, fault_of, first_of, first_value, found_of, matched_of, matches_of, new_app, new_rule, raw_values, with_rule}
use Rattle.clap.specs.Simple.{on_top}
use Rattle.clap.specs.Walk.{texts}
use Rattle.clap.specs.declared.builder.ArgAction.TheVariants.{Append, Set, SetTrue}
use Rattle.clap.specs.declared.parser.matches.ArgMatches.{ArgMatches}
use Rattle.clap.specs.declared.parser.matches.Found.{Found}
use Rattle.command_words.specs.declared.arguments.Argument.{Argument}
use Rattle.command_words.specs.declared.arguments.Argument.TheVariants.{Required, Optional, Repeated, Valued, Flag}
use Rattle.command_words.specs.declared.arguments.WordsErr.{WordsErr}
use Rattle.command_words.specs.declared.arguments.WordsErr.TheVariants.{Usage, NoMemory}

-- the text of a word that may be given, and the texts of words that may be
abbrev pub given_text : Option (Bor Text) → Option Text
given_text word = option_map (λ word. word.now) word

abbrev pub given_texts : Option (Bor (List (Bor Text))) → Option (List Text)
given_texts words = option_map (λ words. texts words.now) words

-- a word that has to be given
abbrev pub required : Text → Rule
required name = record (new_rule name) { required = true; action = Some Set }

-- a word that may be given
abbrev pub optional : Text → Rule
optional name = record (new_rule name) { action = Some Set }

-- any number of words, behind all others that are no options
abbrev pub repeated : Text → Rule
repeated name = record (new_rule name) { action = Some Append }

-- `--NAME VALUE`
abbrev pub valued : Text → Rule
valued name = record (new_rule name) { long = Some name; action = Some Set }

-- `--NAME`
abbrev pub flag : Text → Rule
flag name = record (new_rule name) { long = Some name; action = Some SetTrue }

-- the same of an argument of the program
abbrev pub rule_by : Argument → Rule
rule_by (Required name) = required name.now
rule_by (Optional name) = optional name.now
rule_by (Repeated name) = repeated name.now
rule_by (Valued name) = valued name.now
rule_by (Flag name) = flag name.now

-- a command without arguments, which is given the words behind its own
abbrev pub bare_app : Text → App
bare_app name = on_top (λ s. record s { no_binary_name = true; disable_help_flag = true; disable_version_flag = true }) (new_app name)

-- the command of this name with these arguments
abbrev pub declared : Text → List Rule → App
declared name rules = fold with_rule (bare_app name) rules

-- no kind of refusal comes
abbrev pub is_taken : Kinds → Bool
is_taken [] = true
is_taken (kind ∷ kinds) = false

-- the matches of the words, where the command takes them
unfoldable pub taken : App → List Text → Option (List Row)
taken app words = if is_taken (fault_of app words) then Some (matches_of app words) else None

-- all words that are found for an argument
abbrev pub all_values : Found → Text → Option (List Text)
all_values found name = option_map raw_values (matched_of found name)

-- the matches hold what is stated, of the first word of an argument and of all its words
pub record Holds (rows : List Row) (matches : ArgMatches) : Type 0 where
  pub first : (name : Text) → first_value (found_of matches) name ≡ first_of name rows
  pub all : (name : Text) → all_values (found_of matches) name ≡ all_of name rows

-- the matches of the words, and `Usage` exactly where the command refuses them
abbrev pub HasMatches : App → List Text → Result ArgMatches WordsErr → Type 0
HasMatches app words (Ok matches) = (rows : List Row) × (taken app words ≡ Some rows) × Holds rows matches
HasMatches app words (Err Usage) = taken app words ≡ None
HasMatches app words (Err NoMemory) = Unit {0}

-- what is found for a flag says that it is given
abbrev pub is_set : Option Text → Bool
is_set None = false
is_set (Some value) = bytes_eq value (codes "true")

-- what a command asks for, by what it finds under the name of each argument, or nothing where words are not of their form
abbrev pub Reading : Type 0 → Type 0
Reading Asked = (Text → Option Text) → Option Asked

abbrev pub read_rows : {Asked : Type 0} → Reading Asked → Option (List Row) → Option Asked
read_rows reading None = None
read_rows reading (Some rows) = reading (λ name. first_of name rows)

-- what the words ask of a command
abbrev pub asked_of : {Asked : Type 0} → App → Reading Asked → List Text → Option Asked
asked_of app reading words = read_rows reading (taken app words)

-- an answer is what is wanted, and `Usage` comes exactly where there is none
abbrev pub IsAnswer : {X Y : Type 0} → (X → Y) → Option Y → Result X WordsErr → Type 0
IsAnswer view wanted (Ok x) = wanted ≡ Some (view x)
IsAnswer view wanted (Err Usage) = wanted ≡ None
IsAnswer view wanted (Err NoMemory) = Unit {0}
