-- The numbers that `value` and `scenarios` ask code at are a setting: what words set is at most 100,000, and so is each template
-- of a text.
use Rattle.std.proofs.Common.{◌≡◌, ◌≤◌, ℕ, zero, suc, Bool, true, false, List, [], ◌∷◌, ◌++◌, Option, Some, None, codes, if◌then◌else◌, nat_le, leb-true, map, refl, subst, arith}
use Rattle.std.specs.Prelude.{IfSome, option_and_then, option_map, unwrap_or}
use Rattle.std.specs.List.{AllByRecursion}
use Rattle.std.specs.Map.{keys_of, lookup}
use Rattle.std.specs.Str.{bytes_eq}
use Rattle.std.proofs.lemmas.List.Elements.{All-nil, All-push, recursion_from_All}
use Rattle.std.proofs.lemmas.Map.Entries.{All-lookup}
use Rattle.clap.specs.Words.{Row, Text, all_of, first_of}
use Rattle.decimal.specs.Reading.{digits_of, number_up_to, up_to}
use Rattle.decimal.specs.declared.rounding.Mode.{Mode}
use Rattle.term_model.specs.Instances.{IsSetting}
use Rattle.contract_grammar.specs.Names.{is_declared}
use Rattle.contract_grammar.specs.NameTexts.{is_name_text}
use Rattle.payoff_terms.specs.CodeBooks.{CodeBook}
use Rattle.payoff_lang.specs.CodeFiles.{CodeText}
use Rattle.payoff_lang.proofs.TemplateDays.{templates_short}
use Rattle.command_words.specs.Arguments.{Reading, read_rows, taken}
use Rattle.command_words.specs.Commands.{Advance, AreSettings, Between, Check, Expand, Flows, Migrate, Novate, Payoff, Positions, Request, Sample, Scenarios, ScenariosAsked, Settle, Value, ValueAsked, ValueFiles}
use Rattle.command_words.specs.Words.{advance_of, check_app, check_from, expand_app, expand_from, flows_app, flows_from, flows_with, migrate_app, migrate_from, netting_of, novate_of, payoff_app, payoff_from, payoff_with}
use Rattle.command_words.specs.Words.{one_more_setting, other_request_of, parted, read_all_rows, request_of, sample_app, sample_from, scenarios_app, scenarios_from, scenarios_with, setting_of_parts, setting_of_word, settings_after, settings_of, size_if_given, value_app, value_from, value_with}
use Rattle.valuation_commands.specs.ValuePromise.{number_set, setting_by}
use Rattle.command_courses.proofs.StageFacts.{some_same}
use Rattle.contract_cli.specs.RunPromise.{Names}

-- ---- what a part of an answer is, where there is an answer

then_some : {A B : Type 0} (f : A → Option B) (o : Option A) (b : B) → option_and_then f o ≡ Some b → (a : A) × (f a ≡ Some b)
then_some f None b e = absurd cc
then_some f (Some a) b e = (a, e)

map_some : {A B : Type 0} (f : A → B) (o : Option A) (b : B) → option_map f o ≡ Some b → (a : A) × (o ≡ Some a) × (f a ≡ b)
map_some f None b e = absurd cc
map_some f (Some a) b e = (a, refl, some_same (f a) b e)

if_holds : {A : Type 0} (t : Bool) (o : Option A) (a : A) → (if t then o else None) ≡ Some a → o ≡ Some a
if_holds true o a e = e
if_holds false o a e = absurd cc

-- ---- one word

number_within : (most n m : ℕ) (fits : Bool) → nat_le n most ≡ fits → (if fits then Some n else None) ≡ Some m → m ≤ most
number_within most n m true is e = subst (λ (k : ℕ). k ≤ most) (some_same n m e) (leb-true n most is)
number_within most n m false is e = absurd cc

number_small : (most : ℕ) (text : List ℕ) (n : ℕ) → number_up_to most text ≡ Some n → n ≤ most
number_small most text n e =
    let read = then_some (up_to most) (digits_of text) n e in
    number_within most read.0 n (nat_le read.0 most) refl read.1

word_small : (word : Text) (setting : Text × ℕ) → setting_of_word word ≡ Some setting → setting.1 ≤ 100_000
word_small word setting e =
    let parts = then_some setting_of_parts (parted word) setting e in
    let name = parts.0.0 in
    let text = parts.0.1 in
    let pair : ℕ → Text × ℕ = λ n. (name, n) in
    let number = map_some pair (number_up_to 100_000 text) setting (if_holds (is_name_text name) (option_map pair (number_up_to 100_000 text)) setting parts.1) in
    subst (λ (s : Text × ℕ). s.1 ≤ 100_000) number.2 (number_small 100_000 text number.0 number.1)

-- ---- the numbers that words set

abbrev AreSmall : Option (List (Text × ℕ)) → Type 0
AreSmall None = Unit {0}
AreSmall (Some settings) = AreSettings settings

small_if : (twice : Bool) (settings : List (Text × ℕ)) → AreSettings settings → AreSmall (if twice then None else Some settings)
small_if true settings all = tt
small_if false settings all = all

one_more_small : (settings : List (Text × ℕ)) (o : Option (Text × ℕ)) → AreSettings settings → ((s : Text × ℕ) → o ≡ Some s → s.1 ≤ 100_000) → AreSmall (one_more_setting settings o)
one_more_small settings None all small = tt
one_more_small settings (Some s) all small =
    small_if (is_declared (keys_of settings) s.0) (settings ++ s ∷ []) (All-push (λ (x : Text × ℕ). x.1 ≤ 100_000) settings s all (small s refl))

small_after : (o : Option (List (Text × ℕ))) (words : List Text) → AreSmall o → AreSmall (settings_after o words)
small_after None words all = tt
small_after (Some settings) [] all = all
small_after (Some settings) (word ∷ words) all =
    small_after (one_more_setting settings (setting_of_word word)) words (one_more_small settings (setting_of_word word) all (word_small word))

no_settings : AreSettings []
no_settings = All-nil (λ (s : Text × ℕ). s.1 ≤ 100_000)

small_of : (words : Option (List Text)) → AreSmall (settings_of words)
small_of None = no_settings
small_of (Some words) = small_after (Some []) words no_settings

-- ---- what is asked of `value`, alone and in scenarios

abbrev ValueIsSmall : Option ValueAsked → Type 0
ValueIsSmall None = Unit {0}
ValueIsSmall (Some asked) = AreSettings asked.settings

with_small : (files : Option ValueFiles) (at : Option Text) (between : Option Between) (settings : Option (List (Text × ℕ)))
    → AreSmall settings → ValueIsSmall (value_with files at between settings)
with_small None at between settings small = tt
with_small (Some f) None between settings small = tt
with_small (Some f) (Some a) None settings small = tt
with_small (Some f) (Some a) (Some b) None small = tt
with_small (Some f) (Some a) (Some b) (Some settings) small = small

value_small : (word : Text → Option Text) (words : Text → Option (List Text)) → ValueIsSmall (value_from word words)
value_small word words = with_small _ _ _ _ (small_of (words (codes "settings")))

-- ---- what is requested

-- the numbers that a request sets are at most 100,000
abbrev IsSmall : Request → Type 0
IsSmall (Value asked) = AreSettings asked.settings
IsSmall (Scenarios asked) = AreSettings asked.value.settings
IsSmall (Check portfolio) = Unit {0}
IsSmall (Flows asked) = Unit {0}
IsSmall (Advance asked) = Unit {0}
IsSmall (Payoff asked) = Unit {0}
IsSmall (Migrate portfolio) = Unit {0}
IsSmall (Expand plans) = Unit {0}
IsSmall (Sample contracts) = Unit {0}
IsSmall (Positions asked) = Unit {0}
IsSmall (Settle asked) = Unit {0}
IsSmall (Novate asked) = Unit {0}

abbrev AsksSmall : Option Request → Type 0
AsksSmall None = Unit {0}
AsksSmall (Some request) = IsSmall request

map_asks : {A : Type 0} (f : A → Request) → ((a : A) → IsSmall (f a)) → (o : Option A) → AsksSmall (option_map f o)
map_asks f all None = tt
map_asks f all (Some a) = all a

rows_ask : (reading : Reading Request) → ((word : Text → Option Text) → AsksSmall (reading word)) → (rows : Option (List Row)) → AsksSmall (read_rows reading rows)
rows_ask reading all None = tt
rows_ask reading all (Some rows) = all (λ name. first_of name rows)

flows_ask : (file fixings : Option Text) (until contract : Option (Option Text)) (net : Bool) → AsksSmall (flows_with file fixings until contract net)
flows_ask None fixings until contract net = tt
flows_ask (Some file) fixings None contract net = tt
flows_ask (Some file) fixings (Some until) None net = tt
flows_ask (Some file) fixings (Some until) (Some contract) net = tt

payoff_asks : (file contract : Option Text) (plain : Bool) → AsksSmall (payoff_with file contract plain)
payoff_asks None contract plain = tt
payoff_asks (Some file) None plain = tt
payoff_asks (Some file) (Some contract) plain = tt

value_asks : (asked : Option ValueAsked) → ValueIsSmall asked → AsksSmall (option_map (λ value. Value value) asked)
value_asks None small = tt
value_asks (Some asked) small = small

value_rows_ask : (rows : Option (List Row)) → AsksSmall (option_map (λ value. Value value) (read_all_rows value_from rows))
value_rows_ask None = tt
value_rows_ask (Some rows) = value_asks _ (value_small (λ name. first_of name rows) (λ name. all_of name rows))

scenarios_ask : (value : Option ValueAsked) (mean : Option Mode) → ValueIsSmall value → AsksSmall (option_map (λ scenarios. Scenarios scenarios) (scenarios_with value mean))
scenarios_ask None mean small = tt
scenarios_ask (Some value) None small = tt
scenarios_ask (Some value) (Some mean) small = small

scenario_rows_ask : (rows : Option (List Row)) → AsksSmall (option_map (λ scenarios. Scenarios scenarios) (read_all_rows scenarios_from rows))
scenario_rows_ask None = tt
scenario_rows_ask (Some rows) = scenarios_ask _ _ (value_small (λ name. first_of name rows) (λ name. all_of name rows))

-- what follows the test of a first word
either : (is : Bool) (one other : Option Request) → AsksSmall one → AsksSmall other → AsksSmall (if is then one else other)
either true one other small others = small
either false one other small others = others

module _ (name : Text) (rest : List Text) where
  other_asks : AsksSmall (other_request_of name rest)
  other_asks =
      either (bytes_eq name (codes "value")) _ _ (value_rows_ask (taken value_app rest))
      (either (bytes_eq name (codes "scenarios")) _ _ (scenario_rows_ask (taken scenarios_app rest))
      (either (bytes_eq name (codes "expand")) _ _ (rows_ask expand_from (λ word. map_asks (λ file. Expand file) (λ file. tt) (word (codes "plans"))) (taken expand_app rest))
      (either (bytes_eq name (codes "sample")) _ None
      (rows_ask sample_from (λ word. map_asks (λ size. Sample size) (λ size. tt) (size_if_given (word (codes "number")))) (taken sample_app rest)) tt)))

  command_asks : AsksSmall (request_of (name ∷ rest))
  command_asks =
      either (bytes_eq name (codes "check")) _ _ (rows_ask check_from (λ word. map_asks (λ file. Check file) (λ file. tt) (word (codes "portfolio"))) (taken check_app rest))
      (either (bytes_eq name (codes "flows")) _ _ (rows_ask flows_from (λ word. flows_ask _ _ _ _ _) (taken flows_app rest))
      (either (bytes_eq name (codes "payoff")) _ _ (rows_ask payoff_from (λ word. payoff_asks _ _ _) (taken payoff_app rest))
      (either (bytes_eq name (codes "migrate")) _ _ (rows_ask migrate_from (λ word. map_asks (λ file. Migrate file) (λ file. tt) (word (codes "portfolio"))) (taken migrate_app rest))
      (either (bytes_eq name (codes "positions")) _ _ (map_asks (λ asked. Positions asked) (λ asked. tt) (netting_of (codes "positions") rest))
      (either (bytes_eq name (codes "settle")) _ _ (map_asks (λ asked. Settle asked) (λ asked. tt) (netting_of (codes "settle") rest))
      (either (bytes_eq name (codes "advance")) _ _ (map_asks (λ asked. Advance asked) (λ asked. tt) (advance_of rest))
      (either (bytes_eq name (codes "novate")) _ _ (map_asks (λ asked. Novate asked) (λ asked. tt) (novate_of rest)) other_asks)))))))

words_ask : (words : List Text) → AsksSmall (request_of words)
words_ask [] = tt
words_ask (name ∷ rest) = command_asks name rest

-- what words request sets numbers of at most 100,000
words_small : (words : List Text) (request : Request) → Names words request → IsSmall request
words_small words request named = subst AsksSmall named (words_ask words)

-- ---- the setting

or_small : (o : Option ℕ) (n : ℕ) → IfSome o (λ m. m ≤ 100_000) → n ≤ 100_000 → unwrap_or o n ≤ 100_000
or_small None n some small = small
or_small (Some m) n some small = some

set_small : (settings entries : List (List ℕ × ℕ)) → AreSettings settings → AllByRecursion (λ (entry : List ℕ × ℕ). entry.1 ≤ 100_000) entries
    → AllByRecursion (λ (n : ℕ). n ≤ 100_000) (map (λ (entry : List ℕ × ℕ). number_set settings entry.0 entry.1) entries)
set_small settings [] all small = tt
set_small settings (entry ∷ entries) all small = (
  or_small (lookup (bytes_eq entry.0) settings) entry.1 (All-lookup (λ (n : ℕ). n ≤ 100_000) (bytes_eq entry.0) settings all) small.0,
  set_small settings entries all small.1,
)

at_small : (xs : List ℕ) → AllByRecursion (λ (n : ℕ). n ≤ 100_000) xs → IsSetting xs
at_small [] small t = omega arith
at_small (x ∷ xs) small zero = small.0
at_small (x ∷ xs) small (suc t) = at_small xs small.1 t

set_by_words : (settings : List (List ℕ × ℕ)) (bytes : List ℕ) (b : CodeBook) → AreSettings settings → CodeText bytes b → IsSetting (setting_by b.declarations settings)
set_by_words settings bytes b small text =
    let declared = recursion_from_All (λ (entry : List ℕ × ℕ). entry.1 ≤ 100_000) b.declarations.templates (templates_short bytes b text) in
    at_small (setting_by b.declarations settings) (set_small settings b.declarations.templates small declared)

pub setting_small : (words : List Text) (asked : ValueAsked) (bytes : List ℕ) (b : CodeBook) → Names words (Value asked) → CodeText bytes b
    → IsSetting (setting_by b.declarations asked.settings)
setting_small words asked bytes b named text = set_by_words asked.settings bytes b (words_small words (Value asked) named) text

pub scenario_setting_small : (words : List Text) (asked : ScenariosAsked) (bytes : List ℕ) (b : CodeBook) → Names words (Scenarios asked) → CodeText bytes b
    → IsSetting (setting_by b.declarations asked.value.settings)
scenario_setting_small words asked bytes b named text = set_by_words asked.value.settings bytes b (words_small words (Scenarios asked) named) text
