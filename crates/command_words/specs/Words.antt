-- The command that words ask for. The first word names it, and the others are what the command line crate reads them for,
-- by the arguments that are declared for the command: files in their order, options and flags. A day is one to nine
-- digits or a civil date, names and modes are those of the grammar of texts, a number that is set for a template is digits with
-- a value of at most 100,000, and a sample has 1 to 10,000 contracts.
use Rattle.std.specs.Prelude.{ℕ, Bool, false, ◌==◌, List, [], ◌∷◌, ◌++◌, Option, Some, None, is_some, option_and_then, option_map, length, nat_lt, Result, Ok, Err, codes, if◌then◌else◌}
use Rattle.std.specs.List.{after_first, before_first, position_or_len}
use Rattle.std.specs.Map.{keys_of}
use Rattle.std.specs.Str.{bytes_eq}
use Rattle.clap.specs.Words.{App, Row, Text, all_of, first_of}
use Rattle.decimal.specs.Reading.{number_up_to}
use Rattle.decimal.specs.declared.rounding.Mode.{Mode}
use Rattle.contract_grammar.specs.Judgements.{mode_at}
use Rattle.contract_grammar.specs.Names.{is_declared}
use Rattle.contract_grammar.specs.NameTexts.{is_name_text}
use Rattle.contract_grammar.specs.declared.faults.TextKind.{TextKind}
use Rattle.contract_grammar.specs.declared.token.LexemeKind.TheVariants as kind
use Rattle.fixing_files.specs.Days.{day_named}
use Rattle.fixing_files.specs.declared.days.NamedDay.{NamedDay}
use Rattle.command_words.specs.Arguments.{IsAnswer, asked_of, declared, flag, given_text, is_set, optional, repeated, required, taken, valued}
use Rattle.command_words.specs.Commands.{Advance, AdvanceAsked, Between, Check, Expand, Flows, FlowsAsked, Migrate, NettingAsked, Novate, NovateAsked, Payoff, PayoffAsked, Positions, Request, Sample, Scenarios, ScenariosAsked, Settle, Value, ValueAsked, ValueFiles}
use Rattle.command_words.specs.declared.words.Advance.{Advance as AdvanceCommand}
use Rattle.command_words.specs.declared.words.Flows.{Flows as FlowsCommand}
use Rattle.command_words.specs.declared.words.Netting.{Netting as NettingCommand}
use Rattle.command_words.specs.declared.words.Novate.{Novate as NovateCommand}
use Rattle.command_words.specs.declared.words.Payoff.{Payoff as PayoffCommand}
use Rattle.command_words.specs.declared.words.Scenarios.{Scenarios as ScenariosCommand}
use Rattle.command_words.specs.declared.value_asked.Between.{Between as BetweenWords}
use Rattle.command_words.specs.declared.value_asked.Value.{Value as ValueCommand}
use Rattle.command_words.specs.declared.value_asked.ValueFiles.{ValueFiles as FileWords}
use Rattle.command_words.specs.declared.words.Request.{Request as Requested}
use Rattle.command_words.specs.declared.words.Request.TheVariants as request
use Rattle.command_words.specs.declared.arguments.WordsErr.{WordsErr}

-- what a command of the program asks for
abbrev pub flows_by : FlowsCommand → FlowsAsked
flows_by flows = record {
  portfolio = flows.portfolio.now;
  fixings = given_text flows.fixings;
  until = option_map (λ day. day.word.now) flows.until;
  contract = given_text flows.contract;
  net = flows.net;
}

abbrev pub advance_by : AdvanceCommand → AdvanceAsked
advance_by advance = record { portfolio = advance.portfolio.now; fixings = advance.fixings.now; to = advance.to.word.now }

abbrev pub payoff_by : PayoffCommand → PayoffAsked
payoff_by payoff = record { portfolio = payoff.portfolio.now; contract = payoff.contract.now; plain = payoff.plain }

abbrev pub files_by : FileWords → ValueFiles
files_by files = record { code = files.code.now; fixings = files.fixings.now; curve = files.curve.now }

abbrev pub between_by : BetweenWords → Between
between_by between = record { from = between.from.now; to = between.to.now; asset = between.asset.now }

abbrev pub value_by : ValueCommand → ValueAsked
value_by value = record {
  files = files_by value.files;
  at = value.at.word.now;
  between = between_by value.between;
  settings = value.settings.entries;
}

abbrev pub netting_by : NettingCommand → NettingAsked
netting_by netting = record {
  portfolio = netting.portfolio.now;
  fixings = given_text netting.fixings;
  until = option_map (λ day. day.word.now) netting.until;
}

abbrev pub novate_by : NovateCommand → NovateAsked
novate_by novate = record {
  advance = advance_by novate.advance;
  contract = novate.contract.now;
  old = novate.old.now;
  new = novate.new.now;
}

abbrev pub scenarios_by : ScenariosCommand → ScenariosAsked
scenarios_by scenarios = record { value = value_by scenarios.value; mean = scenarios.mean }

-- what is requested of the program
abbrev pub requested_by : Requested → Request
requested_by (request.Check portfolio) = Check portfolio.now
requested_by (request.Flows flows) = Flows (flows_by flows)
requested_by (request.Advance advance) = Advance (advance_by advance)
requested_by (request.Payoff payoff) = Payoff (payoff_by payoff)
requested_by (request.Value value) = Value (value_by value)
requested_by (request.Migrate portfolio) = Migrate portfolio.now
requested_by (request.Expand plans) = Expand plans.now
requested_by (request.Sample size) = Sample size.contracts
requested_by (request.Positions netting) = Positions (netting_by netting)
requested_by (request.Settle netting) = Settle (netting_by netting)
requested_by (request.Novate novate) = Novate (novate_by novate)
requested_by (request.Scenarios scenarios) = Scenarios (scenarios_by scenarios)

-- ---- the forms of words

abbrev pub begins_with : ℕ → Text → Bool
begins_with byte [] = false
begins_with byte (first ∷ rest) = first == byte

-- what a word names: a number of days without a sign, or a date, which has a day only where there is an origin
abbrev pub day_of_word : Text → Option NamedDay
day_of_word word = if begins_with 45 word then None else day_named word

abbrev pub is_day : Text → Bool
is_day word = is_some (day_of_word word)

-- a word that may be given, if it has its form where it is
abbrev pub if_given : (Text → Bool) → Option Text → Option (Option Text)
if_given has_its_form None = Some None
if_given has_its_form (Some word) = if has_its_form word then Some (Some word) else None

abbrev pub above_zero : Option ℕ → Option ℕ
above_zero None = None
above_zero (Some n) = if n == 0 then None else Some n

-- how many contracts a word says that the sample has, by digits
abbrev pub sample_size : Text → Option ℕ
sample_size word = above_zero (number_up_to 10_000 word)

abbrev pub size_if_given : Option Text → Option ℕ
size_if_given None = None
size_if_given (Some word) = sample_size word

-- ---- `check PORTFOLIO`

abbrev pub check_app : App
check_app = declared (codes "check") (required (codes "portfolio") ∷ [])

abbrev pub check_from : (Text → Option Text) → Option Request
check_from word = option_map (λ file. Check file) (word (codes "portfolio"))

abbrev pub check_of : List Text → Option Request
check_of words = asked_of check_app check_from words

-- ---- `migrate PORTFOLIO`

abbrev pub migrate_app : App
migrate_app = declared (codes "migrate") (required (codes "portfolio") ∷ [])

abbrev pub migrate_from : (Text → Option Text) → Option Request
migrate_from word = option_map (λ file. Migrate file) (word (codes "portfolio"))

abbrev pub migrate_of : List Text → Option Request
migrate_of words = asked_of migrate_app migrate_from words

-- ---- `expand PLANS`

abbrev pub expand_app : App
expand_app = declared (codes "expand") (required (codes "plans") ∷ [])

abbrev pub expand_from : (Text → Option Text) → Option Request
expand_from word = option_map (λ file. Expand file) (word (codes "plans"))

abbrev pub expand_of : List Text → Option Request
expand_of words = asked_of expand_app expand_from words

-- ---- `flows PORTFOLIO [FIXINGS] [--until DAY] [--contract NAME] [--net]`

abbrev pub flows_app : App
flows_app = declared (codes "flows")
    (required (codes "portfolio") ∷ optional (codes "fixings")
    ∷ valued (codes "until") ∷ valued (codes "contract") ∷ flag (codes "net") ∷ [])

abbrev pub flows_with : Option Text → Option Text → Option (Option Text) → Option (Option Text) → Bool → Option Request
flows_with (Some file) fixings (Some until) (Some contract) net =
    Some (Flows (record { portfolio = file; fixings = fixings; until = until; contract = contract; net = net }))
flows_with _ fixings _ _ net = None

abbrev pub flows_from : (Text → Option Text) → Option Request
flows_from word = flows_with
    (word (codes "portfolio"))
    (word (codes "fixings"))
    (if_given is_day (word (codes "until")))
    (if_given is_name_text (word (codes "contract")))
    (is_set (word (codes "net")))

abbrev pub flows_of : List Text → Option Request
flows_of words = asked_of flows_app flows_from words

-- ---- `positions PORTFOLIO [FIXINGS] [--until DAY]`, and `settle` of the same form

abbrev pub netting_app : Text → App
netting_app name = declared name (required (codes "portfolio") ∷ optional (codes "fixings") ∷ valued (codes "until") ∷ [])

abbrev pub netting_with : Option Text → Option Text → Option (Option Text) → Option NettingAsked
netting_with (Some file) fixings (Some until) = Some (record { portfolio = file; fixings = fixings; until = until })
netting_with _ fixings _ = None

abbrev pub netting_from : (Text → Option Text) → Option NettingAsked
netting_from word = netting_with (word (codes "portfolio")) (word (codes "fixings")) (if_given is_day (word (codes "until")))

-- by the words behind the name of either command
abbrev pub netting_of : Text → List Text → Option NettingAsked
netting_of name words = asked_of (netting_app name) netting_from words

-- ---- `advance PORTFOLIO FIXINGS --to DAY`

abbrev pub advance_app : App
advance_app = declared (codes "advance") (required (codes "portfolio") ∷ required (codes "fixings") ∷ valued (codes "to") ∷ [])

-- an option that has to be given, if it has its form
abbrev pub with_form : (Text → Bool) → Option Text → Option Text
with_form has_its_form None = None
with_form has_its_form (Some word) = if has_its_form word then Some word else None

abbrev pub advance_with : Option Text → Option Text → Option Text → Option AdvanceAsked
advance_with (Some file) (Some fixings) (Some to) = Some (record { portfolio = file; fixings = fixings; to = to })
advance_with _ _ _ = None

abbrev pub advance_from : (Text → Option Text) → Option AdvanceAsked
advance_from word = advance_with (word (codes "portfolio")) (word (codes "fixings")) (with_form is_day (word (codes "to")))

abbrev pub advance_of : List Text → Option AdvanceAsked
advance_of words = asked_of advance_app advance_from words

-- ---- `novate PORTFOLIO FIXINGS --to DAY --contract NAME --old P --new Q`

abbrev pub novate_app : App
novate_app = declared (codes "novate")
    (required (codes "portfolio") ∷ required (codes "fixings")
    ∷ valued (codes "to") ∷ valued (codes "contract") ∷ valued (codes "old") ∷ valued (codes "new") ∷ [])

abbrev pub novate_with : Option AdvanceAsked → Option Text → Option Text → Option Text → Option NovateAsked
novate_with (Some advance) (Some contract) (Some old) (Some new) =
    Some (record { advance = advance; contract = contract; old = old; new = new })
novate_with _ _ _ _ = None

abbrev pub novate_from : (Text → Option Text) → Option NovateAsked
novate_from word = novate_with
    (advance_from word)
    (with_form is_name_text (word (codes "contract")))
    (with_form is_name_text (word (codes "old")))
    (with_form is_name_text (word (codes "new")))

abbrev pub novate_of : List Text → Option NovateAsked
novate_of words = asked_of novate_app novate_from words

-- ---- `sample NUMBER`

abbrev pub sample_app : App
sample_app = declared (codes "sample") (required (codes "number") ∷ [])

abbrev pub sample_from : (Text → Option Text) → Option Request
sample_from word = option_map (λ size. Sample size) (size_if_given (word (codes "number")))

abbrev pub sample_of : List Text → Option Request
sample_of words = asked_of sample_app sample_from words

-- ---- `payoff PORTFOLIO --contract NAME [--plain]`

abbrev pub payoff_app : App
payoff_app = declared (codes "payoff") (required (codes "portfolio") ∷ valued (codes "contract") ∷ flag (codes "plain") ∷ [])

abbrev pub payoff_with : Option Text → Option Text → Bool → Option Request
payoff_with (Some file) (Some contract) plain = Some (Payoff (record { portfolio = file; contract = contract; plain = plain }))
payoff_with _ _ plain = None

abbrev pub payoff_from : (Text → Option Text) → Option Request
payoff_from word = payoff_with (word (codes "portfolio")) (with_form is_name_text (word (codes "contract"))) (is_set (word (codes "plain")))

abbrev pub payoff_of : List Text → Option Request
payoff_of words = asked_of payoff_app payoff_from words

-- ---- `value CODE FIXINGS CURVE [T=N].. --at DAY --from P --to Q --asset A`

abbrev pub value_app : App
value_app = declared (codes "value")
    (required (codes "code") ∷ required (codes "fixings") ∷ required (codes "curve") ∷ repeated (codes "settings")
    ∷ valued (codes "at") ∷ valued (codes "from") ∷ valued (codes "to") ∷ valued (codes "asset") ∷ [])

abbrev pub is_equals : ℕ → Bool
is_equals byte = byte == 61

-- a word parted at its first `=`
abbrev pub parted : Text → Option (Text × Text)
parted word =
    if nat_lt (position_or_len is_equals word) (length word) then Some (before_first is_equals word, after_first is_equals word)
    else None

abbrev pub setting_of_parts : Text × Text → Option (Text × ℕ)
setting_of_parts parts = if is_name_text parts.0 then option_map (λ n. (parts.0, n)) (number_up_to 100_000 parts.1) else None

-- the template that a word names, and the number that it sets for it
abbrev pub setting_of_word : Text → Option (Text × ℕ)
setting_of_word word = option_and_then setting_of_parts (parted word)

abbrev pub one_more_setting : List (Text × ℕ) → Option (Text × ℕ) → Option (List (Text × ℕ))
one_more_setting settings None = None
one_more_setting settings (Some setting) = if is_declared (keys_of settings) setting.0 then None else Some (settings ++ setting ∷ [])

-- words one after another, of which none sets what one before it sets
abbrev pub settings_after : Option (List (Text × ℕ)) → List Text → Option (List (Text × ℕ))
settings_after None words = None
settings_after (Some settings) [] = Some settings
settings_after (Some settings) (word ∷ words) = settings_after (one_more_setting settings (setting_of_word word)) words

abbrev pub settings_of : Option (List Text) → Option (List (Text × ℕ))
settings_of None = Some []
settings_of (Some words) = settings_after (Some []) words

abbrev pub files_with : Option Text → Option Text → Option Text → Option ValueFiles
files_with (Some code) (Some fixings) (Some curve) = Some (record { code = code; fixings = fixings; curve = curve })
files_with _ _ _ = None

abbrev pub between_with : Option Text → Option Text → Option Text → Option Between
between_with (Some from) (Some to) (Some asset) = Some (record { from = from; to = to; asset = asset })
between_with _ _ _ = None

abbrev pub value_files : (Text → Option Text) → Option ValueFiles
value_files word = files_with (word (codes "code")) (word (codes "fixings")) (word (codes "curve"))

abbrev pub value_between : (Text → Option Text) → Option Between
value_between word = between_with
    (with_form is_name_text (word (codes "from")))
    (with_form is_name_text (word (codes "to")))
    (with_form is_name_text (word (codes "asset")))

abbrev pub value_with : Option ValueFiles → Option Text → Option Between → Option (List (Text × ℕ)) → Option ValueAsked
value_with (Some files) (Some at) (Some between) (Some settings) =
    Some (record { files = files; at = at; between = between; settings = settings })
value_with _ _ _ _ = None

abbrev pub value_from : (Text → Option Text) → (Text → Option (List Text)) → Option ValueAsked
value_from word words = value_with
    (value_files word) (with_form is_day (word (codes "at"))) (value_between word) (settings_of (words (codes "settings")))

-- what is asked for by the first word that is found for each argument, and by all its words
abbrev pub read_all_rows : {Asked : Type 0} → ((Text → Option Text) → (Text → Option (List Text)) → Option Asked) → Option (List Row) → Option Asked
read_all_rows reading None = None
read_all_rows reading (Some rows) = reading (λ name. first_of name rows) (λ name. all_of name rows)

abbrev pub value_of : List Text → Option ValueAsked
value_of words = read_all_rows value_from (taken value_app words)

-- ---- `scenarios CODE SCENARIOS CURVE [T=N].. --at DAY --from P --to Q --asset A --mean MODE`

-- the table of scenarios stands where `value` has its fixings
abbrev pub scenarios_app : App
scenarios_app = declared (codes "scenarios")
    (required (codes "code") ∷ required (codes "fixings") ∷ required (codes "curve") ∷ repeated (codes "settings")
    ∷ valued (codes "at") ∷ valued (codes "from") ∷ valued (codes "to") ∷ valued (codes "asset") ∷ valued (codes "mean") ∷ [])

abbrev pub mode_if_read : Result Mode TextKind → Option Mode
mode_if_read (Ok mode) = Some mode
mode_if_read (Err kind) = None

-- a mode, by the word that stands for it in texts
abbrev pub mode_of_word : Text → Option Mode
mode_of_word word = mode_if_read (mode_at (record { kind = kind.Word; text = word; left = 0 }))

abbrev pub mode_if_given : Option Text → Option Mode
mode_if_given word = option_and_then mode_of_word word

abbrev pub scenarios_with : Option ValueAsked → Option Mode → Option ScenariosAsked
scenarios_with (Some value) (Some mean) = Some (record { value = value; mean = mean })
scenarios_with _ _ = None

abbrev pub scenarios_from : (Text → Option Text) → (Text → Option (List Text)) → Option ScenariosAsked
scenarios_from word words = scenarios_with (value_from word words) (mode_if_given (word (codes "mean")))

abbrev pub scenarios_of : List Text → Option ScenariosAsked
scenarios_of words = read_all_rows scenarios_from (taken scenarios_app words)

-- ---- all commands

-- what the words behind a name ask for, where it is that of a command over another file than a portfolio, or over none
abbrev pub other_request_of : Text → List Text → Option Request
other_request_of name rest =
    if bytes_eq name (codes "value") then option_map (λ value. Value value) (value_of rest)
    else if bytes_eq name (codes "scenarios") then option_map (λ scenarios. Scenarios scenarios) (scenarios_of rest)
    else if bytes_eq name (codes "expand") then expand_of rest
    else if bytes_eq name (codes "sample") then sample_of rest
    else None

-- what the words ask for, if they have the form of a command
abbrev pub request_of : List Text → Option Request
request_of [] = None
request_of (name ∷ rest) =
    if bytes_eq name (codes "check") then check_of rest
    else if bytes_eq name (codes "flows") then flows_of rest
    else if bytes_eq name (codes "payoff") then payoff_of rest
    else if bytes_eq name (codes "migrate") then migrate_of rest
    else if bytes_eq name (codes "positions") then option_map (λ netting. Positions netting) (netting_of (codes "positions") rest)
    else if bytes_eq name (codes "settle") then option_map (λ netting. Settle netting) (netting_of (codes "settle") rest)
    else if bytes_eq name (codes "advance") then option_map (λ advance. Advance advance) (advance_of rest)
    else if bytes_eq name (codes "novate") then option_map (λ novate. Novate novate) (novate_of rest)
    else other_request_of name rest

-- an answer is what the words ask for, or Usage where they have the form of no command
abbrev pub IsRequestOf : List Text → Result Requested WordsErr → Type 0
IsRequestOf words result = IsAnswer requested_by (request_of words) result
