-- Worked rows of words: an option before, between and behind files, in one word or in two, and given twice; what stands
-- behind `--`; plain words that look like options; days and names of no form; help.
use Rattle.std.proofs.Common.{◌≡◌, ℕ, Bool, true, false, List, [], ◌∷◌, ◌++◌, Option, Some, None, codes, refl}
use Rattle.clap.specs.Words.{Text}
use Rattle.clap.proofs.OnLiterals.{clap_on_literals}
use Rattle.decimal.specs.declared.rounding.Mode.{Mode}
use Rattle.decimal.specs.declared.rounding.Mode.TheVariants.{Ceil, Floor, HalfAway, HalfEven}
use Rattle.term_model.specs.Dates.{epoch_day_of, parts_of, two_of}
use Rattle.fixing_files.specs.Days.{day_named, day_of}
use Rattle.command_words.specs.Arguments.{taken}
use Rattle.command_words.specs.Commands.{Advance, Expand, Flows, Migrate, NettingAsked, Novate, Payoff, Positions, Request, Sample, Scenarios, Settle, Value, ValueAsked}
use Rattle.command_words.specs.Words.{request_of}

abbrev flows : Text → Option Text → Option Text → Bool → Option Request
flows file fixings contract net =
    Some (Flows (record { portfolio = file; fixings = fixings; until = None; contract = contract; net = net }))

day_in_one_word : request_of (codes "flows" ∷ codes "--until=89" ∷ codes "--" ∷ codes "loan.txt" ∷ []) ≡ Some (Flows (record { portfolio = codes "loan.txt"; fixings = None; until = Some (codes "89"); contract = None; net = false }))
unfolding clap_on_literals taken day_of day_named two_of parts_of epoch_day_of
day_in_one_word = refl

no_civil_date : request_of (codes "flows" ∷ codes "a" ∷ codes "--until" ∷ codes "2024-02-30" ∷ []) ≡ None
unfolding clap_on_literals taken day_of day_named two_of parts_of epoch_day_of
no_civil_date = refl

files_in_order : request_of (codes "flows" ∷ codes "--net" ∷ codes "a" ∷ codes "--contract=c" ∷ codes "b" ∷ []) ≡ flows (codes "a") (Some (codes "b")) (Some (codes "c")) true
unfolding clap_on_literals taken
files_in_order = refl

behind_dashes : request_of (codes "flows" ∷ codes "--" ∷ codes "--net" ∷ codes "-x" ∷ []) ≡ flows (codes "--net") (Some (codes "-x")) None false
unfolding clap_on_literals taken
behind_dashes = refl

plain_words : request_of (codes "flows" ∷ codes "-" ∷ [] ∷ []) ≡ flows (codes "-") (Some []) None false
unfolding clap_on_literals taken
plain_words = refl

given_twice : request_of (codes "flows" ∷ codes "a" ∷ codes "--contract" ∷ codes "c" ∷ codes "--contract" ∷ codes "c" ∷ []) ≡ None
unfolding clap_on_literals taken
given_twice = refl

no_help : request_of (codes "check" ∷ codes "--help" ∷ []) ≡ None
unfolding clap_on_literals taken
no_help = refl

no_version : request_of (codes "-V" ∷ []) ≡ None
no_version = refl

no_option : request_of (codes "check" ∷ codes "a" ∷ codes "--until" ∷ codes "1" ∷ []) ≡ None
unfolding clap_on_literals taken
no_option = refl

no_short_form : request_of (codes "flows" ∷ codes "-x" ∷ []) ≡ None
unfolding clap_on_literals taken
no_short_form = refl

reserved_name : request_of (codes "flows" ∷ codes "a" ∷ codes "--contract" ∷ codes "pay" ∷ []) ≡ None
unfolding clap_on_literals taken
reserved_name = refl

empty_name : request_of (codes "flows" ∷ codes "a" ∷ codes "--contract=" ∷ []) ≡ None
unfolding clap_on_literals taken
empty_name = refl

advance_to_a_day : request_of (codes "advance" ∷ codes "--to=2" ∷ codes "a" ∷ codes "b" ∷ []) ≡ Some (Advance (record { portfolio = codes "a"; fixings = codes "b"; to = codes "2" }))
unfolding clap_on_literals taken day_of day_named two_of parts_of epoch_day_of
advance_to_a_day = refl

no_new_day : request_of (codes "advance" ∷ codes "a" ∷ codes "b" ∷ []) ≡ None
unfolding clap_on_literals taken
no_new_day = refl

no_fixings : request_of (codes "advance" ∷ codes "a" ∷ codes "--to" ∷ codes "2" ∷ []) ≡ None
unfolding clap_on_literals taken
no_fixings = refl

migrate_of_a_portfolio : request_of (codes "migrate" ∷ codes "book.txt" ∷ []) ≡ Some (Migrate (codes "book.txt"))
unfolding clap_on_literals taken
migrate_of_a_portfolio = refl

one_portfolio_alone : request_of (codes "migrate" ∷ codes "a" ∷ codes "b" ∷ []) ≡ None
unfolding clap_on_literals taken
one_portfolio_alone = refl

expand_of_plans : request_of (codes "expand" ∷ codes "--" ∷ codes "--plans" ∷ []) ≡ Some (Expand (codes "--plans"))
unfolding clap_on_literals taken
expand_of_plans = refl

no_plans : request_of (codes "expand" ∷ []) ≡ None
unfolding clap_on_literals taken
no_plans = refl

expand_takes_no_option : request_of (codes "expand" ∷ codes "a" ∷ codes "--until=1" ∷ []) ≡ None
unfolding clap_on_literals taken
expand_takes_no_option = refl

payoff_of_a_contract : request_of (codes "payoff" ∷ codes "--plain" ∷ codes "a" ∷ codes "--contract=c" ∷ []) ≡ Some (Payoff (record { portfolio = codes "a"; contract = codes "c"; plain = true }))
unfolding clap_on_literals taken
payoff_of_a_contract = refl

no_contract_named : request_of (codes "payoff" ∷ codes "a" ∷ []) ≡ None
unfolding clap_on_literals taken
no_contract_named = refl

zeros_before : request_of (codes "sample" ∷ codes "00000000010000" ∷ []) ≡ Some (Sample 10_000)
unfolding clap_on_literals taken
zeros_before = refl

one_too_many : request_of (codes "sample" ∷ codes "10001" ∷ []) ≡ None
unfolding clap_on_literals taken
one_too_many = refl

no_contracts : request_of (codes "sample" ∷ codes "0" ∷ []) ≡ None
unfolding clap_on_literals taken
no_contracts = refl

no_digits : request_of (codes "sample" ∷ [] ∷ []) ≡ None
unfolding clap_on_literals taken
no_digits = refl

-- ---- `value`: settings stand behind the files, options between them

abbrev asked : List (Text × ℕ) → ValueAsked
asked settings = record {
  files = record { code = codes "c"; fixings = codes "f"; curve = codes "k" };
  at = codes "0";
  between = record { from = codes "A"; to = codes "B"; asset = codes "E" };
  settings = settings;
}

abbrev valued : List (Text × ℕ) → Option Request
valued settings = Some (Value (asked settings))

abbrev between_words : List Text
between_words = codes "--at" ∷ codes "0" ∷ codes "--from=A" ∷ codes "--to" ∷ codes "B" ∷ codes "--asset" ∷ codes "E" ∷ []

no_setting : request_of (codes "value" ∷ codes "c" ∷ codes "f" ∷ codes "k" ∷ between_words) ≡ valued []
unfolding clap_on_literals taken day_of day_named two_of parts_of epoch_day_of
no_setting = refl

parted_settings : request_of (codes "value" ∷ codes "c" ∷ codes "f" ∷ codes "k" ∷ codes "T=000090" ∷ between_words ++ codes "S=2" ∷ []) ≡ valued ((codes "T", 90) ∷ (codes "S", 2) ∷ [])
unfolding clap_on_literals taken day_of day_named two_of parts_of epoch_day_of
parted_settings = refl

set_twice : request_of (codes "value" ∷ codes "c" ∷ codes "f" ∷ codes "k" ∷ codes "T=1" ∷ codes "T=1" ∷ between_words) ≡ None
unfolding clap_on_literals taken day_of day_named two_of parts_of epoch_day_of
set_twice = refl

set_to_nothing : request_of (codes "value" ∷ codes "c" ∷ codes "f" ∷ codes "k" ∷ codes "T=" ∷ between_words) ≡ None
unfolding clap_on_literals taken day_of day_named two_of parts_of epoch_day_of
set_to_nothing = refl

set_too_high : request_of (codes "value" ∷ codes "c" ∷ codes "f" ∷ codes "k" ∷ codes "T=100001" ∷ between_words) ≡ None
unfolding clap_on_literals taken day_of day_named two_of parts_of epoch_day_of
set_too_high = refl

two_files : request_of (codes "value" ∷ codes "c" ∷ codes "f" ∷ between_words) ≡ None
unfolding clap_on_literals taken day_of day_named two_of parts_of epoch_day_of
two_files = refl

-- ---- `positions` and `settle`: an option before, between and behind the files

abbrev netted : Text → Option Text → Option Text → NettingAsked
netted file fixings until = record { portfolio = file; fixings = fixings; until = until }

positions_of_a_portfolio : request_of (codes "positions" ∷ codes "a" ∷ []) ≡ Some (Positions (netted (codes "a") None None))
unfolding clap_on_literals taken
positions_of_a_portfolio = refl

settlement_of_a_portfolio : request_of (codes "settle" ∷ codes "a" ∷ codes "b" ∷ []) ≡ Some (Settle (netted (codes "a") (Some (codes "b")) None))
unfolding clap_on_literals taken
settlement_of_a_portfolio = refl

until_before_files : request_of (codes "positions" ∷ codes "--until=89" ∷ codes "a" ∷ codes "b" ∷ []) ≡ Some (Positions (netted (codes "a") (Some (codes "b")) (Some (codes "89"))))
unfolding clap_on_literals taken day_of day_named two_of parts_of epoch_day_of
until_before_files = refl

until_between_files : request_of (codes "settle" ∷ codes "a" ∷ codes "--until" ∷ codes "89" ∷ codes "b" ∷ []) ≡ Some (Settle (netted (codes "a") (Some (codes "b")) (Some (codes "89"))))
unfolding clap_on_literals taken day_of day_named two_of parts_of epoch_day_of
until_between_files = refl

until_behind_files : request_of (codes "positions" ∷ codes "a" ∷ codes "--until=2024-02-29" ∷ []) ≡ Some (Positions (netted (codes "a") None (Some (codes "2024-02-29"))))
unfolding clap_on_literals taken day_of day_named two_of parts_of epoch_day_of
until_behind_files = refl

until_twice : request_of (codes "settle" ∷ codes "a" ∷ codes "--until=1" ∷ codes "--until=1" ∷ []) ≡ None
unfolding clap_on_literals taken day_of day_named two_of parts_of epoch_day_of
until_twice = refl

until_no_day : request_of (codes "positions" ∷ codes "a" ∷ codes "--until=1.5" ∷ []) ≡ None
unfolding clap_on_literals taken day_of day_named two_of parts_of epoch_day_of
until_no_day = refl

until_nothing : request_of (codes "settle" ∷ codes "a" ∷ codes "--until" ∷ []) ≡ None
unfolding clap_on_literals taken
until_nothing = refl

no_positions_of_nothing : request_of (codes "positions" ∷ codes "--until=1" ∷ []) ≡ None
unfolding clap_on_literals taken day_of day_named two_of parts_of epoch_day_of
no_positions_of_nothing = refl

no_settlement_of_nothing : request_of (codes "settle" ∷ []) ≡ None
unfolding clap_on_literals taken
no_settlement_of_nothing = refl

positions_of_one_portfolio : request_of (codes "positions" ∷ codes "a" ∷ codes "b" ∷ codes "c" ∷ []) ≡ None
unfolding clap_on_literals taken
positions_of_one_portfolio = refl

settlement_of_all_contracts : request_of (codes "settle" ∷ codes "a" ∷ codes "--contract=c" ∷ []) ≡ None
unfolding clap_on_literals taken
settlement_of_all_contracts = refl

positions_are_net : request_of (codes "positions" ∷ codes "a" ∷ codes "--net" ∷ []) ≡ None
unfolding clap_on_literals taken
positions_are_net = refl

-- ---- `novate`: four options, in any order

abbrev novated : Text → Text → Option Request
novated old new = Some (Novate (record {
  advance = record { portfolio = codes "a"; fixings = codes "b"; to = codes "2" };
  contract = codes "c";
  old = old;
  new = new;
}))

options_before_files : request_of (codes "novate" ∷ codes "--to=2" ∷ codes "--contract" ∷ codes "c" ∷ codes "--old" ∷ codes "P" ∷ codes "--new=Q" ∷ codes "a" ∷ codes "b" ∷ []) ≡ novated (codes "P") (codes "Q")
unfolding clap_on_literals taken day_of day_named two_of parts_of epoch_day_of
options_before_files = refl

options_between_files : request_of (codes "novate" ∷ codes "a" ∷ codes "--new=Q" ∷ codes "--contract=c" ∷ codes "--old=P" ∷ codes "--to" ∷ codes "2" ∷ codes "b" ∷ []) ≡ novated (codes "P") (codes "Q")
unfolding clap_on_literals taken day_of day_named two_of parts_of epoch_day_of
options_between_files = refl

options_behind_files : request_of (codes "novate" ∷ codes "a" ∷ codes "b" ∷ codes "--old" ∷ codes "P" ∷ codes "--new" ∷ codes "P" ∷ codes "--to=2" ∷ codes "--contract=c" ∷ []) ≡ novated (codes "P") (codes "P")
unfolding clap_on_literals taken day_of day_named two_of parts_of epoch_day_of
options_behind_files = refl

no_day_of_novation : request_of (codes "novate" ∷ codes "a" ∷ codes "b" ∷ codes "--contract=c" ∷ codes "--old=P" ∷ codes "--new=Q" ∷ []) ≡ None
unfolding clap_on_literals taken
no_day_of_novation = refl

no_contract_novated : request_of (codes "novate" ∷ codes "a" ∷ codes "b" ∷ codes "--to=2" ∷ codes "--old=P" ∷ codes "--new=Q" ∷ []) ≡ None
unfolding clap_on_literals taken day_of day_named two_of parts_of epoch_day_of
no_contract_novated = refl

no_old_party : request_of (codes "novate" ∷ codes "a" ∷ codes "b" ∷ codes "--to=2" ∷ codes "--contract=c" ∷ codes "--new=Q" ∷ []) ≡ None
unfolding clap_on_literals taken day_of day_named two_of parts_of epoch_day_of
no_old_party = refl

no_new_party : request_of (codes "novate" ∷ codes "a" ∷ codes "b" ∷ codes "--to=2" ∷ codes "--contract=c" ∷ codes "--old=P" ∷ []) ≡ None
unfolding clap_on_literals taken day_of day_named two_of parts_of epoch_day_of
no_new_party = refl

no_fixings_of_novation : request_of (codes "novate" ∷ codes "a" ∷ codes "--to=2" ∷ codes "--contract=c" ∷ codes "--old=P" ∷ codes "--new=Q" ∷ []) ≡ None
unfolding clap_on_literals taken day_of day_named two_of parts_of epoch_day_of
no_fixings_of_novation = refl

old_party_twice : request_of (codes "novate" ∷ codes "a" ∷ codes "b" ∷ codes "--to=2" ∷ codes "--contract=c" ∷ codes "--old=P" ∷ codes "--old=P" ∷ codes "--new=Q" ∷ []) ≡ None
unfolding clap_on_literals taken day_of day_named two_of parts_of epoch_day_of
old_party_twice = refl

new_party_no_name : request_of (codes "novate" ∷ codes "a" ∷ codes "b" ∷ codes "--to=2" ∷ codes "--contract=c" ∷ codes "--old=P" ∷ codes "--new=1" ∷ []) ≡ None
unfolding clap_on_literals taken day_of day_named two_of parts_of epoch_day_of
new_party_no_name = refl

old_party_reserved : request_of (codes "novate" ∷ codes "a" ∷ codes "b" ∷ codes "--to=2" ∷ codes "--contract=c" ∷ codes "--old=pay" ∷ codes "--new=Q" ∷ []) ≡ None
unfolding clap_on_literals taken day_of day_named two_of parts_of epoch_day_of
old_party_reserved = refl

novation_on_no_day : request_of (codes "novate" ∷ codes "a" ∷ codes "b" ∷ codes "--to=-2" ∷ codes "--contract=c" ∷ codes "--old=P" ∷ codes "--new=Q" ∷ []) ≡ None
unfolding clap_on_literals taken day_of day_named two_of parts_of epoch_day_of
novation_on_no_day = refl

-- ---- `scenarios`: the words of `value`, and a mode

abbrev totalled : List (Text × ℕ) → Mode → Option Request
totalled settings mean = Some (Scenarios (record { value = asked settings; mean = mean }))

mode_behind : request_of (codes "scenarios" ∷ codes "c" ∷ codes "f" ∷ codes "k" ∷ between_words ++ codes "--mean" ∷ codes "half_even" ∷ []) ≡ totalled [] HalfEven
unfolding clap_on_literals taken day_of day_named two_of parts_of epoch_day_of
mode_behind = refl

mode_in_one_word : request_of (codes "scenarios" ∷ codes "c" ∷ codes "f" ∷ codes "k" ∷ between_words ++ codes "--mean=ceil" ∷ []) ≡ totalled [] Ceil
unfolding clap_on_literals taken day_of day_named two_of parts_of epoch_day_of
mode_in_one_word = refl

mode_before : request_of (codes "scenarios" ∷ codes "--mean" ∷ codes "floor" ∷ codes "c" ∷ codes "f" ∷ codes "k" ∷ between_words) ≡ totalled [] Floor
unfolding clap_on_literals taken day_of day_named two_of parts_of epoch_day_of
mode_before = refl

mode_between : request_of (codes "scenarios" ∷ codes "c" ∷ codes "--mean=half_away" ∷ codes "f" ∷ codes "k" ∷ codes "T=1" ∷ between_words ++ codes "S=2" ∷ []) ≡ totalled ((codes "T", 1) ∷ (codes "S", 2) ∷ []) HalfAway
unfolding clap_on_literals taken day_of day_named two_of parts_of epoch_day_of
mode_between = refl

no_mode : request_of (codes "scenarios" ∷ codes "c" ∷ codes "f" ∷ codes "k" ∷ between_words) ≡ None
unfolding clap_on_literals taken day_of day_named two_of parts_of epoch_day_of
no_mode = refl

mode_twice : request_of (codes "scenarios" ∷ codes "c" ∷ codes "f" ∷ codes "k" ∷ codes "--mean=ceil" ∷ between_words ++ codes "--mean=ceil" ∷ []) ≡ None
unfolding clap_on_literals taken day_of day_named two_of parts_of epoch_day_of
mode_twice = refl

no_such_mode : request_of (codes "scenarios" ∷ codes "c" ∷ codes "f" ∷ codes "k" ∷ between_words ++ codes "--mean=even" ∷ []) ≡ None
unfolding clap_on_literals taken day_of day_named two_of parts_of epoch_day_of
no_such_mode = refl

mode_in_capitals : request_of (codes "scenarios" ∷ codes "c" ∷ codes "f" ∷ codes "k" ∷ between_words ++ codes "--mean=Ceil" ∷ []) ≡ None
unfolding clap_on_literals taken day_of day_named two_of parts_of epoch_day_of
mode_in_capitals = refl

mode_with_a_blank : request_of (codes "scenarios" ∷ codes "c" ∷ codes "f" ∷ codes "k" ∷ between_words ++ codes "--mean" ∷ codes "ceil " ∷ []) ≡ None
unfolding clap_on_literals taken day_of day_named two_of parts_of epoch_day_of
mode_with_a_blank = refl

empty_mode : request_of (codes "scenarios" ∷ codes "c" ∷ codes "f" ∷ codes "k" ∷ between_words ++ codes "--mean=" ∷ []) ≡ None
unfolding clap_on_literals taken day_of day_named two_of parts_of epoch_day_of
empty_mode = refl

no_curve : request_of (codes "scenarios" ∷ codes "c" ∷ codes "f" ∷ between_words ++ codes "--mean=ceil" ∷ []) ≡ None
unfolding clap_on_literals taken day_of day_named two_of parts_of epoch_day_of
no_curve = refl

value_takes_no_mode : request_of (codes "value" ∷ codes "c" ∷ codes "f" ∷ codes "k" ∷ between_words ++ codes "--mean=ceil" ∷ []) ≡ None
unfolding clap_on_literals taken day_of day_named two_of parts_of epoch_day_of
value_takes_no_mode = refl

no_asset : request_of (codes "scenarios" ∷ codes "c" ∷ codes "f" ∷ codes "k" ∷ codes "--at=0" ∷ codes "--from=A" ∷ codes "--to=B" ∷ codes "--mean=ceil" ∷ []) ≡ None
unfolding clap_on_literals taken day_of day_named two_of parts_of epoch_day_of
no_asset = refl
