-- What a command makes of the words that are found for its arguments.
use Rattle.std.proofs.Common.{◌≡◌, ◌∙◌, ◌≤◌, ◌-◌, ℕ, Bool, Bor, true, false, List, [], ◌∷◌, ◌++◌, Option, Some, None, Ok, Err, arith, codes, ap, drop, get_or, length, refl, subst, sym, take}
use Rattle.std.proofs.Math.Path.{fun_ext}
use Rattle.std.proofs.lemmas.List.{take_all}
use Rattle.std.proofs.lemmas.Result.{err_from_is_err_and}
use Rattle.std.specs.Prelude.{Result, IsErrAnd, option_map}
use Rattle.std.specs.Map.{keys_of}
use Rattle.std.specs.Str.{bytes_eq}
use Rattle.clap.specs.Walk.{texts}
use Rattle.clap.specs.Words.{App, Row, Text, all_of, first_value, found_of}
use Rattle.clap.specs.declared.parser.matches.ArgMatches.{ArgMatches}
use Rattle.decimal.specs.declared.rounding.Mode.{Mode}
use Rattle.contract_grammar.specs.Names.{is_declared}
use Rattle.contract_grammar.specs.NameTexts.{is_name_text}
use Rattle.command_words.specs.Arguments.{HasMatches, IsAnswer, Reading, all_values, asked_of, is_set, read_rows, taken}
use Rattle.command_words.specs.Commands.{Advance, AdvanceAsked, Between, Check, Expand, Flows, Migrate, Novate, NovateAsked, Payoff, Sample, Settle, ValueAsked, ValueFiles}
use Rattle.command_words.specs.Words.{advance_from, advance_with, check_from, expand_from, flows_from, flows_with, if_given, is_day, migrate_from, mode_if_given, netting_from, netting_with, novate_from, novate_with, one_more_setting, payoff_from, payoff_with, read_all_rows, sample_from, sample_size, scenarios_from, scenarios_with, settings_of, value_between, value_files, value_from, value_with, with_form}
use Rattle.command_words.specs.Words.{advance_of, migrate_of, netting_of, novate_of, other_request_of, payoff_of, request_of}
use Rattle.command_words.specs.declared.arguments.WordsErr.{WordsErr}
use Rattle.command_words.specs.declared.arguments.WordsErr.TheVariants.{Usage, NoMemory}

-- where `?` hands an error on
pub handed_on : {X Y : Type 0} (view : X → Y) (wanted : Option Y) (e : WordsErr) (result : Result X WordsErr) → IsAnswer view wanted (Err e) → IsErrAnd result (λ other. other ≡ e) → IsAnswer view wanted result
handed_on view wanted e result answer given =
    let p = err_from_is_err_and result given in
    subst (IsAnswer view wanted) (sym (p.1 ∙ ap (λ (x : WordsErr). Err x) p.2)) answer

-- an error of a part is one of the whole, where the whole lacks what the part lacks
pub lacks : {X Y V W : Type 0} (view : X → Y) (part : Option Y) (wanted_by : V → W) (wanted : Option W) (e : WordsErr)
    → (part ≡ None → wanted ≡ None) → IsAnswer view part (Err e) → IsAnswer wanted_by wanted (Err e)
lacks view part wanted_by wanted Usage none h = none h
lacks view part wanted_by wanted NoMemory none h = tt

-- words that are not taken ask for nothing
pub refused : {X Y : Type 0} (view : X → Y) (read : Option (List Row) → Option Y) (app : App) (words : List Text) (e : WordsErr)
    → read None ≡ None → HasMatches app words (Err e) → IsAnswer view (read (taken app words)) (Err e)
refused view read app words Usage nothing none = ap read none ∙ nothing
refused view read app words NoMemory nothing none = tt

-- words that are taken are read by what is found in them
pub reads : {Asked : Type 0} (app : App) (reading : Reading Asked) (words : List Text) (matches : ArgMatches) → HasMatches app words (Ok matches)
    → asked_of app reading words ≡ reading (first_value (found_of matches))
reads app reading words matches h =
    ap (read_rows reading) h.1 ∙ ap reading (fun_ext (λ name. sym (h.2.first name)))

-- the same where all words of an argument count
pub reads_all : {Asked : Type 0} (app : App) (reading : (Text → Option Text) → (Text → Option (List Text)) → Option Asked) (words : List Text) (matches : ArgMatches)
    → HasMatches app words (Ok matches)
    → read_all_rows reading (taken app words) ≡ reading (first_value (found_of matches)) (all_values (found_of matches))
reads_all app reading words matches h =
    ap (read_all_rows reading) h.1
    ∙ ap (λ (f : Text → Option Text). reading f (λ name. all_of name h.0)) (fun_ext (λ name. sym (h.2.first name)))
    ∙ ap (reading (first_value (found_of matches))) (fun_ext (λ name. sym (h.2.all name)))

-- an answer to what is asked for by other words is one to the words
pub answers : {X Y : Type 0} (view : X → Y) (asked wanted : Option Y) (result : Result X WordsErr) → asked ≡ wanted → IsAnswer view wanted result → IsAnswer view asked result
answers {Y = Y} view asked wanted result same told = subst (λ (o : Option Y). IsAnswer view o result) (sym same) told

-- ---- `check`

pub check_lacks : (found : Text → Option Text) → found (codes "portfolio") ≡ None → check_from found ≡ None
check_lacks found none = rw none refl

pub check_has : (found : Text → Option Text) (file : Text) → found (codes "portfolio") ≡ Some file → check_from found ≡ Some (Check file)
check_has found file is = rw is refl

-- ---- `migrate`

pub migrate_lacks : (found : Text → Option Text) → found (codes "portfolio") ≡ None → migrate_from found ≡ None
migrate_lacks found none = rw none refl

pub migrate_has : (found : Text → Option Text) (file : Text) → found (codes "portfolio") ≡ Some file → migrate_from found ≡ Some (Migrate file)
migrate_has found file is = rw is refl

-- ---- `expand`

pub expand_lacks : (found : Text → Option Text) → found (codes "plans") ≡ None → expand_from found ≡ None
expand_lacks found none = rw none refl

pub expand_has : (found : Text → Option Text) (file : Text) → found (codes "plans") ≡ Some file → expand_from found ≡ Some (Expand file)
expand_has found file is = rw is refl

-- ---- the first word

-- words of which there is one are the first and those behind it
pub first_word : (words : List (Bor Text)) (none : Bor Text) → 1 ≤ length words → texts words ≡ (get_or words 0 none).now ∷ texts (take (length words - 1) (drop 1 words))
first_word [] none h = absurd (omega arith)
first_word (word ∷ words) none h = ap (λ (rest : List (Bor Text)). word.now ∷ texts rest) (sym (take_all (length (word ∷ words) - 1) words (omega arith)))

-- ---- `positions` and `settle`

netting_with_no_day : (file fixings : Option Text) → netting_with file fixings None ≡ None
netting_with_no_day None fixings = refl
netting_with_no_day (Some file) fixings = refl

pub netting_lacks : (found : Text → Option Text) → found (codes "portfolio") ≡ None → netting_from found ≡ None
netting_lacks found none = rw none refl

pub netting_no_day : (found : Text → Option Text) → if_given is_day (found (codes "until")) ≡ None → netting_from found ≡ None
netting_no_day found none =
    ap (λ (day : Option (Option Text)). netting_with (found (codes "portfolio")) (found (codes "fixings")) day) none
    ∙ netting_with_no_day _ _

pub netting_has : (found : Text → Option Text) (file : Text) (fixings until : Option Text)
    → found (codes "portfolio") ≡ Some file → found (codes "fixings") ≡ fixings → if_given is_day (found (codes "until")) ≡ Some until
    → netting_from found ≡ Some (record { portfolio = file; fixings = fixings; until = until })
netting_has found file fixings until a b c = rw (a, b, c) refl

-- ---- `flows`

with_no_day : (file fixings : Option Text) (contract : Option (Option Text)) (net : Bool) → flows_with file fixings None contract net ≡ None
with_no_day None fixings contract net = refl
with_no_day (Some file) fixings contract net = refl

with_no_name : (file fixings : Option Text) (until : Option (Option Text)) (net : Bool) → flows_with file fixings until None net ≡ None
with_no_name None fixings until net = refl
with_no_name (Some file) fixings None net = refl
with_no_name (Some file) fixings (Some day) net = refl

pub flows_lacks : (found : Text → Option Text) → found (codes "portfolio") ≡ None → flows_from found ≡ None
flows_lacks found none = rw none refl

pub flows_no_day : (found : Text → Option Text) → if_given is_day (found (codes "until")) ≡ None → flows_from found ≡ None
flows_no_day found none =
    ap (λ (day : Option (Option Text)). flows_with (found (codes "portfolio")) (found (codes "fixings")) day (if_given is_name_text (found (codes "contract"))) (is_set (found (codes "net")))) none
    ∙ with_no_day _ _ _ _

pub flows_no_name : (found : Text → Option Text) → if_given is_name_text (found (codes "contract")) ≡ None → flows_from found ≡ None
flows_no_name found none =
    ap (λ (name : Option (Option Text)). flows_with (found (codes "portfolio")) (found (codes "fixings")) (if_given is_day (found (codes "until"))) name (is_set (found (codes "net")))) none
    ∙ with_no_name _ _ _ _

pub flows_has : (found : Text → Option Text) (file : Text) (fixings until contract : Option Text) (net : Bool)
    → found (codes "portfolio") ≡ Some file → found (codes "fixings") ≡ fixings → if_given is_day (found (codes "until")) ≡ Some until
    → if_given is_name_text (found (codes "contract")) ≡ Some contract → is_set (found (codes "net")) ≡ net
    → flows_from found ≡ Some (Flows (record { portfolio = file; fixings = fixings; until = until; contract = contract; net = net }))
flows_has found file fixings until contract net a b c d e = rw (a, b, c, d, e) refl

-- ---- `advance`

pub advance_lacks : (found : Text → Option Text) → found (codes "portfolio") ≡ None → advance_from found ≡ None
advance_lacks found none = rw none refl

with_no_fixings : (file to : Option Text) → advance_with file None to ≡ None
with_no_fixings None to = refl
with_no_fixings (Some file) to = refl

with_no_new_day : (file fixings : Option Text) → advance_with file fixings None ≡ None
with_no_new_day None fixings = refl
with_no_new_day (Some file) None = refl
with_no_new_day (Some file) (Some table) = refl

pub advance_no_fixings : (found : Text → Option Text) → found (codes "fixings") ≡ None → advance_from found ≡ None
advance_no_fixings found none =
    ap (λ (table : Option Text). advance_with (found (codes "portfolio")) table (with_form is_day (found (codes "to")))) none
    ∙ with_no_fixings _ _

pub advance_no_day : (found : Text → Option Text) → with_form is_day (found (codes "to")) ≡ None → advance_from found ≡ None
advance_no_day found none =
    ap (λ (day : Option Text). advance_with (found (codes "portfolio")) (found (codes "fixings")) day) none
    ∙ with_no_new_day _ _

pub advance_has : (found : Text → Option Text) (file fixings to : Text)
    → found (codes "portfolio") ≡ Some file → found (codes "fixings") ≡ Some fixings → with_form is_day (found (codes "to")) ≡ Some to
    → advance_from found ≡ Some (record { portfolio = file; fixings = fixings; to = to })
advance_has found file fixings to a b c = rw (a, b, c) refl

-- ---- `novate`

without_contract : (advance : Option AdvanceAsked) (old new : Option Text) → novate_with advance None old new ≡ None
without_contract None old new = refl
without_contract (Some advance) old new = refl

without_old : (advance : Option AdvanceAsked) (contract new : Option Text) → novate_with advance contract None new ≡ None
without_old None contract new = refl
without_old (Some advance) None new = refl
without_old (Some advance) (Some contract) new = refl

without_new : (advance : Option AdvanceAsked) (contract old : Option Text) → novate_with advance contract old None ≡ None
without_new None contract old = refl
without_new (Some advance) None old = refl
without_new (Some advance) (Some contract) None = refl
without_new (Some advance) (Some contract) (Some old) = refl

module _ (found : Text → Option Text) where
  pub novate_no_advance : advance_from found ≡ None → novate_from found ≡ None
  novate_no_advance none =
      ap (λ (advance : Option AdvanceAsked). novate_with advance (with_form is_name_text (found (codes "contract"))) (with_form is_name_text (found (codes "old"))) (with_form is_name_text (found (codes "new")))) none

  pub novate_no_contract : with_form is_name_text (found (codes "contract")) ≡ None → novate_from found ≡ None
  novate_no_contract none =
      ap (λ (name : Option Text). novate_with (advance_from found) name (with_form is_name_text (found (codes "old"))) (with_form is_name_text (found (codes "new")))) none
      ∙ without_contract _ _ _

  pub novate_no_old : with_form is_name_text (found (codes "old")) ≡ None → novate_from found ≡ None
  novate_no_old none =
      ap (λ (name : Option Text). novate_with (advance_from found) (with_form is_name_text (found (codes "contract"))) name (with_form is_name_text (found (codes "new")))) none
      ∙ without_old _ _ _

  pub novate_no_new : with_form is_name_text (found (codes "new")) ≡ None → novate_from found ≡ None
  novate_no_new none =
      ap (λ (name : Option Text). novate_with (advance_from found) (with_form is_name_text (found (codes "contract"))) (with_form is_name_text (found (codes "old"))) name) none
      ∙ without_new _ _ _

  pub novate_has : (advance : AdvanceAsked) (contract old new : Text)
      → advance_from found ≡ Some advance → with_form is_name_text (found (codes "contract")) ≡ Some contract
      → with_form is_name_text (found (codes "old")) ≡ Some old → with_form is_name_text (found (codes "new")) ≡ Some new
      → novate_from found ≡ Some (record { advance = advance; contract = contract; old = old; new = new })
  novate_has advance contract old new a b c d =
      ap (λ (x : Option AdvanceAsked). novate_with x (with_form is_name_text (found (codes "contract"))) (with_form is_name_text (found (codes "old"))) (with_form is_name_text (found (codes "new")))) a
      ∙ ap (λ (x : Option Text). novate_with (Some advance) x (with_form is_name_text (found (codes "old"))) (with_form is_name_text (found (codes "new")))) b
      ∙ ap (λ (x : Option Text). novate_with (Some advance) (Some contract) x (with_form is_name_text (found (codes "new")))) c
      ∙ ap (λ (x : Option Text). novate_with (Some advance) (Some contract) (Some old) x) d

-- ---- `payoff`

pub payoff_lacks : (found : Text → Option Text) → found (codes "portfolio") ≡ None → payoff_from found ≡ None
payoff_lacks found none = rw none refl

with_no_contract : (file : Option Text) (plain : Bool) → payoff_with file None plain ≡ None
with_no_contract None plain = refl
with_no_contract (Some file) plain = refl

pub payoff_no_name : (found : Text → Option Text) → with_form is_name_text (found (codes "contract")) ≡ None → payoff_from found ≡ None
payoff_no_name found none =
    ap (λ (name : Option Text). payoff_with (found (codes "portfolio")) name (is_set (found (codes "plain")))) none
    ∙ with_no_contract _ _

pub payoff_has : (found : Text → Option Text) (file contract : Text) (plain : Bool)
    → found (codes "portfolio") ≡ Some file → with_form is_name_text (found (codes "contract")) ≡ Some contract → is_set (found (codes "plain")) ≡ plain
    → payoff_from found ≡ Some (Payoff (record { portfolio = file; contract = contract; plain = plain }))
payoff_has found file contract plain a b c = rw (a, b, c) refl

-- ---- `sample`

pub sample_lacks : (found : Text → Option Text) → found (codes "number") ≡ None → sample_from found ≡ None
sample_lacks found none = rw none refl

pub sample_reads : (found : Text → Option Text) (number : Text) (size : Option ℕ) → found (codes "number") ≡ Some number → sample_size number ≡ size → sample_from found ≡ option_map (λ (n : ℕ). Sample n) size
sample_reads found number size is same = rw (is, same) refl

-- ---- `value`

with_no_word : (files : Option ValueFiles) (between : Option Between) (settings : Option (List (Text × ℕ))) → value_with files None between settings ≡ None
with_no_word None between settings = refl
with_no_word (Some files) between settings = refl

with_nobody : (files : Option ValueFiles) (at : Option Text) (settings : Option (List (Text × ℕ))) → value_with files at None settings ≡ None
with_nobody None at settings = refl
with_nobody (Some files) None settings = refl
with_nobody (Some files) (Some at) settings = refl

with_no_setting : (files : Option ValueFiles) (at : Option Text) (between : Option Between) → value_with files at between None ≡ None
with_no_setting None at between = refl
with_no_setting (Some files) None between = refl
with_no_setting (Some files) (Some at) None = refl
with_no_setting (Some files) (Some at) (Some between) = refl

module _ (word : Text → Option Text) (all : Text → Option (List Text)) where
  pub value_no_files : value_files word ≡ None → value_from word all ≡ None
  value_no_files none =
      ap (λ (f : Option ValueFiles). value_with f (with_form is_day (word (codes "at"))) (value_between word) (settings_of (all (codes "settings")))) none

  pub value_no_day : with_form is_day (word (codes "at")) ≡ None → value_from word all ≡ None
  value_no_day none =
      ap (λ (d : Option Text). value_with (value_files word) d (value_between word) (settings_of (all (codes "settings")))) none
      ∙ with_no_word _ _ _

  pub value_nobody : value_between word ≡ None → value_from word all ≡ None
  value_nobody none =
      ap (λ (b : Option Between). value_with (value_files word) (with_form is_day (word (codes "at"))) b (settings_of (all (codes "settings")))) none
      ∙ with_nobody _ _ _

  pub value_no_setting : settings_of (all (codes "settings")) ≡ None → value_from word all ≡ None
  value_no_setting none =
      ap (λ (s : Option (List (Text × ℕ))). value_with (value_files word) (with_form is_day (word (codes "at"))) (value_between word) s) none
      ∙ with_no_setting _ _ _

  pub value_has : (files : ValueFiles) (at : Text) (between : Between) (settings : List (Text × ℕ))
      → value_files word ≡ Some files → with_form is_day (word (codes "at")) ≡ Some at → value_between word ≡ Some between
      → settings_of (all (codes "settings")) ≡ Some settings
      → value_from word all ≡ Some (record { files = files; at = at; between = between; settings = settings })
  value_has files at between settings a b c d =
      ap (λ (f : Option ValueFiles). value_with f (with_form is_day (word (codes "at"))) (value_between word) (settings_of (all (codes "settings")))) a
      ∙ ap (λ (t : Option Text). value_with (Some files) t (value_between word) (settings_of (all (codes "settings")))) b
      ∙ ap (λ (t : Option Between). value_with (Some files) (Some at) t (settings_of (all (codes "settings")))) c
      ∙ ap (λ (t : Option (List (Text × ℕ))). value_with (Some files) (Some at) (Some between) t) d

-- ---- `scenarios`

with_no_mean : (value : Option ValueAsked) → scenarios_with value None ≡ None
with_no_mean None = refl
with_no_mean (Some value) = refl

module _ (word : Text → Option Text) (all : Text → Option (List Text)) where
  pub scenarios_no_value : value_from word all ≡ None → scenarios_from word all ≡ None
  scenarios_no_value none = ap (λ (v : Option ValueAsked). scenarios_with v (mode_if_given (word (codes "mean")))) none

  pub scenarios_no_mean : mode_if_given (word (codes "mean")) ≡ None → scenarios_from word all ≡ None
  scenarios_no_mean none = ap (λ (m : Option Mode). scenarios_with (value_from word all) m) none ∙ with_no_mean _

  pub scenarios_has : (value : ValueAsked) (mean : Mode) → value_from word all ≡ Some value → mode_if_given (word (codes "mean")) ≡ Some mean
      → scenarios_from word all ≡ Some (record { value = value; mean = mean })
  scenarios_has value mean a b =
      ap (λ (v : Option ValueAsked). scenarios_with v (mode_if_given (word (codes "mean")))) a
      ∙ ap (λ (m : Option Mode). scenarios_with (Some value) m) b

-- ---- settings

-- a name that words before it set, and one that they do not
pub setting_twice : (settings : List (Text × ℕ)) (name : Text) (number : ℕ) → is_declared (keys_of settings) name ≡ true → one_more_setting settings (Some (name, number)) ≡ None
setting_twice settings name number there = rw there refl

pub setting_fresh : (settings : List (Text × ℕ)) (name : Text) (number : ℕ) → is_declared (keys_of settings) name ≡ false → one_more_setting settings (Some (name, number)) ≡ Some (settings ++ (name, number) ∷ [])
setting_fresh settings name number absent = rw absent refl

-- ---- the name of a command

module _ (name : Text) (rest : List Text) (no_check : false ≡ bytes_eq name (codes "check")) (no_flows : false ≡ bytes_eq name (codes "flows")) where
  pub payoff_asked : true ≡ bytes_eq name (codes "payoff") → request_of (name ∷ rest) ≡ payoff_of rest
  payoff_asked is = rw (sym no_check, sym no_flows, sym is) refl

  module _ (no_payoff : false ≡ bytes_eq name (codes "payoff")) where
    pub migrate_asked : true ≡ bytes_eq name (codes "migrate") → request_of (name ∷ rest) ≡ migrate_of rest
    migrate_asked is = rw (sym no_check, sym no_flows, sym no_payoff, sym is) refl

    module _ (no_migrate : false ≡ bytes_eq name (codes "migrate")) (no_positions : false ≡ bytes_eq name (codes "positions")) where
      pub settle_asked : true ≡ bytes_eq name (codes "settle") → request_of (name ∷ rest) ≡ option_map (λ netting. Settle netting) (netting_of (codes "settle") rest)
      settle_asked is = rw (sym no_check, sym no_flows, sym no_payoff, sym no_migrate, sym no_positions, sym is) refl

      module _ (no_settle : false ≡ bytes_eq name (codes "settle")) where
        pub advance_asked : true ≡ bytes_eq name (codes "advance") → request_of (name ∷ rest) ≡ option_map (λ advance. Advance advance) (advance_of rest)
        advance_asked is = rw (sym no_check, sym no_flows, sym no_payoff, sym no_migrate, sym no_positions, sym no_settle, sym is) refl

        module _ (no_advance : false ≡ bytes_eq name (codes "advance")) where
          pub novate_asked : true ≡ bytes_eq name (codes "novate") → request_of (name ∷ rest) ≡ option_map (λ novate. Novate novate) (novate_of rest)
          novate_asked is = rw (sym no_check, sym no_flows, sym no_payoff, sym no_migrate, sym no_positions, sym no_settle, sym no_advance, sym is) refl

          pub other_asked : false ≡ bytes_eq name (codes "novate") → request_of (name ∷ rest) ≡ other_request_of name rest
          other_asked no_novate =
              rw (sym no_check, sym no_flows, sym no_payoff, sym no_migrate, sym no_positions, sym no_settle, sym no_advance, sym no_novate) refl

-- where a command is asked for nothing, nothing is requested
pub requests_none : {X Y V W : Type 0} (view : X → V) (wanted_by : Y → W) (request : V → W) (asked : Option V) (e : WordsErr)
    → IsAnswer view asked (Err e) → IsAnswer wanted_by (option_map request asked) (Err e)
requests_none view wanted_by request asked Usage none = rw none refl
requests_none view wanted_by request asked NoMemory none = tt
