-- The parts of `value`: which names of the words are declared, which read is not fixed, and that what goes on at the setting goes
-- the course to its end.
use Rattle.std.proofs.Common.{◌≡◌, ◌∙◌, ◌<◌, ◌≤◌, ◌+◌, ◌-◌, ◌*◌, ◌^◌, inl, inr, ℕ, ℤ, pos, Bool, true, false, List, [], ◌∷◌, ◌++◌, cond, length, FitsSigned, ap, arith, of_z, refl, subst, sym, to_z, w64}
use Rattle.std.specs.Prelude.{Some, None, Result, Err, IsErrAnd, is_none, nat_lt, unsigned_abs}
use Rattle.std.specs.Global.{Vec}
use Rattle.std.specs.Int.{w128}
use Rattle.std.specs.List.{position_or_len}
use Rattle.std.specs.Map.{keys_of}
use Rattle.std.specs.Str.{bytes_eq}
use Rattle.std.proofs.lemmas.Bool.Decides.{nat_tests}
use Rattle.std.proofs.lemmas.Int.{fits_signed_from_abs, ints, to_z-of_z}
use Rattle.std.proofs.lemmas.List.{length-map}
use Rattle.std.proofs.lemmas.Nat.{mul-le}
use Rattle.decimal.specs.Rounding.{raised}
use Rattle.decimal.proofs.PowerFacts.{ten_above}
use Rattle.term_model.specs.Declarations.{Declarations}
use Rattle.term_model.specs.Environments.{Environment}
use Rattle.term_model.specs.Factors.{CurveRow}
use Rattle.term_model.specs.Flows.{Flow}
use Rattle.contract_grammar.specs.Names.{index_in}
use Rattle.flow_eval.specs.declared.faults.FlowErr.TheVariants as flow
use Rattle.payoff_check.specs.Verdicts.{IsScaleOf, IsTotalOf}
use Rattle.payoff_eval.specs.Questions.{IsQuestion}
use Rattle.payoff_eval.proofs.NodeFacts.{bounds_hold, total_at_root}
use Rattle.payoff_terms.specs.CodeAcceptance.{IsAcceptedCode}
use Rattle.payoff_terms.specs.CodeBooks.{CodeBook, code_book}
use Rattle.payoff_terms.specs.CodeTotals.{total_of_code}
use Rattle.payoff_terms.specs.CodeValues.{Asked as Question, scale_of_code}
use Rattle.payoff_terms.specs.declared.code_file.CodeFile.{CodeFile}
use Rattle.report.specs.declared.fault_lines.Fault.{Fault}
use Rattle.command_words.specs.Commands.{Between, ValueAsked}
use Rattle.command_courses.specs.Course.{Course, Stops, Tells}
use Rattle.command_courses.specs.FixingTables.{IsStopOf}
use Rattle.command_courses.specs.Days.{IsDayAsked, greatest_day}
use Rattle.valuation_commands.specs.ValueStages.{IsFirstUnknown, KnowsNames}
use Rattle.command_courses.specs.Names.{IsUndeclared}
use Rattle.command_courses.specs.Stopping.{AnswersBy, GoesDone}
use Rattle.valuation_commands.specs.ValueCourse.{asks_code, numbers}
use Rattle.valuation_commands.specs.ValuePromise.{AreBetween, Naming, first_unknown_of, names_between, names_set, question}
use Rattle.valuation_commands.specs.ValueParts.{AnswersAsking, Inquiry, IsAcceptedUpTo, IsAskedBy, IsMissingBy, IsUnknownBetween, IsUnknownSetting, IsValueOver, SettingsAreKnown, StopsAsking, flow_of, missing_by, most_of}
use Rattle.valuation_commands.specs.declared.asking.Asking.{Asking}
use Rattle.command_courses.specs.declared.status.Status.TheVariants as status
use Rattle.command_courses.specs.declared.stop.Stop.{Stop}
use Rattle.command_courses.proofs.DayFacts.{fits_day}
use Rattle.command_courses.proofs.StopFacts.{answers_too, handed_on}

-- the place of a name is one of the list
within_by : (n m k : ℕ) (b : Bool) → nat_lt n m ≡ b → cond b (Some n) None ≡ Some k → k < m
within_by n m k true lt e = let same : n ≡ k = cc in grind (arith, nat_tests)
within_by n m k false lt e = absurd cc

pub index_within : (names : List (List ℕ)) (name : List ℕ) (k : ℕ) → index_in names name ≡ Some k → k < length names
index_within names name k is =
    within_by (position_or_len (λ (n : List ℕ). bytes_eq name n) names) (length names) k
    (nat_lt (position_or_len (λ (n : List ℕ). bytes_eq name n) names) (length names)) refl is

-- ---- names

abbrev absent : Naming → Bool
absent n = is_none (index_in n.among n.name)

module _ (d : Declarations) (between : Between) where
  pub no_payer : (f : Fault) → IsUndeclared d.parties between.from f → IsUnknownBetween d between f
  no_payer f h = record { name = between.from; is_first = rw h.absent refl; fault_is = h.fault_is }

  pub no_receiver : (from : ℕ) → index_in d.parties between.from ≡ Some from → (f : Fault) → IsUndeclared d.parties between.to f → IsUnknownBetween d between f
  no_receiver from one f h = record { name = between.to; is_first = rw (one, h.absent) refl; fault_is = h.fault_is }

  pub no_asset : (from to : ℕ) → index_in d.parties between.from ≡ Some from → index_in d.parties between.to ≡ Some to → (f : Fault) → IsUndeclared (keys_of d.assets) between.asset f → IsUnknownBetween d between f
  no_asset from to one two f h = record { name = between.asset; is_first = rw (one, two, h.absent) refl; fault_is = h.fault_is }

  known_between : (flow : Flow) → AreBetween d between flow → first_unknown_of (names_between d between) ≡ None
  known_between flow h = rw (h.from, h.to, h.asset) refl

-- the first of names behind others that are all declared
behind_by : (n : Naming) (ns more : List Naming) (b : Bool) → absent n ≡ b
    → ((first_unknown_of ns ≡ None) → first_unknown_of (ns ++ more) ≡ first_unknown_of more)
    → first_unknown_of (n ∷ ns) ≡ None → first_unknown_of (n ∷ ns ++ more) ≡ first_unknown_of more
behind_by n ns more true is rest none = absurd (let no : Some n.name ≡ None = sym (rw is refl) ∙ none in cc)
behind_by n ns more false is rest none = rw is (rest (sym (rw is refl) ∙ none))

behind : (ns more : List Naming) → first_unknown_of ns ≡ None → first_unknown_of (ns ++ more) ≡ first_unknown_of more
behind [] more none = refl
behind (n ∷ ns) more none = behind_by n ns more (absent n) refl (behind ns more) none

-- the first of names stays where more stand behind them
before_by : (n : Naming) (ns more : List Naming) (name : List ℕ) (b : Bool) → absent n ≡ b
    → ((first_unknown_of ns ≡ Some name) → first_unknown_of (ns ++ more) ≡ Some name)
    → first_unknown_of (n ∷ ns) ≡ Some name → first_unknown_of (n ∷ ns ++ more) ≡ Some name
before_by n ns more name true is rest some = rw is (sym (rw is refl) ∙ some)
before_by n ns more name false is rest some = rw is (rest (sym (rw is refl) ∙ some))

before : (ns more : List Naming) (name : List ℕ) → first_unknown_of ns ≡ Some name → first_unknown_of (ns ++ more) ≡ Some name
before [] more name some = absurd (let no : None ≡ Some name = some in cc)
before (n ∷ ns) more name some = before_by n ns more name (absent n) refl (before ns more name) some

module _ (d : Declarations) (asked : ValueAsked) where
  pub between_stops : (f : Fault) → IsUnknownBetween d asked.between f → IsFirstUnknown d asked f
  between_stops f h = record { name = h.name; first = before (names_between d asked.between) (names_set d asked.settings) h.name h.is_first; fault_is = h.fault_is }

  pub setting_stops : (flow : Flow) → AreBetween d asked.between flow → (f : Fault) → IsUnknownSetting d asked.settings f → IsFirstUnknown d asked f
  setting_stops flow are f h =
      record { name = h.name; first = behind (names_between d asked.between) (names_set d asked.settings) (known_between d asked.between flow are) ∙ h.is_first; fault_is = h.fault_is }

  pub knows : (flow : Flow) → AreBetween d asked.between flow → SettingsAreKnown d asked.settings → KnowsNames d asked flow
  knows flow are known =
      record { known = behind (names_between d asked.between) (names_set d asked.settings) (known_between d asked.between flow are) ∙ known; between = are }

-- ---- a read that is not fixed

module _ (q : Inquiry) (fixings : Environment) (curve : List CurveRow) where
  pub without_value : (label : ℕ) (day : ℤ) (s : Stop) → missing_by q fixings curve ≡ Some (record { label = label; day = day }) → IsStopOf q.book.declarations (flow.Missing label day) s → AnswersBy (IsValueOver q fixings curve) (IsMissingBy q fixings curve) (Err s)
  without_value label day s missing (inl is) =
      subst (λ (x : Stop). AnswersBy (IsValueOver q fixings curve) (IsMissingBy q fixings curve) (Err x)) (sym is)
      (record { place = record { label = label; day = day }; first = missing; fault_is = refl })
  without_value label day s missing (inr is) =
      subst (λ (x : Stop). AnswersBy (IsValueOver q fixings curve) (IsMissingBy q fixings curve) (Err x)) (sym is) tt

-- ---- what is asked

-- the most in units of the code's scale, at nine decimals more than amounts
pub most_aligned : (b : CodeBook) (total : ℤ) (scale : ℕ) → IsTotalOf b.declarations b.code total → IsScaleOf b.declarations b.code scale → raised total (b.declarations.amounts + 9 - scale) ≡ most_of b
most_aligned b total scale is of =
    ap (λ (m : ℤ). raised m (b.declarations.amounts + 9 - scale)) is
    ∙ ap (λ (s : ℕ). pos (total_of_code b.declarations b.code [] * 10 ^ (b.declarations.amounts + 9 - s))) of

-- it is small, and fits its type
pub most_small : (b : CodeBook) (xs : List ℕ) → IsAcceptedCode b.declarations xs b.code → unsigned_abs (most_of b) ≤ 10 ^ 37
most_small b xs accepted = total_at_root b.declarations b.code [] (bounds_hold b.declarations xs b.code accepted)

raised_fits : (total n : ℕ) → total * 10 ^ n ≤ 10 ^ 37 → FitsSigned w128 (pos total)
raised_fits total n small =
    let least : total * 1 ≤ total * 10 ^ n = mul-le total 1 total (10 ^ n) (omega arith) (let some = ten_above n in omega (arith, some)) in
    fits_signed_from_abs w128 (pos total) (omega (arith, least, small))

-- the total fits, in units of the code's scale
pub total_fits : (b : CodeBook) (xs : List ℕ) (total : ℤ) → IsAcceptedCode b.declarations xs b.code → IsTotalOf b.declarations b.code total → FitsSigned w128 total
total_fits b xs total accepted is =
    subst (λ (z : ℤ). FitsSigned w128 z) (sym is) (raised_fits (total_of_code b.declarations b.code []) (b.declarations.amounts + 9 - scale_of_code b.declarations b.code []) (most_small b xs accepted))

pub most_fits : (b : CodeBook) (xs : List ℕ) (most : ℤ) → IsAcceptedUpTo b xs most → FitsSigned w128 most
most_fits b xs most h =
    fits_signed_from_abs w128 most (let small = subst (λ (z : ℤ). unsigned_abs z ≤ 10 ^ 37) (sym h.is_most) (most_small b xs h.accepted) in omega (arith, small))

-- so does the day of a question
pub day_fits : (d : Declarations) (asks : Question) → IsQuestion d asks → to_z w64 (of_z w64 asks.now) ≡ asks.now
day_fits d asks h = to_z-of_z w64 asks.now (fits_day asks.now (let low = h.begun in omega (arith, ints)) h.near)

-- a day that is asked for between declared parties in a declared asset
pub asks_question : (d : Declarations) (asked : ValueAsked) (flow : Flow) (day : ℤ) (curve : List CurveRow) → KnowsNames d asked flow → IsDayAsked d greatest_day asked.at day → IsQuestion d (question day curve flow)
asks_question d asked flow day curve names is = record {
  begun = is.1;
  near = is.2;
  payer = index_within d.parties asked.between.from flow.from names.between.from;
  receiver = index_within d.parties asked.between.to flow.to names.between.to;
  asset =
      subst (λ (n : ℕ). flow.asset < n) (length-map d.assets _)
      (index_within (keys_of d.assets) asked.between.asset flow.asset names.between.asset);
}

-- the words ask this of a code file
pub is_asked : (asked : ValueAsked) (file : CodeFile) (asking : Asking) (day most : ℤ) → asking.day ≡ day → asking.most ≡ most
    → KnowsNames (code_book file).declarations asked (flow_of asking.parties) → IsDayAsked (code_book file).declarations greatest_day asked.at day
    → asking.setting.days.items ≡ numbers (code_book file) asked → IsAcceptedUpTo (code_book file) asking.setting.days.items most → IsAskedBy asked file asking
is_asked asked file asking day most day_is most_is names is setting up_to =
    let d = (code_book file).declarations in
    let there = subst (λ (t : ℤ). IsDayAsked d greatest_day asked.at t) (sym day_is) is in
    record {
      names = names;
      is_day = there;
      setting = setting;
      is_most = most_is ∙ up_to.is_most;
      may = record {
        setting = ap (λ (xs : List ℕ). length xs) setting ∙ length-map d.templates _;
        accepted = up_to.accepted;
        is_question = λ curve. asks_question d asked (flow_of asking.parties) asking.day curve names there;
      };
    }

-- ---- the whole

module _ (asked : ValueAsked) (b : CodeBook) (next : Flow → ℤ → Course) where
  -- what stops a command before its tables stops it
  pub stops_asking : (f : Fault) → StopsAsking asked b f → Stops (asks_code asked b next) f
  stops_asking f (inl h) = inl h
  stops_asking f (inr (flow, names, inl h)) = inr (flow, names, inl h)
  stops_asking f (inr (flow, names, inr (day, is, inl h))) = inr (flow, names, inr (day, is, inl h))
  stops_asking f (inr (flow, names, inr (day, is, inr (a, accepted, none)))) = absurd none

module _ (asked : ValueAsked) (file : CodeFile) (next : Flow → ℤ → Course) where
  pub not_asked : (e : Stop) (r : Result (Vec ℕ) Stop) → AnswersAsking asked file (Err e) → IsErrAnd r (λ y. y ≡ e) → GoesDone (asks_code asked (code_book file) next) r
  not_asked e r h given =
      let c = asks_code asked (code_book file) next in
      handed_on (IsAskedBy asked file) (λ (text : Vec ℕ). Tells c status.Done text.items) (StopsAsking asked (code_book file)) (Stops c)
      (stops_asking asked (code_book file) next) e r h given

  -- what goes on with what is asked goes the course
  pub goes_on : (asking : Asking) → IsAskedBy asked file asking → (r : Result (Vec ℕ) Stop) → GoesDone (next (flow_of asking.parties) asking.day) r → GoesDone (asks_code asked (code_book file) next) r
  goes_on asking is r h =
      let b = code_book file in
      let flow = flow_of asking.parties in
      let day = asking.day in
      let accepted = subst (λ (xs : List ℕ). IsAcceptedCode b.declarations xs b.code) is.setting is.may.accepted in
      answers_too (λ (text : Vec ℕ). Tells (next flow day) status.Done text.items) (λ (text : Vec ℕ). Tells (asks_code asked b next) status.Done text.items)
      (Stops (next flow day)) (Stops (asks_code asked b next))
      (λ text told. (flow, is.names, (day, is.is_day, (tt, accepted, told)))) (λ f stops. inr (flow, is.names, inr (day, is.is_day, inr (tt, accepted, stops)))) r h
