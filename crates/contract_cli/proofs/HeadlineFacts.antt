-- What a run shows, from what its command has told.
use Rattle.std.proofs.Common.{◌≡◌, ◌∙◌, ◌<◌, inl, inr, ℕ, ℤ, List, ap, subst, sym}
use Rattle.std.specs.Prelude.{Some}
use Rattle.std.specs.Map.{keys_of}
use Rattle.std.proofs.lemmas.List.{length-map}
use Rattle.term_model.specs.Books.{Book}
use Rattle.term_model.specs.Declarations.{Declarations}
use Rattle.term_model.specs.Environments.{Environment, IsAdmitted}
use Rattle.term_model.specs.Factors.{CurveRow, IsCurve}
use Rattle.term_model.specs.Flows.{Flow}
use Rattle.term_model.specs.Instances.{IsSetting}
use Rattle.term_model.specs.Terms.{Contract}
use Rattle.contract_grammar.specs.Texts.{Text}
use Rattle.payoff_terms.specs.CodeBooks.{CodeBook}
use Rattle.payoff_lang.specs.CodeFiles.{CodeText}
use Rattle.payoff_terms.specs.Meaning.{CodeMeans, Counting, MayBeAsked, Remaining}
use Rattle.payoff_terms.proofs.CodeAlikeFacts.{code_stays}
use Rattle.command_words.specs.Commands.{Advance, AdvanceAsked, Check, Expand, Flows, FlowsAsked, Migrate, Novate, Payoff, PayoffAsked, Request, Sample, Scenarios, ScenariosAsked, Value, ValueAsked, files_of}
use Rattle.scenario_set.specs.Totals.{AreTotals}
use Rattle.scenario_set.specs.declared.outcomes.Totals.{Totals}
use Rattle.scenario_set.proofs.LawFacts.{scenarios_are_worth}
use Rattle.flow_commands.specs.FlowsCourse.{flows_course}
use Rattle.lifecycle_commands.specs.AdvanceCourse.{advance_course}
use Rattle.lifecycle_commands.specs.AdvancePromise.{IsAdvanceText}
use Rattle.text_commands.specs.CheckCourse.{check_course}
use Rattle.command_courses.specs.Course.{Answers, Tells, stopped, told}
use Rattle.command_courses.specs.Inputs.{file_at}
use Rattle.text_commands.specs.PayoffCourse.{payoff_course}
use Rattle.text_commands.specs.PayoffPromise.{IsPayoffText}
use Rattle.valuation_commands.specs.ScenariosCourse.{scenarios_course}
use Rattle.valuation_commands.specs.ScenariosPromise.{AsksInScenarios, IsScenariosText, inquiry_in}
use Rattle.command_courses.specs.Statuses.{status_of}
use Rattle.valuation_commands.specs.ValueCourse.{value_course}
use Rattle.valuation_commands.specs.ValuePromise.{AreBetween, CanValue, IsValue, IsValueText, WordsFitCode, question, setting_by}
use Rattle.command_courses.specs.declared.status.Status.{Status}
use Rattle.command_courses.specs.declared.status.Status.TheVariants as status
use Rattle.command_courses.proofs.CourseFacts.{OfCommand}
use Rattle.valuation_commands.proofs.ValueParts.{index_within}
use Rattle.contract_cli.specs.Headline.{AreWorthIn, HasAdvanced, HasChecked, HasCompiled, HasListed, HasSampled, HasTotalled, HasValued, Headline, IsAcceptedAtNumbers, IsPresentValue, Judged}
use Rattle.contract_cli.specs.Reading.{WereRead}
use Rattle.contract_cli.specs.RunLaws.{HasTold}
use Rattle.contract_cli.specs.RunPromise.{Meets, Names}
use Rattle.contract_cli.specs.Seen.{Edge, WritesAll}
use Rattle.contract_cli.proofs.AdvanceTexts.{advance_texts_are_texts}
use Rattle.contract_cli.proofs.LawFacts.{answered_by, done_has_told}
use Rattle.contract_cli.proofs.NettingTexts.{printed_positions_balance, printed_settlements_settle}
use Rattle.contract_cli.proofs.NovateTexts.{has_novated}
use Rattle.contract_cli.proofs.PayoffTexts.{payoff_texts_mean}
use Rattle.contract_cli.proofs.SettingFacts.{scenario_setting_small, setting_small}
use Rattle.contract_cli.proofs.TextRuns.{has_expanded, has_migrated}

-- ---- `check`, which a bad text alone stops

judged_given : (s : Status) → Judged s → OfCommand s
judged_given s (inl done) = subst OfCommand (sym done) tt
judged_given s (inr refused) = subst OfCommand (sym refused) tt

no_bad_text : (s : Status) → Judged s → s ≡ status.BadText → ⊥
no_bad_text s (inl done) is = let no : status.Done ≡ status.BadText = sym done ∙ is in cc
no_bad_text s (inr refused) is = let no : status.Refused ≡ status.BadText = sym refused ∙ is in cc

check_told : (inputs : List (List ℕ)) (s : Status) (text : List ℕ) → Judged s → Answers (check_course inputs) s text → Tells (check_course inputs) s text
check_told inputs s text judged (stopped f (inl bad) e line) = absurd (no_bad_text s judged (e ∙ ap status_of bad.fault_is))
check_told inputs s text judged (stopped f (inr h) e line) = absurd h.2
check_told inputs s text judged (told h) = h

has_checked : (words : List (List ℕ)) (edge : Edge) (s : Status) (file : List ℕ) → Names words (Check file) → Judged s → Meets words edge s → HasChecked edge file s
has_checked words edge s file named judged m =
    let a = answered_by words edge (Check file) named s (judged_given s judged) m in
    let h = check_told a.inputs s a.text judged a.answers in
    record { book = h.0; inputs = a.inputs; text = a.text; ran = record { read = a.read; spelled = h.1; written = a.line }; verdicts = h.2 }

-- ---- what the other commands tell

flows_told : (edge : Edge) (asked : FlowsAsked) (inputs : List (List ℕ)) (text : List ℕ) → WereRead edge.files.contents (files_of (Flows asked)) inputs
    → WritesAll edge.sink text → Tells (flows_course asked inputs) status.Done text → HasListed edge asked
flows_told edge asked inputs text read written (b, spelled, (_, known, (last, is_last, (_, accepted, (fixings, are_fixings, (_, fixed, (_, lines))))))) = record {
  book = b;
  inputs = inputs;
  text = text;
  ran = record { read = read; spelled = spelled; written = written };
  known = known;
  last = last;
  is_last = is_last;
  accepted = accepted;
  fixings = fixings;
  are_fixings = are_fixings;
  fixed = fixed;
  lines = lines;
}

advance_told : (asked : AdvanceAsked) (inputs : List (List ℕ)) (s : Status) (text : List ℕ) → Tells (advance_course asked inputs) s text
    → (b : Book) × Text (file_at inputs 0) b × IsAdvanceText b asked (Some (file_at inputs 1)) text
advance_told asked inputs s text (b, spelled, (day, is_day, (_, accepted, (fixings, are_fixings, (_, fixed, (_, advanced)))))) = (
  b,
  spelled,
  record {
    day = day;
    fixings = fixings;
    can = record { is_day = is_day; accepted = accepted; are_fixings = are_fixings; fixed = fixed };
    advanced = advanced;
  },
)

payoff_told : (asked : PayoffAsked) (inputs : List (List ℕ)) (s : Status) (text : List ℕ) → Tells (payoff_course asked inputs) s text
    → (b : Book) × Text (file_at inputs 0) b × IsPayoffText b asked text
payoff_told asked inputs s text (b, spelled, (c, named, (_, accepted, (_, is_canon)))) =
    (b, spelled, record { contr = c; can = record { named = named; accepted = accepted }; is_canon = is_canon })

value_told : (asked : ValueAsked) (inputs : List (List ℕ)) (s : Status) (text : List ℕ) → Tells (value_course asked inputs) s text
    → (b : CodeBook) × CodeText (file_at inputs 0) b × IsValueText b asked (file_at inputs 1) (file_at inputs 2) text
value_told asked inputs s text (b, spelled, (flow, names, (day, is_day, (_, accepted, (fixings, are_fixings, (factors, are_factors, (_, fixed, (_, worth)))))))) = (
  b,
  spelled,
  record {
    can = record {
      day = day;
      fit = record { known = names.known; is_day = is_day };
      flow = flow;
      between = names.between;
      accepted = accepted;
      fixings = fixings;
      are_fixings = are_fixings;
      curve = factors;
      is_curve = are_factors;
      fixed = fixed;
    };
    worth = worth;
  },
)

totals_told : (asked : ScenariosAsked) (inputs : List (List ℕ)) (s : Status) (text : List ℕ) → Tells (scenarios_course asked inputs) s text
    → (b : CodeBook) × CodeText (file_at inputs 0) b × IsScenariosText b asked (file_at inputs 1) (file_at inputs 2) text
totals_told asked inputs s text (b, spelled, (flow, names, (day, is_day, (_, accepted, (set, holds, (factors, are_factors, (_, few, (_, fixed, (_, lines))))))))) = (
  b,
  spelled,
  record {
    can = record {
      asks = record {
        day = day;
        fit = record { known = names.known; is_day = is_day };
        flow = flow;
        between = names.between;
        accepted = accepted;
        set = set;
        holds = holds;
        curve = factors;
        is_curve = are_factors;
      };
      few = few;
      fixed = fixed;
    };
    told = lines;
  },
)

-- ---- `value` and `scenarios`: the numbers are the present values of what the code means

-- a contract that is accepted at the numbers that are set may be asked for what the words ask for
may_be_asked : (d : Declarations) (asked : ValueAsked) (day : ℤ) (curve : List CurveRow) (flow : Flow) → WordsFitCode d asked day → AreBetween d asked.between flow → IsCurve curve → IsSetting (setting_by d asked.settings)
    → (c : Contract) (env : Environment) → IsAcceptedAtNumbers asked d c → IsAdmitted d env → MayBeAsked d c (setting_by d asked.settings) env (question day curve flow)
may_be_asked d asked day curve flow fit between is_curve small c env accepted admitted = record {
  setting = length-map d.templates _;
  small = small;
  accepted = accepted;
  admitted = admitted;
  curve = is_curve;
  begun = fit.is_day.1;
  near = fit.is_day.2;
  payer = index_within d.parties asked.between.from flow.from between.from;
  receiver = index_within d.parties asked.between.to flow.to between.to;
  asset =
      subst (λ (n : ℕ). flow.asset < n) (length-map d.assets _)
      (index_within (keys_of d.assets) asked.between.asset flow.asset between.asset);
}

module _ (b : CodeBook) (asked : ValueAsked) (inputs : List (List ℕ)) (small : IsSetting (setting_by b.declarations asked.settings)) where
  present : (can : CanValue b asked (file_at inputs 1) (file_at inputs 2)) (amount : ℤ) → IsValue b (setting_by b.declarations asked.settings) can.fixings (question can.day can.curve can.flow) amount
      → (c : Contract) → CodeMeans b.declarations b.code c Remaining → IsPresentValue b asked inputs can b.declarations amount c
  present can amount is c means accepted env admitted extends =
      sym (is env extends)
      ∙ means.values (setting_by b.declarations asked.settings) env (question can.day can.curve can.flow) (may_be_asked b.declarations asked can.day can.curve can.flow can.fit can.between can.is_curve.curve small c env accepted admitted)

  worth_in_each : (asks : AsksInScenarios b asked (file_at inputs 1) (file_at inputs 2)) (t : Totals) → AreTotals (inquiry_in asks) asks.set t
      → (c : Contract) (v : Counting) → CodeMeans b.declarations b.code c v → AreWorthIn b.declarations asked (inquiry_in asks).asked asks.set t.values.items c v
  worth_in_each asks t totals c v means accepted i s stands env admitted extends =
      scenarios_are_worth code_stays b (setting_by b.declarations asked.settings) asks.curve asks.day asks.flow.from asks.flow.to asks.flow.asset asks.set t c v totals means i s stands env extends
      (may_be_asked b.declarations asked asks.day asks.curve asks.flow asks.fit asks.between asks.is_curve.curve small c env accepted admitted)

-- ---- the whole

module _ (words : List (List ℕ)) (edge : Edge) where
  has_advanced : (asked : AdvanceAsked) → HasTold words edge (Advance asked) status.Done → HasAdvanced edge asked
  has_advanced asked h =
      let a = advance_told asked h.inputs status.Done h.text h.told in
      record {
        book = a.0;
        inputs = h.inputs;
        text = h.text;
        ran = record { read = h.read; spelled = a.1; written = h.line };
        advanced = a.2;
        rest = advance_texts_are_texts (file_at h.inputs 0) a.0 asked (Some (file_at h.inputs 1)) h.text a.1 a.2;
      }

  has_compiled : (asked : PayoffAsked) → HasTold words edge (Payoff asked) status.Done → HasCompiled edge asked
  has_compiled asked h =
      let a = payoff_told asked h.inputs status.Done h.text h.told in
      record {
        book = a.0;
        inputs = h.inputs;
        text = h.text;
        ran = record { read = h.read; spelled = a.1; written = h.line };
        code = payoff_texts_mean (file_at h.inputs 0) a.0 asked h.text a.1 a.2;
      }

  has_valued : (asked : ValueAsked) → Names words (Value asked) → HasTold words edge (Value asked) status.Done → HasValued edge asked
  has_valued asked named h =
      let a = value_told asked h.inputs status.Done h.text h.told in
      record {
        book = a.0;
        inputs = h.inputs;
        read = h.read;
        spelled = a.1;
        can = a.2.can;
        amount = a.2.worth.amount;
        worth = present a.0 asked h.inputs (setting_small words asked (file_at h.inputs 0) a.0 named a.1) a.2.can a.2.worth.amount a.2.worth.is_value;
        written = subst (λ (t : List ℕ). WritesAll edge.sink t) a.2.worth.line h.line;
      }

  has_totalled : (asked : ScenariosAsked) → Names words (Scenarios asked) → HasTold words edge (Scenarios asked) status.Done → HasTotalled edge asked
  has_totalled asked named h =
      let a = totals_told asked h.inputs status.Done h.text h.told in
      let small = scenario_setting_small words asked (file_at h.inputs 0) a.0 named a.1 in
      record {
        book = a.0;
        inputs = h.inputs;
        read = h.read;
        spelled = a.1;
        can = a.2.can;
        totals = a.2.told.totals;
        are_totals = a.2.told.are_totals;
        worth = worth_in_each a.0 asked.value h.inputs small a.2.can.asks a.2.told.totals a.2.told.are_totals;
        written = subst (λ (t : List ℕ). WritesAll edge.sink t) a.2.told.lines h.line;
      }

  has_listed : (asked : FlowsAsked) → HasTold words edge (Flows asked) status.Done → HasListed edge asked
  has_listed asked h = flows_told edge asked h.inputs h.text h.read h.line h.told

  has_sampled : (count : ℕ) → HasTold words edge (Sample count) status.Done → HasSampled edge count
  has_sampled count h = record { text = h.text; summary = h.told.1; written = h.line }

  as_done : (s : Status) → s ≡ status.Done → Meets words edge s → Meets words edge status.Done
  as_done s is m = subst (λ (x : Status). Meets words edge x) is m

  done : (request : Request) → Names words request → (s : Status) → s ≡ status.Done → Meets words edge s → HasTold words edge request status.Done
  done request named s is m = done_has_told words edge request named (as_done s is m)

  pub headline : (s : Status) → Meets words edge s → Headline words edge s
  headline s m = record {
    checks = λ file named judged. has_checked words edge s file named judged m;
    lists = λ asked named is. has_listed asked (done (Flows asked) named s is m);
    balances = λ asked named is. printed_positions_balance words edge asked named (as_done s is m);
    settles = λ asked named is. printed_settlements_settle words edge asked named (as_done s is m);
    advances = λ asked named is. has_advanced asked (done (Advance asked) named s is m);
    novates = λ asked named is. has_novated words edge asked (done (Novate asked) named s is m);
    compiles = λ asked named is. has_compiled asked (done (Payoff asked) named s is m);
    values = λ asked named is. has_valued asked named (done (Value asked) named s is m);
    totals = λ asked named is. has_totalled asked named (done (Scenarios asked) named s is m);
    migrates = λ file named is. has_migrated words edge file (done (Migrate file) named s is m);
    expands = λ file named is. has_expanded words edge file (done (Expand file) named s is m);
    samples = λ count named is. has_sampled count (done (Sample count) named s is m);
  }
