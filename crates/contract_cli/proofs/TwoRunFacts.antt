-- The laws of two runs, of which the second reads what the first has printed.
use Rattle.std.proofs.Common.{◌≡◌, ◌∙◌, inl, inr, ◌++◌, ◌≤◌, ◌*ℤ◌, ◌+ℤ◌, ℕ, suc, ℤ, pos, List, [], ◌∷◌, ap, refl, subst, sym}
use Rattle.std.specs.Prelude.{Option, Some, None}
use Rattle.std.specs.Io.KnownBytes.{Appends}
use Rattle.std.proofs.lemmas.List.{append_cancel_left}
use Rattle.term_model.specs.Books.{Book}
use Rattle.term_model.specs.Declarations.{Declarations, at_one_scale}
use Rattle.term_model.specs.Environments.{Environment, Extends}
use Rattle.term_model.specs.Horizons.{horizon_of}
use Rattle.term_model.specs.Terms.{Contract}
use Rattle.term_model.proofs.MeaningFacts.{one_meaning}
use Rattle.term_model.proofs.VerdictFacts.{accepted_at_one_scale}
use Rattle.contract_grammar.specs.Texts.{Text}
use Rattle.contract_parse.proofs.OneText.{one_text}
use Rattle.contract_print.specs.Migrated.{migrated}
use Rattle.payoff_terms.specs.CodeAcceptance.{IsAcceptedCode}
use Rattle.payoff_terms.specs.CodeBooks.{CodeBook}
use Rattle.payoff_lang.specs.CodeFiles.{CodeText}
use Rattle.payoff_terms.specs.CodeValues.{Asked as Question, factor_on}
use Rattle.payoff_terms.specs.Meaning.{CodeMeans, Counting, Remaining, counting, of_past}
use Rattle.payoff_terms.specs.PresentValues.{present_value}
use Rattle.payoff_lang.proofs.OneCode.{one_code_text}
use Rattle.payoff_terms.proofs.SumFacts.{same_sum}
use Rattle.command_words.specs.Commands.{AdvanceAsked, Check, Migrate, PayoffAsked, Scenarios, ScenariosAsked, Value, ValueAsked}
use Rattle.scenario_set.specs.Scenarios.{NamedMap}
use Rattle.lifecycle_commands.specs.AdvancePromise.{IsRestBook}
use Rattle.command_courses.specs.Course.{Answers, stopped, told}
use Rattle.valuation_commands.specs.DueOfScenarios.{CauseOfScenarios}
use Rattle.valuation_commands.specs.DueOfValue.{CauseOfValue, CodeIsRefused, IsAcceptedAtSetting}
use Rattle.command_courses.specs.Inputs.{file_at}
use Rattle.command_courses.specs.Statuses.{status_of}
use Rattle.valuation_commands.specs.ScenariosCourse.{scenarios_course}
use Rattle.valuation_commands.specs.ScenariosPromise.{inquiry_in}
use Rattle.valuation_commands.specs.ValueCourse.{value_course}
use Rattle.valuation_commands.specs.ValuePromise.{question, setting_by}
use Rattle.command_courses.specs.declared.status.Status.{Status}
use Rattle.command_courses.specs.declared.status.Status.TheVariants as status
use Rattle.valuation_commands.proofs.DueOfScenarioFacts.{due_of_scenarios}
use Rattle.valuation_commands.proofs.DueOfValueFacts.{due_of_value}
use Rattle.contract_cli.specs.AdvanceLaws.{IsCarriedBook, IsTextOfRest}
use Rattle.contract_cli.specs.Headline.{AreWorthIn, HasAdvanced, HasCompiled, HasTotalled, HasValued, IsAcceptedAtNumbers, IsWorthOf, at_numbers}
use Rattle.contract_cli.specs.PayoffLaws.{counted}
use Rattle.contract_cli.specs.Seen.{Edge, SinkLeft, WasRead, WritesAll}
use Rattle.contract_cli.specs.TwoRuns.{AdvancedTextsAdvance, AdvancedTextsAreAccepted, MigratedTextsAreTexts, Passes, Printed, PrintedCodeIsTaken, PrintedCodeIsTakenByScenarios, PrintedCodeIsTotalled, PrintedCodeIsValued}
use Rattle.contract_cli.proofs.ComposeFacts.{advances_compose}
use Rattle.contract_cli.proofs.HeadlineFacts.{headline}
use Rattle.contract_cli.proofs.LawFacts.{done_has_told, statuses_over_files_are_exact}
use Rattle.contract_cli.proofs.RunSound.{first_read, first_told, same_bytes}
use Rattle.contract_cli.proofs.TextRuns.{has_migrated}

-- ---- one text is passed on

grown_by : (before after text : List ℕ) (old new : Option (List ℕ)) → old ≡ Some before → new ≡ Some after → Appends old new text → after ≡ before ++ text
grown_by before after text None new e f h = absurd cc
grown_by before after text (Some xs) None e f h = absurd cc
grown_by before after text (Some xs) (Some ys) e f h =
    let first : xs ≡ before = cc in
    let last : ys ≡ after = cc in
    sym last ∙ h ∙ ap (λ (zs : List ℕ). zs ++ text) first

pub held_same : (one other : List ℕ) (held : Option (List ℕ)) → held ≡ Some one → held ≡ Some other → one ≡ other
held_same one other held e f = cc

-- what was written is what was printed
pub was_printed : (sink : SinkLeft) (text written : List ℕ) → Printed sink text → WritesAll sink written → written ≡ text
was_printed sink text written p w =
    append_cancel_left p.before written text
    (sym (grown_by p.before (p.before ++ text) written sink.taken_before sink.taken_after p.held p.holds w))

-- what the second run has read of the file is what the first has written
pub was_passed : (first second : Edge) (file written read : List ℕ) → Passes first second file → WritesAll first.sink written → WasRead second.files.contents file read → read ≡ written
was_passed first second file written read p w r =
    same_bytes second.files.contents file read p.text r p.told ∙ sym (was_printed first.sink p.text written p.printed w)

-- ---- `payoff`, and then `value`

code_passed : (first second : Edge) (compiled : PayoffAsked) (asked : ValueAsked) (h : HasCompiled first compiled) (k : HasValued second asked)
    → Passes first second asked.files.code → k.book ≡ h.code.file
code_passed first second compiled asked h k p =
    let code = first_read second.files.contents asked.files.code (asked.files.fixings ∷ asked.files.curve ∷ []) k.inputs k.read in
    let bytes = was_passed first second asked.files.code h.text (file_at k.inputs 0) p h.ran.written code in
    one_code_text h.text k.book h.code.file (subst (λ (x : List ℕ). CodeText x k.book) bytes k.spelled) h.code.spelled

-- what a contract is worth where each asset has the decimals of the amounts it is worth under its own declarations
same_worth : (d : Declarations) (c : Contract) (env : Environment) (asks : Question) → present_value (at_one_scale d) c env (pos d.start) asks ≡ present_value d c env (pos d.start) asks
same_worth d c env asks =
    let meaning = one_meaning (at_one_scale d) d (record { amounts = refl; labels = refl }) in
    let start = pos d.start in
    same_sum (suc (horizon_of c)) _ _
    (λ i before. ap (λ (m : ℤ). factor_on asks (start +ℤ pos i) *ℤ m) (meaning.amounts c env start (pos i) asks.flow))

worth_at_own_scale : (d : Declarations) (asked : ValueAsked) (fixings : Environment) (asks : Question) (amount : ℤ) (c : Contract)
    → IsWorthOf (at_one_scale d) asked fixings asks amount c → IsWorthOf d asked fixings asks amount c
worth_at_own_scale d asked fixings asks amount c worth accepted env admitted extends =
    worth (accepted_at_one_scale d (at_numbers asked d c) accepted) env admitted extends ∙ same_worth d (at_numbers asked d c) env (counting (pos 0) asks)

pub printed_code_is_valued : PrintedCodeIsValued
printed_code_is_valued words more first second compiled asked one plain two p =
    let h = (headline words first status.Done one.done).compiles compiled one.named refl in
    let k = (headline more second status.Done two.done).values asked two.named refl in
    let same = code_passed first second compiled asked h k p in
    let d = h.book.declarations in
    let c = h.code.contr in
    let cut : CodeMeans (at_one_scale d) h.code.file.code c Remaining =
    subst (λ (x : Counting). CodeMeans (at_one_scale d) h.code.file.code c x) (ap counted plain) h.code.code.means
    in
    let whole = subst (λ (x : Declarations). CodeMeans x h.code.file.code c Remaining) (sym h.code.declarations) cut in
    let means = subst (λ (x : CodeBook). CodeMeans x.declarations x.code c Remaining) (sym same) whole in
    let asks = question k.can.day k.can.curve k.can.flow in
    let there = subst (λ (x : Declarations). IsWorthOf x asked k.can.fixings asks k.amount c) (ap (λ (x : CodeBook). x.declarations) same ∙ h.code.declarations) (k.worth c means) in
    record { compiling = h; valuing = k; same_code = same; worth = worth_at_own_scale d asked k.can.fixings asks k.amount c there }

-- what `value` answers to a text of code, but the number, has its cause in the code file
module _ (asked : ValueAsked) (inputs : List (List ℕ)) (b : CodeBook) (spelled : CodeText (file_at inputs 0) b) where
  abbrev CauseOf : Status → CodeBook → Type 0
  CauseOf s code = CauseOfValue s asked (file_at inputs 1) (file_at inputs 2) code

  cause_of : (s : Status) (text : List ℕ) → (s ≡ status.Done → ⊥) → Answers (value_course asked inputs) s text → CauseOf s b
  cause_of s text not_done (stopped f (inl bad) e line) = absurd (bad.no_code b spelled)
  cause_of s text not_done (stopped f (inr h) e line) =
      let cause : CauseOf (status_of f) h.0 = (due_of_value asked (file_at inputs 1) (file_at inputs 2) h.0).cause f h.2 in
      subst (λ (code : CodeBook). CauseOf s code) (one_code_text (file_at inputs 0) h.0 b h.1 spelled) (subst (λ (x : Status). CauseOf x h.0) (sym e) cause)
  cause_of s text not_done (told (code, is, (flow, names, (day, is_day, (_, accepted, (fixings, are, (factors, hold, (_, fixed, (done, worth))))))))) = absurd (not_done done)

-- the code of the text is not refused where the contract is accepted
never_refused : (first : Edge) (compiled : PayoffAsked) (asked : ValueAsked) (h : HasCompiled first compiled) → IsAcceptedAtNumbers asked h.book.declarations h.code.contr
    → CodeIsRefused asked h.code.file → ⊥
never_refused first compiled asked h accepted cause =
    let d = h.book.declarations in
    let there = h.code.code.accepted (setting_by d asked.settings) (accepted_at_one_scale d (at_numbers asked d h.code.contr) accepted) in
    let here : IsAcceptedAtSetting asked h.code.file = subst (λ (d : Declarations). IsAcceptedCode d (setting_by d asked.settings) h.code.file.code) (sym h.code.declarations) there in
    cause.refused here

pub printed_code_is_taken : PrintedCodeIsTaken
printed_code_is_taken words more first second s compiled asked inputs one m r p =
    let h = (headline words first status.Done one.done).compiles compiled one.named refl in
    let file = file_at inputs 0 in
    let held = first_told second.files asked.files.code (asked.files.fixings ∷ asked.files.curve ∷ []) inputs r.whole in
    let bytes : file ≡ h.text = held_same file p.text _ held p.told ∙ sym (was_printed first.sink p.text h.text p.printed h.ran.written) in
    let spelled : CodeText file h.code.file = subst (λ (x : List ℕ). CodeText x h.code.file) (sym bytes) h.code.spelled in
    let exact = λ (wanted : Status). statuses_over_files_are_exact more second s wanted (Value asked) inputs m r in
    record {
      compiling = h;
      is_code = λ is.
          (let a = ((exact status.BadText (λ (e : status.BadText ≡ status.NoMemory). cc)).only is).1 in
          cause_of asked inputs h.code.file spelled status.BadText a.0 (λ (e : status.BadText ≡ status.Done). cc) a.1);
      not_refused = λ accepted is.
          (let a = ((exact status.Refused (λ (e : status.Refused ≡ status.NoMemory). cc)).only is).1 in
          never_refused first compiled asked h accepted (cause_of asked inputs h.code.file spelled status.Refused a.0 (λ (e : status.Refused ≡ status.Done). cc) a.1));
    }

-- ---- `payoff`, and then `scenarios`

worths_at_own_scale : (d : Declarations) (asked : ValueAsked) (asks : Question) (set : List NamedMap) (values : List ℤ) (c : Contract) (v : Counting)
    → AreWorthIn (at_one_scale d) asked asks set values c v → AreWorthIn d asked asks set values c v
worths_at_own_scale d asked asks set values c v worth accepted i s stands env admitted extends =
    worth (accepted_at_one_scale d (at_numbers asked d c) accepted) i s stands env admitted extends ∙ same_worth d (at_numbers asked d c) env (counting (of_past v) asks)

totalled_code_passed : (first second : Edge) (compiled : PayoffAsked) (asked : ScenariosAsked) (h : HasCompiled first compiled) (k : HasTotalled second asked)
    → Passes first second asked.value.files.code → k.book ≡ h.code.file
totalled_code_passed first second compiled asked h k p =
    let files = asked.value.files in
    let code = first_read second.files.contents files.code (files.fixings ∷ files.curve ∷ []) k.inputs k.read in
    let bytes = was_passed first second files.code h.text (file_at k.inputs 0) p h.ran.written code in
    one_code_text h.text k.book h.code.file (subst (λ (x : List ℕ). CodeText x k.book) bytes k.spelled) h.code.spelled

pub printed_code_is_totalled : PrintedCodeIsTotalled
printed_code_is_totalled words more first second compiled asked one two p =
    let h = (headline words first status.Done one.done).compiles compiled one.named refl in
    let k = (headline more second status.Done two.done).totals asked two.named refl in
    let same = totalled_code_passed first second compiled asked h k p in
    let d = h.book.declarations in
    let c = h.code.contr in
    let v = counted compiled.plain in
    let whole = subst (λ (x : Declarations). CodeMeans x h.code.file.code c v) (sym h.code.declarations) h.code.code.means in
    let means = subst (λ (x : CodeBook). CodeMeans x.declarations x.code c v) (sym same) whole in
    let asks = (inquiry_in k.can.asks).asked in
    let values = k.totals.values.items in
    let at = ap (λ (x : CodeBook). x.declarations) same ∙ h.code.declarations in
    let there = subst (λ (x : Declarations). AreWorthIn x asked.value asks k.can.asks.set values c v) at (k.worth c v means) in
    record { compiling = h; totalling = k; same_code = same; worth = worths_at_own_scale d asked.value asks k.can.asks.set values c v there }

-- what `scenarios` answers to a text of code, but the values, has its cause in the code file
module _ (asked : ScenariosAsked) (inputs : List (List ℕ)) (b : CodeBook) (spelled : CodeText (file_at inputs 0) b) where
  abbrev CauseIn : Status → CodeBook → Type 0
  CauseIn s code = CauseOfScenarios s asked.value (file_at inputs 1) (file_at inputs 2) code

  cause_in : (s : Status) (text : List ℕ) → (s ≡ status.Done → ⊥) → Answers (scenarios_course asked inputs) s text → CauseIn s b
  cause_in s text not_done (stopped f (inl bad) e line) = absurd (bad.no_code b spelled)
  cause_in s text not_done (stopped f (inr h) e line) =
      let cause : CauseIn (status_of f) h.0 = (due_of_scenarios asked (file_at inputs 1) (file_at inputs 2) h.0).cause f h.2 in
      subst (λ (code : CodeBook). CauseIn s code) (one_code_text (file_at inputs 0) h.0 b h.1 spelled) (subst (λ (x : Status). CauseIn x h.0) (sym e) cause)
  cause_in s text not_done (told (code, is, (flow, names, (day, is_day, (_, accepted, (set, holds, (factors, are, (_, few, (_, fixed, (done, lines)))))))))) = absurd (not_done done)

pub printed_code_is_taken_by_scenarios : PrintedCodeIsTakenByScenarios
printed_code_is_taken_by_scenarios words more first second s compiled asked inputs one m r p =
    let h = (headline words first status.Done one.done).compiles compiled one.named refl in
    let files = asked.value.files in
    let file = file_at inputs 0 in
    let held = first_told second.files files.code (files.fixings ∷ files.curve ∷ []) inputs r.whole in
    let bytes : file ≡ h.text = held_same file p.text _ held p.told ∙ sym (was_printed first.sink p.text h.text p.printed h.ran.written) in
    let spelled : CodeText file h.code.file = subst (λ (x : List ℕ). CodeText x h.code.file) (sym bytes) h.code.spelled in
    let exact = λ (wanted : Status). statuses_over_files_are_exact more second s wanted (Scenarios asked) inputs m r in
    record {
      compiling = h;
      is_code = λ is.
          (let a = ((exact status.BadText (λ (e : status.BadText ≡ status.NoMemory). cc)).only is).1 in
          cause_in asked inputs h.code.file spelled status.BadText a.0 (λ (e : status.BadText ≡ status.Done). cc) a.1);
      not_refused = λ accepted is.
          (let a = ((exact status.Refused (λ (e : status.Refused ≡ status.NoMemory). cc)).only is).1 in
          never_refused first compiled asked.value h accepted (cause_in asked inputs h.code.file spelled status.Refused a.0 (λ (e : status.Refused ≡ status.Done). cc) a.1));
    }

-- ---- `advance`, and then `advance`

portfolio_passed : (first second : Edge) (asked later : AdvanceAsked) (h : HasAdvanced first asked) (k : HasAdvanced second later)
    → Passes first second later.portfolio → k.book ≡ h.rest.rest
portfolio_passed first second asked later h k p =
    let portfolio = first_read second.files.contents later.portfolio (later.fixings ∷ []) k.inputs k.ran.read in
    let bytes = was_passed first second later.portfolio h.text (file_at k.inputs 0) p h.ran.written portfolio in
    one_text h.text k.book h.rest.rest (subst (λ (x : List ℕ). Text x k.book) bytes k.ran.spelled) h.rest.spelled

carried_on : (b next : Book) (asked later : AdvanceAsked) (table other : Option (List ℕ)) (text after : List ℕ)
    (h : IsTextOfRest b asked table text) (k : IsTextOfRest next later other after) → next ≡ h.rest → Extends h.fixings k.fixings → IsCarriedBook b k.fixings k.day k.rest
carried_on b next asked later table other text after h k same extends =
    let left : IsRestBook h.rest k.fixings k.day k.rest = subst (λ (x : Book). IsRestBook x k.fixings k.day k.rest) same k.is_rest in
    let begun = ap (λ (x : Book). x.declarations.start) same ∙ ap (λ d. d.start) h.is_rest.declarations in
    let no_sooner : h.day ≤ k.day = subst (λ (n : ℕ). n ≤ k.day) begun k.can.is_day.no_sooner in
    advances_compose b h.rest k.rest h.fixings k.fixings h.day k.day h.can.is_day.no_sooner no_sooner extends h.is_rest left

pub advanced_texts_advance : AdvancedTextsAdvance
advanced_texts_advance words more first second asked later one two p =
    let h = (headline words first status.Done one.done).advances asked one.named refl in
    let k = (headline more second status.Done two.done).advances later two.named refl in
    let same = portfolio_passed first second asked later h k p in
    record {
      earlier = h;
      next = k;
      same_portfolio = same;
      carries = carried_on h.book k.book asked later (Some (file_at h.inputs 1)) (Some (file_at k.inputs 1)) h.text k.text h.rest k.rest same;
    }

pub advanced_texts_are_accepted : AdvancedTextsAreAccepted
advanced_texts_are_accepted words more first second s asked file inputs one m r p =
    let h = (headline words first status.Done one.done).advances asked one.named refl in
    let read = file_at inputs 0 in
    let held = first_told second.files file [] inputs r.whole in
    let bytes : read ≡ h.text = held_same read p.text _ held p.told ∙ sym (was_printed first.sink p.text h.text p.printed h.ran.written) in
    let spelled : Text read h.rest.rest = subst (λ (x : List ℕ). Text x h.rest.rest) (sym bytes) h.rest.spelled in
    let exact = statuses_over_files_are_exact more second s status.Done (Check file) inputs m r (λ (e : status.Done ≡ status.NoMemory). cc) in
    exact.comes (inr (h.rest.rest, spelled, inl (refl, h.rest.accepted)))

-- ---- `migrate`, and then any command

pub migrated_texts_are_texts : MigratedTextsAreTexts
migrated_texts_are_texts words first second file from one p =
    let h = has_migrated words first file (done_has_told words first (Migrate file) one.named one.done) in
    record { migrating = h; spelled = subst (λ (x : List ℕ). Text x (migrated h.book)) (was_printed first.sink p.text h.text p.printed h.ran.written) h.is_text }
