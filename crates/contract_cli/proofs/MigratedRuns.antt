-- What `check`, `flows` and `advance` answer to what `migrate` has printed, they answer to the portfolio that was migrated.
use Rattle.std.proofs.Common.{◌≡◌, inl, inr, ℕ, ◌-◌, true, List, [], ◌∷◌, refl, subst, sym, ap, ◌∙◌}
use Rattle.std.specs.Prelude.{Option, None, Some}
use Rattle.term_model.specs.Books.{Book}
use Rattle.term_model.specs.Declarations.{Declarations}
use Rattle.term_model.specs.Environments.{Environment}
use Rattle.contract_grammar.specs.Texts.{Text}
use Rattle.contract_parse.proofs.OneText.{one_text}
use Rattle.contract_print.specs.Canon.{IsCanon}
use Rattle.contract_print.specs.Migrated.{in_version_two, migrated}
use Rattle.report.specs.declared.fault_lines.Fault.{Fault}
use Rattle.command_words.specs.Commands.{Advance, AdvanceAsked, Check, Flows, FlowsAsked, Migrate, file_if_named}
use Rattle.command_courses.specs.Course.{Answers, Course, Stops, Tells, behind, ends, stopped, told}
use Rattle.command_courses.specs.Days.{greatest_day}
use Rattle.command_courses.specs.Inputs.{file_at, table_if_named}
use Rattle.command_courses.specs.declared.status.Status.{Status}
use Rattle.command_courses.specs.declared.status.Status.TheVariants as status
use Rattle.used_contracts.specs.Portfolios.{portfolio_of}
use Rattle.used_contracts.specs.UsedContracts.{is_known, used}
use Rattle.flow_commands.specs.FlowsCourse.{flows_on}
use Rattle.lifecycle_commands.specs.AdvanceCourse.{advance_on}
use Rattle.lifecycle_commands.specs.AdvancePromise.{IsAdvanced, IsAdvancedWith, greatest_new_day, last_gone, rest_declarations}
use Rattle.text_commands.specs.CheckPromise.{AreCheckLines, IsCheckText, Verdict}
use Rattle.contract_cli.specs.Headline.{HasMigrated}
use Rattle.contract_cli.specs.MigratedRuns.{MigratedTextsAdvance, MigratedTextsAreChecked, MigratedTextsAreListed, advance_in_version_two}
use Rattle.contract_cli.specs.RunLaws.{AreWhole}
use Rattle.contract_cli.specs.RunPromise.{written}
use Rattle.contract_cli.specs.Seen.{Edge}
use Rattle.contract_cli.specs.TwoRuns.{Passes}
use Rattle.contract_cli.proofs.LawFacts.{done_has_told, whole_answer}
use Rattle.contract_cli.proofs.MigrateFacts.{flows_there, in_version, next, still_accepted}
use Rattle.contract_cli.proofs.RunSound.{first_told}
use Rattle.contract_cli.proofs.TextRuns.{has_migrated}
use Rattle.contract_cli.proofs.TwoRunFacts.{held_same, was_printed}
use Rattle.contract_cli.proofs.VersionFacts.{due_there, fixed_there, fixings_there, last_there, new_day_there, out_there, refused_there, residuals_there, row_there, unfixed_there, word_there}

-- ---- a portfolio in any version

module _ (v : ℕ) (b : Book) where
  abbrev d : Declarations
  d = b.declarations

  known_same : (only : Option (List ℕ)) → is_known only b ≡ is_known only (in_version v b)
  known_same None = refl
  known_same (Some word) = refl

  known_there : (only : Option (List ℕ)) → is_known only b ≡ true → is_known only (in_version v b) ≡ true
  known_there only h = sym (known_same only) ∙ h

  flows_stop_there : (asked : FlowsAsked) (table : Option (List ℕ)) (f : Fault) → Stops (flows_on asked b table) f → Stops (flows_on asked (in_version v b) table) f
  flows_stop_there asked table f (inl h) =
      inl (record { name = h.name; given = h.given; unknown = sym (known_same asked.contract) ∙ h.unknown; fault_is = h.fault_is })
  flows_stop_there asked table f (inr (a, known, inl h)) =
      inr (a, known_there asked.contract known, inl (record { word = h.word; given = h.given; out = out_there d v greatest_day h.word h.out; fault_is = h.fault_is }))
  flows_stop_there asked table f (inr (a, known, inr (last, is, inl h))) =
      inr (a, known_there asked.contract known, inr (last, last_there d v asked.until last is, inl (refused_there d v (used asked.contract b) f h)))
  flows_stop_there asked table f (inr (a, known, inr (last, is, inr (c, all, inl h)))) =
      let accepted = still_accepted d v (used asked.contract b) all in
      inr (a, known_there asked.contract known, inr (last, last_there d v asked.until last is, inr (c, accepted, inl (row_there d v table 2 f h))))
  flows_stop_there asked table f (inr (a, known, inr (last, is, inr (c, all, inr (fixings, are, inl h))))) =
      let accepted = still_accepted d v (used asked.contract b) all in
      let missing = unfixed_there d v fixings last (used asked.contract b) f h in
      inr (a, known_there asked.contract known, inr (last, last_there d v asked.until last is, inr (c, accepted, inr (fixings, fixings_there d v table fixings are, inl missing))))
  flows_stop_there asked table f (inr (a, known, inr (last, is, inr (c, all, inr (fixings, are, inr (e, fixed, none)))))) = absurd none

  flows_told_there : (asked : FlowsAsked) (table : Option (List ℕ)) (s : Status) (text : List ℕ) → Tells (flows_on asked b table) s text → Tells (flows_on asked (in_version v b) table) s text
  flows_told_there asked table s text (a, known, (last, is, (c, all, (fixings, are, (e, fixed, (done, lines)))))) =
      let accepted = still_accepted d v (used asked.contract b) all in
      let all_fixed = fixed_there d v fixings last (used asked.contract b) fixed in
      let there = flows_there v b asked.net asked.contract fixings last text lines in
      (a, known_there asked.contract known, (last, last_there d v asked.until last is, (c, accepted, (fixings, fixings_there d v table fixings are, (e, all_fixed, (done, there))))))

  pub flows_answer_there : (asked : FlowsAsked) (table : Option (List ℕ)) (s : Status) (text : List ℕ) → Answers (flows_on asked b table) s text → Answers (flows_on asked (in_version v b) table) s text
  flows_answer_there asked table s text (stopped f h e line) = stopped f (flows_stop_there asked table f h) e line
  flows_answer_there asked table s text (told h) = told (flows_told_there asked table s text h)

-- ---- what is left of a portfolio in version 2

module _ (b : Book) where
  abbrev second : Declarations
  second = in_version_two b.declarations

  abbrev first : ℕ
  first = b.declarations.version

  advanced_back : (day : ℕ) (fixings : Environment) (text : List ℕ) → IsAdvanced (migrated b) day fixings text → IsAdvancedWith migrated b day fixings text
  advanced_back day fixings text h =
      let left = h.rest.contracts in
      let same = ap (λ (x : Declarations). record { declarations = x; contracts = left }) h.is_rest.declarations in
      record {
        due = h.due;
        are_due = due_there second first fixings (last_gone day) (used None (migrated b)) h.due h.are_due;
        rest = record { declarations = rest_declarations b.declarations day; contracts = left };
        is_rest = record {
          declarations = refl;
          contracts = residuals_there second first fixings day (used None (migrated b)) left h.is_rest.contracts;
        };
        canon = h.canon;
        is_canon = subst (λ (x : Book). IsCanon h.canon x) same h.is_canon;
        is = h.is;
      }

  advance_stop_back : (asked : AdvanceAsked) (table : List ℕ) (f : Fault) → Stops (advance_on asked (migrated b) (Some table)) f → Stops (advance_in_version_two asked b table) f
  advance_stop_back asked table f (inl h) = inl (word_there second first greatest_new_day asked.to f h)
  advance_stop_back asked table f (inr (day, is, inl h)) =
      inr (day, new_day_there second first asked.to day is, inl (refused_there second first (used None (migrated b)) f h))
  advance_stop_back asked table f (inr (day, is, inr (c, all, inl h))) =
      let accepted = still_accepted second first (used None (migrated b)) all in
      inr (day, new_day_there second first asked.to day is, inr (c, accepted, inl (row_there second first (Some table) 2 f h)))
  advance_stop_back asked table f (inr (day, is, inr (c, all, inr (fixings, are, inl h)))) =
      let accepted = still_accepted second first (used None (migrated b)) all in
      let there = fixings_there second first (Some table) fixings are in
      inr (day, new_day_there second first asked.to day is, inr (c, accepted, inr (fixings, there, inl (unfixed_there second first fixings (last_gone day) (used None (migrated b)) f h))))
  advance_stop_back asked table f (inr (day, is, inr (c, all, inr (fixings, are, inr (e, fixed, none))))) = absurd none

  advance_told_back : (asked : AdvanceAsked) (table : List ℕ) (s : Status) (text : List ℕ) → Tells (advance_on asked (migrated b) (Some table)) s text → Tells (advance_in_version_two asked b table) s text
  advance_told_back asked table s text (day, is, (c, all, (fixings, are, (e, fixed, (done, advanced))))) =
      let accepted = still_accepted second first (used None (migrated b)) all in
      let there = fixings_there second first (Some table) fixings are in
      let all_fixed = fixed_there second first fixings (last_gone day) (used None (migrated b)) fixed in
      (day, new_day_there second first asked.to day is, (c, accepted, (fixings, there, (e, all_fixed, (done, advanced_back day fixings text advanced)))))

  advance_answer_back : (asked : AdvanceAsked) (table : List ℕ) (s : Status) (text : List ℕ) → Answers (advance_on asked (migrated b) (Some table)) s text → Answers (advance_in_version_two asked b table) s text
  advance_answer_back asked table s text (stopped f h e line) = stopped f (advance_stop_back asked table f h) e line
  advance_answer_back asked table s text (told h) = told (advance_told_back asked table s text h)

-- ---- the second run has read the migrated portfolio

behind_text : (course : Book → Course) (bytes : List ℕ) (b : Book) → Text bytes b → (s : Status) (text : List ℕ) → Answers (behind (portfolio_of bytes) course) s text → Answers (course b) s text
behind_text course bytes b spelled s text (stopped f (inl bad) e line) = absurd (bad.no_text b spelled)
behind_text course bytes b spelled s text (stopped f (inr h) e line) =
    stopped f (subst (λ (x : Book). Stops (course x) f) (one_text bytes h.0 b h.1 spelled) h.2) e line
behind_text course bytes b spelled s text (told h) = told (subst (λ (x : Book). Tells (course x) s text) (one_text bytes h.0 b h.1 spelled) h.2)

printed_spelled : (first second : Edge) (file «from» : List ℕ) (others inputs : List (List ℕ)) (h : HasMigrated first file) → Passes first second «from»
    → AreWhole second.files («from» ∷ others) inputs → Text (file_at inputs 0) (migrated h.book)
printed_spelled first second file «from» others inputs h p whole =
    let held = first_told second.files «from» others inputs whole in
    let bytes = held_same (file_at inputs 0) p.text _ held p.told ∙ sym (was_printed first.sink p.text h.text p.printed h.ran.written) in
    subst (λ (x : List ℕ). Text x (migrated h.book)) (sym bytes) h.is_text

check_answer : (b : Book) (s : Status) (text : List ℕ) → Answers (ends (Verdict b) (AreCheckLines b.declarations (used None b))) s text → IsCheckText b s text
check_answer b s text (stopped f h e line) = absurd h
check_answer b s text (told h) = h

pub migrated_texts_are_checked : MigratedTextsAreChecked
migrated_texts_are_checked words more first second s file «from» inputs one m r p =
    let h = has_migrated words first file (done_has_told words first (Migrate file) one.named one.done) in
    let spelled = printed_spelled first second file «from» [] inputs h p r.whole in
    elim (whole_answer more second s (Check «from») inputs m r) [
      | inl a ↦ inl (record {
        migrating = h;
        text = a.0;
        verdicts = (h.same.verdicts s a.0).1
            (check_answer (migrated h.book) s a.0
            (behind_text (λ b. ends (Verdict b) (AreCheckLines b.declarations (used None b))) (file_at inputs 0) (migrated h.book) spelled s a.0 a.1));
        written = a.2;
      })
      | inr e ↦ inr e
    ]

pub migrated_texts_are_listed : MigratedTextsAreListed
migrated_texts_are_listed words more first second s file asked inputs one m r p =
    let h = has_migrated words first file (done_has_told words first (Migrate file) one.named one.done) in
    let spelled = printed_spelled first second file asked.portfolio (file_if_named asked.fixings) inputs h p r.whole in
    let table = table_if_named asked.fixings inputs in
    elim (whole_answer more second s (Flows asked) inputs m r) [
      | inl a ↦ inl (record {
        migrating = h;
        answer = (
          a.0,
          flows_answer_there h.book.declarations.version (migrated h.book) asked table s a.0
              (behind_text (λ b. flows_on asked b table) (file_at inputs 0) (migrated h.book) spelled s a.0 a.1),
          a.2,
        );
      })
      | inr e ↦ inr e
    ]

pub migrated_texts_advance : MigratedTextsAdvance
migrated_texts_advance words more first second s file asked inputs one m r p =
    let h = has_migrated words first file (done_has_told words first (Migrate file) one.named one.done) in
    let spelled = printed_spelled first second file asked.portfolio (asked.fixings ∷ []) inputs h p r.whole in
    let table = file_at inputs 1 in
    elim (whole_answer more second s (Advance asked) inputs m r) [
      | inl a ↦ inl (record {
        migrating = h;
        answer = (
          a.0,
          advance_answer_back h.book asked table s a.0
              (behind_text (λ b. advance_on asked b (Some table)) (file_at inputs 0) (migrated h.book) spelled s a.0 a.1),
          a.2,
        );
      })
      | inr e ↦ inr e
    ]
