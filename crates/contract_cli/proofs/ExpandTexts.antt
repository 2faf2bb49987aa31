-- What `expand` prints is a text of a portfolio, and what `flows` prints of that text are the lines of what the plans pay.
use Rattle.std.proofs.Common.{◌≡◌, ◌∙◌, inl, inr, ◌-ℤ◌, ◌+ℤ◌, ◌-◌, ℕ, ℤ, pos, Bool, true, false, cond, List, [], ◌∷◌, map, ap, ap₂, refl, subst, sym}
use Rattle.std.specs.Prelude.{All, Option, None}
use Rattle.std.specs.List.{filter}
use Rattle.std.proofs.Math.Path.{fun_ext}
use Rattle.std.proofs.lemmas.List.Elements.{All-cons, All-head, All-nil, All-tail}
use Rattle.decimal.specs.Rounding.{raised}
use Rattle.term_model.specs.declared.name.Name.{Name}
use Rattle.term_model.specs.Books.{Book}
use Rattle.term_model.specs.Declarations.{Declarations}
use Rattle.term_model.specs.Environments.{Environment}
use Rattle.term_model.specs.Flows.{Flow}
use Rattle.term_model.specs.Instances.{declared_numbers}
use Rattle.term_model.specs.Terms.{Contract}
use Rattle.contract_grammar.specs.Texts.{Text}
use Rattle.contract_parse.proofs.OneText.{one_text}
use Rattle.flow_eval.specs.Tables.{IsTable, paid_by}
use Rattle.schedule_forms.specs.DeclaredPlans.{IsPlanOfTexts}
use Rattle.schedule_forms.specs.Expansions.{expansion}
use Rattle.schedule_forms.specs.LawsSchedules.{PaysAsPlanned}
use Rattle.schedule_forms.specs.PlanBooks.{expanded_book}
use Rattle.schedule_forms.specs.declared.plans.Plan.{Plan}
use Rattle.schedule_forms.proofs.TextPlans.{texts_expandable}
use Rattle.command_words.specs.Commands.{Check, Expand, Flows, FlowsAsked, file_if_named, files_of}
use Rattle.used_contracts.specs.AllAccepted.{AreAllAccepted}
use Rattle.command_courses.specs.Course.{Tells}
use Rattle.text_commands.specs.ExpandParts.{expanded_entry}
use Rattle.flow_commands.specs.FlowsCourse.{flows_on, table_named}
use Rattle.flow_commands.specs.FlowsPromise.{AreAllLines, AreLinesAsked, paid_together}
use Rattle.command_courses.specs.Inputs.{file_at}
use Rattle.used_contracts.specs.UsedContracts.{at_defaults, is_asked, used}
use Rattle.command_courses.specs.declared.status.Status.TheVariants as status
use Rattle.text_commands.proofs.ExpandFacts.{expansion_numbers}
use Rattle.used_contracts.proofs.UsedFacts.{own_instance, used_of}
use Rattle.contract_cli.specs.ExpandLaws.{AreLinesOfPlans, ArePlanLinesAsked, ExpandedPlansAreListed, ExpandedTextsAreAccepted, ExpandedTextsAreTexts}
use Rattle.contract_cli.specs.ExpandLaws.{ListsPlans, paid_as_planned, planned_together, plans_asked}
use Rattle.contract_cli.specs.Headline.{HasExpanded}
use Rattle.contract_cli.specs.Reading.{WereRead}
use Rattle.contract_cli.specs.Seen.{Edge, WritesAll}
use Rattle.contract_cli.specs.TwoRuns.{Passes}
use Rattle.contract_cli.proofs.LawFacts.{done_has_told, statuses_over_files_are_exact}
use Rattle.contract_cli.proofs.RunSound.{first_read, first_told}
use Rattle.contract_cli.proofs.TextRuns.{has_expanded}
use Rattle.contract_cli.proofs.TwoRunFacts.{held_same, was_passed, was_printed}

-- ---- the portfolio that is printed

abbrev Fits : Declarations → Name × Plan → Type 0
Fits d entry = IsPlanOfTexts d entry.1

-- expansions name no template, so they are used as they are
expansions_used : (d : Declarations) (plans : List (Name × Plan)) → All (Fits d) plans → used_of None d (map expanded_entry plans) ≡ map expanded_entry plans
expansions_used d [] all = refl
expansions_used d (entry ∷ plans) all =
    ap₂ (λ (c : Contract) (es : List (Name × Contract)). (entry.0, c) ∷ es)
    (own_instance (declared_numbers d) (expansion entry.1) (expansion_numbers d entry.1 (All-head (Fits d) entry plans all)))
    (expansions_used d plans (All-tail (Fits d) entry plans all))

pub expanded_texts_are_texts : ExpandedTextsAreTexts
expanded_texts_are_texts words edge file one = has_expanded words edge file (done_has_told words edge (Expand file) one.named one.done)

-- ---- `check` of it

pub expanded_texts_are_accepted : ExpandedTextsAreAccepted
expanded_texts_are_accepted words more first second s file «from» inputs one m r p =
    let h = expanded_texts_are_texts words first file one in
    let b = h.plans in
    let d = b.declarations in
    let read = file_at inputs 0 in
    let held = first_told second.files «from» [] inputs r.whole in
    let bytes : read ≡ h.text = held_same read p.text _ held p.told ∙ sym (was_printed first.sink p.text h.text p.printed h.written) in
    let spelled : Text read (expanded_book b) = subst (λ (x : List ℕ). Text x (expanded_book b)) (sym bytes) h.is_text in
    let same = expansions_used d b.plans (texts_expandable (file_at h.inputs 0) b h.spelled) in
    let accepted : AreAllAccepted d (used None (expanded_book b)) = subst (λ (es : List (Name × Contract)). AreAllAccepted d es) (sym same) h.accepted in
    let exact = statuses_over_files_are_exact more second s status.Done (Check «from») inputs m r (λ (e : status.Done ≡ status.NoMemory). cc) in
    exact.comes (inr (expanded_book b, spelled, inl (refl, accepted)))

-- ---- the contracts that are asked for

module _ (d : Declarations) (only : Option (List ℕ)) where
  by_test : (is : Bool) (entry : Name × Plan) (plans : List (Name × Plan)) → Fits d entry → used_of only d (map expanded_entry plans) ≡ map expanded_entry (filter (λ e. is_asked only e.0) plans)
      → map (at_defaults d) (cond is (expanded_entry entry ∷ filter (λ e. is_asked only e.0) (map expanded_entry plans)) (filter (λ e. is_asked only e.0) (map expanded_entry plans)))
      ≡ map expanded_entry (cond is (entry ∷ filter (λ e. is_asked only e.0) plans) (filter (λ e. is_asked only e.0) plans))
  by_test true entry plans fit rest =
      ap₂ (λ (c : Contract) (es : List (Name × Contract)). (entry.0, c) ∷ es) (own_instance (declared_numbers d) (expansion entry.1) (expansion_numbers d entry.1 fit)) rest
  by_test false entry plans fit rest = rest

  pub asked_expansions : (plans : List (Name × Plan)) → All (Fits d) plans → used_of only d (map expanded_entry plans) ≡ map expanded_entry (filter (λ e. is_asked only e.0) plans)
  asked_expansions [] all = refl
  asked_expansions (entry ∷ plans) all =
      by_test (is_asked only entry.0) entry plans (All-head (Fits d) entry plans all) (asked_expansions plans (All-tail (Fits d) entry plans all))

  by_keep : (P : Name × Plan → Type 0) (is : Bool) (entry : Name × Plan) (kept : List (Name × Plan)) → P entry → All P kept → All P (cond is (entry ∷ kept) kept)
  by_keep P true entry kept here all = All-cons P entry kept here all
  by_keep P false entry kept here all = all

  pub asked_fit : (P : Name × Plan → Type 0) (plans : List (Name × Plan)) → All P plans → All P (filter (λ e. is_asked only e.0) plans)
  asked_fit P [] all = All-nil P
  asked_fit P (entry ∷ plans) all =
      by_keep P (is_asked only entry.0) entry (filter (λ e. is_asked only e.0) plans) (All-head P entry plans all) (asked_fit P plans (All-tail P entry plans all))

-- ---- their lines are those of the plans

module _ (d : Declarations) where
  abbrev Paid : Name × Plan → Type 0
  Paid entry = PaysAsPlanned d (expansion entry.1) entry.1

  pays_the_plan : (plan : Plan) (env : Environment) → PaysAsPlanned d (expansion plan) plan → paid_by d (expansion plan) env (pos d.start) ≡ paid_as_planned d plan env
  pays_the_plan plan env pays =
      fun_ext (λ day. fun_ext (λ w. ap₂ (λ (m : ℤ) (k : ℕ). raised m (d.amounts - k)) (pays.flows env (pos d.start) (day -ℤ pos d.start) w) pays.scale))

  module _ (fixings : Environment) (last : ℤ) where
    plan_lines : (entries : List (Name × Plan)) (text : List ℕ) → All Paid entries → AreAllLines d fixings last (map expanded_entry entries) text → AreLinesOfPlans d fixings last entries text
    plan_lines [] text all is = is
    plan_lines (entry ∷ entries) text all (first, rest, one, others, is) =
        let pays = All-head Paid entry entries all in (
          first,
          rest,
          record {
            rows = one.rows;
            table = λ env extends. subst (λ (paid : ℤ → Flow → ℤ). IsTable paid (pos d.start) last one.rows) (pays_the_plan entry.1 env pays) (one.flows.table env extends);
            lines = one.lines;
          },
          plan_lines entries rest (All-tail Paid entry entries all) others,
          is,
        )

    pay_together : (env : Environment) (entries : List (Name × Plan)) (day : ℤ) (w : Flow) → All Paid entries
        → paid_together d (map expanded_entry entries) env day w ≡ planned_together d entries env day w
    pay_together env [] day w all = refl
    pay_together env (entry ∷ entries) day w all =
        ap₂ (λ (m n : ℤ). m +ℤ n) (ap (λ (paid : ℤ → Flow → ℤ). paid day w) (pays_the_plan entry.1 env (All-head Paid entry entries all)))
        (pay_together env entries day w (All-tail Paid entry entries all))

    plan_lines_asked : (net : Bool) (entries : List (Name × Plan)) (text : List ℕ) → All Paid entries → AreLinesAsked net d fixings last (map expanded_entry entries) text
        → ArePlanLinesAsked net d fixings last entries text
    plan_lines_asked false entries text all h = plan_lines entries text all h
    plan_lines_asked true entries text all h = record {
      rows = h.rows;
      table = λ env extends.
          subst (λ (paid : ℤ → Flow → ℤ). IsTable paid (pos d.start) last h.rows) (fun_ext (λ day. fun_ext (λ w. pay_together env entries day w all))) (h.table env extends);
      lines = h.lines;
    }

-- ---- `flows` of it

portfolio_passed : (first second : Edge) (file : List ℕ) (asked : FlowsAsked) (h : HasExpanded first file) (inputs : List (List ℕ)) (b : Book)
    → WereRead second.files.contents (files_of (Flows asked)) inputs → Text (file_at inputs 0) b → Passes first second asked.portfolio → b ≡ expanded_book h.plans
portfolio_passed first second file asked h inputs b read spelled p =
    let portfolio = first_read second.files.contents asked.portfolio (file_if_named asked.fixings) inputs read in
    let bytes = was_passed first second asked.portfolio h.text (file_at inputs 0) p h.written portfolio in
    one_text h.text b (expanded_book h.plans) (subst (λ (x : List ℕ). Text x b) bytes spelled) h.is_text

listed : (first second : Edge) (file : List ℕ) (asked : FlowsAsked) (h : HasExpanded first file) (inputs : List (List ℕ)) (text : List ℕ)
    → WereRead second.files.contents (files_of (Flows asked)) inputs → WritesAll second.sink text
    → Tells (flows_on asked (expanded_book h.plans) (table_named asked inputs)) status.Done text → ListsPlans first file second asked
listed first second file asked h inputs text read written (a, known, (last, is_last, (c, accepted, (fixings, are_fixings, (e, fixed, (done, lines)))))) =
    let plans = h.plans in
    let d = plans.declarations in
    let only = asked.contract in
    let same = asked_expansions d only plans.plans (texts_expandable (file_at h.inputs 0) plans h.spelled) in
    let paid = asked_fit d only (Paid d) plans.plans h.paid in
    record {
      expanding = h;
      inputs = inputs;
      read = read;
      last = last;
      is_last = is_last;
      fixings = fixings;
      are_fixings = are_fixings;
      text = text;
      lines = plan_lines_asked d fixings last asked.net (plans_asked only plans) text paid
          (subst (λ (es : List (Name × Contract)). AreLinesAsked asked.net d fixings last es text) same lines);
      written = written;
    }

pub expanded_plans_are_listed : ExpandedPlansAreListed
expanded_plans_are_listed words more first second file asked one two p =
    let h = expanded_texts_are_texts words first file one in
    let k = done_has_told more second (Flows asked) two.named two.done in
    let table = table_named asked k.inputs in
    let same = portfolio_passed first second file asked h k.inputs k.told.0 k.read k.told.1 p in
    let told = subst (λ (b : Book). Tells (flows_on asked b table) status.Done k.text) same k.told.2 in
    listed first second file asked h k.inputs k.text k.read k.line told
