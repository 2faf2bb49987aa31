-- What `check`, `flows` and `advance` make of what `novate` has printed.
use Rattle.std.proofs.Common.{◌≡◌, ◌∙◌, inl, inr, ◌≤◌, ◌≤ℤ◌, ◌-ℤ◌, ◌+ℤ◌, ◌-◌, ◌+◌, ℕ, ℤ, pos, Bool, true, false, cond, List, [], ◌∷◌, map, add_assoc, ap, ap₂, arith, refl, subst, sym}
use Rattle.std.specs.Prelude.{Contains, None, Option, if◌then◌else◌, unsigned_abs}
use Rattle.std.specs.List.{AllByRecursion, filter}
use Rattle.std.specs.Str.{bytes_eq}
use Rattle.std.proofs.Math.IntN.{+ℤ_assoc}
use Rattle.std.proofs.lemmas.Int.{ints}
use Rattle.std.proofs.lemmas.Slice.Eq.{bytes_eq-Decides}
use Rattle.term_model.specs.declared.name.Name.{Name}
use Rattle.term_model.specs.Books.{Book}
use Rattle.term_model.specs.Declarations.{Declarations}
use Rattle.term_model.specs.Environments.{Environment, Extends, IsAdmitted}
use Rattle.term_model.specs.Flows.{Flow, amount_of}
use Rattle.term_model.specs.Instances.{declared_numbers}
use Rattle.term_model.specs.Reads.{reads_of_contract}
use Rattle.term_model.specs.Residuals.{Carries}
use Rattle.term_model.specs.Terms.{Contract}
use Rattle.term_model.specs.WellFormed.{HasOnlyNumbers}
use Rattle.term_model.proofs.MeaningFacts.{one_meaning}
use Rattle.term_model.proofs.ResidualFacts.{carries_composes}
use Rattle.contract_grammar.specs.Texts.{Text}
use Rattle.contract_parse.proofs.OneText.{one_text}
use Rattle.exposure.specs.Renaming.{CarriesRenamed, renamed}
use Rattle.flow_eval.specs.Tables.{paid_by}
use Rattle.flow_eval.specs.declared.flow_table.FlowRow.{FlowRow}
use Rattle.flow_eval.proofs.NetTables.{table_same}
use Rattle.report.specs.FlowLines.{IsFlowLine}
use Rattle.command_words.specs.Commands.{AdvanceAsked, Check, Flows, FlowsAsked, NovateAsked, file_if_named, files_of}
use Rattle.lifecycle_commands.specs.AdvancePromise.{AreResiduals, IsRestBook, rest_declarations}
use Rattle.command_courses.specs.Course.{Tells}
use Rattle.flow_commands.specs.FlowsCourse.{flows_on, table_named}
use Rattle.flow_commands.specs.FlowsPromise.{AreAllLines, AreLines, AreLinesAsked, paid_together}
use Rattle.command_courses.specs.Inputs.{file_at}
use Rattle.lifecycle_commands.specs.NovatePromise.{novated, novated_book, novated_entry}
use Rattle.used_contracts.specs.UsedContracts.{at_defaults, is_asked, used}
use Rattle.command_courses.specs.declared.status.Status.TheVariants as status
use Rattle.used_contracts.proofs.UsedFacts.{own_instance, used_of}
use Rattle.contract_cli.specs.Headline.{HasAdvanced, HasNovated}
use Rattle.contract_cli.specs.NovateLaws.{AreHandedOn, IsHandedOn, IsHandedOnBook}
use Rattle.contract_cli.specs.NovateRuns.{AreAllLaterLines, AreLaterLines, AreLaterLinesAsked, ListsNovated, NovatedTextsAdvance, NovatedTextsAreAccepted, NovatedTextsAreListed}
use Rattle.contract_cli.specs.Reading.{WereRead}
use Rattle.contract_cli.specs.Seen.{Edge, WritesAll}
use Rattle.contract_cli.specs.TwoRuns.{Passes}
use Rattle.contract_cli.proofs.AdvanceTexts.{left_numbers}
use Rattle.contract_cli.proofs.ComposeFacts.{all_days, carried_there}
use Rattle.contract_cli.proofs.HeadlineFacts.{headline}
use Rattle.contract_cli.proofs.LawFacts.{done_has_told, statuses_over_files_are_exact}
use Rattle.contract_cli.proofs.NovateTexts.{novated_numbers, takes_over}
use Rattle.contract_cli.proofs.RunSound.{first_read, first_told}
use Rattle.contract_cli.proofs.TwoRunFacts.{held_same, was_passed, was_printed}

abbrev ArePlain : List (Name × Contract) → Type 0
ArePlain entries = AllByRecursion (λ (entry : Name × Contract). HasOnlyNumbers entry.1) entries

extends_both : (one two three : Environment) → Extends one two → Extends two three → Extends one three
extends_both one two three h k q v e = k q v (h q v e)

-- ---- what `novate` has printed

module _ (edge : Edge) (asked : NovateAsked) (h : HasNovated edge asked) where
  -- the portfolio of it
  abbrev handed : Book
  handed = novated_book asked.contract h.rest.old h.rest.new h.rest.rest

  plain_contracts : ArePlain handed.contracts
  plain_contracts =
      let d = h.book.declarations in
      novated_numbers asked.contract h.rest.old h.rest.new h.rest.rest.contracts
      (left_numbers d h.rest.fixings h.rest.day (used None h.book) h.rest.rest.contracts h.rest.is_rest.contracts)

-- ---- `check` of it

pub novated_texts_are_accepted : NovatedTextsAreAccepted
novated_texts_are_accepted words more first second s asked file inputs one m r p =
    let h = (headline words first status.Done one.done).novates asked one.named refl in
    let read = file_at inputs 0 in
    let held = first_told second.files file [] inputs r.whole in
    let bytes : read ≡ h.text = held_same read p.text _ held p.told ∙ sym (was_printed first.sink p.text h.text p.printed h.ran.written) in
    let spelled : Text read (handed first asked h) = subst (λ (x : List ℕ). Text x (handed first asked h)) (sym bytes) h.rest.spelled in
    let exact = statuses_over_files_are_exact more second s status.Done (Check file) inputs m r (λ (e : status.Done ≡ status.NoMemory). cc) in
    exact.comes (inr (handed first asked h, spelled, inl (refl, h.rest.accepted)))

-- ---- `advance` of it

-- what carries a contract that takes over another takes it over too
renamed_composes : (d : Declarations) (c rest last : Contract) (f : ℤ) (fixings more : Environment) (m k old new : ℕ) → CarriesRenamed d c f fixings m old new rest → Carries d rest (f +ℤ pos m) more k last
    → Extends fixings more → CarriesRenamed d c f more (m + k) old new last
renamed_composes d c rest last f fixings more m k old new h j x =
    let frame : (f +ℤ pos m) +ℤ pos k ≡ f +ℤ pos (m + k) = +ℤ_assoc f (pos m) (pos k) in
    record {
      amounts = λ env a y n w.
          ap (λ (g : ℤ). amount_of d last env g (pos n) w) (sym frame)
          ∙ j.amounts env a y n w
          ∙ h.amounts env a (extends_both fixings more env x y) (k + n) w
          ∙ ap (λ (i : ℕ). amount_of d (renamed old new c) env f (pos i) w) (sym (add_assoc m k n));
      reads = λ env a y b q p.
          let there : Contains (reads_of_contract d last [] [] env (f +ℤ pos m +ℤ pos k) (pos 0) (pos b)) q = subst (λ (g : ℤ). Contains (reads_of_contract d last [] [] env g (pos 0) (pos b)) q) (sym frame) p in
          let between = h.reads env a (extends_both fixings more env x y) (k + b) q (j.reads env a y b q there) in
          subst (λ (i : ℕ). Contains (reads_of_contract d c [] [] env f (pos 0) (pos i)) q) (sym (add_assoc m k b)) between;
    }

module _ (name : List ℕ) (old new : ℕ) (d : Declarations) (fixings more : Environment) (day later : ℕ) (first : d.start ≤ day) (next : day ≤ later) (extends : Extends fixings more) where
  abbrev gone : ℕ
  gone = day - d.start

  abbrev ahead : ℕ
  ahead = later - day

  handed_further : (entry mid : Name × Contract) (last : Contract) (known : Name) → known ≡ mid.0 → IsHandedOn name old new d fixings gone entry mid → Carries d mid.1 (pos d.start +ℤ pos gone) more ahead last
      → IsHandedOn name old new d more (gone + ahead) entry (known, last)
  handed_further entry mid last known same h there = record {
    name_is = same ∙ h.name_is;
    named = λ is.
        takes_over d entry.1 (pos d.start) more (gone + ahead) old new last
        (renamed_composes d entry.1 mid.1 last (pos d.start) fixings more gone ahead old new (h.named is).carries there extends);
    other = λ never. carries_composes d entry.1 mid.1 last (pos d.start) fixings more gone ahead (h.other never) there extends;
  }

  all_further : (entries mid last : List (Name × Contract)) → AreHandedOn name old new d fixings gone entries mid → ArePlain mid → AreResiduals (rest_declarations d day) more later (used_of None (rest_declarations d day) mid) last
      → AreHandedOn name old new d more (gone + ahead) entries last
  all_further [] [] [] h plain k = tt
  all_further [] [] (left ∷ last) h plain k = absurd k
  all_further [] (left ∷ mid) last h plain k = absurd h
  all_further (entry ∷ entries) [] last h plain k = absurd h
  all_further (entry ∷ entries) (one ∷ mid) [] h plain k = absurd k
  all_further (entry ∷ entries) (one ∷ mid) (two ∷ last) h plain k =
      let there = carried_there d fixings more day later first next extends one.1 two.1 plain.0 k.1 in
      (handed_further entry one two.1 two.0 k.0 h.0 there, all_further entries mid last h.1 plain.1 k.2)

  book_further : (b rest last : Book) → b.declarations ≡ d → IsHandedOnBook name old new b fixings day rest → ArePlain rest.contracts → IsRestBook rest more later last → IsHandedOnBook name old new b more later last
  book_further b rest last is h plain k =
      let moved : rest.declarations ≡ rest_declarations d day = h.declarations ∙ ap (λ (x : Declarations). rest_declarations x day) is in
      let entries = subst (λ (x : Declarations). AreHandedOn name old new x fixings (day - x.start) (used None b) rest.contracts) is h.contracts in
      let left = subst (λ (x : Declarations). AreResiduals x more later (used_of None x rest.contracts) last.contracts) moved k.contracts in
      let further = all_further (used None b) rest.contracts last.contracts entries plain left in
      let days = subst (λ (n : ℕ). AreHandedOn name old new d more n (used None b) last.contracts) (all_days d fixings more day later first next extends) further in
      record {
        declarations = k.declarations ∙ ap (λ (x : Declarations). rest_declarations x later) h.declarations;
        contracts = subst (λ (x : Declarations). AreHandedOn name old new x more (later - x.start) (used None b) last.contracts) (sym is) days;
      }

advance_passed : (first second : Edge) (asked : NovateAsked) (later : AdvanceAsked) (h : HasNovated first asked) (k : HasAdvanced second later) → Passes first second later.portfolio → k.book ≡ handed first asked h
advance_passed first second asked later h k p =
    let portfolio = first_read second.files.contents later.portfolio (later.fixings ∷ []) k.inputs k.ran.read in
    let bytes = was_passed first second later.portfolio h.text (file_at k.inputs 0) p h.ran.written portfolio in
    one_text h.text k.book (handed first asked h) (subst (λ (x : List ℕ). Text x k.book) bytes k.ran.spelled) h.rest.spelled

hands_on : (first second : Edge) (asked : NovateAsked) (later : AdvanceAsked) (h : HasNovated first asked) (k : HasAdvanced second later) → k.book ≡ handed first asked h → Extends h.rest.fixings k.rest.fixings
    → IsHandedOnBook asked.contract h.rest.old h.rest.new h.book k.rest.fixings k.rest.day k.rest.rest
hands_on first second asked later h k same extends =
    let left : IsRestBook (handed first asked h) k.rest.fixings k.rest.day k.rest.rest = subst (λ (x : Book). IsRestBook x k.rest.fixings k.rest.day k.rest.rest) same k.rest.is_rest in
    let begun = ap (λ (x : Book). x.declarations.start) same ∙ ap (λ d. d.start) h.rest.is_rest.declarations in
    let no_sooner : h.rest.day ≤ k.rest.day = subst (λ (n : ℕ). n ≤ k.rest.day) begun k.rest.can.is_day.no_sooner in
    book_further asked.contract h.rest.old h.rest.new h.book.declarations h.rest.fixings k.rest.fixings h.rest.day k.rest.day h.rest.can.is_day.no_sooner no_sooner extends
    h.book (handed first asked h) k.rest.rest refl h.rest.handed_on (plain_contracts first asked h) left

pub novated_texts_advance : NovatedTextsAdvance
novated_texts_advance words more first second asked later one two p =
    let h = (headline words first status.Done one.done).novates asked one.named refl in
    let k = (headline more second status.Done two.done).advances later two.named refl in
    let same = advance_passed first second asked later h k p in
    record { earlier = h; next = k; same_portfolio = same; hands_on = hands_on first second asked later h k same }

-- ---- `flows` of it: one contract

true_or_false : (b : Bool) → b ≡ true → b ≡ false → ⊥
true_or_false true e f = cc
true_or_false false e f = cc

line_on_the_start : (d : Declarations) (day : ℕ) (name : List ℕ) (row : FlowRow) (line : List ℕ) → IsFlowLine (rest_declarations d day) name row line → IsFlowLine d name row line
line_on_the_start d day name row line h = record { day = h.day; is_day = h.is_day; amount = h.amount; is_amount = h.is_amount; is_line = h.is_line }

lines_on_the_start : (d : Declarations) (day : ℕ) (name : List ℕ) (rows : List FlowRow) (text : List ℕ) → AreLines (rest_declarations d day) name rows text → AreLines d name rows text
lines_on_the_start d day name [] text h = h
lines_on_the_start d day name (row ∷ rows) text h =
    (h.0, h.1, line_on_the_start d day name row h.0 h.2, lines_on_the_start d day name rows h.1 h.3, h.4)

days_ahead : (day : ℕ) (x : ℤ) → pos day ≤ℤ x → x -ℤ pos day ≡ pos (unsigned_abs (x -ℤ pos day))
days_ahead day x h = omega (arith, ints)

frame_moved : (start day : ℕ) → start ≤ day → pos day ≡ pos start +ℤ pos (day - start)
frame_moved start day h = omega (arith, ints)

days_from_start : (start day : ℕ) (x : ℤ) → start ≤ day → pos day ≤ℤ x → pos ((day - start) + unsigned_abs (x -ℤ pos day)) ≡ x -ℤ pos start
days_from_start start day x h k = omega (arith, ints)

module _ (name : List ℕ) (old new : ℕ) (d : Declarations) (fixings more : Environment) (day : ℕ) (first : d.start ≤ day) (extends : Extends fixings more) where
  abbrev moved : Declarations
  moved = rest_declarations d day

  -- what stands for a contract pays what the contract pays, with the new party in the contract of the name
  by_name : (b : Bool) (entry left : Name × Contract) → bytes_eq name entry.0 ≡ b → IsHandedOn name old new d fixings (day - d.start) entry left
      → (env : Environment) → IsAdmitted d env → Extends fixings env → (n : ℕ) (w : Flow)
      → amount_of d left.1 env (pos d.start +ℤ pos (day - d.start)) (pos n) w ≡ amount_of d (if b then renamed old new entry.1 else entry.1) env (pos d.start) (pos ((day - d.start) + n)) w
  by_name true entry left is h env admitted further n w = (h.named ((bytes_eq-Decides name entry.0).0 is)).carries.amounts env admitted further n w
  by_name false entry left is h env admitted further n w =
      (h.other (λ same. true_or_false (bytes_eq name entry.0) ((bytes_eq-Decides name entry.0).1 same) is)).amounts env admitted further n w

  module _ (env : Environment) (admitted : IsAdmitted d env) (further : Extends more env) where
    pays_on : (entry left : Name × Contract) → IsHandedOn name old new d fixings (day - d.start) entry left → (x : ℤ) (w : Flow) → pos day ≤ℤ x
        → paid_by moved left.1 env (pos day) x w ≡ paid_by d (novated_entry name old new entry).1 env (pos d.start) x w
    pays_on entry left h x w late =
        let n = unsigned_abs (x -ℤ pos day) in
        let meaning = one_meaning moved d (record { amounts = refl; labels = refl }) in
        meaning.amounts left.1 env (pos day) (x -ℤ pos day) w
        ∙ ap₂ (λ (f m : ℤ). amount_of d left.1 env f m w) (frame_moved d.start day first) (days_ahead day x late)
        ∙ by_name (bytes_eq name entry.0) entry left refl h env admitted (extends_both fixings more env extends further) n w
        ∙ ap (λ (m : ℤ). amount_of d (novated_entry name old new entry).1 env (pos d.start) m w) (days_from_start d.start day x first late)

    pay_together_on : (entries lefts : List (Name × Contract)) → AreHandedOn name old new d fixings (day - d.start) entries lefts → (x : ℤ) (w : Flow) → pos day ≤ℤ x
        → paid_together moved lefts env x w ≡ paid_together d (novated name old new entries) env x w
    pay_together_on [] [] h x w late = refl
    pay_together_on [] (left ∷ lefts) h x w late = absurd h
    pay_together_on (entry ∷ entries) [] h x w late = absurd h
    pay_together_on (entry ∷ entries) (left ∷ lefts) h x w late =
        ap₂ (λ (m n : ℤ). m +ℤ n) (pays_on entry left h.0 x w late) (pay_together_on entries lefts h.1 x w late)

  -- ---- and all that are asked for

  module _ (last : ℤ) where
    later_lines : (entries lefts : List (Name × Contract)) (text : List ℕ) → AreHandedOn name old new d fixings (day - d.start) entries lefts → AreAllLines moved more last lefts text
        → AreAllLaterLines d more day last (novated name old new entries) text
    later_lines [] [] text h is = is
    later_lines [] (left ∷ lefts) text h is = absurd h
    later_lines (entry ∷ entries) [] text h is = absurd h
    later_lines (entry ∷ entries) (left ∷ lefts) text h (one, rest, first_lines, others, is) =
        let table = λ (env : Environment) (admitted : IsAdmitted d env) (further : Extends more env).
        table_same (paid_by moved left.1 env (pos day)) (paid_by d (novated_entry name old new entry).1 env (pos d.start)) (pos day) last first_lines.rows
        (λ x w from to. pays_on env admitted further entry left h.0 x w from) (first_lines.flows.table env further)
        in
        let lines = lines_on_the_start d day left.0 first_lines.rows one first_lines.lines in
        let here : AreLaterLines d more day last entry.0 (novated_entry name old new entry).1 one = record {
          rows = first_lines.rows;
          table = table;
          lines = subst (λ (n : List ℕ). AreLines d n first_lines.rows one) h.0.name_is lines;
        } in
        (one, rest, here, later_lines entries lefts rest h.1 others, is)

    later_lines_asked : (net : Bool) (entries lefts : List (Name × Contract)) (text : List ℕ) → AreHandedOn name old new d fixings (day - d.start) entries lefts → AreLinesAsked net moved more last lefts text
        → AreLaterLinesAsked net d more day last (novated name old new entries) text
    later_lines_asked false entries lefts text h is = later_lines entries lefts text h is
    later_lines_asked true entries lefts text h is = record {
      rows = is.rows;
      table = λ env admitted further.
          table_same (paid_together moved lefts env) (paid_together d (novated name old new entries) env) (pos day) last is.rows (λ x w from to. pay_together_on env admitted further entries lefts h x w from)
          (is.table env further);
      lines = lines_on_the_start d day _ is.rows text is.lines;
    }

-- ---- the contracts that are asked for

module _ (only : Option (List ℕ)) where
  abbrev asks : Name × Contract → Bool
  asks entry = is_asked only entry.0

  by_test : (d : Declarations) (is : Bool) (entry : Name × Contract) (kept : List (Name × Contract)) → HasOnlyNumbers entry.1 → map (at_defaults d) kept ≡ kept
      → map (at_defaults d) (cond is (entry ∷ kept) kept) ≡ cond is (entry ∷ kept) kept
  by_test d true entry kept plain same = ap₂ (λ (c : Contract) (es : List (Name × Contract)). (entry.0, c) ∷ es) (own_instance (declared_numbers d) entry.1 plain) same
  by_test d false entry kept plain same = same

  -- what names no template is used as it is
  used_plain : (d : Declarations) (entries : List (Name × Contract)) → ArePlain entries → used_of only d entries ≡ filter asks entries
  used_plain d [] plain = refl
  used_plain d (entry ∷ entries) plain = by_test d (asks entry) entry (filter asks entries) plain.0 (used_plain d entries plain.1)

  by_default : (d : Declarations) (is : Bool) (entry : Name × Contract) (ones kept : List (Name × Contract)) → ones ≡ map (at_defaults d) kept
      → cond is (at_defaults d entry ∷ ones) ones ≡ map (at_defaults d) (cond is (entry ∷ kept) kept)
  by_default d true entry ones kept same = ap (λ (es : List (Name × Contract)). at_defaults d entry ∷ es) same
  by_default d false entry ones kept same = same

  -- those of all that are asked for are those that are used
  asked_of_all : (d : Declarations) (entries : List (Name × Contract)) → filter asks (used_of None d entries) ≡ used_of only d entries
  asked_of_all d [] = refl
  asked_of_all d (entry ∷ entries) = by_default d (asks entry) entry (filter asks (used_of None d entries)) (filter asks entries) (asked_of_all d entries)

  module _ (name : List ℕ) (old new : ℕ) (d : Declarations) (fixings : Environment) (days : ℕ) where
    by_tests : (is was : Bool) (entry left : Name × Contract) (entries lefts : List (Name × Contract)) → is ≡ was → IsHandedOn name old new d fixings days entry left → AreHandedOn name old new d fixings days entries lefts
        → AreHandedOn name old new d fixings days (cond is (entry ∷ entries) entries) (cond was (left ∷ lefts) lefts)
    by_tests true true entry left entries lefts same h all = (h, all)
    by_tests true false entry left entries lefts same h all = absurd cc
    by_tests false true entry left entries lefts same h all = absurd cc
    by_tests false false entry left entries lefts same h all = all

    asked_handed_on : (entries lefts : List (Name × Contract)) → AreHandedOn name old new d fixings days entries lefts → AreHandedOn name old new d fixings days (filter asks entries) (filter asks lefts)
    asked_handed_on [] [] h = tt
    asked_handed_on [] (left ∷ lefts) h = absurd h
    asked_handed_on (entry ∷ entries) [] h = absurd h
    asked_handed_on (entry ∷ entries) (left ∷ lefts) h =
        by_tests (asks entry) (asks left) entry left (filter asks entries) (filter asks lefts) (ap (λ (n : List ℕ). is_asked only n) (sym h.0.name_is)) h.0 (asked_handed_on entries lefts h.1)

-- ---- the run

lines_passed : (first : Edge) (asked : NovateAsked) (h : HasNovated first asked) (net : Bool) (only : Option (List ℕ)) (more : Environment) (last : ℤ) (text : List ℕ) → Extends h.rest.fixings more
    → AreLinesAsked net (handed first asked h).declarations more last (used only (handed first asked h)) text
    → AreLaterLinesAsked net h.book.declarations more h.rest.day last (novated asked.contract h.rest.old h.rest.new (used only h.book)) text
lines_passed first asked h net only more last text extends is =
    let d = h.book.declarations in
    let name = asked.contract in
    let old = h.rest.old in
    let new = h.rest.new in
    let day = h.rest.day in
    let fixings = h.rest.fixings in
    let lefts = (handed first asked h).contracts in
    let on_day = subst (λ (x : Declarations). AreLinesAsked net x more last (used_of only x lefts) text) h.rest.is_rest.declarations is in
    let own = subst (λ (es : List (Name × Contract)). AreLinesAsked net (rest_declarations d day) more last es text) (used_plain only (rest_declarations d day) lefts (plain_contracts first asked h)) on_day in
    let all = asked_handed_on only name old new d fixings (day - d.start) (used None h.book) lefts h.rest.handed_on.contracts in
    let later = later_lines_asked name old new d fixings more day h.rest.can.is_day.no_sooner extends last net (filter (asks only) (used None h.book)) (filter (asks only) lefts) text all own in
    subst (λ (es : List (Name × Contract)). AreLaterLinesAsked net d more day last (novated name old new es) text) (asked_of_all only d h.book.contracts) later

flows_passed : (first second : Edge) (asked : NovateAsked) (listed : FlowsAsked) (h : HasNovated first asked) (inputs : List (List ℕ)) (b : Book)
    → WereRead second.files.contents (files_of (Flows listed)) inputs → Text (file_at inputs 0) b → Passes first second listed.portfolio → b ≡ handed first asked h
flows_passed first second asked listed h inputs b read spelled p =
    let portfolio = first_read second.files.contents listed.portfolio (file_if_named listed.fixings) inputs read in
    let bytes = was_passed first second listed.portfolio h.text (file_at inputs 0) p h.ran.written portfolio in
    one_text h.text b (handed first asked h) (subst (λ (x : List ℕ). Text x b) bytes spelled) h.rest.spelled

lists : (first second : Edge) (asked : NovateAsked) (listed : FlowsAsked) (h : HasNovated first asked) (inputs : List (List ℕ)) (text : List ℕ)
    → WereRead second.files.contents (files_of (Flows listed)) inputs → WritesAll second.sink text
    → Tells (flows_on listed (handed first asked h) (table_named listed inputs)) status.Done text → ListsNovated first asked second listed
lists first second asked listed h inputs text read written (a, known, (last, is_last, (c, accepted, (fixings, are_fixings, (e, fixed, (done, lines)))))) = record {
  novating = h;
  inputs = inputs;
  read = read;
  last = last;
  is_last = is_last;
  fixings = fixings;
  are_fixings = are_fixings;
  text = text;
  lines = λ extends. lines_passed first asked h listed.net listed.contract fixings last text extends lines;
  written = written;
}

pub novated_texts_are_listed : NovatedTextsAreListed
novated_texts_are_listed words more first second asked listed one two p =
    let h = (headline words first status.Done one.done).novates asked one.named refl in
    let k = done_has_told more second (Flows listed) two.named two.done in
    let table = table_named listed k.inputs in
    let same = flows_passed first second asked listed h k.inputs k.told.0 k.read k.told.1 p in
    let told = subst (λ (b : Book). Tells (flows_on listed b table) status.Done k.text) same k.told.2 in
    lists first second asked listed h k.inputs k.text k.read k.line told
