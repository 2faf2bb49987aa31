-- What stops `flows` and `advance` of a portfolio, and what they tell of it, does so in any other version: a version has no part in it.
use Rattle.std.proofs.Common.{◌≡◌, ◌∙◌, inl, inr, ℕ, ℤ, pos, ◌-ℤ◌, ◌+ℤ◌, ◌-◌, List, [], ◌∷◌, ap, refl, sym}
use Rattle.std.specs.Prelude.{Option, Some, None}
use Rattle.std.proofs.lemmas.List.Elements.{All-weaker}
use Rattle.term_model.specs.Declarations.{Declarations}
use Rattle.term_model.specs.Environments.{Environment, Place}
use Rattle.term_model.specs.Reads.{first_unfixed}
use Rattle.term_model.specs.Terms.{Contract}
use Rattle.term_model.proofs.FormedFacts.{one_form}
use Rattle.term_model.specs.declared.name.Name.{Name}
use Rattle.term_model.specs.declared.values.Value.{Value}
use Rattle.fixing_files.specs.Records.{Fields, said, said_at}
use Rattle.fixing_files.specs.Tables.{Breaks, Conflicts, Holds, IsFirstFault, Says, Table, table_of}
use Rattle.fixing_files.specs.declared.faults.RowFault.{RowFault}
use Rattle.fixing_files.specs.declared.faults.RowKind.{RowKind}
use Rattle.report.specs.declared.fault_lines.Fault.{Fault}
use Rattle.command_courses.specs.Days.{IsOutOfRange, IsWordFault, no_origin, too_early, too_late}
use Rattle.command_courses.specs.FixingTables.{AreFixings, IsRowFault}
use Rattle.used_contracts.specs.AllAccepted.{IsRefusedOf}
use Rattle.used_contracts.specs.AllFixed.{AreAllFixed, IsMissingOf, missing_of}
use Rattle.flow_commands.specs.FlowsPromise.{IsLastDay}
use Rattle.flow_eval.specs.declared.flow_table.FlowRow.{FlowRow}
use Rattle.advance_step.specs.Advancing.{IsResidual}
use Rattle.advance_step.proofs.ResidualFacts.{reduced_same}
use Rattle.advance_step.proofs.SameMeaning.{residual_alike}
use Rattle.lifecycle_commands.specs.AdvancePromise.{AreComments, AreDueLines, AreResiduals, IsNewDay}
use Rattle.contract_cli.proofs.MigrateFacts.{flow_line, known_flows, meaning, next, still_accepted, verdict}

-- ---- tables

said_at_there : (d : Declarations) (v : ℕ) (l : Option ℕ) (day : Option ℤ) (value : List ℕ) → said_at d l day value ≡ said_at (next d v) l day value
said_at_there d v None day value = refl
said_at_there d v (Some l) None value = refl
said_at_there d v (Some l) (Some t) value = refl

said_there : (d : Declarations) (v : ℕ) (fields : Fields) → said d fields ≡ said (next d v) fields
unfolding said
said_there d v [] = refl
said_there d v (a ∷ []) = refl
said_there d v (a ∷ b ∷ []) = refl
said_there d v (a ∷ b ∷ c ∷ []) = said_at_there d v _ _ c
said_there d v (a ∷ b ∷ c ∷ e ∷ more) = refl

module _ (d other : Declarations) (same : (fields : Fields) → said d fields ≡ said other fields) (table : Table) where
  says : (n : ℕ) (q : Place) (x : Value) → Says d table n q x → Says other table n q x
  says n q x h = record { fields = h.fields; at = h.at; meaning = sym (same h.fields) ∙ h.meaning }

module _ (d other : Declarations) (forth : (fields : Fields) → said d fields ≡ said other fields) (back : (fields : Fields) → said other fields ≡ said d fields) (table : Table) where
  conflicts : (n e : ℕ) → Conflicts d table n e → Conflicts other table n e
  conflicts n e h = record {
    place = h.place;
    value = h.value;
    other = h.other;
    earlier = h.earlier;
    says = says d other forth table n h.place h.value h.says;
    says_other = says d other forth table h.earlier h.place h.other h.says_other;
    before = h.before;
    another = h.another;
    first = record {
      value = h.first.value;
      says = says d other forth table e h.place h.first.value h.first.says;
      first = λ m w k. h.first.first m w (says other d back table m h.place w k);
    };
  }

  breaks : (n : ℕ) (k : RowKind) → Breaks d table n k → Breaks other table n k
  breaks n k (inl h) = inl h
  breaks n k (inr (inl h)) = inr (inl (record { fields = h.fields; at = h.at; meaning = sym (forth h.fields) ∙ h.meaning }))
  breaks n k (inr (inr (e, is, h))) = inr (inr (e, is, conflicts n e h))

module _ (d : Declarations) (v : ℕ) (table : Table) where
  abbrev forth : (fields : Fields) → said d fields ≡ said (next d v) fields
  forth = said_there d v

  abbrev back : (fields : Fields) → said (next d v) fields ≡ said d fields
  back fields = sym (said_there d v fields)

  holds_there : (fixings : Environment) → Holds d table fixings → Holds (next d v) table fixings
  holds_there fixings h = record {
    sound = λ n k b. h.sound n k (breaks (next d v) d back forth table n k b);
    holds = λ q x. (
      λ is. (let k = (h.holds q x).0 is in (k.0, says d (next d v) forth table k.0 q x k.1)),
      λ k. (h.holds q x).1 (k.0, says (next d v) d back table k.0 q x k.1),
    );
  }

  first_fault_there : (row : RowFault) → IsFirstFault d table row → IsFirstFault (next d v) table row
  first_fault_there row h = record {
    breaks = breaks d (next d v) forth back table row.row row.kind h.breaks;
    first = λ n k b. h.first n k (breaks (next d v) d back forth table n k b);
  }

module _ (d : Declarations) (v : ℕ) where
  pub fixings_there : (table : Option (List ℕ)) (fixings : Environment) → AreFixings d table fixings → AreFixings (next d v) table fixings
  fixings_there None fixings h = h
  fixings_there (Some bytes) fixings h = holds_there d v (table_of bytes) fixings h

  pub row_there : (table : Option (List ℕ)) (place : ℕ) (f : Fault) → IsRowFault d table place f → IsRowFault (next d v) table place f
  row_there table place f h =
      record { bytes = h.bytes; named = h.named; row = h.row; first = first_fault_there d v (table_of h.bytes) h.row h.first; fault_is = h.fault_is }

  -- ---- days

  pub out_there : (greatest : ℤ) (word : List ℕ) → IsOutOfRange d greatest word → IsOutOfRange (next d v) greatest word
  out_there greatest word (no_origin h) = no_origin h
  out_there greatest word (too_early day is h) = too_early day is h
  out_there greatest word (too_late day is h) = too_late day is h

  pub word_there : (greatest : ℤ) (word : List ℕ) (f : Fault) → IsWordFault d greatest word f → IsWordFault (next d v) greatest word f
  word_there greatest word f h = record { out = out_there greatest word h.out; fault_is = h.fault_is }

  pub last_there : (until : Option (List ℕ)) (last : ℤ) → IsLastDay d until last → IsLastDay (next d v) until last
  last_there None last h = h
  last_there (Some word) last h = h

  -- ---- contracts

  pub refused_there : (entries : List (Name × Contract)) (f : Fault) → IsRefusedOf d entries f → IsRefusedOf (next d v) entries f
  refused_there entries f h = record {
    name = h.name;
    rule = h.rule;
    node = h.node;
    first = record {
      before = h.first.before;
      contr = h.first.contr;
      after = h.first.after;
      split = h.first.split;
      accepted = still_accepted d v h.first.before h.first.accepted;
      refused = (verdict d v).refused h.first.contr h.rule h.node h.first.refused;
    };
    fault_is = h.fault_is;
  }

  missing_there : (fixings : Environment) (last : ℤ) (c : Contract) → missing_of d fixings last c ≡ missing_of (next d v) fixings last c
  missing_there fixings last c =
      ap (λ (places : List Place). first_unfixed fixings places) ((meaning d v).reads_of_contracts c [] [] fixings (pos d.start) (pos 0) (last -ℤ pos d.start))

  pub fixed_there : (fixings : Environment) (last : ℤ) (entries : List (Name × Contract)) → AreAllFixed d fixings last entries → AreAllFixed (next d v) fixings last entries
  fixed_there fixings last entries all =
      All-weaker (λ entry. missing_of d fixings last entry.1 ≡ None) (λ entry. missing_of (next d v) fixings last entry.1 ≡ None)
      (λ entry h. sym (missing_there fixings last entry.1) ∙ h) entries all

  pub unfixed_there : (fixings : Environment) (last : ℤ) (entries : List (Name × Contract)) (f : Fault) → IsMissingOf d fixings last entries f → IsMissingOf (next d v) fixings last entries f
  unfixed_there fixings last entries f h = record {
    place = h.place;
    first = record {
      before = h.first.before;
      entry = h.first.entry;
      after = h.first.after;
      split = h.first.split;
      fixed = fixed_there fixings last h.first.before h.first.fixed;
      missing = sym (missing_there fixings last h.first.entry.1) ∙ h.first.missing;
    };
    fault_is = h.fault_is;
  }

  -- ---- what is due before a new day, and what is left on it

  pub new_day_there : (word : List ℕ) (day : ℕ) → IsNewDay d word day → IsNewDay (next d v) word day
  new_day_there word day h = record { named = h.named; no_sooner = h.no_sooner; no_later = h.no_later }

  comments_there : (name : List ℕ) (rows : List FlowRow) (text : List ℕ) → AreComments d name rows text → AreComments (next d v) name rows text
  comments_there name [] text is = is
  comments_there name (row ∷ rows) text (line, rest, one, others, is) = (line, rest, flow_line d v name row line one, comments_there name rows rest others, is)

  pub due_there : (fixings : Environment) (last : ℤ) (entries : List (Name × Contract)) (text : List ℕ) → AreDueLines d fixings last entries text → AreDueLines (next d v) fixings last entries text
  due_there fixings last [] text is = is
  due_there fixings last (entry ∷ entries) text (first, rest, one, others, is) = (
    first,
    rest,
    record {
      rows = one.rows;
      flows = known_flows d v entry.1 fixings (pos d.start) last one.rows one.flows;
      comments = comments_there entry.0 one.rows first one.comments;
    },
    due_there fixings last entries rest others,
    is,
  )

  residual_there : (fixings : Environment) (first : ℤ) (days : ℕ) (c rest : Contract) → IsResidual d fixings first days c rest → IsResidual (next d v) fixings first days c rest
  residual_there fixings first days c rest h = record {
    exact = λ env same. h.exact env same ∙ residual_alike d (next d v) (record { amounts = refl; labels = refl }) env first days c;
    accepted = (verdict d v).accepted rest h.accepted;
    carries = (verdict d v).carried c first fixings days rest h.carries;
    reduced = reduced_same d (next d v) (record { amounts = refl; labels = refl }) rest fixings (first +ℤ pos days) h.reduced;
    gone = h.gone;
    closed = one_form d (next d v) (record { parties = refl; assets = refl; labels = refl; templates = refl }) 0 rest h.closed;
    numbers = h.numbers;
    literals = h.literals;
  }

  pub residuals_there : (fixings : Environment) (day : ℕ) (entries rest : List (Name × Contract)) → AreResiduals d fixings day entries rest → AreResiduals (next d v) fixings day entries rest
  residuals_there fixings day [] [] h = h
  residuals_there fixings day [] (left ∷ rest) h = absurd h
  residuals_there fixings day (entry ∷ entries) [] h = absurd h
  residuals_there fixings day (entry ∷ entries) (left ∷ rest) h =
      (h.0, residual_there fixings (pos d.start) (day - d.start) entry.1 left.1 h.1, residuals_there fixings day entries rest h.2)
