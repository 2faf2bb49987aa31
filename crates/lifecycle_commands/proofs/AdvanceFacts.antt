-- One more comment, one more contract that is due and left, and the parts of `advance` put together.
use Rattle.std.proofs.Common.{◌≡◌, ◌∙◌, ◌≤◌, ◌-◌, inl, inr, ℕ, ℤ, pos, true, false, List, [], ◌∷◌, ◌++◌, append_assoc, ap, arith, map, refl, subst, sym}
use Rattle.std.specs.Prelude.{Option, None, Some, OnOk, Result, Ok, Err, codes, is_some}
use Rattle.std.specs.Global.{Vec}
use Rattle.std.specs.Map.{keys_of}
use Rattle.std.proofs.lemmas.Int.{ints}
use Rattle.std.proofs.lemmas.List.{map-append}
use Rattle.std.proofs.lemmas.List.Elements.{All-nil}
use Rattle.term_model.specs.declared.name.Name.{Name}
use Rattle.term_model.specs.Acceptance.{IsAccepted}
use Rattle.term_model.specs.Books.{Book}
use Rattle.term_model.specs.Declarations.{Declarations, declarations}
use Rattle.term_model.specs.Environments.{Environment}
use Rattle.term_model.specs.Terms.{Contract, contract}
use Rattle.contract_grammar.specs.Names.{declared_by}
use Rattle.contract_parse.specs.declared.next_contracts.NextContract.{NextContract}
use Rattle.contract_print.specs.Canon.{AppendsBeginning, IsBeginning, IsCanon, contract_text}
use Rattle.contract_print.proofs.LineByLine.{begun_is_canon, one_more_canon}
use Rattle.flow_eval.specs.FlowAnswers.{AreFlows, AreKnownFlows}
use Rattle.flow_eval.specs.declared.faults.FlowErr.{FlowErr}
use Rattle.flow_eval.specs.declared.faults.FlowErr.TheVariants as flow
use Rattle.flow_eval.specs.declared.flow_table.FlowRow.{FlowRow}
use Rattle.flow_eval.specs.declared.flow_table.FlowTable.{FlowTable}
use Rattle.advance_step.specs.Advancing.{Advances, IsResidual, day_before}
use Rattle.advance_step.specs.declared.advancing.Advanced.{Advanced}
use Rattle.report.specs.FlowLines.{AppendsFlowLine, IsFlowLine}
use Rattle.report.specs.declared.fault_lines.Fault.{Fault}
use Rattle.command_words.specs.Commands.{AdvanceAsked}
use Rattle.command_courses.specs.Course.{Stops, Tells}
use Rattle.command_courses.specs.Days.{IsWordFault}
use Rattle.command_courses.specs.FixingTables.{HoldsFixings, IsRowFault, IsStopOf}
use Rattle.command_courses.specs.Stopping.{AnswersBy}
use Rattle.command_courses.specs.declared.status.Status.TheVariants as status
use Rattle.command_courses.specs.declared.stop.Stop.{Stop}
use Rattle.command_courses.specs.declared.stop.Stop.TheVariants as stop
use Rattle.command_courses.proofs.StopFacts.{answers_too, by_stop}
use Rattle.used_contracts.specs.AllAccepted.{AreAllAccepted, IsRefusedOf, all_accepted}
use Rattle.used_contracts.specs.AllFixed.{AreAllFixed, IsMissingOne, all_fixed}
use Rattle.used_contracts.specs.ChoosingParts.{Chooses, Holds, IsPassed, IsUsed, IsWalkedThrough, Meets, Selection, StopsByName, StopsIn, StopsOn, every, selection, so_far}
use Rattle.used_contracts.specs.UsedContracts.{at_defaults, used}
use Rattle.used_contracts.specs.UsedParts.{IsTriable}
use Rattle.used_contracts.specs.declared.choice.Choice.{Choice}
use Rattle.used_contracts.specs.declared.choosing.Tried.{Tried}
use Rattle.used_contracts.proofs.ChoosingFacts.{none_held, some_held}
use Rattle.used_contracts.proofs.FirstFacts.{IsFixedEntry}
use Rattle.used_contracts.proofs.HeldFacts.{fixed_before, fixed_more, missing_behind_held, missing_held_now}
use Rattle.used_contracts.proofs.LineFacts.{none_and, some_and, without_flows}
use Rattle.lifecycle_commands.specs.AdvanceCourse.{advance_on}
use Rattle.lifecycle_commands.specs.AdvanceParts.{AddsRest, AppendsComments, AreLeft, HasRests, IsCarriedOne, IsCarriedText, IsLeftText, IsMissingTo, StopsCarry, advance_of_text, changed, changed_book, declared_to, rest_line}
use Rattle.lifecycle_commands.specs.AdvancePromise.{AreComments, AreDueLines, AreResiduals, IsAdvanced, IsAdvancedWith, IsDueText, IsNewDay, commented, greatest_new_day, last_gone, rest_declarations}
use Rattle.lifecycle_commands.specs.declared.advance.KeptRest.{KeptRest}
use Rattle.lifecycle_commands.specs.declared.advance.Left.{Left}
use Rattle.lifecycle_commands.specs.declared.advance_to.AdvanceTo.{AdvanceTo}
use Rattle.lifecycle_commands.specs.declared.advance_to.Renaming.{Renaming}

-- ---- what a call answers where it is done

pub on_ok : {A E : Type 0} (X Z : Type 0) (r : Result A E) → OnOk r X → (X → Z) → OnOk r Z
on_ok X Z (Ok a) x f = f x
on_ok X Z (Err e) x f = tt

pub on_ok_both : {A E : Type 0} (X Y Z : Type 0) (r : Result A E) → OnOk r X → OnOk r Y → (X → Y → Z) → OnOk r Z
on_ok_both X Y Z (Ok a) x y f = f x y
on_ok_both X Y Z (Err e) x y f = tt

-- ---- one more comment

comments_more : (d : Declarations) (name : List ℕ) (rows : List FlowRow) (text : List ℕ) (row : FlowRow) (line : List ℕ) → AreComments d name rows text → IsFlowLine d name row line → AreComments d name (rows ++ row ∷ []) (text ++ commented line)
comments_more d name [] text row line none is = (line, [], is, refl, none_and text (commented line) none)
comments_more d name (r ∷ rows) text row line some is =
    (some.0, some.1 ++ commented line, some.2, comments_more d name rows some.1 row line some.3 is, some_and text (commented some.0) some.1 (commented line) some.4)

pub appends_comment : (d : Declarations) (name : List ℕ) (rows : List FlowRow) (row : FlowRow) (before middle marked after : List ℕ) → AppendsComments d name rows before middle → marked ≡ middle ++ codes "# " → AppendsFlowLine d name row marked after → AppendsComments d name (rows ++ row ∷ []) before after
appends_comment d name rows row before middle marked after some mark more = record {
  text = some.text ++ commented more.line;
  comments = comments_more d name rows some.text row more.line some.comments more.is_line;
  appended = more.appended
      ∙ ap (λ (t : List ℕ). t ++ more.line) (mark ∙ ap (λ (t : List ℕ). t ++ codes "# ") some.appended)
      ∙ append_assoc (before ++ some.text) (codes "# ") more.line
      ∙ append_assoc before some.text (commented more.line);
}

-- ---- the days gone by

-- the last of them, from the start and by the new day
pub gone_is : (start day : ℕ) → start ≤ day → day_before (pos start) (day - start) ≡ last_gone day
gone_is start day h = omega (arith, ints)

-- a fault of advancing is one of flows
as_flows : (d : Declarations) (c : Contract) (fixings : Environment) (first : ℤ) (days : ℕ) (e : FlowErr) → Advances d c fixings first days (Err e) → AreFlows d c fixings first (day_before first days) (Err e)
as_flows d c fixings first days (flow.Missing label day) h = h
as_flows d c fixings first days flow.NoMemory h = tt

-- ---- one contract

module _ (to : AdvanceTo) (c : Contract) where
  gone : day_before (pos (declared_to to).start) (to.day - (declared_to to).start) ≡ last_gone to.day
  gone = gone_is (declared_to to).start to.day to.first

  pub carried_one : (answer : Advanced) → Advances (declared_to to) c to.fixings.now (pos (declared_to to).start) (to.day - (declared_to to).start) (Ok answer) → IsCarriedOne to c answer
  carried_one answer told = record {
    flows = subst (λ (x : ℤ). AreKnownFlows (declared_to to) c to.fixings.now (pos (declared_to to).start) x answer.due.rows.items) gone told.0;
    residual = told.1;
  }

  pub not_carried : (e : FlowErr) (s : Stop) → Advances (declared_to to) c to.fixings.now (pos (declared_to to).start) (to.day - (declared_to to).start) (Err e) → IsStopOf (declared_to to) e s
      → AnswersBy (IsCarriedOne to c) (IsMissingOne (declared_to to) to.fixings.now (last_gone to.day) c) (Err s)
  not_carried e s told stops =
      let lacks = as_flows (declared_to to) c to.fixings.now (pos (declared_to to).start) (to.day - (declared_to to).start) e told in
      let there = subst (λ (x : ℤ). AreFlows (declared_to to) c to.fixings.now (pos (declared_to to).start) x (Err e)) gone lacks in
      by_stop (λ (table : FlowTable). AreKnownFlows (declared_to to) c to.fixings.now (pos (declared_to to).start) (last_gone to.day) table.rows.items) (IsCarriedOne to c)
      (IsMissingOne (declared_to to) to.fixings.now (last_gone to.day) c) (IsMissingOne (declared_to to) to.fixings.now (last_gone to.day) c) (λ f h. h) s
      (without_flows (declared_to to) to.fixings.now (last_gone to.day) c e s there stops)

-- ---- one more contract

module _ (d : Declarations) (fixings : Environment) where
  due_more : (last : ℤ) (entries : List (Name × Contract)) (entry : Name × Contract) (text lines : List ℕ) → AreDueLines d fixings last entries text
      → IsDueText d fixings last entry.0 entry.1 lines → AreDueLines d fixings last (entries ++ entry ∷ []) (text ++ lines)
  due_more last [] entry text lines none are = (lines, [], are, refl, none_and text lines none)
  due_more last (e ∷ es) entry text lines some are =
      (some.0, some.1 ++ lines, some.2, due_more last es entry some.1 lines some.3 are, some_and text some.0 some.1 lines some.4)

  residuals_more : (day : ℕ) (entries rest : List (Name × Contract)) (entry : Name × Contract) (left : Contract) → AreResiduals d fixings day entries rest
      → IsResidual d fixings (pos d.start) (day - d.start) entry.1 left → AreResiduals d fixings day (entries ++ entry ∷ []) (rest ++ (entry.0, left) ∷ [])
  residuals_more day [] [] entry left none is = (refl, is, tt)
  residuals_more day [] (r ∷ rs) entry left none is = absurd none
  residuals_more day (e ∷ es) [] entry left some is = absurd some
  residuals_more day (e ∷ es) (r ∷ rs) entry left some is = (some.0, some.1, residuals_more day es rs entry left some.2 is)

changed_name : (renaming : Option Renaming) (entry : Name × Contract) → (changed renaming entry).0 ≡ entry.0
changed_name None entry = refl
changed_name (Some r) entry = refl

module _ (to : AdvanceTo) where
  canon_more : (rest : List (Name × Contract)) (entry : Name × Contract) (text : List ℕ) → IsCanon text (so_far (rest_declarations (declared_to to) to.day) (map (changed to.renaming) rest))
      → IsCanon (text ++ rest_line to entry) (so_far (rest_declarations (declared_to to) to.day) (map (changed to.renaming) (rest ++ entry ∷ [])))
  canon_more rest entry text canon =
      let one = changed to.renaming entry in
      let more = one_more_canon (rest_declarations (declared_to to) to.day) (map (changed to.renaming) rest) one text canon in
      let named = subst (λ (name : List ℕ). IsCanon (text ++ contract_text (declared_by (declared_to to) []) name one.1) (so_far (rest_declarations (declared_to to) to.day) (map (changed to.renaming) rest ++ one ∷ []))) (changed_name to.renaming entry) more in
      subst (λ (es : List (Name × Contract)). IsCanon (text ++ rest_line to entry) (so_far (rest_declarations (declared_to to) to.day) es)) (sym (map-append (changed to.renaming) rest (entry ∷ []))) named

  left_more : (entries : List (Name × Contract)) (entry : Name × Contract) (answer : Advanced) (before after : Left) → AreLeft to before entries → IsCarriedOne to entry.1 answer
      → AppendsComments (declared_to to) entry.0 answer.due.rows.items before.due.items after.due.items
      → after.rest.items ≡ before.rest.items ++ rest_line to (entry.0, contract answer.rest) → AreLeft to after (entries ++ entry ∷ [])
  left_more entries entry answer before after h one comments line = record {
    due = subst (λ (t : List ℕ). AreDueLines (declared_to to) to.fixings.now (last_gone to.day) (entries ++ entry ∷ []) t) (sym comments.appended)
        (due_more (declared_to to) to.fixings.now (last_gone to.day) entries entry before.due.items comments.text h.due
        (record { rows = answer.due.rows.items; flows = one.flows; comments = comments.comments }));
    rest = h.rest ++ (entry.0, contract answer.rest) ∷ [];
    residuals = residuals_more (declared_to to) to.fixings.now to.day entries h.rest entry (contract answer.rest) h.residuals one.residual;
    canon = subst (λ (t : List ℕ). IsCanon t (so_far (rest_declarations (declared_to to) to.day) (map (changed to.renaming) (h.rest ++ (entry.0, contract answer.rest) ∷ [])))) (sym line)
        (canon_more h.rest (entry.0, contract answer.rest) before.rest.items h.canon);
  }

  -- before the first contract
  pub none_left : (left : Left) (declared : Declarations) (old : List ℕ) → left.due.items ≡ [] → declared ≡ rest_declarations (declared_to to) to.day → old ≡ []
      → AppendsBeginning declared old left.rest.items → AreLeft to left []
  none_left left declared old due same none begun =
      let text : left.rest.items ≡ begun.text = begun.appended ∙ ap (λ (t : List ℕ). t ++ begun.text) none in
      let is : IsBeginning left.rest.items (rest_declarations (declared_to to) to.day) = subst (λ (x : Declarations). IsBeginning left.rest.items x) same (subst (λ (t : List ℕ). IsBeginning t declared) (sym text) begun.is_beginning) in
      record { due = due; rest = []; residuals = tt; canon = begun_is_canon (rest_declarations (declared_to to) to.day) left.rest.items is }

  pub none_kept : (kept : KeptRest) → kept.missing ≡ None → AreLeft to kept.left [] → HasRests to kept []
  none_kept kept none left = record {
    fixed = subst (λ (r : Option Fault). Holds (all_fixed (declared_to to) to.fixings.now (last_gone to.day) []) r) (sym none) (All-nil (IsFixedEntry (declared_to to) to.fixings.now (last_gone to.day)));
    left = λ _. left;
  }

  module _ (entry : Name × Contract) (before : KeptRest) where
    -- where a read of those before it is not fixed
    pub rest_still : is_some before.missing ≡ true → AddsRest to entry before before
    rest_still some = λ entries h. record {
      fixed = missing_behind_held (declared_to to) to.fixings.now (last_gone to.day) before.missing entries entry some h.fixed;
      left = λ none. absurd (some_held before.missing some none);
    }

    -- where one of its own is the first that is not
    pub rest_stops : (f : Fault) → is_some before.missing ≡ false → IsMissingOne (declared_to to) to.fixings.now (last_gone to.day) entry.1 f
        → AddsRest to entry before (record { left = before.left; missing = Some f })
    rest_stops f none one = λ entries h. record {
      fixed = missing_held_now (declared_to to) to.fixings.now (last_gone to.day) before.missing entries entry f (none_held before.missing none) one h.fixed;
      left = λ empty. (let k : Some f ≡ None = empty in cc);
    }

    -- where each is fixed
    pub rest_on : (answer : Advanced) (left : Left) → is_some before.missing ≡ false → IsCarriedOne to entry.1 answer
        → AppendsComments (declared_to to) entry.0 answer.due.rows.items before.left.due.items left.due.items
        → left.rest.items ≡ before.left.rest.items ++ rest_line to (entry.0, contract answer.rest)
        → AddsRest to entry before (record { left = left; missing = before.missing })
    rest_on answer left none one comments line =
        let empty = none_held before.missing none in
        λ entries h. record {
          fixed = fixed_more (declared_to to) to.fixings.now (last_gone to.day) before.missing entries entry empty one.flows.fixed h.fixed;
          left = λ _. left_more entries entry answer before.left left (h.left empty) one comments line;
        }

-- ---- a contract that is chosen

module _ (d : Declarations) (s : Selection) (entry : Name × Contract) (before after : Tried) (one : NextContract) where
  used_one : Meets d s entry before after (Some one) → IsUsed d (at_defaults d entry) before.refused after.refused one
  used_one (Meets.passed out is same) = absurd cc
  used_one (Meets.asked here u) = u

  pub chosen_accepted : Chooses d s entry before after (Some one) → IsAccepted d (contract one.contr)
  chosen_accepted chosen =
      let u = used_one chosen.meets in
      subst (λ (e : Name × Contract). IsAccepted d e.1) (sym u.is) u.accepted

  pub chosen_one : (o : Option NextContract) → o ≡ Some one → Chooses d s entry before after o → Chooses d s entry before after (Some one)
  chosen_one o is h = subst (λ (x : Option NextContract). Chooses d s entry before after x) is h

  pub chosen_triable : Chooses d s entry before after (Some one) → IsTriable d (contract one.contr)
  chosen_triable chosen =
      let u = used_one chosen.meets in
      subst (λ (e : Name × Contract). IsTriable d e.1) (sym u.is) u.triable

pub chosen_none : (d : Declarations) (s : Selection) (entry : Name × Contract) (before after : Tried) (o : Option NextContract) → ((one : NextContract) → o ≡ Some one → ⊥)
    → Chooses d s entry before after o → Chooses d s entry before after None
chosen_none d s entry before after None none h = h
chosen_none d s entry before after (Some one) none h = absurd (none one refl)

-- ---- all contracts

held_is : (d : Declarations) (fixings : Environment) (last : ℤ) (entries : List (Name × Contract)) (held : Option Fault) (f : Fault) → held ≡ Some f
    → Holds (all_fixed d fixings last entries) held → (all_fixed d fixings last entries).FaultIs f
held_is d fixings last entries held f is h = subst (λ (r : Option Fault). Holds (all_fixed d fixings last entries) r) is h

module _ (text : List ℕ) (to : AdvanceTo) (tried : Tried) (kept : KeptRest)
    (h : IsWalkedThrough text (declared_to to) (selection to.choice) (HasRests to kept) tried) where
  abbrev b : Book
  b = so_far (declared_to to) h.entries

  first_missing : (f : Fault) → StopsOn b (selection to.choice) (λ (g : Fault). (tried.refused ≡ None) × (kept.missing ≡ Some g)) f → StopsOn b (selection to.choice) (IsMissingTo to b) f
  first_missing f (StopsOn.unknown u) = StopsOn.unknown u
  first_missing f (StopsOn.refused k r) = StopsOn.refused k r
  first_missing f (StopsOn.then_stops k all is) =
      StopsOn.then_stops k all (held_is (declared_to to) to.fixings.now (last_gone to.day) (used (selection to.choice).only b) kept.missing f is.1 (h.kept is.0).fixed)

  pub stops_left : (f : Fault) → StopsOn b (selection to.choice) (λ (g : Fault). (tried.refused ≡ None) × (kept.missing ≡ Some g)) f → StopsIn text (declared_to to) (λ b. StopsOn b (selection to.choice) (IsMissingTo to b)) f
  stops_left f k = inr (h.entries, h.is_text, first_missing f k)

  pub is_left : (out : List ℕ) → IsPassed b (selection to.choice) tried kept.missing → out ≡ kept.left.due.items ++ kept.left.rest.items → IsLeftText text to out
  is_left out pass is =
      let rests = h.kept pass.accepted in
      record {
        entries = h.entries;
        is_text = h.is_text;
        passes = record {
          known = pass.known;
          accepted = subst (λ (r : Option Fault). Holds (all_accepted (declared_to to) (used (selection to.choice).only b)) r) pass.accepted h.trial.refused;
          fixed = fixed_before (declared_to to) to.fixings.now (last_gone to.day) kept.missing (used (selection to.choice).only b) pass.none rests.fixed;
        };
        left = kept.left;
        are_left = rests.left pass.none;
        is = is;
      }

-- ---- from the name on

module _ (text : List ℕ) (choice : Choice) (asked : AdvanceAsked) (table : Option (List ℕ)) (all : (selection choice).only ≡ None) where
  -- a word that names no day
  no_day_stops : (own : Stop) (b : Book) (f : Fault) → AnswersBy (IsNewDay b.declarations asked.to) (IsWordFault b.declarations greatest_new_day asked.to) (Err own)
      → StopsByName b (selection choice) (λ f. own ≡ stop.Fault f) f → StopsCarry (selection choice) asked table b f
  no_day_stops own b f told (StopsByName.unknown u) = StopsByName.unknown u
  no_day_stops own b f told (StopsByName.then_stops k is) =
      StopsByName.then_stops k (inl (subst (λ (x : Stop). AnswersBy (IsNewDay b.declarations asked.to) (IsWordFault b.declarations greatest_new_day asked.to) (Err x)) is told))

  pub stops_at_day : (own : Stop) (f : Fault) → AnswersBy (IsNewDay (declarations choice.decls.now) asked.to) (IsWordFault (declarations choice.decls.now) greatest_new_day asked.to) (Err own)
      → StopsIn text (declarations choice.decls.now) (λ b. StopsByName b (selection choice) (λ f. own ≡ stop.Fault f)) f → StopsIn text (declarations choice.decls.now) (StopsCarry (selection choice) asked table) f
  stops_at_day own f told (inl bad) = inl bad
  stops_at_day own f told (inr h) = inr (h.0, h.1, no_day_stops own (so_far (declarations choice.decls.now) h.0) f told h.2)

  module _ (day : ℕ) (is_day : IsNewDay (declarations choice.decls.now) asked.to day) where
    all_used : (b : Book) → used (selection choice).only b ≡ used None b
    all_used b = ap (λ (only : Option (List ℕ)). used only b) all

    -- behind acceptance
    on_stops : (Then : Fault → Type 0) (entries : List (Name × Contract)) (f : Fault)
        → (AreAllAccepted (declarations choice.decls.now) (used None (so_far (declarations choice.decls.now) entries)) → Then f → Stops (advance_on asked (so_far (declarations choice.decls.now) entries) table) f)
        → StopsOn (so_far (declarations choice.decls.now) entries) (selection choice) Then f → StopsCarry (selection choice) asked table (so_far (declarations choice.decls.now) entries) f
    on_stops Then entries f pass (StopsOn.unknown u) = StopsByName.unknown u
    on_stops Then entries f pass (StopsOn.refused k r) =
        StopsByName.then_stops k (inr (day, is_day, inl (subst (λ (es : List (Name × Contract)). IsRefusedOf (declarations choice.decls.now) es f) (all_used (so_far (declarations choice.decls.now) entries)) r)))
    on_stops Then entries f pass (StopsOn.then_stops k accepted own) =
        StopsByName.then_stops k (pass (subst (λ (es : List (Name × Contract)). AreAllAccepted (declarations choice.decls.now) es) (all_used (so_far (declarations choice.decls.now) entries)) accepted) own)

    pub stops_at_row : (f : Fault) → StopsIn text (declarations choice.decls.now) (λ b. StopsOn b (selection choice) (IsRowFault (declarations choice.decls.now) table 2)) f → StopsIn text (declarations choice.decls.now) (StopsCarry (selection choice) asked table) f
    stops_at_row f (inl bad) = inl bad
    stops_at_row f (inr h) =
        inr (h.0, h.1, on_stops (IsRowFault (declarations choice.decls.now) table 2) h.0 f (λ accepted row. inr (day, is_day, inr (tt, accepted, inl row))) h.2)

module _ (text : List ℕ) (to : AdvanceTo) (asked : AdvanceAsked) (table : Option (List ℕ)) (all : (selection to.choice).only ≡ None)
    (is_day : IsNewDay (declared_to to) asked.to to.day) (are : HoldsFixings (declared_to to) table to.fixings.now) where
  abbrev all_of : List (Name × Contract) → List (Name × Contract)
  all_of entries = used None (so_far (declared_to to) entries)

  used_all : (entries : List (Name × Contract)) → used (selection to.choice).only (so_far (declared_to to) entries) ≡ all_of entries
  used_all entries = ap (λ (only : Option (List ℕ)). used only (so_far (declared_to to) entries)) all

  pub stops_at_read : (f : Fault) → StopsIn text (declared_to to) (λ b. StopsOn b (selection to.choice) (IsMissingTo to b)) f → StopsIn text (declared_to to) (StopsCarry (selection to.choice) asked table) f
  stops_at_read f (inl bad) = inl bad
  stops_at_read f (inr h) =
      let b = so_far (declared_to to) h.0 in
      inr (
        h.0,
        h.1,
        on_stops text to.choice asked table all to.day is_day (IsMissingTo to b) h.0 f
            (λ accepted missing.
            let m = subst (λ (es : List (Name × Contract)). (all_fixed (declared_to to) to.fixings.now (last_gone to.day) es).FaultIs f) (used_all h.0) missing in
            inr (to.day, is_day, inr (tt, accepted, inr (to.fixings.now, are.are_fixings, inl m))))
            h.2,
      )

  pub left_carried : (out : List ℕ) → IsLeftText text to out → IsCarriedText text to.choice to.renaming asked table out
  left_carried out h =
      let here = used_all h.entries in
      let left = subst (λ (es : List (Name × Contract)). AreLeft to h.left es) here h.are_left in
      record {
        entries = h.entries;
        is_text = h.is_text;
        known = h.passes.known;
        day = to.day;
        fixings = to.fixings.now;
        can = record {
          is_day = is_day;
          accepted = subst (λ (es : List (Name × Contract)). AreAllAccepted (declared_to to) es) here h.passes.accepted;
          are_fixings = are.are_fixings;
          fixed = subst (λ (es : List (Name × Contract)). AreAllFixed (declared_to to) to.fixings.now (last_gone to.day) es) here h.passes.fixed;
        };
        advanced = record {
          due = h.left.due.items;
          are_due = left.due;
          rest = so_far (rest_declarations (declared_to to) to.day) left.rest;
          is_rest = record { declarations = refl; contracts = left.residuals };
          canon = h.left.rest.items;
          is_canon = left.canon;
          is = h.is;
        };
      }

  pub carries : (r : Result (Vec ℕ) Stop)
      → AnswersBy (λ out. IsLeftText text to out.items) (StopsIn text (declared_to to) (λ b. StopsOn b (selection to.choice) (IsMissingTo to b))) r
      → AnswersBy (λ out. IsCarriedText text to.choice to.renaming asked table out.items) (StopsIn text (declared_to to) (StopsCarry (selection to.choice) asked table)) r
  carries r h =
      answers_too (λ (out : Vec ℕ). IsLeftText text to out.items) (λ (out : Vec ℕ). IsCarriedText text to.choice to.renaming asked table out.items)
      (StopsIn text (declared_to to) (λ b. StopsOn b (selection to.choice) (IsMissingTo to b))) (StopsIn text (declared_to to) (StopsCarry (selection to.choice) asked table))
      (λ out k. left_carried out.items k) stops_at_read r h

-- ---- names

-- what is left has the names of the contracts
pub left_names : (d : Declarations) (fixings : Environment) (day : ℕ) (entries rest : List (Name × Contract)) → AreResiduals d fixings day entries rest → keys_of rest ≡ keys_of entries
left_names d fixings day [] [] is = refl
left_names d fixings day (entry ∷ entries) (left ∷ rest) is =
    ap (λ (n : Name). n ∷ keys_of rest) is.0 ∙ ap (λ (names : List Name). entry.0 ∷ names) (left_names d fixings day entries rest is.2)
left_names d fixings day _ _ is = absurd is

-- ---- the course of `advance`

unchanged : (entries : List (Name × Contract)) → map (changed None) entries ≡ entries
unchanged [] = refl
unchanged (e ∷ es) = ap (λ (rest : List (Name × Contract)). e ∷ rest) (unchanged es)

as_it_is : (b : Book) (day : ℕ) (fixings : Environment) (out : List ℕ) → IsAdvancedWith (changed_book None) b day fixings out → IsAdvanced b day fixings out
as_it_is b day fixings out h = record {
  due = h.due;
  are_due = h.are_due;
  rest = h.rest;
  is_rest = h.is_rest;
  canon = h.canon;
  is_canon = subst (λ (es : List (Name × Contract)). IsCanon h.canon (so_far h.rest.declarations es)) (unchanged h.rest.contracts) h.is_canon;
  is = h.is;
}

module _ (text : List ℕ) (choice : Choice) (asked : AdvanceAsked) (table : Option (List ℕ)) (is : selection choice ≡ every None) where
  pub advance_tells : (out : Vec ℕ) → IsCarriedText text choice None asked table out.items → Tells (advance_of_text asked text table) status.Done out.items
  advance_tells out h =
      let b = so_far (declarations choice.decls.now) h.entries in
      (b, h.is_text, (h.day, h.can.is_day, (tt, h.can.accepted, (h.fixings, h.can.are_fixings, (tt, h.can.fixed, (refl, as_it_is b h.day h.fixings out.items h.advanced))))))

  by_no_name : (b : Book) (f : Fault) → StopsCarry (every None) asked table b f → Stops (advance_on asked b table) f
  by_no_name b f (StopsByName.unknown u) = (let k : None ≡ Some u.name = u.given in absurd cc)
  by_no_name b f (StopsByName.then_stops k h) = h

  pub advance_stops : (f : Fault) → StopsIn text (declarations choice.decls.now) (StopsCarry (selection choice) asked table) f → Stops (advance_of_text asked text table) f
  advance_stops f (inl bad) = inl bad
  advance_stops f (inr h) =
      let b = so_far (declarations choice.decls.now) h.0 in
      inr (b, h.1, by_no_name b f (subst (λ (s : Selection). StopsCarry s asked table b f) is h.2))
