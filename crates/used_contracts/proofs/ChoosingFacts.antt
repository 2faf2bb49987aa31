-- One contract more: whether the name is met, which are used, whether all of these are accepted, and what is kept of them.
use Rattle.std.proofs.Common.{◌≡◌, ◌∙◌, inl, inr, ℕ, Bool, true, false, ◌||◌, List, [], ◌∷◌, ◌++◌, append_assoc, ap, map, refl, subst, sym}
use Rattle.std.specs.Prelude.{Option, Some, None, Result, Ok, Err, if◌then◌else◌, is_none, is_some, not}
use Rattle.std.specs.List.{filter, list_any}
use Rattle.std.specs.Str.{bytes_eq}
use Rattle.std.proofs.lemmas.List.{append-nil, map-append}
use Rattle.std.proofs.lemmas.List.Elements.{All-nil, All-push, filter-append}
use Rattle.std.proofs.lemmas.List.Folds.{list_any-append}
use Rattle.term_model.specs.declared.name.Name.{Name}
use Rattle.term_model.specs.declared.rules.Rule.{Rule}
use Rattle.term_model.specs.declared.rules.RuleFault.{RuleFault}
use Rattle.term_model.specs.Acceptance.{IsAccepted, IsRefusal}
use Rattle.term_model.specs.Books.{Book}
use Rattle.term_model.specs.Declarations.{Declarations}
use Rattle.term_model.specs.Terms.{Contract, contract}
use Rattle.contract_parse.specs.NextContracts.{IsNext}
use Rattle.contract_grammar.specs.Texts.{Text}
use Rattle.contract_parse.specs.declared.next_contracts.ContractReader.{ContractReader}
use Rattle.contract_parse.specs.declared.next_contracts.NextContract.{NextContract}
use Rattle.report.specs.declared.fault_lines.Fault.{Fault}
use Rattle.report.specs.declared.fault_lines.Fault.TheVariants as fault
use Rattle.used_contracts.specs.AllAccepted.{AreAllAccepted}
use Rattle.used_contracts.specs.ChoosingParts.{Chooses, HasName, Holds, IsPassed, IsTried, IsWalked, IsWalkedThrough, Meets, Nothing, Selection, Steps}
use Rattle.used_contracts.specs.ChoosingParts.{StopsBy, StopsByName, StopsIn, StopsOn, TellsName, stop_at, unknown, then_stops}
use Rattle.used_contracts.specs.ChoosingParts as on
use Rattle.used_contracts.specs.ChoosingParts.{TriesNext, asked, passed, refused_fault, so_far}
use Rattle.used_contracts.specs.ReadingParts.{IsBegun}
use Rattle.used_contracts.specs.AllAccepted.{IsRefusedOf, all_accepted}
use Rattle.used_contracts.specs.Portfolios.{known as known_stage}
use Rattle.used_contracts.specs.UsedContracts.{at_defaults, is_asked, is_known, used}
use Rattle.command_courses.specs.Stopping.{AnswersBy, AnswersStage}
use Rattle.used_contracts.specs.UsedParts.{IsTriable}
use Rattle.used_contracts.specs.declared.choosing.Tried.{Tried}
use Rattle.command_courses.specs.declared.stop.Stop.{Stop}
use Rattle.command_courses.specs.declared.stop.Stop.TheVariants as stop
use Rattle.used_contracts.proofs.FirstFacts.{IsAcceptedEntry}
use Rattle.used_contracts.proofs.UsedFacts.{taken, passed_over}

-- ---- one contract more

or_false : (b : Bool) → (b || false) ≡ b
or_false true = refl
or_false false = refl

or_true : (b : Bool) → (b || true) ≡ true
or_true true = refl
or_true false = refl

module _ (only : Option (List ℕ)) (d : Declarations) (entries : List (Name × Contract)) (entry : Name × Contract) where
  used_append : used only (so_far d (entries ++ entry ∷ [])) ≡ used only (so_far d entries) ++ used only (so_far d (entry ∷ []))
  used_append =
      ap (map (at_defaults d)) (filter-append (λ (e : Name × Contract). is_asked only e.0) entries (entry ∷ []))
      ∙ map-append (at_defaults d) (filter (λ (e : Name × Contract). is_asked only e.0) entries) (filter (λ (e : Name × Contract). is_asked only e.0) (entry ∷ []))

  pub used_more : is_asked only entry.0 ≡ true → used only (so_far d (entries ++ entry ∷ [])) ≡ used only (so_far d entries) ++ at_defaults d entry ∷ []
  used_more asks = used_append ∙ ap (λ (es : List (Name × Contract)). used only (so_far d entries) ++ es) (taken only d entry [] asks)

  pub used_same : is_asked only entry.0 ≡ false → used only (so_far d (entries ++ entry ∷ [])) ≡ used only (so_far d entries)
  used_same skips =
      used_append ∙ ap (λ (es : List (Name × Contract)). used only (so_far d entries) ++ es) (passed_over only d entry [] skips)
      ∙ append-nil (used only (so_far d entries))

-- a name is known of contracts with one more, if it was or if it is the name of this one
known_append : (named : Option (List ℕ)) (d : Declarations) (entries : List (Name × Contract)) (entry : Name × Contract)
    → is_known named (so_far d (entries ++ entry ∷ [])) ≡ (is_known named (so_far d entries) || is_asked named entry.0)
known_append None d entries entry = refl
known_append (Some word) d entries entry =
    let test : Name × Contract → Bool = λ e. bytes_eq word e.0 in
    list_any-append test entries (entry ∷ []) ∙ ap (λ (b : Bool). list_any test entries || b) (or_false (bytes_eq word entry.0))

none_known : (named : Option (List ℕ)) (d : Declarations) → is_none named ≡ is_known named (so_far d [])
none_known None d = refl
none_known (Some word) d = refl

-- ---- one contract tried

module _ (d : Declarations) (entries : List (Name × Contract)) (entry : Name × Contract) where
  refused_still : (f : Fault) → IsRefusedOf d entries f → IsRefusedOf d (entries ++ entry ∷ []) f
  refused_still f h =
      let n = h.first in
      record {
        name = h.name;
        rule = h.rule;
        node = h.node;
        first = record {
          before = n.before;
          contr = n.contr;
          after = n.after ++ entry ∷ [];
          split = ap (λ (es : List (Name × Contract)). es ++ entry ∷ []) n.split ∙ append_assoc n.before ((h.name, n.contr) ∷ n.after) (entry ∷ []);
          accepted = n.accepted;
          refused = n.refused;
        };
        fault_is = h.fault_is;
      }

  refused_now : (rule : Rule) (node : ℕ) → AreAllAccepted d entries → IsRefusal d entry.1 rule node → IsRefusedOf d (entries ++ entry ∷ []) (fault.Refused entry.0 rule node)
  refused_now rule node all fails = record {
    name = entry.0;
    rule = rule;
    node = node;
    first = record { before = entries; contr = entry.1; after = []; split = refl; accepted = all; refused = fails };
    fault_is = refl;
  }

pub some_held : (before : Option Fault) → is_some before ≡ true → before ≡ None → ⊥
some_held None some none = cc
some_held (Some f) some none = cc

pub none_held : (before : Option Fault) → is_some before ≡ false → before ≡ None
none_held None none = refl
none_held (Some f) none = absurd cc

module _ (d : Declarations) (entry : Name × Contract) where
  held_still : (before : Option Fault) (entries : List (Name × Contract)) → is_some before ≡ true → Holds (all_accepted d entries) before → Holds (all_accepted d (entries ++ entry ∷ [])) before
  held_still None entries some h = absurd cc
  held_still (Some f) entries some h = refused_still d entries entry f h

  -- where one before it was refused
  pub try_behind : (before after : Option Fault) → is_some before ≡ true → after ≡ before → TriesNext d entry before after None
  try_behind before after some same = record {
    held = λ entries h. subst (λ (r : Option Fault). Holds (all_accepted d (entries ++ entry ∷ [])) r) (sym same) (held_still before entries some h);
    uses = λ none. some_held before some (sym same ∙ none);
  }

  all_held : (before : Option Fault) (entries : List (Name × Contract)) → before ≡ None → Holds (all_accepted d entries) before → AreAllAccepted d entries
  all_held before entries none h = subst (λ (r : Option Fault). Holds (all_accepted d entries) r) none h

  -- where it is accepted
  pub try_accepted : (before after : Option Fault) (one : NextContract) → is_some before ≡ false → after ≡ before → (one.name.now, contract one.contr) ≡ entry → IsTriable d entry.1 → IsAccepted d entry.1 → TriesNext d entry before after (Some one)
  try_accepted before after one none same is triable accepted =
      let empty = none_held before none in
      record {
        held = λ entries h.
            subst (λ (r : Option Fault). Holds (all_accepted d (entries ++ entry ∷ [])) r) (sym (same ∙ empty))
            (All-push (IsAcceptedEntry d) entries entry (all_held before entries empty h) accepted);
        uses = record { is = is; triable = triable; accepted = accepted; none_before = empty; none_behind = same ∙ empty };
      }

  -- where it is the first that is refused
  pub try_refused : (before after : Option Fault) (f : RuleFault) → is_some before ≡ false → IsRefusal d entry.1 f.rule f.node → after ≡ Some (refused_fault entry.0 f) → TriesNext d entry before after None
  try_refused before after f none fails held = record {
    held = λ entries h.
        subst (λ (r : Option Fault). Holds (all_accepted d (entries ++ entry ∷ [])) r) (sym held)
        (refused_now d entries entry f.rule f.node (all_held before entries (none_held before none) h) fails);
    uses = λ empty. (let k : Some (refused_fault entry.0 f) ≡ None = sym held ∙ empty in cc);
  }

-- ---- one contract chosen, or passed over

-- a contract is used if it is asked for, or if not only what is asked for is used
pub asked_or_all : (named : Option (List ℕ)) (only : Bool) (name : List ℕ) → is_asked (if only then named else None) name ≡ (is_asked named name || not only)
asked_or_all named true name = sym (or_false (is_asked named name))
asked_or_all named false name = sym (or_true (is_asked named name))

module _ (s : Selection) (d : Declarations) (entry : Name × Contract) (before after : Tried)
    (met : after.met ≡ (before.met || is_asked s.named entry.0)) where
  met_more : (entries : List (Name × Contract)) → before.met ≡ is_known s.named (so_far d entries) → after.met ≡ is_known s.named (so_far d (entries ++ entry ∷ []))
  met_more entries is = met ∙ ap (λ (b : Bool). b || is_asked s.named entry.0) is ∙ sym (known_append s.named d entries entry)

  pub choose_none : is_asked s.only entry.0 ≡ false → after.refused ≡ before.refused → Chooses d s entry before after None
  choose_none skips same = record {
    tried = λ entries h. record {
      met = met_more entries h.met;
      refused =
          subst (λ (r : Option Fault). Holds (all_accepted d (used s.only (so_far d (entries ++ entry ∷ [])))) r) (sym same)
          (subst (λ (es : List (Name × Contract)). Holds (all_accepted d es) before.refused) (sym (used_same s.only d entries entry skips)) h.refused);
    };
    meets = passed skips refl same;
  }

  pub choose_next : (one : Option NextContract) → is_asked s.only entry.0 ≡ true → TriesNext d (at_defaults d entry) before.refused after.refused one → Chooses d s entry before after one
  choose_next one asks tries = record {
    tried = λ entries h. record {
      met = met_more entries h.met;
      refused =
          subst (λ (es : List (Name × Contract)). Holds (all_accepted d es) after.refused) (sym (used_more s.only d entries entry asks))
          (tries.held (used s.only (so_far d entries)) h.refused);
    };
    meets = asked asks tries.uses;
  }

-- a contract that is used is accepted
pub used_accepted : (d : Declarations) (s : Selection) (entry : Name × Contract) (before after : Tried) (one : NextContract)
    → Chooses d s entry before after (Some one) → IsAccepted d (contract one.contr)
used_accepted d s entry before after one chosen = by_meets chosen.meets
  where
    by_meets : Meets d s entry before after (Some one) → IsAccepted d (contract one.contr)
    by_meets (passed skips is same) = absurd cc
    by_meets (asked asks u) = subst (λ (e : Name × Contract). IsAccepted d e.1) (sym u.is) u.accepted

-- ---- what is kept

module _ (d : Declarations) (s : Selection) (entry : Name × Contract) (before after : Tried) where
  pub steps_nothing : (one : Option NextContract) → Chooses d s entry before after one → Steps d s Nothing Nothing entry before after
  steps_nothing one chosen = record { tried = chosen.tried; kept = λ entries kept none. tt }

  kept_passed : (Kept : List (Name × Contract) → Type 0) → Meets d s entry before after None → (entries : List (Name × Contract))
      → (before.refused ≡ None → Kept (used s.only (so_far d entries))) → after.refused ≡ None → Kept (used s.only (so_far d (entries ++ entry ∷ [])))
  kept_passed Kept (passed skips is same) entries kept none = subst Kept (sym (used_same s.only d entries entry skips)) (kept (sym same ∙ none))
  kept_passed Kept (asked asks uses) entries kept none = absurd (uses none)

  pub steps_passed : (Kept : List (Name × Contract) → Type 0) → Chooses d s entry before after None → Steps d s Kept Kept entry before after
  steps_passed Kept chosen = record { tried = chosen.tried; kept = kept_passed Kept chosen.meets }

  kept_used : (Kept Keeps : List (Name × Contract) → Type 0) (one : NextContract) → Meets d s entry before after (Some one)
      → ((entries : List (Name × Contract)) → Kept entries → Keeps (entries ++ (one.name.now, contract one.contr) ∷ []))
      → (entries : List (Name × Contract)) → (before.refused ≡ None → Kept (used s.only (so_far d entries)))
      → after.refused ≡ None → Keeps (used s.only (so_far d (entries ++ entry ∷ [])))
  kept_used Kept Keeps one (passed skips is same) more entries kept none = absurd cc
  kept_used Kept Keeps one (asked asks u) more entries kept none =
      let made : used s.only (so_far d (entries ++ entry ∷ [])) ≡ used s.only (so_far d entries) ++ (one.name.now, contract one.contr) ∷ [] =
      used_more s.only d entries entry asks ∙ ap (λ (e : Name × Contract). used s.only (so_far d entries) ++ e ∷ []) (sym u.is) in
      subst Keeps (sym made) (more (used s.only (so_far d entries)) (kept u.none_before))

  pub steps_used : (Kept Keeps : List (Name × Contract) → Type 0) (one : NextContract) → Chooses d s entry before after (Some one)
      → ((entries : List (Name × Contract)) → Kept entries → Keeps (entries ++ (one.name.now, contract one.contr) ∷ []))
      → Steps d s Kept Keeps entry before after
  steps_used Kept Keeps one chosen more = record { tried = chosen.tried; kept = kept_used Kept Keeps one chosen.meets more }

-- ---- one contract after another

module _ (text : List ℕ) (d : Declarations) (s : Selection) where
  pub walked_none : (Kept : List (Name × Contract) → Type 0) (reader : ContractReader) (tried : Tried) → IsBegun text d reader
      → tried.met ≡ is_none s.named → tried.refused ≡ None → Kept [] → IsWalked text d s Kept reader tried
  walked_none Kept reader tried begun met none kept = record {
    entries = [];
    read = begun;
    trial = record {
      met = met ∙ none_known s.named d;
      refused = subst (λ (r : Option Fault). Holds (all_accepted d (used s.only (so_far d []))) r) (sym none) (All-nil (IsAcceptedEntry d));
    };
    kept = λ _. kept;
  }

  pub walked_on : (Kept Keeps : List (Name × Contract) → Type 0) (reader after : ContractReader) (tried tries : Tried) (one : NextContract)
      (h : IsWalked text d s Kept reader tried) → IsNext text d h.entries after one
      → Steps d s Kept Keeps (one.name.now, contract one.contr) tried tries → IsWalked text d s Keeps after tries
  walked_on Kept Keeps reader after tried tries one h next steps = record {
    entries = h.entries ++ (one.name.now, contract one.contr) ∷ [];
    read = next.read;
    trial = steps.tried h.entries h.trial;
    kept = steps.kept h.entries h.kept;
  }

  pub walked_through : (Kept : List (Name × Contract) → Type 0) (reader : ContractReader) (tried : Tried) (h : IsWalked text d s Kept reader tried)
      → Text text (so_far d h.entries) → IsWalkedThrough text d s Kept tried
  walked_through Kept reader tried h whole = record { entries = h.entries; is_text = whole; trial = h.trial; kept = h.kept }

-- ---- stops

-- a stop, as the answer that it is
pub stop_answers : {A : Type 0} (Good : A → Type 0) (Stopped : Fault → Type 0) (e : Stop) → StopsBy Stopped e → AnswersBy Good Stopped (Err e)
stop_answers Good Stopped (stop.Fault f) h = h
stop_answers Good Stopped stop.NoMemory h = tt

pub answer_stops : {A : Type 0} (Good : A → Type 0) (Stopped : Fault → Type 0) (e : Stop) → AnswersBy Good Stopped (Err e) → StopsBy Stopped e
answer_stops Good Stopped (stop.Fault f) h = h
answer_stops Good Stopped stop.NoMemory h = tt

pub stops_too : (Stopped Stops : Fault → Type 0) → ((f : Fault) → Stopped f → Stops f) → (e : Stop) → StopsBy Stopped e → StopsBy Stops e
stops_too Stopped Stops pass (stop.Fault f) h = pass f h
stops_too Stopped Stops pass stop.NoMemory h = tt

-- ---- what stops a command at the contracts

module _ (text : List ℕ) (d : Declarations) (s : Selection) where
  abbrev NamesStop : (Fault → Type 0) → Fault → Type 0
  NamesStop Then f = StopsIn text d (λ b. StopsByName b s Then) f

  abbrev AcceptanceStops : (Fault → Type 0) → Fault → Type 0
  AcceptanceStops Then f = StopsIn text d (λ b. StopsOn b s Then) f

  by_name : (Then : Fault → Type 0) (b : Book) (f : Fault) → StopsByName b s (λ _. ⊥) f → StopsByName b s Then f
  by_name Then b f (unknown u) = unknown u
  by_name Then b f (then_stops k never) = absurd never

  by_name_too : (Then : Fault → Type 0) (b : Book) (f : Fault) → StopsByName b s (λ _. ⊥) f → StopsOn b s Then f
  by_name_too Then b f (unknown u) = on.unknown u
  by_name_too Then b f (then_stops k never) = absurd never

  -- a stop at the text or by the name is one also with what comes behind it
  pub names_stop : (Then : Fault → Type 0) (f : Fault) → NamesStop (λ _. ⊥) f → NamesStop Then f
  names_stop Then f (inl bad) = inl bad
  names_stop Then f (inr h) = inr (h.0, h.1, by_name Then (so_far d h.0) f h.2)

  pub names_stop_too : (Then : Fault → Type 0) (f : Fault) → NamesStop (λ _. ⊥) f → AcceptanceStops Then f
  names_stop_too Then f (inl bad) = inl bad
  names_stop_too Then f (inr h) = inr (h.0, h.1, by_name_too Then (so_far d h.0) f h.2)

  module _ (tried : Tried) (h : HasName text d s tried) where
    pub own_behind_names : (own : Stop) → StopsBy (NamesStop (λ (f : Fault). own ≡ stop.Fault f)) own
    own_behind_names (stop.Fault f) = inr (h.walked.entries, h.walked.is_text, then_stops h.known refl)
    own_behind_names stop.NoMemory = tt

    all_accepted_by : tried.refused ≡ None → AreAllAccepted d (used s.only (so_far d h.walked.entries))
    all_accepted_by none = subst (λ (r : Option Fault). Holds (all_accepted d (used s.only (so_far d h.walked.entries))) r) none h.walked.trial.refused

    pub own_behind_acceptance : (own : Stop) → tried.refused ≡ None → StopsBy (AcceptanceStops (λ (f : Fault). own ≡ stop.Fault f)) own
    own_behind_acceptance (stop.Fault f) none = inr (h.walked.entries, h.walked.is_text, on.then_stops h.known (all_accepted_by none) refl)
    own_behind_acceptance stop.NoMemory none = tt

    pub refusal_stops : (Then : Fault → Type 0) (f : Fault) → tried.refused ≡ Some f → AcceptanceStops Then f
    refusal_stops Then f held =
        inr (
          h.walked.entries,
          h.walked.is_text,
          on.refused h.known (subst (λ (r : Option Fault). Holds (all_accepted d (used s.only (so_far d h.walked.entries))) r) held h.walked.trial.refused),
        )

-- a stop is at a fault that is held, and without one there is none
stop_at_some : (held : Option Fault) (e : Stop) → Err e ≡ stop_at held → (f : Fault) × (held ≡ Some f) × (e ≡ stop.Fault f)
stop_at_some None e is = absurd cc
stop_at_some (Some f) e is = (f, refl, (let same : Err e ≡ Err (stop.Fault f) = is in cc))

stop_at_none : (held : Option Fault) (u : Unit {0}) → Ok u ≡ stop_at held → held ≡ None
stop_at_none None u is = refl
stop_at_none (Some f) u is = absurd cc

module _ (b : Book) (s : Selection) (tried : Tried) (held : Option Fault) (h : IsTried s b tried) (known : is_known s.named b ≡ true) where
  abbrev FirstStop : Fault → Type 0
  FirstStop f = StopsOn b s (λ (g : Fault). (tried.refused ≡ None) × (held ≡ Some g)) f

  pub refusal_first : (e : Stop) → Err e ≡ stop_at tried.refused → StopsBy FirstStop e
  refusal_first e is =
      let k = stop_at_some tried.refused e is in
      let r = subst (λ (x : Option Fault). Holds (all_accepted b.declarations (used s.only b)) x) k.1 h.refused in
      subst (StopsBy FirstStop) (sym k.2) (on.refused known r)

  pub accepted_behind : (u : Unit {0}) → Ok u ≡ stop_at tried.refused → tried.refused ≡ None
  accepted_behind u is = stop_at_none tried.refused u is

  last_stop : (x : Option Fault) → held ≡ x → tried.refused ≡ None → AnswersBy (λ (u : Unit {0}). IsPassed b s tried held) FirstStop (stop_at x)
  last_stop None none accepted = record { known = known; accepted = accepted; none = none }
  last_stop (Some f) some accepted =
      on.then_stops known (subst (λ (r : Option Fault). Holds (all_accepted b.declarations (used s.only b)) r) accepted h.refused) (accepted, some)

  pub held_last : (r : Result (Unit {0}) Stop) → tried.refused ≡ None → r ≡ stop_at held → AnswersBy (λ (u : Unit {0}). IsPassed b s tried held) FirstStop r
  held_last r accepted is = subst (AnswersBy (λ (u : Unit {0}). IsPassed b s tried held) FirstStop) (sym is) (last_stop held refl accepted)

-- what is told of the name, where it is the selection's
pub name_told : (b : Book) (s : Selection) (given : Option (List ℕ)) (met : Bool) (r : Result (Unit {0}) Stop) → s.named ≡ given → met ≡ is_known s.named b
    → TellsName given met r → AnswersStage (known_stage b s.named) (λ (u : Unit {0}). tt) r
name_told b s given met r same is tells =
    subst (λ (n : Option (List ℕ)). AnswersStage (known_stage b n) (λ (u : Unit {0}). tt) r) (sym same) (tells b (is ∙ ap (λ (n : Option (List ℕ)). is_known n b) same))

-- a stop of its own is what it is said to be
own_is : (Own : Fault → Type 0) (own : Stop) (f : Fault) → StopsBy Own own → own ≡ stop.Fault f → Own f
own_is Own own f h is = subst (StopsBy Own) is h

module _ (text : List ℕ) (d : Declarations) (s : Selection) (Own : Declarations → Fault → Type 0) (own : Stop) (h : StopsBy (Own d) own) where
  own_by_name : (b : Book) (f : Fault) → StopsByName b s (λ (g : Fault). own ≡ stop.Fault g) f → StopsByName b s (Own d) f
  own_by_name b f (unknown u) = unknown u
  own_by_name b f (then_stops k is) = then_stops k (own_is (Own d) own f h is)

  pub own_names : (f : Fault) → StopsIn text d (λ b. StopsByName b s (λ (g : Fault). own ≡ stop.Fault g)) f → StopsIn text d (λ b. StopsByName b s (Own d)) f
  own_names f (inl bad) = inl bad
  own_names f (inr k) = inr (k.0, k.1, own_by_name (so_far d k.0) f k.2)

  own_on : (b : Book) (f : Fault) → StopsOn b s (λ (g : Fault). own ≡ stop.Fault g) f → StopsOn b s (Own d) f
  own_on b f (on.unknown u) = on.unknown u
  own_on b f (on.refused k r) = on.refused k r
  own_on b f (on.then_stops k a is) = on.then_stops k a (own_is (Own d) own f h is)

  pub own_acceptance : (f : Fault) → StopsIn text d (λ b. StopsOn b s (λ (g : Fault). own ≡ stop.Fault g)) f → StopsIn text d (λ b. StopsOn b s (Own d)) f
  own_acceptance f (inl bad) = inl bad
  own_acceptance f (inr k) = inr (k.0, k.1, own_on (so_far d k.0) f k.2)
