-- What stops the parts of `flows` stops its course, and what they tell is told at its end.
use Rattle.std.proofs.Common.{◌≡◌, ◌≤◌, inl, inr, ℕ, ℤ, Bool, true, false, List, arith, length, refl, subst, sym}
use Rattle.std.specs.Prelude.{Option, None, Some, Result}
use Rattle.std.specs.Global.{Vec}
use Rattle.term_model.specs.declared.name.Name.{Name}
use Rattle.term_model.specs.Books.{Book}
use Rattle.term_model.specs.Declarations.{Declarations, declarations}
use Rattle.term_model.specs.Environments.{IsAdmitted}
use Rattle.term_model.specs.Limits.{longest_file}
use Rattle.term_model.specs.Terms.{Contract}
use Rattle.report.specs.RunningSums.{IsSumOfFew}
use Rattle.report.specs.declared.fault_lines.Fault.{Fault}
use Rattle.interval_check.specs.Within.{KeepsLimits}
use Rattle.command_words.specs.Commands.{FlowsAsked}
use Rattle.used_contracts.specs.ChoosingParts.{Holds, IsPassed, IsWalkedThrough, Selection, StopsByName, StopsIn, StopsOn, refused, selection, so_far, then_stops, unknown}
use Rattle.used_contracts.specs.ChoosingParts as named
use Rattle.command_courses.specs.Course.{Stops, Tells}
use Rattle.flow_commands.specs.FlowsCourse.{flows_of_text, flows_on}
use Rattle.flow_commands.specs.FlowsParts.{AreLinesOfSum, AreListed, CanBeLast, CanBeSummed, HasFlows, IsSumOfFlows, ListsFlows, PassesOf}
use Rattle.command_courses.specs.FixingTables.{HoldsFixings}
use Rattle.flow_commands.specs.FlowsParts.{StopsFlows, StopsOverFixings, TellsLines, of_flows}
use Rattle.flow_commands.specs.FlowsParts as over
use Rattle.flow_commands.specs.FlowsPromise.{AreLinesAsked, IsLastDay}
use Rattle.flow_commands.specs.FlowsStages.{IsDayFault}
use Rattle.used_contracts.specs.AllFixed.{IsMissingOf, all_fixed}
use Rattle.command_courses.specs.FixingTables.{IsRowFault}
use Rattle.used_contracts.specs.AllAccepted.{all_accepted}
use Rattle.command_courses.specs.Stopping.{AnswersBy, GoesDone}
use Rattle.used_contracts.specs.UsedContracts.{used}
use Rattle.flow_commands.specs.declared.flows_until.FlowsUntil.{FlowsUntil}
use Rattle.used_contracts.specs.declared.choosing.Tried.{Tried}
use Rattle.flow_commands.specs.declared.flows.KeptFlows.{KeptFlows}
use Rattle.flow_commands.specs.declared.flows.Listed.{Listed}
use Rattle.command_courses.specs.declared.status.Status.TheVariants as status
use Rattle.command_courses.specs.declared.stop.Stop.{Stop}
use Rattle.command_courses.proofs.StopFacts.{answers_too}
use Rattle.flow_commands.proofs.SumLineFacts.{sum_of_few}
use Rattle.used_contracts.proofs.UsedFacts.{contracts_few, used_few}

-- ---- what stops a command over fixings

module _ (text : List ℕ) (d : Declarations) (s : Selection) (until : Option (List ℕ)) (table : Option (List ℕ)) where
  day_over : (b : Book) (f : Fault) → StopsByName b s (IsDayFault b.declarations until) f → StopsOverFixings b s until table f
  day_over b f (named.unknown u) = over.unknown u
  day_over b f (named.then_stops k o) = over.no_day k o

  pub day_stops_over : (f : Fault) → StopsIn text d (λ b. StopsByName b s (IsDayFault d until)) f → StopsIn text d (λ b. StopsOverFixings b s until table) f
  day_stops_over f (inl bad) = inl bad
  day_stops_over f (inr h) = inr (h.0, h.1, day_over (so_far d h.0) f h.2)

  module _ (last : ℤ) (is : IsLastDay d until last) where
    row_over : (entries : List (Name × Contract)) (f : Fault) → StopsOn (so_far d entries) s (IsRowFault d table 2) f → StopsOverFixings (so_far d entries) s until table f
    row_over entries f (unknown u) = over.unknown u
    row_over entries f (refused k r) = over.refused last k is r
    row_over entries f (then_stops k a row) = over.bad_row last k is a row

    pub row_stops_over : (f : Fault) → StopsIn text d (λ b. StopsOn b s (IsRowFault d table 2)) f → StopsIn text d (λ b. StopsOverFixings b s until table) f
    row_stops_over f (inl bad) = inl bad
    row_stops_over f (inr h) = inr (h.0, h.1, row_over h.0 f h.2)

-- ---- what is listed

module _ (text : List ℕ) (until : FlowsUntil) where
  abbrev of : Declarations
  of = declarations until.choice.decls.now

  abbrev asks : Selection
  asks = selection until.choice

  -- the first of what stopped the contracts is what stops their flows
  flows_first : (tried : Tried) (kept : KeptFlows) (h : IsWalkedThrough text of asks (HasFlows until kept) tried) (f : Fault)
      → StopsOn (so_far of h.entries) asks (λ (g : Fault). (tried.refused ≡ None) × (kept.missing ≡ Some g)) f → StopsFlows until (so_far of h.entries) f
  flows_first tried kept h f (unknown u) = unknown u
  flows_first tried kept h f (refused k r) = refused k r
  flows_first tried kept h f (then_stops k a m) =
      then_stops k a (subst (λ (r : Option Fault). Holds (all_fixed of until.fixings.now until.last (used asks.only (so_far of h.entries))) r) m.1 (h.kept m.0).fixed)

  pub first_stops_flows : (tried : Tried) (kept : KeptFlows) (h : IsWalkedThrough text of asks (HasFlows until kept) tried) (f : Fault)
      → StopsOn (so_far of h.entries) asks (λ (g : Fault). (tried.refused ≡ None) × (kept.missing ≡ Some g)) f → StopsIn text of (StopsFlows until) f
  first_stops_flows tried kept h f k = inr (h.entries, h.is_text, flows_first tried kept h f k)

  pub flows_are_listed : (tried : Tried) (kept : KeptFlows) (h : IsWalkedThrough text of asks (HasFlows until kept) tried)
      → IsPassed (so_far of h.entries) asks tried kept.missing → ListsFlows text until kept.listed
  flows_are_listed tried kept h p =
      let b = so_far of h.entries in
      let flows = h.kept p.accepted in
      record {
        entries = h.entries;
        is_text = h.is_text;
        passes = record {
          known = p.known;
          accepted = subst (λ (r : Option Fault). Holds (all_accepted of (used asks.only b)) r) p.accepted h.trial.refused;
          fixed = subst (λ (r : Option Fault). Holds (all_fixed of until.fixings.now until.last (used asks.only b)) r) p.none flows.fixed;
        };
        are_listed = flows.listed p.none;
      }

  -- the sum that is listed can be told
  module _ (listed : Listed) (h : ListsFlows text until listed) where
    pub is_summed : until.summed ≡ true → IsSumOfFlows of until.fixings.now until.last (used asks.only (so_far of h.entries)) listed.sum
    is_summed yes_ = subst (λ (n : Bool). AreListed n of until.fixings.now until.last listed (used asks.only (so_far of h.entries))) yes_ h.are_listed

    pub can_be_summed : length text ≤ longest_file → until.summed ≡ true → CanBeSummed until listed.sum
    can_be_summed short yes_ =
        let b = so_far of h.entries in
        let fewer = used_few asks.only of h.entries in
        let few = contracts_few text b h.is_text short in
        record {
          entries = used asks.only b;
          few = omega (arith, fewer, few);
          accepted = h.passes.accepted;
          is_sum = is_summed yes_;
        }

    pub listed_few : KeepsLimits of → IsAdmitted of until.fixings.now → length text ≤ longest_file → until.summed ≡ true → IsSumOfFew listed.sum
    listed_few limits admitted short yes_ =
        let s = can_be_summed short yes_ in
        sum_of_few of until.fixings.now until.last limits admitted s.entries listed.sum s.few s.is_sum

    pub tells_sum : (lines : Vec ℕ) → until.summed ≡ true → AreLinesOfSum until listed.sum lines.items → TellsLines text until lines
    tells_sum lines yes_ sum =
        let b = so_far of h.entries in
        let are = sum (used asks.only b) (is_summed yes_) in
        record {
          entries = h.entries;
          is_text = h.is_text;
          passes = h.passes;
          are_lines = subst (λ (n : Bool). AreLinesAsked n of until.fixings.now until.last (used asks.only b) lines.items) (sym yes_) are;
        }

    pub tells_lines : until.summed ≡ false → TellsLines text until listed.text
    tells_lines no_ =
        let b = so_far of h.entries in
        let lines = subst (λ (n : Bool). AreListed n of until.fixings.now until.last listed (used asks.only b)) no_ h.are_listed in
        record {
          entries = h.entries;
          is_text = h.is_text;
          passes = h.passes;
          are_lines = subst (λ (n : Bool). AreLinesAsked n of until.fixings.now until.last (used asks.only b) listed.text.items) (sym no_) lines;
        }

-- ---- the course of `flows`

module _ (asked : FlowsAsked) (text : List ℕ) (table : Option (List ℕ)) where
  over_stops : (b : Book) (f : Fault) → StopsOverFixings b (of_flows asked) asked.until table f → Stops (flows_on asked b table) f
  over_stops b f (over.unknown u) = inl u
  over_stops b f (over.no_day k o) = inr (tt, k, inl o)
  over_stops b f (over.refused last k l r) = inr (tt, k, inr (last, l, inl r))
  over_stops b f (over.bad_row last k l a r) = inr (tt, k, inr (last, l, inr (tt, a, inl r)))

  pub stops_over : (d : Declarations) (s : Selection) (f : Fault) → s ≡ of_flows asked → StopsIn text d (λ (b : Book). StopsOverFixings b s asked.until table) f → Stops (flows_of_text asked text table) f
  stops_over d s f same (inl bad) = inl bad
  stops_over d s f same (inr h) =
      inr (so_far d h.0, h.1, over_stops (so_far d h.0) f (subst (λ (x : Selection). StopsOverFixings (so_far d h.0) x asked.until table f) same h.2))

  module _ (until : FlowsUntil) (same : selection until.choice ≡ of_flows asked) (last : CanBeLast (declarations until.choice.decls.now) asked.until until.last)
      (fixings : HoldsFixings (declarations until.choice.decls.now) table until.fixings.now) where
    abbrev d : Declarations
    d = declarations until.choice.decls.now

    flows_stop : (entries : List (Name × Contract)) (f : Fault)
        → StopsOn (so_far d entries) (of_flows asked) (IsMissingOf d until.fixings.now until.last (used asked.contract (so_far d entries))) f
        → Stops (flows_on asked (so_far d entries) table) f
    flows_stop entries f (unknown u) = inl u
    flows_stop entries f (refused k r) = inr (tt, k, inr (until.last, last.is_last, inl r))
    flows_stop entries f (then_stops k a m) =
        inr (tt, k, inr (until.last, last.is_last, inr (tt, a, inr (until.fixings.now, fixings.are_fixings, inl m))))

    pub stops_flows : (f : Fault) → StopsIn text d (StopsFlows until) f → Stops (flows_of_text asked text table) f
    stops_flows f (inl bad) = inl bad
    stops_flows f (inr h) =
        inr (
          so_far d h.0,
          h.1,
          flows_stop h.0 f
              (subst (λ (x : Selection). StopsOn (so_far d h.0) x (IsMissingOf d until.fixings.now until.last (used x.only (so_far d h.0))) f) same h.2),
        )

    pub tells_flows : (summed : until.summed ≡ asked.net) (lines : Vec ℕ) → TellsLines text until lines → Tells (flows_of_text asked text table) status.Done lines.items
    tells_flows summed lines h =
        let b = so_far d h.entries in
        let p = subst (λ (x : Selection). PassesOf x until b) same h.passes in
        let are = subst (λ (x : Selection). AreLinesAsked until.summed d until.fixings.now until.last (used x.only b) lines.items) same h.are_lines in
        let net = subst (λ (n : Bool). AreLinesAsked n d until.fixings.now until.last (used asked.contract b) lines.items) summed are in
        (b, h.is_text, (tt, p.known, (until.last, last.is_last, (tt, p.accepted, (until.fixings.now, fixings.are_fixings, (tt, p.fixed, (refl, net)))))))

    -- what is told of the contracts goes the course to its end, and what stops them stops it
    pub flows_told : (summed : until.summed ≡ asked.net) (r : Result (Vec ℕ) Stop) → AnswersBy (TellsLines text until) (StopsIn text d (StopsFlows until)) r
        → GoesDone (flows_of_text asked text table) r
    flows_told summed r h =
        answers_too (TellsLines text until) (λ (lines : Vec ℕ). Tells (flows_of_text asked text table) status.Done lines.items) (StopsIn text d (StopsFlows until))
        (Stops (flows_of_text asked text table)) (tells_flows summed) stops_flows r h
