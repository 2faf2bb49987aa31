-- What the law of statuses says of `advance` and `novate`: each cause makes its status due, and what stops the course has its cause.
use Rattle.std.proofs.Common.{◌≡◌, inl, inr, ℕ, pos, true, false, List, refl, subst, sym, ◌∙◌}
use Rattle.std.specs.Prelude.{Option, None}
use Rattle.term_model.specs.Books.{Book}
use Rattle.term_model.specs.Environments.{Environment}
use Rattle.contract_grammar.specs.Names.{index_in}
use Rattle.report.specs.declared.fault_lines.Fault.{Fault}
use Rattle.command_words.specs.Commands.{AdvanceAsked, NovateAsked}
use Rattle.command_courses.specs.Course.{Course, IsDue, Stops, tells}
use Rattle.command_courses.specs.Statuses.{status_of}
use Rattle.command_courses.specs.declared.status.Status.{Status}
use Rattle.command_courses.specs.declared.status.Status.TheVariants as status
use Rattle.command_courses.proofs.DayFacts.{in_range_or_not}
use Rattle.command_courses.proofs.StageFacts.{fault_or_fixings, none_or_some}
use Rattle.used_contracts.specs.UsedContracts.{used}
use Rattle.used_contracts.proofs.FirstFacts.{accepted_or_not, fixed_or_not}
use Rattle.lifecycle_commands.specs.AdvanceCourse.{to_a_day}
use Rattle.lifecycle_commands.specs.AdvancePromise.{IsAdvanced, greatest_new_day, last_gone}
use Rattle.lifecycle_commands.specs.NovateCourse.{novate_on}
use Rattle.lifecycle_commands.specs.NovatePromise.{IsNovated}
use Rattle.lifecycle_commands.proofs.StageFacts.{new_is_asked}
use Rattle.contract_cli.specs.DueOfLifecycle.{CauseOfAdvance, CauseOfNovate, DueOfAdvance, DueOfNovate, HasCauseOfAdvance, no_contract, no_new, no_old}

-- ---- a portfolio that is carried to a day

module _ (asked : AdvanceAsked) (table : Option (List ℕ)) (b : Book) (IsText : ℕ → Environment → List ℕ → Type 0) where
  abbrev there : Course
  there = to_a_day asked.to b table (λ day fixings. tells (IsText day fixings))

  day_is_due : (s : Status) → CauseOfAdvance s asked table b → IsDue there s
  day_is_due status.DayRange h =
      inl (refl, λ day p. in_range_or_not b.declarations greatest_new_day asked.to (pos day) (new_is_asked b.declarations asked.to day p) h)
  day_is_due status.Refused h = inr (h.day, h.is_day, inl (refl, λ a p. h.refused p))
  day_is_due status.BadRow h =
      inr (h.day, h.is_day, inr (tt, h.accepted, inl (refl, λ fixings p. fault_or_fixings b.declarations table h.bytes h.row fixings h.named h.first p)))
  day_is_due status.Missing h =
      inr (h.day, h.is_day, inr (tt, h.accepted, inr (h.fixings, h.are_fixings, inl (refl, λ a p. h.unfixed p))))
  day_is_due status.Done h =
      inr (h.day, h.can.is_day, inr (tt, h.can.accepted, inr (h.fixings, h.can.are_fixings, inr (tt, h.can.fixed, refl))))
  day_is_due _ h = absurd h

  -- the cause of a fault, by its equation
  by_fault : (f g : Fault) → f ≡ g → CauseOfAdvance (status_of g) asked table b → CauseOfAdvance (status_of f) asked table b
  by_fault f g is h = subst (λ (x : Fault). CauseOfAdvance (status_of x) asked table b) (sym is) h

  cause_of_day : (f : Fault) → Stops there f → CauseOfAdvance (status_of f) asked table b
  cause_of_day f (inl h) = by_fault f _ h.fault_is h.out
  cause_of_day f (inr (day, is, inl h)) =
      by_fault f _ h.fault_is (record {
        day = day;
        is_day = is;
        refused = λ all. accepted_or_not b.declarations (used None b) h.name h.rule h.node all h.first;
      })
  cause_of_day f (inr (day, is, inr (c, all, inl h))) =
      by_fault f _ h.fault_is (record { day = day; is_day = is; accepted = all; bytes = h.bytes; named = h.named; row = h.row; first = h.first })
  cause_of_day f (inr (day, is, inr (c, all, inr (fixings, are, inl h)))) =
      by_fault f _ h.fault_is (record {
        day = day;
        is_day = is;
        accepted = all;
        fixings = fixings;
        are_fixings = are;
        unfixed = λ fixed. fixed_or_not b.declarations (last_gone day) (used None b) fixings h.place fixed h.first;
      })
  cause_of_day f (inr (day, is, inr (c, all, inr (fixings, are, inr (d, fixed, none))))) = absurd none

-- ---- `advance`

pub due_of_advance : DueOfAdvance
due_of_advance asked table b = record { due = day_is_due asked table b (IsAdvanced b); cause = cause_of_day asked table b (IsAdvanced b) }

-- ---- `novate`

module _ (asked : NovateAsked) (table : Option (List ℕ)) (b : Book) where
  behind_names : (s : Status) → HasCauseOfAdvance s asked table b → IsDue (novate_on asked b table) s
  behind_names s h =
      let due = day_is_due asked.advance table b (IsNovated asked.contract h.old h.new b) s h.cause in
      inr (tt, h.names.contract, inr (h.old, h.names.old_is, inr (h.new, h.names.new_is, due)))

  novate_is_due : (s : Status) → CauseOfNovate s asked table b → IsDue (novate_on asked b table) s
  novate_is_due status.UnknownName (no_contract h) = inl (refl, λ a p. (let e : false ≡ true = sym h ∙ p in cc))
  novate_is_due status.UnknownName (no_old known h) =
      inr (tt, known, inl (refl, λ place p. none_or_some (index_in b.declarations.parties asked.old) place h p))
  novate_is_due status.UnknownName (no_new known old is h) =
      inr (tt, known, inr (old, is, inl (refl, λ place p. none_or_some (index_in b.declarations.parties asked.new) place h p)))
  novate_is_due status.DayRange h = behind_names status.DayRange h
  novate_is_due status.Refused h = behind_names status.Refused h
  novate_is_due status.BadRow h = behind_names status.BadRow h
  novate_is_due status.Missing h = behind_names status.Missing h
  novate_is_due status.Done h = behind_names status.Done h
  novate_is_due _ h = absurd h.cause

  name_fault : (f g : Fault) → f ≡ g → CauseOfNovate (status_of g) asked table b → CauseOfNovate (status_of f) asked table b
  name_fault f g is h = subst (λ (x : Fault). CauseOfNovate (status_of x) asked table b) (sym is) h

  -- a cause of `advance` is none of a name
  with_names : (s : Status) → HasCauseOfAdvance s asked table b → CauseOfNovate s asked table b
  with_names status.UnknownName h = absurd h.cause
  with_names status.Done h = h
  with_names status.Refused h = h
  with_names status.Usage h = h
  with_names status.ReadFault h = h
  with_names status.WriteFault h = h
  with_names status.TooLong h = h
  with_names status.BadText h = h
  with_names status.BadRow h = h
  with_names status.Missing h = h
  with_names status.NoMemory h = h
  with_names status.DayRange h = h
  with_names status.TooMany h = h

  cause_of_novate : (f : Fault) → Stops (novate_on asked b table) f → CauseOfNovate (status_of f) asked table b
  cause_of_novate f (inl h) = name_fault f _ h.fault_is (no_contract h.unknown)
  cause_of_novate f (inr (a, known, inl h)) = name_fault f _ h.fault_is (no_old known h.absent)
  cause_of_novate f (inr (a, known, inr (old, old_is, inl h))) = name_fault f _ h.fault_is (no_new known old old_is h.absent)
  cause_of_novate f (inr (a, known, inr (old, old_is, inr (new, new_is, h)))) =
      with_names (status_of f) (record {
        old = old;
        new = new;
        names = record { contract = known; old_is = old_is; new_is = new_is };
        cause = cause_of_day asked.advance table b (IsNovated asked.contract old new b) f h;
      })

pub due_of_novate : DueOfNovate
due_of_novate asked table b = record { due = novate_is_due asked table b; cause = cause_of_novate asked table b }
