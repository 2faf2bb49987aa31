-- What the law of statuses says of `flows`: each cause makes its status due, and what stops the course has its cause.
use Rattle.std.proofs.Common.{◌≡◌, ◌∙◌, inl, inr, ℕ, List, refl, subst, sym}
use Rattle.std.specs.Prelude.{Option}
use Rattle.term_model.specs.Books.{Book}
use Rattle.report.specs.declared.fault_lines.Fault.{Fault}
use Rattle.command_words.specs.Commands.{FlowsAsked}
use Rattle.command_courses.specs.Course.{IsDue, Stops}
use Rattle.command_courses.specs.Statuses.{status_of}
use Rattle.command_courses.specs.declared.status.Status.{Status}
use Rattle.command_courses.specs.declared.status.Status.TheVariants as status
use Rattle.command_courses.proofs.StageFacts.{fault_or_fixings}
use Rattle.used_contracts.specs.UsedContracts.{used}
use Rattle.used_contracts.proofs.FirstFacts.{accepted_or_not, fixed_or_not}
use Rattle.flow_commands.specs.DueOfFlows.{CauseOfFlows, DueOfFlows}
use Rattle.flow_commands.specs.FlowsCourse.{flows_on}
use Rattle.flow_commands.proofs.LastDayFacts.{out_or_last}

module _ (asked : FlowsAsked) (table : Option (List ℕ)) (b : Book) where
  due_of_cause : (s : Status) → CauseOfFlows s asked table b → IsDue (flows_on asked b table) s
  due_of_cause status.UnknownName h = inl (refl, λ a p. (let e = sym h ∙ p in cc))
  due_of_cause status.DayRange h =
      inr (tt, h.known, inl (refl, λ last p. out_or_last b.declarations asked.until h.word last h.given h.out p))
  due_of_cause status.Refused h = inr (tt, h.fit.known, inr (h.last, h.fit.is_last, inl (refl, λ a p. h.refused p)))
  due_of_cause status.BadRow h =
      inr (tt, h.fit.known, inr (h.last, h.fit.is_last, inr (tt, h.accepted, inl (refl, λ fixings p. fault_or_fixings b.declarations table h.bytes h.row fixings h.named h.first p))))
  due_of_cause status.Missing h =
      inr (tt, h.fit.known, inr (h.last, h.fit.is_last, inr (tt, h.accepted, inr (h.fixings, h.are_fixings, inl (refl, λ a p. h.unfixed p)))))
  due_of_cause status.Done h =
      inr (tt, h.fit.known, inr (h.last, h.fit.is_last, inr (tt, h.accepted, inr (h.fixings, h.are_fixings, inr (tt, h.fixed, refl)))))
  due_of_cause _ h = absurd h

  -- the cause of a fault, by its equation
  by_fault : (f g : Fault) → f ≡ g → CauseOfFlows (status_of g) asked table b → CauseOfFlows (status_of f) asked table b
  by_fault f g is h = subst (λ (x : Fault). CauseOfFlows (status_of x) asked table b) (sym is) h

  cause_of_stop : (f : Fault) → Stops (flows_on asked b table) f → CauseOfFlows (status_of f) asked table b
  cause_of_stop f (inl h) = by_fault f _ h.fault_is h.unknown
  cause_of_stop f (inr (a, known, inl h)) = by_fault f _ h.fault_is (record { known = known; word = h.word; given = h.given; out = h.out })
  cause_of_stop f (inr (a, known, inr (last, is, inl h))) =
      by_fault f _ h.fault_is (record {
        last = last;
        fit = record { known = known; is_last = is };
        refused = λ all. accepted_or_not b.declarations (used asked.contract b) h.name h.rule h.node all h.first;
      })
  cause_of_stop f (inr (a, known, inr (last, is, inr (c, all, inl h)))) =
      by_fault f _ h.fault_is (record {
        last = last;
        fit = record { known = known; is_last = is };
        accepted = all;
        bytes = h.bytes;
        named = h.named;
        row = h.row;
        first = h.first;
      })
  cause_of_stop f (inr (a, known, inr (last, is, inr (c, all, inr (fixings, are, inl h))))) =
      by_fault f _ h.fault_is (record {
        last = last;
        fit = record { known = known; is_last = is };
        accepted = all;
        fixings = fixings;
        are_fixings = are;
        unfixed = λ fixed. fixed_or_not b.declarations last (used asked.contract b) fixings h.place fixed h.first;
      })
  cause_of_stop f (inr (a, known, inr (last, is, inr (c, all, inr (fixings, are, inr (d, fixed, none)))))) = absurd none

pub due_of_flows : DueOfFlows
due_of_flows asked table b = record { due = due_of_cause asked table b; cause = cause_of_stop asked table b }
