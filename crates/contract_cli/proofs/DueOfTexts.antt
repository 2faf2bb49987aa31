-- What the law of statuses says of `check`, `payoff`, `expand` and `migrate`: a status is due where its cause stands, and what stops the
-- course has its cause.
use Rattle.std.proofs.Common.{◌≡◌, ◌∙◌, inl, inr, ℕ, List, refl, subst, sym}
use Rattle.term_model.specs.Books.{Book}
use Rattle.term_model.specs.Instances.{declared_numbers, instance}
use Rattle.term_model.proofs.RefusalFacts.{accepted_not_refused}
use Rattle.report.specs.declared.fault_lines.Fault.{Fault}
use Rattle.command_words.specs.Commands.{PayoffAsked}
use Rattle.command_courses.specs.Course.{IsDue, Stops}
use Rattle.command_courses.specs.Inputs.{file_at}
use Rattle.command_courses.specs.Statuses.{status_of}
use Rattle.command_courses.specs.declared.status.Status.{Status}
use Rattle.command_courses.specs.declared.status.Status.TheVariants as status
use Rattle.command_courses.proofs.StageFacts.{none_or_some}
use Rattle.used_contracts.specs.UsedContracts.{contract_named}
use Rattle.text_commands.specs.CheckCourse.{check_course}
use Rattle.text_commands.specs.ExpandCourse.{expand_course}
use Rattle.text_commands.specs.MigrateCourse.{migrate_course}
use Rattle.text_commands.specs.PayoffCourse.{payoff_on}
use Rattle.contract_cli.specs.DueOfTexts.{CauseOfCheck, CauseOfExpand, CauseOfMigrate, CauseOfPayoff, DueOfCheck, DueOfExpand, DueOfMigrate, DueOfPayoff}

-- ---- `check`

module _ (inputs : List (List ℕ)) where
  abbrev bytes : List ℕ
  bytes = file_at inputs 0

  check_is_due : (s : Status) → CauseOfCheck s bytes → IsDue (check_course inputs) s
  check_is_due status.BadText h = inl (refl, h)
  check_is_due status.Refused h = inr (h.book, h.spelled, inr (refl, h.refused))
  check_is_due status.Done h = inr (h.book, h.spelled, inl (refl, h.accepted))
  check_is_due _ h = absurd h

  by_status : (s wanted : Status) → s ≡ wanted → CauseOfCheck wanted bytes → CauseOfCheck s bytes
  by_status s wanted is h = subst (λ (x : Status). CauseOfCheck x bytes) (sym is) h

  cause_of_check : (s : Status) → IsDue (check_course inputs) s → CauseOfCheck s bytes
  cause_of_check s (inl h) = by_status s status.BadText (sym h.0) h.1
  cause_of_check s (inr (b, spelled, inl h)) = by_status s status.Done h.0 (record { book = b; spelled = spelled; accepted = h.1 })
  cause_of_check s (inr (b, spelled, inr h)) = by_status s status.Refused h.0 (record { book = b; spelled = spelled; refused = h.1 })

  -- ---- `migrate`

  migrate_is_due : (s : Status) → CauseOfMigrate s bytes → IsDue (migrate_course inputs) s
  migrate_is_due status.BadText h = inl (refl, h)
  migrate_is_due status.Done h = inr (h.0, h.1, refl)
  migrate_is_due _ h = absurd h

  cause_of_migrate : (s : Status) → IsDue (migrate_course inputs) s → CauseOfMigrate s bytes
  cause_of_migrate s (inl h) = subst (λ (x : Status). CauseOfMigrate x bytes) h.0 h.1
  cause_of_migrate s (inr (b, spelled, is)) = subst (λ (x : Status). CauseOfMigrate x bytes) (sym is) (b, spelled)

  -- ---- `expand`

  expand_is_due : (s : Status) → CauseOfExpand s bytes → IsDue (expand_course inputs) s
  expand_is_due status.BadText h = inl (refl, h)
  expand_is_due status.Refused h = inr (h.plans, h.spelled, inl (refl, λ a p. h.refused p))
  expand_is_due status.Done h = inr (h.plans, h.spelled, inr (tt, h.accepted, refl))
  expand_is_due _ h = absurd h

  cause_of_expand : (s : Status) → IsDue (expand_course inputs) s → CauseOfExpand s bytes
  cause_of_expand s (inl h) = subst (λ (x : Status). CauseOfExpand x bytes) h.0 h.1
  cause_of_expand s (inr (plans, spelled, inl h)) =
      subst (λ (x : Status). CauseOfExpand x bytes) h.0 (record { plans = plans; spelled = spelled; refused = λ all. h.1 tt all })
  cause_of_expand s (inr (plans, spelled, inr (a, all, is))) =
      subst (λ (x : Status). CauseOfExpand x bytes) (sym is) (record { plans = plans; spelled = spelled; accepted = all })

pub due_of_check : DueOfCheck
due_of_check inputs s = (check_is_due inputs s, cause_of_check inputs s)

pub due_of_migrate : DueOfMigrate
due_of_migrate inputs s = (migrate_is_due inputs s, cause_of_migrate inputs s)

pub due_of_expand : DueOfExpand
due_of_expand inputs s = (expand_is_due inputs s, cause_of_expand inputs s)

-- ---- `payoff`

module _ (asked : PayoffAsked) (b : Book) where
  payoff_is_due : (s : Status) → CauseOfPayoff s asked b → IsDue (payoff_on asked b) s
  payoff_is_due status.UnknownName h = inl (refl, λ c p. none_or_some (contract_named asked.contract b) c h p)
  payoff_is_due status.Refused h = inr (h.contr, h.named, inl (refl, λ a p. h.refused p))
  payoff_is_due status.Done h = inr (h.contr, h.can.named, inr (tt, h.can.accepted, refl))
  payoff_is_due _ h = absurd h

  by_fault : (f g : Fault) → f ≡ g → CauseOfPayoff (status_of g) asked b → CauseOfPayoff (status_of f) asked b
  by_fault f g is h = subst (λ (x : Fault). CauseOfPayoff (status_of x) asked b) (sym is) h

  cause_of_payoff : (f : Fault) → Stops (payoff_on asked b) f → CauseOfPayoff (status_of f) asked b
  cause_of_payoff f (inl h) = by_fault f _ h.fault_is h.none
  cause_of_payoff f (inr (c, named, inl h)) =
      by_fault f _ h.fault_is (record {
        contr = c;
        named = named;
        refused = λ accepted. accepted_not_refused b.declarations (instance (declared_numbers b.declarations) c) h.rule h.node accepted h.refused;
      })
  cause_of_payoff f (inr (c, named, inr (a, accepted, none))) = absurd none

pub due_of_payoff : DueOfPayoff
due_of_payoff asked b = record { due = payoff_is_due asked b; cause = cause_of_payoff asked b }
