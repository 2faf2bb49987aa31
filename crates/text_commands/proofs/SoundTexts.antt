-- The courses of `check`, `migrate`, `expand` and `payoff` are sound: their stages exclude one another, and their statuses are those of
-- commands.
use Rattle.std.proofs.Common.{◌≡◌, ◌∙◌, inl, inr, ℕ, List, subst, sym}
use Rattle.term_model.specs.Books.{Book}
use Rattle.term_model.specs.Terms.{Contract}
use Rattle.contract_parse.proofs.OneText.{one_text}
use Rattle.contract_print.specs.Canon.{IsCanon}
use Rattle.contract_print.specs.Migrated.{migrated}
use Rattle.schedule_forms.specs.PlanBooks.{PlanBook, expanded_book}
use Rattle.schedule_forms.proofs.OnePlans.{one_plan_file}
use Rattle.payoff_lang.specs.CodeCanon.{IsCanonOfCode}
use Rattle.command_words.specs.Commands.{PayoffAsked}
use Rattle.command_courses.specs.Course.{tells}
use Rattle.command_courses.specs.Inputs.{file_at}
use Rattle.command_courses.specs.declared.status.Status.{Status}
use Rattle.command_courses.proofs.CourseFacts.{OfCommand, Sound, one_next, onward, sound_tells}
use Rattle.command_courses.proofs.StageFacts.{some_same}
use Rattle.used_contracts.specs.AllAccepted.{all_accepted}
use Rattle.used_contracts.specs.Portfolios.{portfolio_of}
use Rattle.used_contracts.proofs.StageFacts.{all_accepted_is, portfolio_is}
use Rattle.text_commands.specs.CheckCourse.{check_course}
use Rattle.text_commands.specs.CheckPromise.{Verdict}
use Rattle.text_commands.specs.ExpandCourse.{expand_course}
use Rattle.text_commands.specs.ExpandStages.{plans_of}
use Rattle.text_commands.specs.MigrateCourse.{migrate_course}
use Rattle.text_commands.specs.PayoffCourse.{payoff_course}
use Rattle.text_commands.specs.PayoffPromise.{code_file_of}
use Rattle.text_commands.specs.PayoffStages.{accepted_at_defaults, named}
use Rattle.text_commands.proofs.StageFacts.{accepted_at_defaults_is, named_is, plans_is}

of_verdict : (b : Book) (s : Status) → Verdict b s → OfCommand s
of_verdict b s (inl h) = subst OfCommand (sym h.0) tt
of_verdict b s (inr h) = subst OfCommand (sym h.0) tt

one_verdict : (b : Book) (s r : Status) → Verdict b s → Verdict b r → s ≡ r
one_verdict b s r (inl h) (inl k) = h.0 ∙ sym k.0
one_verdict b s r (inl h) (inr k) = absurd (k.1 h.1)
one_verdict b s r (inr h) (inl k) = absurd (h.1 k.1)
one_verdict b s r (inr h) (inr k) = h.0 ∙ sym k.0

pub sound_check : (inputs : List (List ℕ)) → Sound OfCommand (check_course inputs)
sound_check inputs =
    let bytes = file_at inputs 0 in
    one_next OfCommand Book (portfolio_of bytes) _ tt (portfolio_is bytes) (one_text bytes) (λ b p. (of_verdict b, one_verdict b))

pub sound_payoff : (asked : PayoffAsked) (inputs : List (List ℕ)) → Sound OfCommand (payoff_course asked inputs)
sound_payoff asked inputs =
    let bytes = file_at inputs 0 in
    one_next OfCommand Book (portfolio_of bytes) _ tt (portfolio_is bytes) (one_text bytes) (λ b p.
    one_next OfCommand Contract (named b asked.contract) _ tt (named_is b asked.contract) (λ one other q r. some_same one other (sym q ∙ r)) (λ c q.
    onward OfCommand (accepted_at_defaults b.declarations asked.contract c) (tells (λ text. IsCanonOfCode text (code_file_of b.declarations asked c))) tt
    (accepted_at_defaults_is b.declarations asked.contract c) (sound_tells (λ text. IsCanonOfCode text (code_file_of b.declarations asked c)))))

pub sound_migrate : (inputs : List (List ℕ)) → Sound OfCommand (migrate_course inputs)
sound_migrate inputs =
    let bytes = file_at inputs 0 in
    one_next OfCommand Book (portfolio_of bytes) _ tt (portfolio_is bytes) (one_text bytes) (λ b p. sound_tells (λ text. IsCanon text (migrated b)))

pub sound_expand : (inputs : List (List ℕ)) → Sound OfCommand (expand_course inputs)
sound_expand inputs =
    let bytes = file_at inputs 0 in
    one_next OfCommand PlanBook (plans_of bytes) _ tt (plans_is bytes) (one_plan_file bytes) (λ b p.
    onward OfCommand (all_accepted b.declarations (expanded_book b).contracts) (tells (λ text. IsCanon text (expanded_book b))) tt (all_accepted_is b.declarations (expanded_book b).contracts)
    (sound_tells (λ text. IsCanon text (expanded_book b))))
