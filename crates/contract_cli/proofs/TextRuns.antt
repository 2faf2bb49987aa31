-- What `migrate` and `expand` have written, from what they have told.
use Rattle.std.proofs.Common.{List, ℕ}
use Rattle.std.specs.Prelude.{All}
use Rattle.std.proofs.lemmas.List.Elements.{All-weaker}
use Rattle.contract_print.proofs.LinesSpelled.{book_spelled}
use Rattle.contract_print.proofs.MigratedFacts.{migrated_spellable}
use Rattle.contract_print.proofs.TextSpellable.{texts_spellable}
use Rattle.contract_print.specs.Migrated.{migrated}
use Rattle.schedule_forms.specs.DeclaredPlans.{IsPlanOfTexts}
use Rattle.schedule_forms.specs.Expansions.{expansion}
use Rattle.schedule_forms.specs.LawsSchedules.{PaysAsPlanned}
use Rattle.schedule_forms.specs.PlanBooks.{PlanBook, expanded_book}
use Rattle.schedule_forms.proofs.ExpandedTexts.{expanded_spellable}
use Rattle.schedule_forms.proofs.PlanFacts.{declared_pay}
use Rattle.schedule_forms.proofs.TextPlans.{texts_expandable}
use Rattle.command_words.specs.Commands.{Expand, Migrate}
use Rattle.command_courses.specs.Inputs.{file_at}
use Rattle.command_courses.specs.declared.status.Status.TheVariants as status
use Rattle.contract_cli.specs.Headline.{ArePaidAsPlanned, HasExpanded, HasMigrated}
use Rattle.contract_cli.specs.RunLaws.{HasTold}
use Rattle.contract_cli.specs.Seen.{Edge}
use Rattle.contract_cli.proofs.MigrateFacts.{migrated_say_the_same}

all_paid : (b : PlanBook) → All (λ entry. IsPlanOfTexts b.declarations entry.1) b.plans → ArePaidAsPlanned b
all_paid b fits =
    All-weaker (λ entry. IsPlanOfTexts b.declarations entry.1) (λ entry. PaysAsPlanned b.declarations (expansion entry.1) entry.1)
    (λ entry fits. declared_pay b.declarations entry.1 fits.within fits.over) b.plans fits

module _ (words : List (List ℕ)) (edge : Edge) (file : List ℕ) where
  pub has_migrated : HasTold words edge (Migrate file) status.Done → HasMigrated edge file
  has_migrated h =
      let b = h.told.0 in
      let spelled = h.told.1 in
      let is_canon = h.told.2.1 in
      record {
        book = b;
        inputs = h.inputs;
        text = h.text;
        ran = record { read = h.read; spelled = spelled; written = h.line };
        is_canon = is_canon;
        is_text = book_spelled h.text (migrated b) (migrated_spellable b (texts_spellable (file_at h.inputs 0) b spelled)) is_canon;
        same = migrated_say_the_same b;
      }

  pub has_expanded : HasTold words edge (Expand file) status.Done → HasExpanded edge file
  has_expanded h =
      let b = h.told.0 in
      let spelled = h.told.1 in
      let accepted = h.told.2.1 in
      let is_canon = h.told.2.2.1 in
      record {
        plans = b;
        inputs = h.inputs;
        text = h.text;
        read = h.read;
        spelled = spelled;
        written = h.line;
        is_canon = is_canon;
        is_text = book_spelled h.text (expanded_book b) (expanded_spellable (file_at h.inputs 0) b spelled) is_canon;
        accepted = accepted;
        paid = all_paid b (texts_expandable (file_at h.inputs 0) b spelled);
      }
