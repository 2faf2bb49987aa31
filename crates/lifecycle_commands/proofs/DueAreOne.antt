-- Contracts over fixings have one text of what is due, and so two texts of `advance`, and two of `novate`, begin with the same lines.
use Rattle.std.proofs.Common.{◌≡◌, ◌∙◌, ℕ, ℤ, List, [], ◌∷◌, ◌++◌, ap, subst, sym}
use Rattle.std.specs.Prelude.{None}
use Rattle.term_model.specs.declared.name.Name.{Name}
use Rattle.term_model.specs.Declarations.{Declarations}
use Rattle.term_model.specs.Environments.{Environment, Place, held}
use Rattle.term_model.specs.Terms.{Contract}
use Rattle.flow_eval.specs.declared.flow_table.FlowRow.{FlowRow}
use Rattle.command_courses.proofs.FixingFacts.{hold_same}
use Rattle.used_contracts.specs.UsedContracts.{used}
use Rattle.used_contracts.proofs.OneLine.{one_line, one_table}
use Rattle.lifecycle_commands.specs.AdvancePromise.{AreComments, AreDueLines, IsDueText, commented, last_gone}
use Rattle.lifecycle_commands.specs.LawsDueLines.{DueLinesAreOne, DueLinesOfNovateAreOne}
use Rattle.lifecycle_commands.proofs.SoundLifecycle.{one_new_day}

one_comments : (d : Declarations) (name : List ℕ) (rows : List FlowRow) (t u : List ℕ) → AreComments d name rows t → AreComments d name rows u → t ≡ u
one_comments d name [] t u h k = h ∙ sym k
one_comments d name (row ∷ rows) t u h k =
    h.4 ∙ ap (λ (x : List ℕ). commented x ++ h.1) (one_line d name row h.0 k.0 h.2 k.2) ∙ ap (λ (x : List ℕ). commented k.0 ++ x) (one_comments d name rows h.1 k.1 h.3 k.3) ∙ sym k.4

module _ (d : Declarations) (last : ℤ) (one other : Environment) (same : (q : Place) → held one q ≡ held other q) where
  one_due_text : (name : List ℕ) (c : Contract) (t u : List ℕ) → IsDueText d one last name c t → IsDueText d other last name c u → t ≡ u
  one_due_text name c t u h k =
      let rows = one_table d last one other same c h.rows k.rows h.flows k.flows in
      one_comments d name k.rows t u (subst (λ (xs : List FlowRow). AreComments d name xs t) rows h.comments) k.comments

  pub one_due : (entries : List (Name × Contract)) (t u : List ℕ) → AreDueLines d one last entries t → AreDueLines d other last entries u → t ≡ u
  one_due [] t u h k = h ∙ sym k
  one_due (entry ∷ entries) t u h k =
      h.4 ∙ ap (λ (x : List ℕ). x ++ h.1) (one_due_text entry.0 entry.1 h.0 k.0 h.2 k.2) ∙ ap (λ (x : List ℕ). k.0 ++ x) (one_due entries h.1 k.1 h.3 k.3) ∙ sym k.4

pub due_are_one : DueLinesAreOne
due_are_one b asked table one other h k =
    let same = hold_same b.declarations table h.fixings k.fixings h.can.are_fixings k.can.are_fixings in
    let day = one_new_day b.declarations asked.to k.day h.day k.can.is_day h.can.is_day in
    let there = subst (λ (x : ℕ). AreDueLines b.declarations k.fixings (last_gone x) (used None b) k.advanced.due) day k.advanced.are_due in
    (one_due b.declarations (last_gone h.day) h.fixings k.fixings same (used None b) h.advanced.due k.advanced.due h.advanced.are_due there, sym day)

pub due_of_novate_are_one : DueLinesOfNovateAreOne
due_of_novate_are_one b asked table one other h k =
    let same = hold_same b.declarations table h.fixings k.fixings h.can.are_fixings k.can.are_fixings in
    let day = one_new_day b.declarations asked.advance.to k.day h.day k.can.is_day h.can.is_day in
    let there = subst (λ (x : ℕ). AreDueLines b.declarations k.fixings (last_gone x) (used None b) k.novated.due) day k.novated.are_due in
    (one_due b.declarations (last_gone h.day) h.fixings k.fixings same (used None b) h.novated.due k.novated.due h.novated.are_due there, sym day)
