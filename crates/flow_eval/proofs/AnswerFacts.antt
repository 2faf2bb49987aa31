-- The flows of a contract over fixings have one answer.
use Rattle.std.proofs.Common.{◌≡◌, ℕ, ℤ, inl, inr, List, Option, Some, None, Ok, Err, refl, ap, sym, ◌∙◌}
use Rattle.term_model.specs.Environments.{Place}
use Rattle.flow_eval.specs.declared.faults.FlowErr.{FlowErr}
use Rattle.flow_eval.specs.declared.faults.FlowErr.TheVariants.{Missing, NoMemory}
use Rattle.flow_eval.specs.declared.flow_table.FlowRow.{FlowRow}
use Rattle.flow_eval.specs.FlowAnswers.{AnswersAreOne}
use Rattle.flow_eval.specs.Tables.{paid_by}
use Rattle.flow_eval.proofs.TableFacts.{tables_are_one}

abbrev fault_at : Option Place → FlowErr
fault_at None = NoMemory
fault_at (Some q) = Missing q.label q.day

same_fault : (l m : ℕ) (t u : ℤ) → ◌≡◌ {A = Option Place} (Some (record { label = l; day = t })) (Some (record { label = m; day = u })) → Missing l t ≡ Missing m u
same_fault l m t u h = ap fault_at h

apart : (o : Option Place) (q : Place) → o ≡ None → o ≡ Some q → ⊥
apart o q h k = cc

pub answers_are_one : AnswersAreOne
answers_are_one d c F first last (Err NoMemory) other h k = inr (inl refl)
answers_are_one d c F first last one (Err NoMemory) h k = inr (inr refl)
answers_are_one d c F first last (Ok one) (Ok other) h k =
    inl (ap (λ (rows : List FlowRow). Ok rows) (tables_are_one (paid_by d c F first) first last one.rows.items other.rows.items (h.table F (λ q v e. e)) (k.table F (λ q v e. e))))
answers_are_one d c F first last (Ok one) (Err (Missing l t)) h k = absurd (apart _ _ h.fixed k)
answers_are_one d c F first last (Err (Missing l t)) (Ok other) h k = absurd (apart _ _ k.fixed h)
answers_are_one d c F first last (Err (Missing l t)) (Err (Missing m u)) h k = inl (ap (λ (e : FlowErr). Err e) (same_fault l m t u (sym h ∙ k)))
