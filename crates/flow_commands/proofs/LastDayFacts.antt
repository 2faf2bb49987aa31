-- The last day of a word: it is one, and the stage of the last day has one fault, with its status.
use Rattle.std.proofs.Common.{ℕ, ℤ, List, refl, ◌≡◌, ◌∙◌, sym, ap, subst}
use Rattle.std.specs.Prelude.{Some, Option, None}
use Rattle.term_model.specs.Declarations.{Declarations}
use Rattle.report.specs.declared.fault_lines.Fault.{Fault}
use Rattle.report.specs.declared.fault_lines.Fault.TheVariants as fault
use Rattle.command_courses.specs.Days.{IsDayAsked, IsOutOfRange, IsWordFault, greatest_day}
use Rattle.command_courses.specs.Statuses.{status_of}
use Rattle.command_courses.proofs.CourseFacts.{IsStage}
use Rattle.command_courses.proofs.DayFacts.{asked_first, in_range_or_not}
use Rattle.command_courses.proofs.StageFacts.{some_same}
use Rattle.flow_commands.specs.FlowsParts.{CanBeLast}
use Rattle.flow_commands.specs.FlowsPromise.{IsLastDay}
use Rattle.flow_commands.specs.FlowsStages.{IsDayFault, last_day}

pub is_last : (d : Declarations) (word : List ℕ) (last : ℤ) → IsDayAsked d greatest_day word last → CanBeLast d (Some word) last
is_last d word last h = record { is_last = h; first = asked_first d greatest_day word last h; within = h.2 }

pub no_last : (d : Declarations) (word : List ℕ) (f : Fault) → IsWordFault d greatest_day word f → IsDayFault d (Some word) f
no_last d word f h = record { word = word; given = refl; out = h.out; fault_is = h.fault_is }

pub one_last : (d : Declarations) (until : Option (List ℕ)) (m n : ℤ) → IsLastDay d until m → IsLastDay d until n → m ≡ n
one_last d None m n h k = h ∙ sym k
one_last d (Some word) m n h k = let e = sym h.0 ∙ k.0 in cc

-- no last day stands by a word that is out of range
pub out_or_last : (d : Declarations) (until : Option (List ℕ)) (word : List ℕ) (last : ℤ) → until ≡ Some word → IsOutOfRange d greatest_day word → IsLastDay d until last → ⊥
out_or_last d until word last given out is = in_range_or_not d greatest_day word last (subst (λ (o : Option (List ℕ)). IsLastDay d o last) given is) out

pub last_day_is : (d : Declarations) (until : Option (List ℕ)) → IsStage ℤ (last_day d until)
last_day_is d until = record {
  excludes = λ last f p h. out_or_last d until h.word last h.given h.out p;
  one_fault = λ f g h k. h.fault_is ∙ ap (λ (x : List ℕ). fault.Day x) (some_same h.word k.word (sym h.given ∙ k.given)) ∙ sym k.fault_is;
  status_is = λ f h. ap status_of h.fault_is;
}
