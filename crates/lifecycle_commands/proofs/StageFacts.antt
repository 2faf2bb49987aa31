-- The stages of a new day and of a party exclude each what passes and what stops it, and each has one fault, with its status.
use Rattle.std.proofs.Common.{ℕ, pos, List, arith, ◌∙◌, ap, sym}
use Rattle.std.proofs.lemmas.Int.{ints}
use Rattle.term_model.specs.Declarations.{Declarations}
use Rattle.contract_grammar.specs.Names.{index_in}
use Rattle.command_courses.specs.Days.{IsDayAsked}
use Rattle.command_courses.specs.Statuses.{status_of}
use Rattle.command_courses.proofs.CourseFacts.{IsStage}
use Rattle.command_courses.proofs.DayFacts.{in_range_or_not}
use Rattle.command_courses.proofs.StageFacts.{none_or_some}
use Rattle.lifecycle_commands.specs.AdvancePromise.{IsNewDay, greatest_new_day}
use Rattle.lifecycle_commands.specs.LifecycleStages.{new_day, party_named}

-- a new day is one that is asked for
pub new_is_asked : (d : Declarations) (word : List ℕ) (day : ℕ) → IsNewDay d word day → IsDayAsked d greatest_new_day word (pos day)
new_is_asked d word day h = (h.named, (let low = h.no_sooner in omega (arith, ints)), (let high = h.no_later in omega (arith, ints)))

-- ---- names

pub party_named_is : (d : Declarations) (name : List ℕ) → IsStage ℕ (party_named d name)
party_named_is d name = record {
  excludes = λ place f p h. none_or_some (index_in d.parties name) place h.absent p;
  one_fault = λ f g h k. h.fault_is ∙ sym k.fault_is;
  status_is = λ f h. ap status_of h.fault_is;
}

-- ---- days

pub new_day_is : (d : Declarations) (word : List ℕ) → IsStage ℕ (new_day d word)
new_day_is d word = record {
  excludes = λ day f p h. in_range_or_not d greatest_new_day word (pos day) (new_is_asked d word day p) h.out;
  one_fault = λ f g h k. h.fault_is ∙ sym k.fault_is;
  status_is = λ f h. ap status_of h.fault_is;
}
