-- How a run of `sample` ends.
use Rattle.std.proofs.Common.{◌∙◌, inl, inr, ℕ, List, subst, sym}
use Rattle.command_words.specs.Commands.{Request, Sample, files_of}
use Rattle.command_words.specs.Words.{request_of}
use Rattle.command_courses.specs.Course.{Answers, Stops, Tells, stopped, told}
use Rattle.command_answers.specs.Courses.{course_of}
use Rattle.command_courses.specs.declared.status.Status.{Status}
use Rattle.command_courses.proofs.StageFacts.{none_or_some, some_same}
use Rattle.contract_cli.specs.Reading.{reading}
use Rattle.contract_cli.specs.RunPromise.{Meets, written, broken, lacking, Names, run_course}
use Rattle.contract_cli.specs.SampleLaws.{SampleEnds, summarized, unwritten, no_memory, SampleHasThreeEnds}
use Rattle.contract_cli.specs.Seen.{Edge, WritesAll}

module _ (words : List (List ℕ)) (edge : Edge) (s : Status) (count : ℕ) (sample : Names words (Sample count)) where
  -- what stands behind the words stands behind those of the sample
  of_sample : (P : Request → Type 0) (request : Request) → Names words request → P request → P (Sample count)
  of_sample P request named h = subst P (some_same request (Sample count) (sym named ∙ sample)) h

  by_answer : (text : List ℕ) → Answers (run_course words edge.files) s text → WritesAll edge.sink text → SampleEnds edge count s
  by_answer text (stopped f (inl h) e line) w = absurd (none_or_some (request_of words) (Sample count) h.1 sample)
  by_answer text (stopped f (inr h) e line) w = absurd (of_sample (λ request. Stops (reading edge.files (files_of request) 1 (course_of request)) f) h.0 h.1 h.2)
  by_answer text (told h) w =
      let here = of_sample (λ request. Tells (reading edge.files (files_of request) 1 (course_of request)) s text) h.0 h.1 h.2 in
      summarized here.0 text here.1 w

  three_ends : Meets words edge s → SampleEnds edge count s
  three_ends (written text a w) = by_answer text a w
  three_ends (broken e due text a w) = unwritten e w.0
  three_ends (lacking e w) = no_memory e w

pub sample_has_three_ends : SampleHasThreeEnds
sample_has_three_ends words edge s count m sample = three_ends words edge s count sample m
