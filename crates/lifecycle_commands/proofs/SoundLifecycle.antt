-- The courses of `advance` and `novate` are sound: their stages exclude one another, what passes on something else has a course that
-- is alike, and their statuses are those of commands.
use Rattle.std.proofs.Common.{◌≡◌, ◌∙◌, ℕ, List, sym}
use Rattle.std.specs.Prelude.{Option, Some, None}
use Rattle.term_model.specs.Books.{Book}
use Rattle.term_model.specs.Declarations.{Declarations}
use Rattle.term_model.specs.Environments.{Environment}
use Rattle.contract_parse.proofs.OneText.{one_text}
use Rattle.command_words.specs.Commands.{AdvanceAsked, NovateAsked}
use Rattle.command_courses.specs.Course.{Course, behind, tells}
use Rattle.command_courses.specs.FixingTables.{fixed_by}
use Rattle.command_courses.specs.Inputs.{file_at}
use Rattle.command_courses.specs.declared.status.Status.TheVariants as status
use Rattle.command_courses.proofs.CourseFacts.{Alike, OfCommand, Sound, alike_ends, one_next, onward, sound_tells}
use Rattle.command_courses.proofs.FixingFacts.{hold_same}
use Rattle.command_courses.proofs.StageFacts.{fixed_by_is, some_same}
use Rattle.used_contracts.specs.AllAccepted.{all_accepted}
use Rattle.used_contracts.specs.AllFixed.{all_fixed}
use Rattle.used_contracts.specs.Portfolios.{known, portfolio_of}
use Rattle.used_contracts.specs.UsedContracts.{used}
use Rattle.used_contracts.proofs.StageFacts.{all_accepted_is, all_fixed_is, fixed_alike, known_is, portfolio_is}
use Rattle.lifecycle_commands.specs.AdvanceCourse.{advance_course, to_a_day}
use Rattle.lifecycle_commands.specs.AdvancePromise.{IsAdvanced, IsNewDay, last_gone}
use Rattle.lifecycle_commands.specs.LifecycleStages.{new_day, party_named}
use Rattle.lifecycle_commands.specs.NovateCourse.{novate_course}
use Rattle.lifecycle_commands.specs.NovatePromise.{IsNovated}
use Rattle.lifecycle_commands.proofs.StageFacts.{new_day_is, party_named_is}

pub one_new_day : (d : Declarations) (word : List ℕ) (m n : ℕ) → IsNewDay d word m → IsNewDay d word n → m ≡ n
one_new_day d word m n h k = let e = sym h.named ∙ k.named in cc

-- any command that carries a portfolio to a day, whatever it tells of it
sound_to_a_day : (to : List ℕ) (b : Book) (table : Option (List ℕ)) (next : ℕ → Environment → Course)
    → ((day : ℕ) (one other : Environment) → Alike (next day one) (next day other))
    → ((day : ℕ) (fixings : Environment) → Sound OfCommand (next day fixings)) → Sound OfCommand (to_a_day to b table next)
sound_to_a_day to b table next alike sound =
    let d = b.declarations in
    let entries = used None b in
    one_next OfCommand ℕ (new_day d to) _ tt (new_day_is d to) (one_new_day d to) (λ day q.
    onward OfCommand (all_accepted d entries) (behind (fixed_by d table 2) (λ fixings. behind (all_fixed d fixings (last_gone day) entries) (λ _. next day fixings))) tt (all_accepted_is d entries) (
      tt,
      fixed_by_is d table 2,
      λ one other h k. fixed_alike d (last_gone day) entries one other (next day one) (next day other) (hold_same d table one other h k) (alike day one other),
      λ fixings h. onward OfCommand (all_fixed d fixings (last_gone day) entries) (next day fixings) tt (all_fixed_is d entries fixings (last_gone day)) (sound day fixings),
    ))

pub sound_advance : (asked : AdvanceAsked) (inputs : List (List ℕ)) → Sound OfCommand (advance_course asked inputs)
sound_advance asked inputs =
    let bytes = file_at inputs 0 in
    one_next OfCommand Book (portfolio_of bytes) _ tt (portfolio_is bytes) (one_text bytes) (λ b p.
    sound_to_a_day asked.to b (Some (file_at inputs 1)) (λ day fixings. tells (IsAdvanced b day fixings))
    (λ day one other. alike_ends (λ s. s ≡ status.Done) (IsAdvanced b day one) (IsAdvanced b day other)) (λ day fixings. sound_tells (IsAdvanced b day fixings)))

pub sound_novate : (asked : NovateAsked) (inputs : List (List ℕ)) → Sound OfCommand (novate_course asked inputs)
sound_novate asked inputs =
    let bytes = file_at inputs 0 in
    one_next OfCommand Book (portfolio_of bytes) _ tt (portfolio_is bytes) (one_text bytes) (λ b p.
    onward OfCommand (known b (Some asked.contract)) _ tt (known_is b (Some asked.contract))
    (one_next OfCommand ℕ (party_named b.declarations asked.old) _ tt (party_named_is b.declarations asked.old) (λ m n h k. some_same m n (sym h ∙ k)) (λ old h.
    one_next OfCommand ℕ (party_named b.declarations asked.new) _ tt (party_named_is b.declarations asked.new) (λ m n h k. some_same m n (sym h ∙ k)) (λ new k.
    let IsText : ℕ → Environment → List ℕ → Type 0 = IsNovated asked.contract old new b in
    sound_to_a_day asked.advance.to b (Some (file_at inputs 1)) (λ day fixings. tells (IsText day fixings))
    (λ day one other. alike_ends (λ s. s ≡ status.Done) (IsText day one) (IsText day other)) (λ day fixings. sound_tells (IsText day fixings))))))
