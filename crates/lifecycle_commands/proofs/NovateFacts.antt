-- What is left with a new party keeps to the limits of texts; and the course of `novate`: what stops it at the parties, and what
-- it tells where both are declared.
use Rattle.std.proofs.Common.{◌≡◌, ◌<◌, inl, inr, ℕ, Bool, true, false, List, [], ◌∷◌, refl, subst}
use Rattle.std.specs.Prelude.{Option, Some, Err, length, if◌then◌else◌}
use Rattle.std.specs.Global.{Vec}
use Rattle.std.specs.List.{AllByRecursion}
use Rattle.std.specs.Str.{bytes_eq}
use Rattle.term_model.specs.declared.name.Name.{Name}
use Rattle.term_model.specs.Books.{Book}
use Rattle.term_model.specs.Declarations.{Declarations, declarations}
use Rattle.term_model.specs.Terms.{Contract}
use Rattle.contract_print.specs.Rests.{IsSoundRest}
use Rattle.exposure.specs.Renaming.{renamed}
use Rattle.exposure.proofs.RenamedRules.{acceptance_is_kept, form_is_kept, limits_are_kept, numbers_are_kept}
use Rattle.report.specs.declared.fault_lines.Fault.{Fault}
use Rattle.command_words.specs.Commands.{NovateAsked}
use Rattle.lifecycle_commands.specs.AdvanceParts.{IsCarriedText, StopsCarry}
use Rattle.lifecycle_commands.specs.AdvancePromise.{IsAdvancedWith}
use Rattle.used_contracts.specs.ChoosingParts.{Selection, StopsByName, StopsIn, every, selection, so_far}
use Rattle.command_courses.specs.Course.{Stops, Tells}
use Rattle.lifecycle_commands.specs.NovateCourse.{novate_on}
use Rattle.lifecycle_commands.specs.NovateParts.{IsRenaming, LacksParty, no_new, no_old, novate_of_text}
use Rattle.lifecycle_commands.specs.NovatePromise.{novated, novated_book}
use Rattle.command_courses.specs.Stopping.{AnswersBy}
use Rattle.used_contracts.specs.UsedContracts.{is_known}
use Rattle.lifecycle_commands.specs.declared.advance_to.Renaming.{Renaming}
use Rattle.used_contracts.specs.declared.choice.Choice.{Choice}
use Rattle.command_courses.specs.declared.status.Status.TheVariants as status
use Rattle.command_courses.specs.declared.stop.Stop.{Stop}
use Rattle.command_courses.specs.declared.stop.Stop.TheVariants as stop

-- ---- what is left keeps to the limits of texts

sound_renamed : (d : Declarations) (c : Contract) (old new : ℕ) → new < length d.parties → IsSoundRest d c → IsSoundRest d (renamed old new c)
sound_renamed d c old new declared sound = record {
  accepted = (acceptance_is_kept d c old new).1 sound.accepted;
  closed = form_is_kept d 0 c old new declared sound.closed;
  literals = limits_are_kept c old new sound.literals;
  counts = numbers_are_kept c old new sound.counts;
}

module _ (d : Declarations) (name : List ℕ) (old new : ℕ) (declared : new < length d.parties) where
  entry_sound : (b : Bool) (c : Contract) → IsSoundRest d c → IsSoundRest d (if b then renamed old new c else c)
  entry_sound true c sound = sound_renamed d c old new declared sound
  entry_sound false c sound = sound

  pub novated_sound : (rest : List (Name × Contract)) → AllByRecursion (λ (entry : Name × Contract). IsSoundRest d entry.1) rest → AllByRecursion (λ (entry : Name × Contract). IsSoundRest d entry.1) (novated name old new rest)
  novated_sound [] all = tt
  novated_sound (entry ∷ rest) all = (entry_sound (bytes_eq name entry.0) entry.1 all.0, novated_sound rest all.1)

-- ---- the course

module _ (text : List ℕ) (choice : Choice) (asked : NovateAsked) (table : Option (List ℕ)) (is : selection choice ≡ every (Some asked.contract)) where
  abbrev d : Declarations
  d = declarations choice.decls.now

  -- a party that is not declared
  lacks_stops : (b : Book) (f : Fault) → is_known (Some asked.contract) b ≡ true → LacksParty b.declarations asked f → Stops (novate_on asked b table) f
  lacks_stops b f known (no_old h) = inr (tt, known, inl h)
  lacks_stops b f known (no_new old old_is h) = inr (tt, known, inr (old, old_is, inl h))

  lacks_on : (own : Stop) (b : Book) (f : Fault) → AnswersBy (IsRenaming b.declarations asked) (LacksParty b.declarations asked) (Err own)
      → StopsByName b (every (Some asked.contract)) (λ f. own ≡ stop.Fault f) f → Stops (novate_on asked b table) f
  lacks_on own b f told (StopsByName.unknown u) = inl u
  lacks_on own b f told (StopsByName.then_stops known same) =
      lacks_stops b f known (subst (λ (x : Stop). AnswersBy (IsRenaming b.declarations asked) (LacksParty b.declarations asked) (Err x)) same told)

  pub stops_at_party : (own : Stop) (f : Fault) → AnswersBy (IsRenaming d asked) (LacksParty d asked) (Err own)
      → StopsIn text d (λ b. StopsByName b (selection choice) (λ f. own ≡ stop.Fault f)) f → Stops (novate_of_text asked text table) f
  stops_at_party own f told (inl bad) = inl bad
  stops_at_party own f told (inr h) =
      let b = so_far d h.0 in
      inr (b, h.1, lacks_on own b f told (subst (λ (s : Selection). StopsByName b s (λ f. own ≡ stop.Fault f) f) is h.2))

  module _ (renaming : Renaming) (names : IsRenaming d asked renaming) where
    behind_parties : (entries : List (Name × Contract)) (f : Fault) → StopsCarry (every (Some asked.contract)) asked.advance table (so_far d entries) f → Stops (novate_on asked (so_far d entries) table) f
    behind_parties entries f (StopsByName.unknown u) = inl u
    behind_parties entries f (StopsByName.then_stops known h) = inr (tt, known, inr (renaming.old, names.old_is, inr (renaming.new, names.new_is, h)))

    pub novate_stops : (f : Fault) → StopsIn text d (StopsCarry (selection choice) asked.advance table) f → Stops (novate_of_text asked text table) f
    novate_stops f (inl bad) = inl bad
    novate_stops f (inr h) =
        inr (so_far d h.0, h.1, behind_parties h.0 f (subst (λ (s : Selection). StopsCarry s asked.advance table (so_far d h.0) f) is h.2))

    pub novate_tells : (out : Vec ℕ) → IsCarriedText text choice (Some renaming) asked.advance table out.items → Tells (novate_of_text asked text table) status.Done out.items
    novate_tells out h =
        let b = so_far d h.entries in
        let known = subst (λ (s : Selection). is_known s.named b ≡ true) is h.known in
        let told = subst (λ (name : List ℕ). IsAdvancedWith (novated_book name renaming.old renaming.new) b h.day h.fixings out.items) names.contract h.advanced in
        (b, h.is_text, (tt, known, (renaming.old, names.old_is, (renaming.new, names.new_is, (h.day, h.can.is_day, (tt, h.can.accepted, (h.fixings, h.can.are_fixings, (tt, h.can.fixed, (refl, told)))))))))
