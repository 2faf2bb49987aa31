-- What is left of what is left carries the first contracts.
use Rattle.std.proofs.Common.{◌≡◌, ◌∙◌, ◌≤◌, ◌-◌, ◌+◌, ◌+ℤ◌, ℕ, ℤ, pos, List, [], ◌∷◌, ap, arith, refl, subst}
use Rattle.std.specs.Prelude.{None}
use Rattle.std.proofs.lemmas.Int.{ints}
use Rattle.term_model.specs.declared.name.Name.{Name}
use Rattle.term_model.specs.Declarations.{Declarations}
use Rattle.term_model.specs.Environments.{Environment, Extends}
use Rattle.term_model.specs.Instances.{declared_numbers, instance}
use Rattle.term_model.specs.Residuals.{Carries}
use Rattle.term_model.specs.Terms.{Contract}
use Rattle.term_model.specs.WellFormed.{HasOnlyNumbers}
use Rattle.term_model.proofs.ResidualFacts.{carries_composes}
use Rattle.term_model.proofs.VerdictFacts.{one_verdict}
use Rattle.advance_step.specs.Advancing.{IsResidual}
use Rattle.lifecycle_commands.specs.AdvancePromise.{AreResiduals, rest_declarations}
use Rattle.used_contracts.specs.UsedContracts.{used}
use Rattle.used_contracts.proofs.UsedFacts.{own_instance, used_of}
use Rattle.contract_cli.specs.AdvanceLaws.{AdvancesCompose, AreCarried}

module _ (d : Declarations) (fixings more : Environment) (day later : ℕ) (first : d.start ≤ day) (next : day ≤ later) (extends : Extends fixings more) where
  abbrev moved : Declarations
  moved = rest_declarations d day

  -- what is left of what was left carries it under the first declarations too, on the days from the start
  pub carried_there : (rest last : Contract) → HasOnlyNumbers rest → IsResidual moved more (pos day) (later - day) (instance (declared_numbers moved) rest) last
      → Carries d rest (pos d.start +ℤ pos (day - d.start)) more (later - day) last
  carried_there rest last plain two =
      let own = subst (λ (x : Contract). Carries moved x (pos day) more (later - day) last) (own_instance (declared_numbers moved) rest plain) two.carries in
      let same = (one_verdict moved d (record { amounts = refl; labels = refl }) (λ a. refl)).carried rest (pos day) more (later - day) last own in
      let at : pos day ≡ pos d.start +ℤ pos (day - d.start) = omega (arith, ints) in
      subst (λ (f : ℤ). Carries d rest f more (later - day) last) at same

  pub all_days : (day - d.start) + (later - day) ≡ later - d.start
  all_days = omega arith

  carried : (c rest last : Contract) → IsResidual d fixings (pos d.start) (day - d.start) c rest → IsResidual moved more (pos day) (later - day) (instance (declared_numbers moved) rest) last → Carries d c (pos d.start) more (later - d.start) last
  carried c rest last one two =
      let there = carried_there rest last one.numbers two in
      let whole = carries_composes d c rest last (pos d.start) fixings more (day - d.start) (later - day) one.carries there extends in
      subst (λ (n : ℕ). Carries d c (pos d.start) more n last) all_days whole

  all_carried : (entries rest last : List (Name × Contract)) → AreResiduals d fixings day entries rest → AreResiduals moved more later (used_of None moved rest) last → AreCarried d more (later - d.start) entries last
  all_carried [] [] [] h k = tt
  all_carried [] [] (left ∷ last) h k = absurd k
  all_carried [] (left ∷ rest) last h k = absurd h
  all_carried (entry ∷ entries) [] last h k = absurd h
  all_carried (entry ∷ entries) (one ∷ rest) [] h k = absurd k
  all_carried (entry ∷ entries) (one ∷ rest) (two ∷ last) h k =
      (k.0 ∙ h.0, carried entry.1 one.1 two.1 h.1 k.1, all_carried entries rest last h.2 k.2)

pub advances_compose : AdvancesCompose
advances_compose b rest last fixings more day later first next extends one two =
    let d = b.declarations in
    let at = one.declarations in
    let left = subst (λ (x : Declarations). AreResiduals x more later (used_of None x rest.contracts) last.contracts) at two.contracts in
    record {
      declarations = two.declarations ∙ ap (λ (x : Declarations). rest_declarations x later) at;
      contracts = all_carried d fixings more day later first next extends (used None b) rest.contracts last.contracts one.contracts left;
    }
