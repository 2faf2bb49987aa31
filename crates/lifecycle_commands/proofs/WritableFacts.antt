-- What is left of a contract keeps to the limits of texts, and so can be printed, also with a new party.
use Rattle.std.proofs.Common.{◌≤◌, ℕ, suc, ℤ, Bool, true, false, List, [], ◌∷◌, subst, sym}
use Rattle.std.specs.Prelude.{Option, Some, None, if◌then◌else◌}
use Rattle.std.specs.List.{AllByRecursion}
use Rattle.std.specs.Str.{bytes_eq}
use Rattle.term_model.specs.declared.name.Name.{Name}
use Rattle.term_model.specs.Declarations.{Declarations}
use Rattle.term_model.specs.Environments.{Environment}
use Rattle.term_model.specs.Terms.{Contract, Zero, Pay, Both, Scale, After, Let, Within}
use Rattle.contract_print.specs.Rests.{IsSoundRest}
use Rattle.contract_grammar.specs.Writable.{IsWritableContract, IsWritableTerm}
use Rattle.contract_print.proofs.RestFacts.{rest_written}
use Rattle.advance_step.specs.Advancing.{IsResidual}
use Rattle.exposure.specs.Renaming.{renamed}
use Rattle.exposure.proofs.RenamedRules.{sizes_are_kept}
use Rattle.lifecycle_commands.specs.AdvanceParts.{changed}
use Rattle.lifecycle_commands.specs.AdvancePromise.{AreResiduals}
use Rattle.lifecycle_commands.specs.declared.advance_to.Renaming.{Renaming}

-- what is left of a contract
pub residual_writable : (d : Declarations) (fixings : Environment) (first : ℤ) (days : ℕ) (c rest : Contract) → IsResidual d fixings first days c rest → IsWritableTerm rest
residual_writable d fixings first days c rest is =
    rest_written d rest (record { accepted = is.accepted; closed = is.closed; literals = is.literals; counts = is.numbers })

-- and of contracts
pub left_sound : (d : Declarations) (fixings : Environment) (day : ℕ) (entries rest : List (Name × Contract)) → AreResiduals d fixings day entries rest
    → AllByRecursion (λ (entry : Name × Contract). IsSoundRest d entry.1) rest
left_sound d fixings day [] [] is = tt
left_sound d fixings day (entry ∷ entries) (left ∷ rest) is =
    (record { accepted = is.1.accepted; closed = is.1.closed; literals = is.1.literals; counts = is.1.numbers }, left_sound d fixings day entries rest is.2)
left_sound d fixings day _ _ is = absurd is

-- printing looks at no party
renamed_written : (n : ℕ) (c : Contract) (old new : ℕ) → IsWritableContract n c → IsWritableContract n (renamed old new c)
renamed_written n Zero old new h = tt
renamed_written n (Pay a p q) old new h = tt
renamed_written n (Both a b) old new h = (renamed_written n a old new h.0, renamed_written n b old new h.1)
renamed_written n (Scale e c) old new h = (h.0, renamed_written n c old new h.1)
renamed_written n (After d c) old new h = renamed_written n c old new h
renamed_written n (Let e c) old new h = (h.0, renamed_written (suc n) c old new h.1)
renamed_written n (Within e d a b) old new h = (h.0, renamed_written n a old new h.1, renamed_written n b old new h.2)

renamed_writable : (c : Contract) (old new : ℕ) → IsWritableTerm c → IsWritableTerm (renamed old new c)
renamed_writable c old new is = record {
  writable = renamed_written 0 c old new is.writable;
  shallow = subst (λ (n : ℕ). n ≤ 200) (sym (sizes_are_kept c old new).2) is.shallow;
}

module _ (c : Contract) (old new : ℕ) where
  either_writable : (b : Bool) → IsWritableTerm c → IsWritableTerm (if b then renamed old new c else c)
  either_writable true is = renamed_writable c old new is
  either_writable false is = is

-- what is left with a renaming, if there is one
pub changed_writable : (renaming : Option Renaming) (entry : Name × Contract) → IsWritableTerm entry.1 → IsWritableTerm (changed renaming entry).1
changed_writable None entry is = is
changed_writable (Some r) entry is = either_writable entry.1 r.old r.new (bytes_eq r.contract.now entry.0) is
