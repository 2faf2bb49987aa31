-- Fixings of one table hold the same, and over such fixings the same read is the first that is not fixed.
use Rattle.std.proofs.Common.{◌≡◌, ◌∙◌, ℕ, Bool, true, false, List, [], ◌∷◌, ap, refl, sym}
use Rattle.std.specs.Prelude.{Option, Some, None, is_some, if◌then◌else◌}
use Rattle.term_model.specs.declared.values.Value.{Value}
use Rattle.term_model.specs.Declarations.{Declarations}
use Rattle.term_model.specs.Environments.{Environment, Extends, Place, held}
use Rattle.term_model.specs.Reads.{first_unfixed, is_fixed, up_to_first}
use Rattle.fixing_files.specs.Tables.{table_of}
use Rattle.fixing_files.proofs.LawFacts.{one_map}
use Rattle.command_courses.specs.FixingTables.{AreFixings}

abbrev pub HoldSame : Environment → Environment → Type 0
HoldSame one other = (q : Place) → held one q ≡ held other q

pub hold_same : (d : Declarations) (table : Option (List ℕ)) (one other : Environment) → AreFixings d table one → AreFixings d table other → HoldSame one other
hold_same d None one other h k q = ap (λ (env : Environment). held env q) (h ∙ sym k)
hold_same d (Some bytes) one other h k q = one_map d (table_of bytes) one other h k q

pub extends_same : (one other : Environment) → HoldSame one other → Extends one other
extends_same one other same q v e = sym (same q) ∙ e

up_to_step : (fixings : Environment) (q : Place) (qs : List Place) (b : Bool) → first_unfixed fixings qs ≡ first_unfixed fixings (up_to_first (is_fixed fixings) qs) → (if b then first_unfixed fixings qs else Some q) ≡ (if b then first_unfixed fixings (if b then up_to_first (is_fixed fixings) qs else []) else Some q)
up_to_step fixings q qs true h = h
up_to_step fixings q qs false h = refl

pub unfixed_up_to : (fixings : Environment) (qs : List Place) → first_unfixed fixings qs ≡ first_unfixed fixings (up_to_first (is_fixed fixings) qs)
unfixed_up_to fixings [] = refl
unfixed_up_to fixings (q ∷ qs) = up_to_step fixings q qs (is_fixed fixings q) (unfixed_up_to fixings qs)

pub same_unfixed : (one other : Environment) → HoldSame one other → (qs : List Place) → first_unfixed one qs ≡ first_unfixed other qs
same_unfixed one other same [] = refl
same_unfixed one other same (q ∷ qs) =
    ap (λ (o : Option Value). if is_some o then first_unfixed one qs else Some q) (same q) ∙ ap (λ (r : Option Place). if is_fixed other q then r else Some q) (same_unfixed one other same qs)
