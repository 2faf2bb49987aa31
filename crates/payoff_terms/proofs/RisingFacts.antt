-- Templates go among others in rising order, and stay declared.
use Rattle.std.proofs.Common.{◌≡◌, ℕ, ◌≤◌, ◌<◌, Bool, true, false, if◌then◌else◌, nat_le, List, [], ◌∷◌, length, refl, arith}
use Rattle.std.proofs.lemmas.Bool.Decides.{nat_tests}
use Rattle.term_model.specs.Declarations.{Declarations}
use Rattle.payoff_terms.specs.TemplateDates.{AreInOrderFrom, insert_name, insert_names}
use Rattle.payoff_terms.specs.WellFormedCode.{AreTemplates}

insert_step : (low t u : ℕ) (us : List ℕ) (b : Bool) → nat_le t u ≡ b → low ≤ t → AreInOrderFrom low (u ∷ us) → (u ≤ t → AreInOrderFrom u (insert_name t us)) → AreInOrderFrom low (if b then t ∷ u ∷ us else u ∷ insert_name t us)
insert_step low t u us true e le h k = (le, (grind (arith, nat_tests), h.1))
insert_step low t u us false e le h k = (h.0, k (grind (arith, nat_tests)))

insert_in_order : (low t : ℕ) (us : List ℕ) → low ≤ t → AreInOrderFrom low us → AreInOrderFrom low (insert_name t us)
insert_in_order low t [] le h = (le, tt)
insert_in_order low t (u ∷ us) le h = insert_step low t u us (nat_le t u) refl le h (λ up. insert_in_order u t us up h.1)

pub inserts_in_order : (ts us : List ℕ) → AreInOrderFrom 0 us → AreInOrderFrom 0 (insert_names ts us)
inserts_in_order [] us h = h
inserts_in_order (t ∷ ts) us h = insert_in_order 0 t (insert_names ts us) (omega arith) (inserts_in_order ts us h)

declared_step : (d : Declarations) (t u : ℕ) (us : List ℕ) (b : Bool) → t < length d.templates → AreTemplates d (u ∷ us) → AreTemplates d (insert_name t us) → AreTemplates d (if b then t ∷ u ∷ us else u ∷ insert_name t us)
declared_step d t u us true l h k = (l, h)
declared_step d t u us false l h k = (h.0, k)

insert_declared : (d : Declarations) (t : ℕ) (us : List ℕ) → t < length d.templates → AreTemplates d us → AreTemplates d (insert_name t us)
insert_declared d t [] l h = (l, tt)
insert_declared d t (u ∷ us) l h = declared_step d t u us (nat_le t u) l h (insert_declared d t us l h.1)

pub inserts_declared : (d : Declarations) (ts us : List ℕ) → AreTemplates d ts → AreTemplates d us → AreTemplates d (insert_names ts us)
inserts_declared d [] us h k = k
inserts_declared d (t ∷ ts) us h k = insert_declared d t (insert_names ts us) h.0 (inserts_declared d ts us h.1 k)
