-- Look-ups in a list without one of its elements.
use Rattle.std.proofs.Common.{◌≡◌, ℕ, zero, suc, ◌-◌, ◌<◌, ◌≤◌, ◌==◌, nat_lt, Bool, true, false, ◌||◌, if◌then◌else◌, List, [], ◌∷◌, slice_get, refl, ap, arith}
use Rattle.std.proofs.lemmas.Bool.Decides.{nat_tests}
use Rattle.term_model.specs.Terms.{Expression, Var}
use Rattle.term_model.specs.Values.{Entry, kinds}
use Rattle.rewriting.specs.Substituting.{name_without, without}
use Rattle.rewriting.proofs.Choices.{if_cases}

pub get_before : {A : Type 0} (j back : ℕ) (xs : List A) → back < j → slice_get (without j xs) back ≡ slice_get xs back
get_before j back [] h = refl
get_before zero back (x ∷ xs) h = absurd (omega arith)
get_before (suc j) zero (x ∷ xs) h = refl
get_before (suc j) (suc back) (x ∷ xs) h = get_before j back xs (omega arith)

pub get_past : {A : Type 0} (j back : ℕ) (xs : List A) → j ≤ back → slice_get (without j xs) back ≡ slice_get xs (suc back)
get_past j back [] h = refl
get_past zero back (x ∷ xs) h = refl
get_past (suc j) zero (x ∷ xs) h = absurd (omega arith)
get_past (suc j) (suc back) (x ∷ xs) h = get_past j back xs (omega arith)

pub kinds-without : (j : ℕ) (g : List Entry) → kinds (without j g) ≡ without j (kinds g)
kinds-without j [] = refl
kinds-without zero (e ∷ g) = refl
kinds-without (suc j) (e ∷ g) = ap (λ (ks : List _). e.kind ∷ ks) (kinds-without j g)

pub eq_is : (a : ℕ) → (a == a) ≡ true
eq_is a = grind (arith, nat_tests)

pub where_lt : (a b : ℕ) → nat_lt a b ≡ true → a < b
where_lt a b h = grind (arith, nat_tests)

pub where_eq : (a b : ℕ) → (a == b) ≡ true → a ≡ b
where_eq a b h = grind (arith, nat_tests)

pub where_not : (a b : ℕ) → nat_lt a b ≡ false → (a == b) ≡ false → b < a
where_not a b h k = grind (arith, nat_tests)

-- the name is used on a side of two
pub on_left : {P : Type 0} (a b : Bool) → ((a || b) ≡ true → P) → a ≡ true → P
on_left a b h e = h (rw e refl)

pub on_right : {P : Type 0} (a b : Bool) → ((a || b) ≡ true → P) → b ≡ true → P
on_right true b h e = h refl
on_right false b h e = h e

-- what a look-up of names comes to: before the name, at it, past it
pub name_cases : (P : Expression → Type 0) (j : ℕ) (x : Expression) (back : ℕ) → (back < j → P (Var back)) → (back ≡ j → P x) → ((k : ℕ) → back ≡ suc k → j ≤ k → P (Var k)) → P (name_without j x back)
name_cases P j x back before at past =
    if_cases P (nat_lt back j) (Var back) (if back == j then x else Var (back - 1)) (λ h. before (where_lt back j h)) (λ h.
    if_cases P (back == j) x (Var (back - 1)) (λ e. at (where_eq back j e)) (λ e.
    let lt : j < back = where_not back j h e in
    past (back - 1) (omega arith) (omega arith)))
