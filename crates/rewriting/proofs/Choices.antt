-- A property of what a test or an option chooses, from both sides.
use Rattle.std.proofs.Common.{◌≡◌, ℕ, Bool, true, false, if◌then◌else◌, refl, Option, Some, None}

pub if_cases : {A : Type 0} (P : A → Type 0) (b : Bool) (x y : A) → (b ≡ true → P x) → (b ≡ false → P y) → P (if b then x else y)
if_cases P true x y h k = h refl
if_cases P false x y h k = k refl

pub option_cases : {A : Type 0} (P : A → Type 0) (o : Option ℕ) (x : ℕ → A) (y : A) → ((k : ℕ) → o ≡ Some k → P (x k)) → (o ≡ None → P y) → P (elim o [ Some k ↦ x k | None ↦ y ])
option_cases P (Some k) x y h e = h k refl
option_cases P None x y h e = e refl
