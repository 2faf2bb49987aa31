-- Two lists of entries for the names of a context: of equal kinds, and equal wherever the name is known on a day.
use Rattle.std.proofs.Common.{◌≡◌, ℕ, zero, suc, ℤ, pos, ◌+ℤ◌, ◌-ℤ◌, ◌≤ℤ◌, List, [], ◌∷◌, refl, ap₂, arith, slice_get}
use Rattle.std.proofs.lemmas.Int.{ints}
use Rattle.term_model.specs.declared.values.Kind.{Kind}
use Rattle.term_model.specs.Values.{Entry, kinds, value_of_entry}
use Rattle.term_model.specs.Times.{AtMost, raised_by, lowered_by}

-- on day t, by the times of the names
abbrev pub SameNames : ℤ → List ℤ → List Entry → List Entry → Type 0
SameNames t [] [] [] = Unit {0}
SameNames t (s ∷ g) (x ∷ xs) (y ∷ ys) = (x.kind ≡ y.kind) × (s ≤ℤ t → x.value ≡ y.value) × SameNames t g xs ys
SameNames t _ _ _ = ⊥

pub same_kinds : (t : ℤ) (g : List ℤ) (xs ys : List Entry) → SameNames t g xs ys → kinds xs ≡ kinds ys
same_kinds t [] [] [] h = refl
same_kinds t [] [] (y ∷ ys) h = absurd h
same_kinds t [] (x ∷ xs) ys h = absurd h
same_kinds t (s ∷ g) [] ys h = absurd h
same_kinds t (s ∷ g) (x ∷ xs) [] h = absurd h
same_kinds t (s ∷ g) (x ∷ xs) (y ∷ ys) h = ap₂ (λ (k : Kind) (ks : List Kind). k ∷ ks) h.0 (same_kinds t g xs ys h.2)

-- a name that is known
pub same_name : (t : ℤ) (g : List ℤ) (xs ys : List Entry) (back : ℕ) → SameNames t g xs ys → AtMost (slice_get g back) t → value_of_entry (slice_get xs back) ≡ value_of_entry (slice_get ys back)
same_name t [] xs ys back h p = absurd p
same_name t (s ∷ g) [] ys back h p = absurd h
same_name t (s ∷ g) (x ∷ xs) [] back h p = absurd h
same_name t (s ∷ g) (x ∷ xs) (y ∷ ys) zero h p = h.1 p
same_name t (s ∷ g) (x ∷ xs) (y ∷ ys) (suc back) h p = same_name t g xs ys back h.2 p

-- on an earlier day
pub sooner : (t u : ℤ) (g : List ℤ) (xs ys : List Entry) → t ≤ℤ u → SameNames u g xs ys → SameNames t g xs ys
sooner t u [] [] [] i h = tt
sooner t u [] [] (y ∷ ys) i h = h
sooner t u [] (x ∷ xs) ys i h = absurd h
sooner t u (s ∷ g) [] ys i h = absurd h
sooner t u (s ∷ g) (x ∷ xs) [] i h = absurd h
sooner t u (s ∷ g) (x ∷ xs) (y ∷ ys) i h = (h.0, λ p. h.1 (omega (arith, ints)), sooner t u g xs ys i h.2)

-- where all times are n days later
pub raised_names : (t : ℤ) (n : ℕ) (g : List ℤ) (xs ys : List Entry) → SameNames t g xs ys → SameNames (t +ℤ pos n) (raised_by n g) xs ys
raised_names t n [] [] [] h = tt
raised_names t n [] [] (y ∷ ys) h = h
raised_names t n [] (x ∷ xs) ys h = absurd h
raised_names t n (s ∷ g) [] ys h = absurd h
raised_names t n (s ∷ g) (x ∷ xs) [] h = absurd h
raised_names t n (s ∷ g) (x ∷ xs) (y ∷ ys) h = (h.0, λ p. h.1 (omega (arith, ints)), raised_names t n g xs ys h.2)

-- where all times are n days earlier
pub lowered_names : (t : ℤ) (n : ℕ) (g : List ℤ) (xs ys : List Entry) → SameNames t g xs ys → SameNames (t -ℤ pos n) (lowered_by n g) xs ys
lowered_names t n [] [] [] h = tt
lowered_names t n [] [] (y ∷ ys) h = h
lowered_names t n [] (x ∷ xs) ys h = absurd h
lowered_names t n (s ∷ g) [] ys h = absurd h
lowered_names t n (s ∷ g) (x ∷ xs) [] h = absurd h
lowered_names t n (s ∷ g) (x ∷ xs) (y ∷ ys) h = (h.0, λ p. h.1 (omega (arith, ints)), lowered_names t n g xs ys h.2)
