-- A name that stands among distinct ones is found at its own place.
use Rattle.std.proofs.Common.{◌≡◌, ◌∙◌, inl, inr, ℕ, zero, suc, ◌+◌, ◌<◌, ◌≤◌, true, false, List, [], ◌∷◌, length, Option, Some, slice_get, refl, sym, ap, subst, arith}
use Rattle.std.specs.Prelude.{position}
use Rattle.std.specs.List.{AllByRecursion, IsDistinct, position_or_len}
use Rattle.std.specs.Map.{keys_of}
use Rattle.std.specs.Str.{bytes_eq}
use Rattle.std.proofs.lemmas.Bool.{cases_Bool}
use Rattle.std.proofs.lemmas.Bool.Decides.{nat_tests}
use Rattle.std.proofs.lemmas.Slice.Eq.{bytes_eq-Decides}
use Rattle.std.proofs.lemmas.Option.{slice_get_within}
use Rattle.term_model.specs.Declarations.{Declarations}
use Rattle.term_model.specs.declared.label.Label.{Label}
use Rattle.fixing_files.specs.PlainRows.{HasPlainNames}
use Rattle.fixing_files.specs.Words.{IsBare}
use Rattle.fixing_files.proofs.RowFacts.{up_to}

abbrev pub Entries : Type 0
Entries = List (List ℕ × Label)

of_key : (P : List ℕ → Type 0) (entries : Entries) (l : ℕ) (name : List ℕ) (label : Label) → AllByRecursion P (keys_of entries) → slice_get entries l ≡ Some (name, label) → P name
of_key P [] l name label h e = absurd (cc)
of_key P (entry ∷ entries) zero name label h e =
    let pair : entry ≡ (name, label) = cc in
    subst P (ap (λ (p : List ℕ × Label). p.0) pair) h.0
of_key P (entry ∷ entries) (suc l) name label h e = of_key P entries l name label h.1 e

same_name : (a b : List ℕ) → a ≡ b → bytes_eq a b ≡ true
same_name a b e = (bytes_eq-Decides a b).1 e

other_name : (a b : List ℕ) → bytes_eq a b ≡ false → bytes_eq b a ≡ false
other_name a b h = elim (cases_Bool (bytes_eq b a)) [
  | inl same ↦ let wrong = same_name a b (sym ((bytes_eq-Decides b a).0 same)) in absurd (cc)
  | inr other ↦ other
]

key_place : (entries : Entries) (l : ℕ) (name : List ℕ) (label : Label) → IsDistinct bytes_eq (keys_of entries) → slice_get entries l ≡ Some (name, label)
    → position_or_len (λ declared. bytes_eq name declared) (keys_of entries) ≡ l
unfolding IsDistinct
key_place [] l name label h e = absurd (cc)
key_place (entry ∷ entries) zero name label h e =
    let pair : entry ≡ (name, label) = cc in
    let same = same_name name entry.0 (sym (ap (λ (p : List ℕ × Label). p.0) pair)) in
    rw same refl
key_place (entry ∷ entries) (suc l) name label h e =
    let other = other_name entry.0 name (of_key (λ (k : List ℕ). bytes_eq entry.0 k ≡ false) entries l name label h.0 e) in
    let later = key_place entries l name label h.1 e in
    rw (other, later) (omega arith)

key_within : (entries : Entries) (l : ℕ) (name : List ℕ) (label : Label) → slice_get entries l ≡ Some (name, label) → l < length (keys_of entries)
key_within [] l name label e = absurd (cc)
key_within (entry ∷ entries) zero name label e = omega arith
key_within (entry ∷ entries) (suc l) name label e = omega (arith, key_within entries l name label e)

pub found_at : (entries : Entries) (l : ℕ) (name : List ℕ) (label : Label) → IsDistinct bytes_eq (keys_of entries) → slice_get entries l ≡ Some (name, label)
    → position (λ declared. bytes_eq name declared) (keys_of entries) ≡ Some l
found_at entries l name label h e =
    let place = key_place entries l name label h e in
    let within = key_within entries l name label e in
    rw place (grind (arith, nat_tests, within))

-- the first n names are written without quotation marks
abbrev pub AreBare : Entries → ℕ → Type 0
AreBare entries n = (l : ℕ) (name : List ℕ) (label : Label) → l < n → slice_get entries l ≡ Some (name, label) → IsBare name

pub bare_before : (entries : Entries) → AreBare entries 0
bare_before entries l name label h e = absurd (omega arith)

first_same : (entry : Option (List ℕ × Label)) (x name : List ℕ) (y label : Label) → entry ≡ Some (x, y) → entry ≡ Some (name, label) → x ≡ name
first_same entry x name y label e f =
    let pair : ◌≡◌ {A = List ℕ × Label} (x, y) (name, label) = cc in
    ap (λ (p : List ℕ × Label). p.0) pair

pub bare_next : (entries : Entries) (n : ℕ) (x : List ℕ) (y : Label) → AreBare entries n → slice_get entries n ≡ Some (x, y) → IsBare x → AreBare entries (n + 1)
bare_next entries n x y few at bare l name label h e = elim (up_to n l h) [
  | inl before ↦ few l name label before e
  | inr here ↦
      subst IsBare (first_same (slice_get entries n) x name y label at (ap (slice_get entries) (sym here) ∙ e)) bare
]

pub plain_names : (d : Declarations) (n : ℕ) → IsDistinct bytes_eq (keys_of d.labels) → length d.labels ≤ n → AreBare d.labels n → HasPlainNames d
plain_names d n distinct all bare l name label e =
    (bare l name label (omega (arith, slice_get_within d.labels l (name, label) e)) e, found_at d.labels l name label distinct e)
