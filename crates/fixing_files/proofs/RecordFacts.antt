-- Fields of records, and declared labels.
use Rattle.std.proofs.Common.{◌≡◌, ◌∙◌, ℕ, zero, suc, ◌<◌, true, List, [], ◌∷◌, length, Some, None, slice_get, refl, sym, ap, subst, arith}
use Rattle.std.proofs.lemmas.Bool.{and_parts}
use Rattle.std.specs.Prelude.{codes}
use Rattle.std.specs.Str.{bytes_eq}
use Rattle.csv.specs.Records.{field_at}
use Rattle.term_model.specs.declared.name.Name.{Name}
use Rattle.term_model.specs.declared.label.Label.{Label}
use Rattle.term_model.specs.Limits.{are_labels, is_label}
use Rattle.fixing_files.specs.Records.{Fields}
use Rattle.fixing_files.specs.Steps.{are_header, is_header, three_of}

pub absent : (fs : Fields) (i : ℕ) → length fs ≡ 3 → i < 3 → None ≡ field_at fs i → ⊥
unfolding field_at
absent [] i three h e = omega (arith, three)
absent (a ∷ []) i three h e = omega (arith, three)
absent (a ∷ b ∷ []) i three h e = omega (arith, three)
absent (a ∷ b ∷ c ∷ []) zero three h e = absurd (cc)
absent (a ∷ b ∷ c ∷ []) (suc zero) three h e = absurd (cc)
absent (a ∷ b ∷ c ∷ []) (suc (suc zero)) three h e = absurd (cc)
absent (a ∷ b ∷ c ∷ []) (suc (suc (suc i))) three h e = omega (arith, h)
absent (a ∷ b ∷ c ∷ x ∷ more) i three h e = omega (arith, three)

pub three_is : (fs : Fields) (x y z : List ℕ) → length fs ≡ 3 → Some x ≡ field_at fs 0 → Some y ≡ field_at fs 1 → Some z ≡ field_at fs 2 → Some (x, y, z) ≡ three_of fs
unfolding field_at
three_is [] x y z three e f g = absurd (omega (arith, three))
three_is (a ∷ []) x y z three e f g = absurd (omega (arith, three))
three_is (a ∷ b ∷ []) x y z three e f g = absurd (omega (arith, three))
three_is (a ∷ b ∷ c ∷ []) x y z three e f g =
    let one : x ≡ a = cc in
    let two : y ≡ b = cc in
    let last : z ≡ c = cc in
    λ i. Some (one i, two i, last i)
three_is (a ∷ b ∷ c ∷ d ∷ more) x y z three e f g = absurd (omega (arith, three))

-- the three fields are the record's
pub three_listed : (fs : Fields) (x y z : List ℕ) → Some (x, y, z) ≡ three_of fs → fs ≡ x ∷ y ∷ z ∷ []
three_listed [] x y z e = absurd (cc)
three_listed (a ∷ []) x y z e = absurd (cc)
three_listed (a ∷ b ∷ []) x y z e = absurd (cc)
three_listed (a ∷ b ∷ c ∷ []) x y z e =
    let triple : (x, y, z) ≡ (a, b, c) = cc in
    let one : a ≡ x = ap (λ (p : List ℕ × List ℕ × List ℕ). p.0) (sym triple) in
    let two : b ≡ y = ap (λ (p : List ℕ × List ℕ × List ℕ). p.1) (sym triple) in
    let last : c ≡ z = ap (λ (p : List ℕ × List ℕ × List ℕ). p.2) (sym triple) in
    λ i. one i ∷ two i ∷ last i ∷ []
three_listed (a ∷ b ∷ c ∷ d ∷ more) x y z e = absurd (cc)

pub header_is : (fs : Fields) (x y z : List ℕ) → Some (x, y, z) ≡ three_of fs → true ≡ bytes_eq x (codes "label") → true ≡ bytes_eq y (codes "day") → bytes_eq z (codes "value") ≡ is_header fs
header_is fs x y z three label day =
    let here : bytes_eq z (codes "value") ≡ are_header (Some (x, y, z)) = rw (sym label, sym day) refl in
    here ∙ ap are_header three

pub label_keeps : (entries : List (Name × Label)) (l : ℕ) (name : Name) (label : Label) → are_labels entries ≡ true → slice_get entries l ≡ Some (name, label) → is_label label ≡ true
label_keeps [] l name label h e = absurd (cc)
label_keeps (entry ∷ entries) zero name label h e =
    let pair : entry ≡ (name, label) = cc in
    subst (λ (x : Label). is_label x ≡ true) (ap (λ (p : Name × Label). p.1) pair) (and_parts (is_label entry.1) (are_labels entries) h).0
label_keeps (entry ∷ entries) (suc l) name label h e = label_keeps entries l name label (and_parts (is_label entry.1) (are_labels entries) h).1 e
