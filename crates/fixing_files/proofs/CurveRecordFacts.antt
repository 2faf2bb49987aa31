-- Fields of records of two, and the header of a table of discount factors.
use Rattle.std.proofs.Common.{◌≡◌, ◌≢◌, ℕ, zero, suc, ◌<◌, true, false, List, [], ◌∷◌, length, Some, None, refl, sym, subst, arith}
use Rattle.std.specs.Prelude.{codes}
use Rattle.std.specs.Str.{bytes_eq}
use Rattle.std.proofs.lemmas.Bool.{and_parts}
use Rattle.std.proofs.lemmas.Slice.Eq.{bytes_eq-Decides}
use Rattle.csv.specs.Records.{field_at}
use Rattle.fixing_files.specs.CurveRecords.{curve_header}
use Rattle.fixing_files.specs.CurveSteps.{is_curve_header, two_of}
use Rattle.fixing_files.specs.Records.{Fields}

pub absent_of_two : (fs : Fields) (i : ℕ) → length fs ≡ 2 → i < 2 → None ≡ field_at fs i → ⊥
unfolding field_at
absent_of_two [] i two h e = omega (arith, two)
absent_of_two (a ∷ []) i two h e = omega (arith, two)
absent_of_two (a ∷ b ∷ []) zero two h e = absurd (cc)
absent_of_two (a ∷ b ∷ []) (suc zero) two h e = absurd (cc)
absent_of_two (a ∷ b ∷ []) (suc (suc i)) two h e = omega (arith, h)
absent_of_two (a ∷ b ∷ x ∷ more) i two h e = omega (arith, two)

pub two_is : (fs : Fields) (x y : List ℕ) → length fs ≡ 2 → Some x ≡ field_at fs 0 → Some y ≡ field_at fs 1 → Some (x, y) ≡ two_of fs
unfolding field_at
two_is [] x y two e f = absurd (omega (arith, two))
two_is (a ∷ []) x y two e f = absurd (omega (arith, two))
two_is (a ∷ b ∷ []) x y two e f =
    let one : x ≡ a = cc in
    let other : y ≡ b = cc in
    λ i. Some (one i, other i)
two_is (a ∷ b ∷ d ∷ more) x y two e f = absurd (omega (arith, two))

pub header_from : (r : Fields) → is_curve_header r ≡ true → r ≡ curve_header
header_from [] h = absurd (cc)
header_from (a ∷ []) h = absurd (cc)
header_from (a ∷ b ∷ []) h =
    let parts = and_parts (bytes_eq a (codes "offset")) (bytes_eq b (codes "factor")) h in
    let first : a ≡ codes "offset" = (bytes_eq-Decides a (codes "offset")).0 parts.0 in
    let second : b ≡ codes "factor" = (bytes_eq-Decides b (codes "factor")).0 parts.1 in
    λ i. first i ∷ second i ∷ []
header_from (a ∷ b ∷ e ∷ more) h = absurd (cc)

pub other_from : (r : Fields) → is_curve_header r ≡ false → r ≢ curve_header
other_from r h e = let same : is_curve_header r ≡ true = subst (λ (x : Fields). is_curve_header x ≡ true) (sym e) refl in absurd (cc)
