-- Worked rows: what single records of a table of discount factors say, and what whole tables hold.
use Rattle.std.proofs.Common.{◌≡◌, ℕ, ℤ, pos, inl, inr, List, [], ◌∷◌, map, Result, Ok, Err, refl, arith}
use Rattle.std.specs.Prelude.{codes}
use Rattle.std.proofs.lemmas.Int.{ints}
use Rattle.csv.specs.Machine.{next_record}
use Rattle.csv.specs.Reading.{records_from, strip_bom}
use Rattle.decimal.specs.Reading.{read_of}
use Rattle.term_model.specs.Factors.{CurveRow, IsCurve, discount_factor}
use Rattle.fixing_files.specs.CurveRecords.{curve_header, row_said}
use Rattle.fixing_files.specs.CurveSteps.{IsFront}
use Rattle.fixing_files.specs.CurveTables.{HoldsCurve, IsFirstCurveFault}
use Rattle.fixing_files.specs.Records.{Fields}
use Rattle.fixing_files.specs.Tables.{table_of}
use Rattle.fixing_files.specs.declared.faults.RowKind.{RowKind}
use Rattle.fixing_files.specs.declared.faults.RowKind.TheVariants.{Shape, Day, Factor, Zero, Rising}
use Rattle.fixing_files.proofs.CurveTableFacts.{next_is_first}

-- single records

abbrev row : ℕ → ℤ → CurveRow
row o v = record { offset = o; factor = v }

-- the two fields of a record, and what it says
abbrev two_fields : List (List ℕ × List ℕ × Result CurveRow RowKind)
two_fields =
    (codes "0", codes "1.000000000", Ok (row 0 (pos 1_000_000_000)))
    ∷ (codes "90", codes "0.990000000", Ok (row 90 (pos 990_000_000)))
    ∷ (codes "90", codes "10", Ok (row 90 (pos 10_000_000_000)))
    ∷ (codes "90", codes "10.000000001", Err Factor)
    ∷ (codes "90", codes "11", Err Factor)
    ∷ (codes "90", codes "-0.000000001", Err Factor)
    ∷ (codes "90", codes "-0", Ok (row 90 (pos 0)))
    ∷ (codes "90", codes "1.0000000000", Err Factor)
    ∷ (codes "2000000", codes "1", Ok (row 2_000_000 (pos 1_000_000_000)))
    ∷ (codes "2000001", codes "1", Err Day)
    ∷ (codes "000000001", codes "1", Ok (row 1 (pos 1_000_000_000)))
    ∷ (codes "0000000001", codes "1", Err Day)
    ∷ (codes "-1", codes "x", Err Day)
    ∷ []

says : map (λ r. row_said (r.0 ∷ r.1 ∷ [])) two_fields ≡ map (λ r. r.2) two_fields
unfolding row_said read_of
says = refl

three_fields : row_said (codes "0" ∷ codes "1" ∷ [] ∷ []) ≡ Err Shape
unfolding row_said
three_fields = refl

-- whole tables

abbrev first : Fields
first = codes "0" ∷ codes "1" ∷ []

says_first : row_said first ≡ Ok (row 0 (pos 1_000_000_000))
unfolding row_said read_of
says_first = refl

abbrev second : Fields
second = codes "90" ∷ codes "0.990000000" ∷ []

says_second : row_said second ≡ Ok (row 90 (pos 990_000_000))
unfolding row_said read_of
says_second = refl

abbrev half : Fields
half = codes "0" ∷ codes "0.5" ∷ []

says_half : row_said half ≡ Ok (row 0 (pos 500_000_000))
unfolding row_said read_of
says_half = refl

abbrev late : Fields
late = codes "5" ∷ codes "1" ∷ []

says_late : row_said late ≡ Ok (row 5 (pos 1_000_000_000))
unfolding row_said read_of
says_late = refl

two_rows : HoldsCurve (curve_header ∷ first ∷ second ∷ []) (row 0 (pos 1_000_000_000) ∷ row 90 (pos 990_000_000) ∷ [])
two_rows = record {
  records = first ∷ second ∷ [];
  headed = refl;
  said = (says_first, (says_second, tt {0}));
  curve = (refl, (omega arith, tt {0}), ((omega (arith, ints), omega (arith, ints)), ((omega (arith, ints), omega (arith, ints)), tt {0})));
}

-- the records of a text, whose last line need not end
text_of_two : table_of (codes "offset,factor\n0,1\n90,0.990000000") ≡ curve_header ∷ first ∷ second ∷ []
unfolding records_from next_record strip_bom
text_of_two = refl

no_record : IsFirstCurveFault [] (record { row = 1; kind = Shape })
no_record = next_is_first [] [] [] 1 Shape refl refl (inl (record { number = refl; kind = refl; other = λ e. absurd (cc) }))

header_alone : IsFirstCurveFault (curve_header ∷ []) (record { row = 2; kind = Zero })
header_alone = next_is_first (curve_header ∷ []) [] [] 2 Zero (refl, tt {0}, tt {0}, tt {0}) refl (inr (inr (inl (record { number = refl; kind = refl; none = refl }))))

starts_late : IsFirstCurveFault (curve_header ∷ late ∷ []) (record { row = 2; kind = Zero })
starts_late = next_is_first (curve_header ∷ []) (late ∷ []) [] 2 Zero (refl, tt {0}, tt {0}, tt {0}) refl (inr (inr (inr (inl (record {
  number = refl;
  kind = refl;
  row = row 5 (pos 1_000_000_000);
  says = record { fields = late; at = record { below_header = omega arith; stands = refl }; meaning = says_late };
  late = λ e. omega (arith, e);
})))))

falls_back : IsFirstCurveFault (curve_header ∷ first ∷ half ∷ []) (record { row = 3; kind = Rising })
falls_back =
    let begun : IsCurve (row 0 (pos 1_000_000_000) ∷ []) = (refl, tt {0}, ((omega (arith, ints), omega (arith, ints)), tt {0})) in
    let front : IsFront (curve_header ∷ first ∷ []) (row 0 (pos 1_000_000_000) ∷ []) = (refl, (says_first, tt {0}), begun, (omega arith, tt {0})) in
    next_is_first (curve_header ∷ first ∷ []) (half ∷ []) (row 0 (pos 1_000_000_000) ∷ []) 3 Rising front refl (inr (inr (inr (inr (record {
      kind = refl;
      earlier = 2;
      before = row 0 (pos 1_000_000_000);
      row = row 0 (pos 500_000_000);
      next = refl;
      says_before = record { fields = first; at = record { below_header = omega arith; stands = refl }; meaning = says_first };
      says = record { fields = half; at = record { below_header = omega arith; stands = refl }; meaning = says_half };
      not_above = omega arith;
    })))))

-- the factors of a curve

abbrev factor : ℤ → ℤ
factor o = discount_factor (row 0 (pos 1_000_000_000) ∷ row 90 (pos 990_000_000) ∷ []) (pos 1_000_000_000) o

day_before_second : factor (pos 89) ≡ pos 1_000_000_000
day_before_second = refl

on_second : factor (pos 90) ≡ pos 990_000_000
on_second = refl

after_second : factor (pos 1_000_000) ≡ pos 990_000_000
after_second = refl
