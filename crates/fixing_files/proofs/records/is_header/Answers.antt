use Rattle.std.proofs.Common.{◌≡◌, ◌∙◌, sym, true, false}
use Rattle.csv.specs.Records.{fields_of}
use Rattle.fixing_files.proofs.RecordFacts.{header_is}
use Rattle.fixing_files.proofs.records.is_header.Goals.{then-eq, else-eq}
use Rattle.fixing_files.proofs.records.is_header.Goals as goal

pub returns-then-eq-2 : goal.returns-then-eq-2
returns-then-eq-2 c =
    elim c.if-eq.branch [
      | then-eq w ↦
          let day = sym c.if-eq-2.true ∙ w.value-is ∙ rw w.as_slice-then-eq.ensures at w.eq-then-eq.ensures in
          (rw c.as_slice-then-eq-2.ensures at c.eq-then-eq-2.ensures)
          ∙ header_is (fields_of c.args.record.now) c.in-Some.label.now c.in-Some.day.now c.in-Some.value.now c.in-Some.ensures (rw c.as_slice.ensures at w.if-eq.ensures) day
      | else-eq w ↦ let wrong : true ≡ false = sym c.if-eq-2.true ∙ w.value-is ∙ w.if-eq.false in absurd (cc)
    ]
