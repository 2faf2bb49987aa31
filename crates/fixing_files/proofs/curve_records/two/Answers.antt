use Rattle.std.proofs.Common.{◌∙◌, sym, arith}
use Rattle.csv.specs.Records.{fields_of}
use Rattle.fixing_files.proofs.CurveRecordFacts.{absent_of_two, two_is}
use Rattle.fixing_files.proofs.curve_records.two.Goals as goal

pub returns-in_err-get : goal.returns-in_err-get
returns-in_err-get c = absurd (absent_of_two (fields_of c.args.record.now) 0 (sym c.len.ensures ∙ c.if-len-eq2.true) (omega arith) c.in_err-get.ensures.value)

pub returns-in_err-get-2 : goal.returns-in_err-get-2
returns-in_err-get-2 c = absurd (absent_of_two (fields_of c.args.record.now) 1 (sym c.len.ensures ∙ c.if-len-eq2.true) (omega arith) c.in_err-get-2.ensures.value)

pub returns-in_ok-get-2 : goal.returns-in_ok-get-2
returns-in_ok-get-2 c = two_is (fields_of c.args.record.now) _ _ (sym c.len.ensures ∙ c.if-len-eq2.true) c.in_ok-get.ensures.value c.in_ok-get-2.ensures.value
