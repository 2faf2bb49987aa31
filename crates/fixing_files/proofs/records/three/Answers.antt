use Rattle.std.proofs.Common.{◌∙◌, sym, arith}
use Rattle.csv.specs.Records.{fields_of}
use Rattle.fixing_files.proofs.RecordFacts.{absent, three_is}
use Rattle.fixing_files.proofs.records.three.Goals as goal

pub returns-in_err-get : goal.returns-in_err-get
returns-in_err-get c = absurd (absent (fields_of c.args.record.now) 0 (sym c.len.ensures ∙ c.if-len-eq3.true) (omega arith) c.in_err-get.ensures.value)

pub returns-in_err-get-2 : goal.returns-in_err-get-2
returns-in_err-get-2 c = absurd (absent (fields_of c.args.record.now) 1 (sym c.len.ensures ∙ c.if-len-eq3.true) (omega arith) c.in_err-get-2.ensures.value)

pub returns-in_err-get-3 : goal.returns-in_err-get-3
returns-in_err-get-3 c = absurd (absent (fields_of c.args.record.now) 2 (sym c.len.ensures ∙ c.if-len-eq3.true) (omega arith) c.in_err-get-3.ensures.value)

pub returns-in_ok-get-3 : goal.returns-in_ok-get-3
returns-in_ok-get-3 c =
    three_is (fields_of c.args.record.now) _ _ _ (sym c.len.ensures ∙ c.if-len-eq3.true) c.in_ok-get.ensures.value c.in_ok-get-2.ensures.value c.in_ok-get-3.ensures.value
