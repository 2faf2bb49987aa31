-- The line of a fault: `fault` and what kept the command from its answer.
use Rattle.std.specs.Prelude.{ℕ, ℤ, List, [], ◌++◌, codes}
use Rattle.contract_grammar.specs.declared.faults.TextFault.{TextFault}
use Rattle.contract_grammar.specs.declared.faults.TextKind.{TextKind}
use Rattle.contract_grammar.specs.declared.faults.TextKind.TheVariants.{Syntax, Number, Date, Deep, Range, Twice, Unknown, Utf8}
use Rattle.decimal.specs.Text.{text_of}
use Rattle.report.specs.Pieces.{number_text}
use Rattle.report.specs.CheckLines.{refusal_text, line_feed}
use Rattle.report.specs.declared.fault_lines.Fault.{Fault}
use Rattle.report.specs.declared.fault_lines.Fault.TheVariants.{Usage, Read, TooLong, Text, UnknownName, Day, Refused, Row, Missing, Scenarios, MissingIn}
use Rattle.term_model.specs.declared.rules.Rule.{Rule}
use Rattle.fixing_files.specs.declared.faults.RowFault.{RowFault}
use Rattle.fixing_files.specs.declared.faults.RowKind.{RowKind}
use Rattle.fixing_files.specs.declared.faults.RowKind.TheVariants as row

abbrev pub kind_text : TextKind → List ℕ
kind_text Syntax = codes "syntax"
kind_text Number = codes "number"
kind_text Date = codes "date"
kind_text Deep = codes "deep"
kind_text Range = codes "range"
kind_text Twice = codes "twice"
kind_text Unknown = codes "unknown"
kind_text Utf8 = codes "utf8"

-- the rule that a record breaks
abbrev pub row_text : RowKind → List ℕ
row_text row.Shape = codes "shape"
row_text row.Label = codes "label"
row_text row.Day = codes "day"
row_text row.Value = codes "value"
row_text row.Bounds = codes "bounds"
row_text (row.Conflict earlier) = codes "conflict with "
row_text row.Factor = codes "factor"
row_text row.Rising = codes "rising"
row_text row.Zero = codes "zero"

-- the first record of the same place, for a conflict
abbrev pub earlier_text : RowKind → List ℕ
earlier_text (row.Conflict earlier) = number_text earlier
earlier_text _ = []

-- a text that is not in its grammar
abbrev pub text_fault_text : TextFault → List ℕ
text_fault_text f =
    codes "fault text " ++ (kind_text f.kind
    ++ (codes " line " ++ (number_text f.line ++ (codes " column " ++ (number_text f.column ++ line_feed)))))

-- a contract that is not accepted
abbrev pub refused_text : List ℕ → Rule → ℕ → List ℕ
refused_text name rule node = codes "fault refused " ++ (name ++ (codes " " ++ refusal_text rule node))

-- a record that is refused, of the file at a place
abbrev pub row_fault_text : ℕ → RowFault → List ℕ
row_fault_text place f =
    codes "fault row file " ++ (number_text place ++ (codes " record " ++ (number_text f.row
    ++ (codes " " ++ (row_text f.kind ++ (earlier_text f.kind ++ line_feed))))))

-- a label that is not fixed on a day, with what stands behind the day
abbrev pub missing_text : List ℕ → ℤ → List ℕ → List ℕ
missing_text label day behind = codes "fault missing " ++ (label ++ (codes " " ++ (text_of day 0 ++ behind)))

abbrev pub fault_text : Fault → List ℕ
fault_text Usage = codes "fault usage" ++ line_feed
fault_text (Read place) = codes "fault read " ++ (number_text place ++ line_feed)
fault_text (TooLong place) = codes "fault too long " ++ (number_text place ++ line_feed)
fault_text (Text fault) = text_fault_text fault
fault_text (Refused name rule node) = refused_text name rule node
fault_text (UnknownName name) = codes "fault unknown " ++ (name ++ line_feed)
fault_text (Day word) = codes "fault day " ++ (word ++ line_feed)
fault_text (Row place fault) = row_fault_text place fault
fault_text (Missing label day) = missing_text label day line_feed
fault_text (Scenarios count) = codes "fault scenarios " ++ (number_text count ++ line_feed)
fault_text (MissingIn label day scenario) = missing_text label day (codes " in " ++ (scenario ++ line_feed))
