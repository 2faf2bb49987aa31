use Rattle.std.proofs.Common.{◌∙◌, sym, arith}
use Rattle.fixing_files.specs.Curves.{rows_of}
use Rattle.fixing_files.proofs.CurveTableFacts.{header_ended, none_ended, rows_ended}
use Rattle.fixing_files.proofs.curve_tables.ended.Goals as goal

pub returns-in-0 : goal.returns-in-0
returns-in-0 c = rw c.refused.ensures (λ t is front. none_ended t (rows_of c.args.steps.items) (sym c.in-0.is ∙ is) front)

pub returns-in-1 : goal.returns-in-1
returns-in-1 c = rw c.refused-in-1.ensures (λ t is front. header_ended t (rows_of c.args.steps.items) (sym c.in-1.is ∙ is) front)

pub returns-in_default : goal.returns-in_default
returns-in_default c t is front = rows_ended t (rows_of c.args.steps.items) (omega (arith, is, c.in_default)) front
