use Rattle.std.proofs.Common.{ℕ, List, subst}
use Rattle.std.specs.Prelude.{Option}
use Rattle.command_words.specs.Words.{flows_by}
use Rattle.command_courses.specs.Inputs.{bytes_of, file_at}
use Rattle.command_courses.specs.Stopping.{GoesDone}
use Rattle.flow_commands.specs.FlowsCourse.{flows_of_text}
use Rattle.flow_commands.proofs.flows.flows_text.Goals as goal

pub returns : goal.returns
returns c =
    let text = file_at (bytes_of c.args.inputs.files.now) 0 in
    subst (λ (table : Option (List ℕ)). GoesDone (flows_of_text (flows_by c.args.asked.now) text table) c.lines_over.result) c.table_if_named-table.ensures.is
    (c.lines_over.ensures text c.in_ok-decls.ensures)
