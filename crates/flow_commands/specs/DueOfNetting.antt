-- What the law of statuses says of `positions` and `settle`: what stops them is what stops `flows` of all contracts, and each status
-- of theirs has the cause that it has there.
use Rattle.std.specs.Prelude.{◌↔◌, ℕ, List, Option}
use Rattle.term_model.specs.Books.{Book}
use Rattle.term_model.specs.Declarations.{Declarations}
use Rattle.flow_eval.specs.declared.flow_table.FlowTable.{FlowTable}
use Rattle.report.specs.declared.fault_lines.Fault.{Fault}
use Rattle.command_words.specs.Commands.{NettingAsked}
use Rattle.command_courses.specs.Course.{IsDue, Stops}
use Rattle.flow_commands.specs.DueOfFlows.{CauseOfFlows}
use Rattle.flow_commands.specs.FlowsCourse.{flows_on}
use Rattle.flow_commands.specs.NettingCourse.{flows_of_all, netting_on}
use Rattle.flow_commands.specs.NettingPromise.{TellsPositions, TellsSettlement}
use Rattle.command_courses.specs.Statuses.{status_of}
use Rattle.command_courses.specs.declared.status.Status.{Status}

-- where a cause stands its status is due; what stops the command has its cause; and it is what stops `flows` of all contracts
pub record DueOfNettingIs (TellsOf : Declarations → List FlowTable → List ℕ → Type 0)
    (asked : NettingAsked) (table : Option (List ℕ)) (b : Book) : Type 0 where
  pub due : (s : Status) → CauseOfFlows s (flows_of_all asked) table b → IsDue (netting_on TellsOf asked b table) s
  pub cause : (f : Fault) → Stops (netting_on TellsOf asked b table) f → CauseOfFlows (status_of f) (flows_of_all asked) table b
  pub same : (f : Fault) → Stops (netting_on TellsOf asked b table) f ↔ Stops (flows_on (flows_of_all asked) b table) f

abbrev pub DueOfPositions : Type 0
DueOfPositions = (asked : NettingAsked) (table : Option (List ℕ)) (b : Book) → DueOfNettingIs TellsPositions asked table b

abbrev pub DueOfSettlements : Type 0
DueOfSettlements = (asked : NettingAsked) (table : Option (List ℕ)) (b : Book) → DueOfNettingIs TellsSettlement asked table b
