-- What stops `positions` and `settle` is what stops `flows` of all contracts, so their statuses have the same causes.
use Rattle.std.specs.Prelude.{ℕ, List, Option}
use Rattle.term_model.specs.Books.{Book}
use Rattle.term_model.specs.Declarations.{Declarations}
use Rattle.flow_eval.specs.declared.flow_table.FlowTable.{FlowTable}
use Rattle.command_words.specs.Commands.{NettingAsked}
use Rattle.flow_commands.specs.DueOfNetting.{DueOfNettingIs, DueOfPositions, DueOfSettlements}
use Rattle.flow_commands.specs.NettingCourse.{flows_of_all}
use Rattle.flow_commands.specs.NettingPromise.{TellsPositions, TellsSettlement}
use Rattle.flow_commands.proofs.DueOfFlowFacts.{due_of_flows}

due_of_netting : (TellsOf : Declarations → List FlowTable → List ℕ → Type 0) (asked : NettingAsked) (table : Option (List ℕ)) (b : Book) → DueOfNettingIs TellsOf asked table b
due_of_netting TellsOf asked table b =
    let flows = due_of_flows (flows_of_all asked) table b in
    record {
      due = λ s h. flows.due s h;
      cause = λ f h. flows.cause f h;
      same = λ f. (λ h. h, λ h. h);
    }

pub due_of_positions : DueOfPositions
due_of_positions asked table b = due_of_netting TellsPositions asked table b

pub due_of_settlements : DueOfSettlements
due_of_settlements asked table b = due_of_netting TellsSettlement asked table b
