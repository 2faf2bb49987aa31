use Rattle.std.specs.Prelude.{ℕ, List}
use Rattle.term_model.specs.Declarations.{declarations}
use Rattle.contract_parse.specs.NextContracts.{bytes_left}
use Rattle.used_contracts.specs.ChoosingParts.{IsWalked, selection}
use Rattle.flow_commands.specs.FlowsParts.{HasFlows}
use Rattle.used_contracts.specs.ReadingParts.{IsBegun}
use Rattle.flow_commands.proofs.flows.flows_of_all.Given as goal

-- of whichever text is begun, the contracts that are read are tried, and what they pay is kept
abbrev pub invariant-loop-kept : goal.invariant-loop-kept
invariant-loop-kept l =
    (text : List ℕ) → IsBegun text (declarations l.until.choice.decls.now) l.initial.reader
    → IsWalked text (declarations l.until.choice.decls.now) (selection l.until.choice) (HasFlows l.until l.kept) l.reader l.tried

abbrev pub decreases-loop-kept : goal.decreases-loop-kept
decreases-loop-kept l = bytes_left l.reader
