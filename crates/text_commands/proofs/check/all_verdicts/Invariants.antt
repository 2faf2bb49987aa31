use Rattle.std.specs.Prelude.{ℕ, List}
use Rattle.term_model.specs.Declarations.{declarations}
use Rattle.contract_parse.specs.NextContracts.{bytes_left}
use Rattle.text_commands.specs.CheckParts.{HasVerdicts}
use Rattle.used_contracts.specs.ReadingParts.{IsBegun}
use Rattle.text_commands.proofs.check.all_verdicts.Given as goal

-- of whichever text is begun, the verdicts on the contracts that are read are there
abbrev pub invariant-loop-check : goal.invariant-loop-check
invariant-loop-check l = (text : List ℕ) → IsBegun text (declarations l.decls) l.fn.reader → HasVerdicts text (declarations l.decls) l.reader l.check

abbrev pub decreases-loop-check : goal.decreases-loop-check
decreases-loop-check l = bytes_left l.reader
