use Rattle.std.specs.Prelude.{ℕ, List}
use Rattle.term_model.specs.Declarations.{declarations}
use Rattle.contract_parse.specs.NextContracts.{bytes_left}
use Rattle.text_commands.specs.PayoffParts.{HasKept}
use Rattle.used_contracts.specs.ReadingParts.{IsBegun}
use Rattle.text_commands.proofs.payoff.kept_named.Given as goal

-- of whichever text is begun, the contract of the name is kept of those that are read
abbrev pub invariant-loop-kept : goal.invariant-loop-kept
invariant-loop-kept l =
    (text : List ℕ) → IsBegun text (declarations l.decls) l.fn.reader
    → HasKept text (declarations l.decls) l.word l.reader l.kept

abbrev pub decreases-loop-kept : goal.decreases-loop-kept
decreases-loop-kept l = bytes_left l.reader
