use Rattle.std.specs.Prelude.{ℕ, List}
use Rattle.term_model.specs.Declarations.{declarations}
use Rattle.contract_parse.specs.NextContracts.{bytes_left}
use Rattle.text_commands.specs.MigrateParts.{IsMigratedTo}
use Rattle.used_contracts.specs.ReadingParts.{IsBegun}
use Rattle.text_commands.proofs.migrate.printed_with.Given as goal

-- of whichever text is begun, the contracts that are read are printed
abbrev pub invariant-loop-text : goal.invariant-loop-text
invariant-loop-text l =
    (text : List ℕ) → IsBegun text (declarations l.decls) l.initial.reader → IsMigratedTo text (declarations l.decls) l.reader l.text.items

abbrev pub decreases-loop-text : goal.decreases-loop-text
decreases-loop-text l = bytes_left l.reader
