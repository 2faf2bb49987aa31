use Rattle.std.specs.Prelude.{ℕ, List}
use Rattle.term_model.specs.Declarations.{declarations}
use Rattle.contract_parse.specs.NextContracts.{bytes_left}
use Rattle.used_contracts.specs.ChoosingParts.{IsWalked, Nothing, selection}
use Rattle.used_contracts.specs.ReadingParts.{IsBegun}
use Rattle.used_contracts.proofs.choosing.try_all.Given as goal

-- of whichever text is begun, the contracts that are read are tried
abbrev pub invariant-loop-tried : goal.invariant-loop-tried
invariant-loop-tried l =
    (text : List ℕ) → IsBegun text (declarations l.choice.decls.now) l.initial.reader
    → IsWalked text (declarations l.choice.decls.now) (selection l.choice) Nothing l.reader l.tried

abbrev pub decreases-loop-tried : goal.decreases-loop-tried
decreases-loop-tried l = bytes_left l.reader
