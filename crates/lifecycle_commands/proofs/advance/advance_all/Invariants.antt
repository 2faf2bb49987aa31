use Rattle.std.specs.Prelude.{ℕ, List}
use Rattle.contract_parse.specs.NextContracts.{bytes_left}
use Rattle.lifecycle_commands.specs.AdvanceParts.{HasRests, declared_to}
use Rattle.used_contracts.specs.ChoosingParts.{IsWalked, selection}
use Rattle.used_contracts.specs.ReadingParts.{IsBegun}
use Rattle.lifecycle_commands.proofs.advance.advance_all.Given as goal

-- of whichever text is begun, the contracts that are read are tried, and what is due and left of them is kept
abbrev pub invariant-loop-kept : goal.invariant-loop-kept
invariant-loop-kept l =
    (text : List ℕ) → IsBegun text (declared_to l.to) l.initial.reader
    → IsWalked text (declared_to l.to) (selection l.to.choice) (HasRests l.to l.kept) l.reader l.tried

abbrev pub decreases-loop-kept : goal.decreases-loop-kept
decreases-loop-kept l = bytes_left l.reader
