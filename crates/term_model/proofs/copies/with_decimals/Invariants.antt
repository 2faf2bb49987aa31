use Rattle.std.proofs.Common.{◌≡◌, ◌++◌, map}
use Rattle.term_model.proofs.OneScaleFacts.{of_entry, of_name}
use Rattle.term_model.proofs.copies.with_decimals.Given as goal

-- the assets so far and those that are left are all
abbrev pub invariant-loop-name : goal.invariant-loop-name
invariant-loop-name l = l.uniform.entries ++ map (of_name l.decimals) l.name-iterator ≡ map (of_entry l.decimals) l.assets.entries
