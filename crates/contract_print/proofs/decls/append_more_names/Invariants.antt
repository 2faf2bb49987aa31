use Rattle.std.proofs.Common.{◌≡◌, ◌++◌, drop}
use Rattle.contract_print.specs.Canon.{more_names_text}
use Rattle.contract_print.proofs.decls.append_more_names.Given as goal

-- what stands, and the names that are left, are what stood and all names
abbrev pub invariant-loop-name : goal.invariant-loop-name
invariant-loop-name l = l.out.items ++ more_names_text (drop l.name-index l.names) ≡ l.initial.out.items ++ more_names_text l.names
