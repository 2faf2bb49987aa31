use Rattle.std.proofs.Common.{◌≡◌, ◌++◌}
use Rattle.contract_print.specs.Canon.{templates_text}
use Rattle.contract_print.proofs.decls.append_templates.Given as goal

-- what stands, and the lines of what is left, are what stood and all lines
abbrev pub invariant-loop-name : goal.invariant-loop-name
invariant-loop-name l = l.out.items ++ templates_text l.name-iterator ≡ l.initial.out.items ++ templates_text l.templates.entries
