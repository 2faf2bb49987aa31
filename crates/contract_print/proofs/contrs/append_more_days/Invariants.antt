use Rattle.std.proofs.Common.{◌≡◌, ◌++◌, [], drop}
use Rattle.term_model.specs.Declarations.{declarations}
use Rattle.contract_grammar.specs.Names.{declared_by}
use Rattle.contract_print.specs.TermTexts.{more_days_text}
use Rattle.contract_print.proofs.contrs.append_more_days.Given as goal

-- what stands, and the names that are left, are what stood and all names
abbrev pub invariant-loop-name : goal.invariant-loop-name
invariant-loop-name l =
    let s = declared_by (declarations l.decls) [] in
    l.out.items ++ more_days_text s (drop l.name-index l.names) ≡ l.initial.out.items ++ more_days_text s l.names
