use Rattle.std.proofs.Common.{◌≡◌, ◌++◌, drop}
use Rattle.term_model.specs.Declarations.{declarations}
use Rattle.payoff_lang.specs.CodeTexts.{declared_for_code, names_text}
use Rattle.payoff_lang.proofs.printing.append_templates.Given as goal

-- what stands, and the templates that are left, are what stood and all templates
abbrev pub invariant-loop-name : goal.invariant-loop-name
invariant-loop-name l =
    l.out.items ++ names_text (declared_for_code (declarations l.decls)) (drop l.name-index l.names) ≡ l.initial.out.items ++ names_text (declared_for_code (declarations l.decls)) l.names
