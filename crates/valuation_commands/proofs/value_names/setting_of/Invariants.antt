use Rattle.std.specs.Prelude.{◌≡◌, ◌++◌, map}
use Rattle.term_model.specs.Declarations.{declarations}
use Rattle.valuation_commands.specs.ValuePromise.{number_set, setting_by}
use Rattle.valuation_commands.proofs.value_names.setting_of.Given as goal

-- the numbers so far and those of the templates that are left are those of all
abbrev pub invariant-loop-name : goal.invariant-loop-name
invariant-loop-name l =
    l.days.items ++ map (λ entry. number_set l.settings.entries entry.0 entry.1) l.name-iterator ≡ setting_by (declarations l.decls) l.settings.entries
