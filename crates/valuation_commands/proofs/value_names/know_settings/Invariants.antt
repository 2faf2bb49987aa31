use Rattle.std.specs.Prelude.{◌≡◌}
use Rattle.term_model.specs.Declarations.{declarations}
use Rattle.valuation_commands.specs.ValuePromise.{first_unknown_of, names_set}
use Rattle.valuation_commands.proofs.value_names.know_settings.Given as goal

-- the first unknown name of the settings that are left is that of all
abbrev pub invariant-loop-name : goal.invariant-loop-name
invariant-loop-name l =
    first_unknown_of (names_set (declarations l.decls) l.settings.entries) ≡ first_unknown_of (names_set (declarations l.decls) l.name-iterator)
