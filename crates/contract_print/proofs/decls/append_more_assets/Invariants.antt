use Rattle.std.proofs.Common.{◌≡◌, ◌++◌}
use Rattle.contract_grammar.specs.Versions.{version_of}
use Rattle.contract_print.specs.Canon.{more_assets_text}
use Rattle.contract_print.proofs.decls.append_more_assets.Given as goal

-- what stands, and the assets that are left, are what stood and all assets
abbrev pub invariant-loop-name : goal.invariant-loop-name
invariant-loop-name l =
    l.out.items ++ more_assets_text (version_of l.version) l.name-iterator ≡ l.initial.out.items ++ more_assets_text (version_of l.version) l.assets
