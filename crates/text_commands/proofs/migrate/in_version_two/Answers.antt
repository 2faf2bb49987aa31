use Rattle.contract_print.proofs.MigratedFacts.{decimals_in_version_two}
use Rattle.text_commands.proofs.migrate.in_version_two.Goals as goal

pub invariant_of-result-clause-decimals_in : goal.invariant_of-result-clause-decimals_in
invariant_of-result-clause-decimals_in c = decimals_in_version_two c.args.decls.version c.args.decls.amounts c.args.decls.assets.entries c.args.decls.decimals_in
