use Rattle.std.proofs.Common.{arith, rules}
use Rattle.std.proofs.lemmas.Int.{to_z-of_z}
use Rattle.contract_check.proofs.Granted.{granted}
use Rattle.contract_check.proofs.checks.check_by_rules.Goals as goal

pub returns : goal.returns
returns c =
    granted _ _ _ (search rules) (search rules) (search rules) (search rules) (search rules) c.args.decls.now.labels_in
    (search rules) (search rules) (grind (arith, to_z-of_z)) (search rules)
