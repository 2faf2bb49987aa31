use Rattle.std.proofs.Common.{ℕ, ◌≤◌, Option, ap, subst, sym}
use Rattle.term_model.specs.Declarations.{decimals_or}
use Rattle.term_model.specs.declared.name.Name.{Name}
use Rattle.term_model.proofs.OneScaleFacts.{decimals_within}
use Rattle.term_model.proofs.decls.Decls.decimals.Goals as goal

pub returns-in-Some-clause-within : goal.returns-in-Some-clause-within
returns-in-Some-clause-within c =
    let d = c.args.self.now in
    subst (λ (n : ℕ). n ≤ d.amounts) (sym (ap (λ (o : Option (Name × ℕ)). decimals_or o d.amounts) c.in-Some.ensures.entry)) (decimals_within d.version d.amounts d.assets.entries c.args.asset d.decimals_in)
