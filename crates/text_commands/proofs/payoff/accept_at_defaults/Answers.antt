use Rattle.std.proofs.Common.{◌∙◌, ℕ, List, ap, subst, sym}
use Rattle.term_model.specs.Declarations.{declarations}
use Rattle.term_model.specs.Instances.{HasNumbers, declared_numbers, instance}
use Rattle.term_model.specs.Terms.{Contract, contract}
use Rattle.used_contracts.specs.AcceptingParts.{AnswersAcceptedOne}
use Rattle.used_contracts.specs.UsedParts.{IsTriable}
use Rattle.used_contracts.proofs.UsedFacts.{defaults_small, numbers_given, own_instance, triable}
use Rattle.text_commands.proofs.payoff.accept_at_defaults.Goals as goal

pub returns-then-has_only_numbers : goal.returns-then-has_only_numbers
returns-then-has_only_numbers c =
    let d = declarations c.args.decls.now in
    let contr = contract c.args.contr.now in
    subst (λ (x : Contract). AnswersAcceptedOne d (c.args.name.now, x) c.accept_named.result)
    (sym (own_instance (declared_numbers d) contr (c.has_only_numbers.ensures.0 c.if-has_only_numbers.true))) c.accept_named.ensures

pub instantiate-requires-clause-has : goal.instantiate-requires-clause-has
instantiate-requires-clause-has c =
    let contr = contract c.args.contr.now in
    subst (λ (numbers : List ℕ). HasNumbers numbers contr) (sym c.in_ok-setting.ensures) (numbers_given (declarations c.args.decls.now) contr c.requires)

pub instantiate-requires-clause-sums : goal.instantiate-requires-clause-sums
instantiate-requires-clause-sums c = c.requires.sums

pub instantiate-requires-clause-small : goal.instantiate-requires-clause-small
instantiate-requires-clause-small c =
    defaults_small (declarations c.args.decls.now) c.in_ok-setting.setting.days.items c.args.decls.now.templates_in c.in_ok-setting.ensures

pub accept_named-requires-2 : goal.accept_named-requires-2
accept_named-requires-2 c =
    let d = declarations c.args.decls.now in
    let contr = contract c.args.contr.now in
    subst (IsTriable d) (sym (c.in_ok-made.ensures ∙ ap (λ (numbers : List ℕ). instance numbers contr) c.in_ok-setting.ensures)) (triable d contr c.requires)
