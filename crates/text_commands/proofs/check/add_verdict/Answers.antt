use Rattle.std.proofs.Common.{◌∙◌, ℕ, List, ap, rules, subst, sym}
use Rattle.term_model.specs.Declarations.{declarations}
use Rattle.term_model.specs.Instances.{HasNumbers, instance}
use Rattle.term_model.specs.Terms.{Contract, contract}
use Rattle.text_commands.specs.CheckParts.{AppendsVerdict}
use Rattle.used_contracts.specs.UsedParts.{IsTriable}
use Rattle.used_contracts.proofs.UsedFacts.{defaults_small, numbers_given, triable}
use Rattle.text_commands.proofs.check.add_verdict.Goals as goal

pub made_of-requires-clause-numbers : goal.made_of-requires-clause-numbers
made_of-requires-clause-numbers c =
    let d = declarations c.args.decls.now in
    let contr = contract c.args.next.contr in
    subst (λ (numbers : List ℕ). HasNumbers numbers contr) (sym c.requires.defaults) (numbers_given d contr c.requires.sound)

pub made_of-requires-clause-sums : goal.made_of-requires-clause-sums
made_of-requires-clause-sums c = c.requires.sound.sums

pub made_of-requires-clause-small : goal.made_of-requires-clause-small
made_of-requires-clause-small c =
    defaults_small (declarations c.args.decls.now) c.args.setting.now.days.items c.args.decls.now.templates_in c.requires.defaults

pub append_verdict-requires : goal.append_verdict-requires
append_verdict-requires c =
    let d = declarations c.args.decls.now in
    let contr = contract c.args.next.contr in
    let made = c.in_ok-contr.ensures ∙ ap (λ (numbers : List ℕ). instance numbers contr) c.requires.defaults in
    subst (IsTriable d) (sym made) (triable d contr c.requires.sound)

pub returns : goal.returns
returns c =
    let d = declarations c.args.decls.now in
    let contr = contract c.args.next.contr in
    let name = c.args.next.name.now in
    let accepted = c.in_ok-accepted.accepted in
    let made = c.in_ok-contr.ensures ∙ ap (λ (numbers : List ℕ). instance numbers contr) c.requires.defaults in
    record {
      accepted = accepted;
      appended = subst (λ (x : Contract). AppendsVerdict d (name, x) accepted c.args.check.now.text.items c.append_verdict.new.out.items) made c.in_ok-accepted.ensures;
      joined = search rules;
    }
