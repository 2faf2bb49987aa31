use Rattle.std.proofs.Common.{◌∙◌, ◌++◌, [], ℕ, List, ap, subst, sym}
use Rattle.term_model.specs.Declarations.{declarations}
use Rattle.term_model.specs.Terms.{Contract, contract}
use Rattle.contract_grammar.specs.Names.{declared_by}
use Rattle.contract_print.specs.Canon.{contract_text}
use Rattle.contract_grammar.specs.Writable.{IsWritableTerm}
use Rattle.schedule_forms.specs.Expansions.{expansion}
use Rattle.text_commands.specs.ExpandParts.{AppendsExpansion, IsAcceptedExpansion}
use Rattle.used_contracts.specs.AcceptingParts.{IsRefusedOne}
use Rattle.command_courses.proofs.StopFacts.{handed_on}
use Rattle.text_commands.proofs.expand.append_expansion.Goals as goal

pub returns-in_err-contr : goal.returns-in_err-contr
returns-in_err-contr c =
    let d = declarations c.args.decls.now in
    let name = c.args.name.now in
    let plan = c.args.plan.now in
    let before = c.args.out.now.items in
    let Refused = IsRefusedOne d (name, expansion plan) in
    handed_on (IsAcceptedExpansion d plan) (λ (u : Unit {0}). AppendsExpansion d name plan before before) Refused Refused (λ f h. h)
    c.in_err-contr.field-0.0 c.from_residual.result c.in_err-contr.ensures c.from_residual.ensures.1

pub print_contract-requires : goal.print_contract-requires
print_contract-requires c = subst (λ (t : Contract). IsWritableTerm t) (sym c.in_ok-contr.ensures.is) c.requires.writable

pub returns : goal.returns
returns c =
    let of = declared_by (declarations c.args.decls.now) [] in
    let before = c.args.out.now.items in
    let made = c.in_ok-contr.ensures in
    record {
      line =
          c.in_ok-print_contract.ensures.ok ∙ ap (λ (n : List ℕ). before ++ contract_text of n (contract c.in_ok-contr.contr)) c.text.ensures
          ∙ ap (λ (t : Contract). before ++ contract_text of c.args.name.now t) made.is;
      accepted = made.accepted;
    }
