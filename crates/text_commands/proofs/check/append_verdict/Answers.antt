use Rattle.term_model.specs.Declarations.{declarations}
use Rattle.term_model.specs.Terms.{contract}
use Rattle.text_commands.proofs.CheckFacts.{one_verdict, verdict_small}
use Rattle.text_commands.proofs.check.append_verdict.Goals as goal

pub check_line-requires : goal.check_line-requires
check_line-requires c = verdict_small (declarations c.args.decls.now) (contract c.args.contr.now) c.in_ok-verdict.verdict c.in_ok-verdict.ensures

pub returns : goal.returns
returns c =
    let d = declarations c.args.decls.now in
    one_verdict d (c.args.name.now, contract c.args.contr.now) c.in_ok-verdict.verdict c.is_ok.result c.args.out.now.items c.check_line.new.out.items c.in_ok-verdict.ensures c.is_ok.ensures.value c.in_ok-check_line.ensures.ok
