use Rattle.std.proofs.Common.{◌≤◌, arith, length}
use Rattle.std.proofs.lemmas.Result.{IfOk-weaker}
use Rattle.contract_grammar.specs.Tokens.{tokens}
use Rattle.contract_grammar.specs.Versions.{One}
use Rattle.contract_grammar.specs.Names.{nothing_declared}
use Rattle.contract_parse.specs.Expecting.{decls_expected}
use Rattle.contract_grammar.proofs.Parts.{followed_by}
use Rattle.schedule_forms.proofs.parsing.read_heading.Goals as goal

pub returns-clause-reads : goal.returns-clause-reads
returns-clause-reads c =
    let near : length c.in_ok-rest.rest.now ≤ length c.args.bytes.now = c.in_ok-rest.ensures.reads.shorter in
    record {
      follows = λ ps. rw (c.in_ok-rest.ensures.reads.follows nothing_declared (decls_expected One ps)) (c.read_decls.ensures.reads.follows ps);
      spelled = IfOk-weaker c.read_decls.result _ _ (λ r h. followed_by (tokens c.in_ok-rest.rest.now) c.in_ok-rest.ensures.reads.spelled h) c.read_decls.ensures.reads.spelled;
      shorter = IfOk-weaker c.read_decls.result _ _ (λ r h. omega (arith, h, near)) c.read_decls.ensures.reads.shorter;
    }
