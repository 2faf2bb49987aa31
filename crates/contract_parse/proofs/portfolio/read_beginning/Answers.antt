use Rattle.std.proofs.Common.{◌≡◌, ◌∷◌, [], ap, subst, sym}
use Rattle.std.proofs.lemmas.Result.{IfOk-weaker, err_from_is_err_and}
use Rattle.contract_grammar.specs.Tokens.{tokens}
use Rattle.contract_grammar.specs.Versions.{Version, version_of}
use Rattle.contract_grammar.specs.Judgements.{is_the_version}
use Rattle.contract_grammar.specs.Spelling.{one}
use Rattle.contract_grammar.specs.Names.{nothing_declared}
use Rattle.contract_parse.specs.Expecting.{TheEnd, expected_behind, run}
use Rattle.contract_parse.specs.Reading.{declared_in, tokens_ahead}
use Rattle.contract_grammar.proofs.Parts.{followed_by}
use Rattle.contract_parse.proofs.Passing.{leaves_as, ok_both}
use Rattle.contract_parse.proofs.portfolio.read_beginning.Goals as goal

pub returns-in_err-version-clause-follows : goal.returns-in_err-version-clause-follows
returns-in_err-version-clause-follows c =
    let p = err_from_is_err_and c.from_residual.result c.from_residual.ensures.1 in
    rw (p.1, p.2) (c.in_err-version.ensures.reads.follows nothing_declared (TheEnd ∷ []))

pub returns-clause-follows : goal.returns-clause-follows
returns-clause-follows c =
    let v = version_of c.in_ok-version.version in
    let same = IfOk-weaker c.read_decls.result _ (λ r. run (declared_in r.0 []) (expected_behind v) (tokens_ahead r.1) ≡ run (declared_in r.0 []) (expected_behind (version_of r.0.version)) (tokens_ahead r.1))
    (λ r is. ap (λ (w : Version). run (declared_in r.0 []) (expected_behind w) (tokens_ahead r.1)) (ap version_of (sym is))) c.read_decls.ensures.version in
    rw (c.in_ok-version.ensures.reads.follows nothing_declared (TheEnd ∷ []))
    (leaves_as (λ r. run (declared_in r.0 []) (expected_behind v) (tokens_ahead r.1)) (λ r. run (declared_in r.0 []) (expected_behind (version_of r.0.version)) (tokens_ahead r.1)) c.read_decls.result _ same (c.read_decls.ensures.reads.follows (expected_behind v)))

pub returns-clause-spelled : goal.returns-clause-spelled
returns-clause-spelled c =
    let first = c.in_ok-version.ensures.reads.spelled in
    IfOk-weaker c.read_decls.result _ _ (λ r both.
    followed_by first.between first.one
    (followed_by first.two.between (subst (λ n. one (is_the_version n) first.between first.two.between) (sym both.0) first.two.one)
    (followed_by (tokens c.in_ok-version.rest.now) first.two.two both.1)))
    (ok_both _ _ c.read_decls.result c.read_decls.ensures.version c.read_decls.ensures.reads.spelled)
