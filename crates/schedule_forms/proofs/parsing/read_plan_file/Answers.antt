use Rattle.std.proofs.Common.{◌∷◌, []}
use Rattle.std.proofs.lemmas.Result.{err_from_is_err_and}
use Rattle.indexmap.specs.IndexMap.{keys}
use Rattle.term_model.specs.Declarations.{declarations}
use Rattle.contract_grammar.specs.Tokens.{tokens}
use Rattle.contract_parse.specs.Expecting.{AnyTokens, TheEnd}
use Rattle.contract_parse.specs.Reading.{tokens_ahead}
use Rattle.schedule_forms.specs.PlanExpecting.{Token}
use Rattle.schedule_forms.specs.PlanTexts.{Heading}
use Rattle.schedule_forms.proofs.FileFacts.{end_refused, heading_refused, plans_refused}
use Rattle.schedule_forms.proofs.parsing.read_plan_file.Goals as goal

pub returns-in_err-decls-clause-reads : goal.returns-in_err-decls-clause-reads
returns-in_err-decls-clause-reads c =
    let p = err_from_is_err_and c.from_residual.result c.from_residual.ensures.1 in
    rw (p.1, p.2) (heading_refused (tokens c.args.bytes.now) _ (c.in_err-decls.ensures.reads.follows (AnyTokens ∷ [])))

pub returns-in_err-plans-clause-reads : goal.returns-in_err-plans-clause-reads
returns-in_err-plans-clause-reads c =
    let p = err_from_is_err_and c.from_residual-in_err-plans.result c.from_residual-in_err-plans.ensures.1 in
    let d = declarations c.in_ok-decls.decls in
    let rest = tokens_ahead c.in_ok-decls.ahead in
    let heading : Heading (tokens c.args.bytes.now) d rest = record { version = c.in_ok-decls.ensures.version; spelled = c.in_ok-decls.ensures.reads.spelled; whole = c.in_ok-decls.ensures.reads.follows } in
    rw (p.1, p.2) (plans_refused (tokens c.args.bytes.now) d rest _ heading (c.in_err-plans.ensures.reads.follows (Token TheEnd ∷ [])))

pub returns-in_err-read_end-clause-reads : goal.returns-in_err-read_end-clause-reads
returns-in_err-read_end-clause-reads c =
    let p = err_from_is_err_and c.from_residual-in_err-read_end.result c.from_residual-in_err-read_end.ensures.1 in
    let d = declarations c.in_ok-decls.decls in
    let rest = tokens_ahead c.in_ok-decls.ahead in
    let heading : Heading (tokens c.args.bytes.now) d rest = record { version = c.in_ok-decls.ensures.version; spelled = c.in_ok-decls.ensures.reads.spelled; whole = c.in_ok-decls.ensures.reads.follows } in
    let behind = end_refused (keys c.in_ok-plans.plans) (tokens_ahead c.in_ok-plans.ahead) _ c.in_err-read_end.ensures.follows in
    rw (p.1, p.2) (plans_refused (tokens c.args.bytes.now) d rest _ heading (rw (c.in_ok-plans.ensures.reads.follows (Token TheEnd ∷ [])) behind))
