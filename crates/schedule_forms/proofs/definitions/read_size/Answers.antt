use Rattle.std.proofs.Common.{SFits, ◌≤◌, ◌∙◌, List, ap, length, subst, arith, rules}
use Rattle.std.specs.Prelude.{codes}
use Rattle.std.specs.Int.{w128}
use Rattle.std.proofs.lemmas.Int.{to_z-of_z}
use Rattle.std.proofs.lemmas.Result.{IfOk-weaker}
use Rattle.term_model.specs.Declarations.{declarations}
use Rattle.contract_grammar.specs.Tokens.{Tok, tokens}
use Rattle.contract_grammar.specs.Spelling.{word}
use Rattle.contract_parse.specs.Reading.{Lacks}
use Rattle.contract_parse.proofs.Passing.{stopped_at}
use Rattle.schedule_forms.proofs.PlanSteps.{round_lacking, round_taken}
use Rattle.schedule_forms.proofs.definitions.read_size.Goals as goal

pub returns-in-Some : goal.returns-in-Some
returns-in-Some c =
    let d = declarations c.args.decls.now in
    let w = subst (λ (ts : List Tok). word (codes "round") ts (tokens c.in-Some.after.now)) c.look.ensures.same c.in-Some.ensures.found in
    let near : length c.in-Some.after.now ≤ length c.args.rest.now = omega (arith, ap length c.in-Some.ensures.after, c.look.ensures.within) in
    record {
      reads = record {
        follows = λ names ps. rw (round_taken names d ps (tokens c.args.rest.now) (tokens c.in-Some.after.now) w) (c.read_fixing.ensures.reads.follows names ps);
        spelled = IfOk-weaker c.read_fixing.result _ _ (λ r h. h (tokens c.args.rest.now) w) c.read_fixing.ensures.reads.spelled;
        shorter = IfOk-weaker c.read_fixing.result _ _ (λ r h. omega (arith, h, near)) c.read_fixing.ensures.reads.shorter;
      };
    }

pub returns-in_err-number-in-None : goal.returns-in_err-number-in-None
returns-in_err-number-in-None c =
    let d = declarations c.args.decls.now in
    let lacks = subst (λ (ts : List Tok). Lacks (codes "round") ts) c.look.ensures.same c.in-None.ensures.lacks in
    record {
      reads = stopped_at _ c.from_residual.result c.from_residual.ensures.1 (λ names ps.
          rw (round_lacking names d ps (tokens c.args.rest.now) lacks) (c.in_err-number-in-None.ensures.reads.follows names ps));
    }

pub returns-in_ok-number-in-None : goal.returns-in_ok-number-in-None
returns-in_ok-number-in-None c =
    let d = declarations c.args.decls.now in
    let lacks = subst (λ (ts : List Tok). Lacks (codes "round") ts) c.look.ensures.same c.in-None.ensures.lacks in
    record {
      reads = record {
        follows = λ names ps. round_lacking names d ps (tokens c.args.rest.now) lacks ∙ c.in_ok-number-in-None.ensures.reads.follows names ps;
        spelled =
            let fits : SFits w128 c.in_ok-number-in-None.number.mant = search rules in
            rw (to_z-of_z w128 c.in_ok-number-in-None.number.mant fits) c.in_ok-number-in-None.ensures.reads.spelled;
        shorter = c.in_ok-number-in-None.ensures.reads.shorter;
      };
    }
