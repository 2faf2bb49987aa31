use Rattle.std.proofs.Common.{◌+◌, ◌∙◌, ◌∷◌, le_trans, refl, rules}
use Rattle.std.proofs.lemmas.Result.{IfOk-weaker}
use Rattle.std.specs.Prelude.{codes}
use Rattle.contract_grammar.specs.Tokens.{tokens}
use Rattle.contract_grammar.specs.Versions.{One}
use Rattle.contract_grammar.specs.declared.terms.Language.{Language}
use Rattle.contract_grammar.proofs.Parts.{followed_by, three_then, two_then}
use Rattle.contract_parse.specs.Frames.{names_at}
use Rattle.contract_parse.specs.Heads.{amount_head_at}
use Rattle.contract_parse.specs.Expecting.{AmountAt, Next, TheMark, TheWord, amount_expected}
use Rattle.contract_parse.specs.Reading.{declared_in, tok_of}
use Rattle.contract_parse.specs.declared.heads.Binder.TheVariants as binder
use Rattle.contract_parse.proofs.HeadFacts.{amount_heads}
use Rattle.contract_parse.proofs.Passing.{stopped, stopped_at}
use Rattle.contract_parse.proofs.Steps.{passes, refuses, takes}
use Rattle.payoff_lang.specs.CodeFrames.{an_amount_here}
use Rattle.payoff_lang.proofs.reading.+amount.Goals as goal

pub read_amount-returns-in-Err-clause-reads : goal.read_amount-returns-in-Err-clause-reads
read_amount-returns-in-Err-clause-reads t c = stopped (λ cs ps.
    let s = declared_in c.args.frame.now.decls.now cs in
    let names = names_at c.args.frame.now in
    rw c.refuse.ensures (refuses (amount_head_at (c.args.frame.now.depth + 1)) s (AmountAt (c.args.frame.now.depth + 1) names ∷ ps)
    (λ head. Next s (amount_expected s (c.args.frame.now.depth + 1) names head ps)) c.in-Err.kind (tok_of c.next.result.0) c.args.rest.now
    c.next.result.1.now c.next.ensures.starts c.in-Err.ensures refl))

pub read_amount-returns-in-Ok-clause-reads : goal.read_amount-returns-in-Ok-clause-reads
read_amount-returns-in-Ok-clause-reads t c = record {
  follows = λ cs ps.
      let s = declared_in c.args.frame.now.decls.now cs in
      let names = names_at c.args.frame.now in
      rw (passes (amount_head_at (c.args.frame.now.depth + 1)) (λ text left. (refl, refl)) s s (AmountAt (c.args.frame.now.depth + 1) names ∷ ps)
      (amount_expected s (c.args.frame.now.depth + 1) names c.in-Ok.head ps) (λ head. Next s (amount_expected s (c.args.frame.now.depth + 1) names head ps)) c.in-Ok.head
      (tok_of c.next.result.0) c.args.rest.now c.next.result.1.now c.next.ensures.starts c.in-Ok.ensures refl refl)
      (c.read_behind_amount.ensures.reads.follows cs ps);
  spelled =
      IfOk-weaker c.read_behind_amount.result _ _ (λ r h. h (tokens c.args.rest.now) (
        tok_of c.next.result.0,
        takes (amount_head_at (c.args.frame.now.depth + 1)) (λ text left. (refl, refl)) c.in-Ok.head (tok_of c.next.result.0) c.args.rest.now
            c.next.result.1.now c.next.ensures.starts c.in-Ok.ensures,
        amount_heads (tok_of c.next.result.0) (c.args.frame.now.depth + 1) c.in-Ok.head c.in-Ok.ensures,
      ))
      c.read_behind_amount.ensures.reads.spelled;
  shorter = search rules;
}

pub read_behind_amount-returns-in-Pay-clause-reads : goal.read_behind_amount-returns-in-Pay-clause-reads
read_behind_amount-returns-in-Pay-clause-reads t c = rw c.in-Pay.is c.read_pay.ensures.reads

pub read_behind_amount-returns-in-Add-clause-reads : goal.read_behind_amount-returns-in-Add-clause-reads
read_behind_amount-returns-in-Add-clause-reads t c = rw c.in-Add.is c.read_add.ensures.reads

pub read_behind_amount-returns-in-Scale-clause-reads : goal.read_behind_amount-returns-in-Scale-clause-reads
read_behind_amount-returns-in-Scale-clause-reads t c = rw c.in-Scale.is c.read_scaled.ensures.reads

pub read_behind_amount-returns-in-Let-clause-reads : goal.read_behind_amount-returns-in-Let-clause-reads
read_behind_amount-returns-in-Let-clause-reads t c = rw c.in-Let.is c.read_let.ensures.reads

pub read_behind_amount-returns-in-Loop-clause-reads : goal.read_behind_amount-returns-in-Loop-clause-reads
read_behind_amount-returns-in-Loop-clause-reads t c = rw c.in-Loop.is c.read_loop.ensures.reads

pub read_behind_amount-returns-in-Cut-clause-reads : goal.read_behind_amount-returns-in-Cut-clause-reads
read_behind_amount-returns-in-Cut-clause-reads t c = rw c.in-Cut.is c.read_cut.ensures.reads

pub read_boxed-returns-in_err-of-clause-reads : goal.read_boxed-returns-in_err-of-clause-reads
read_boxed-returns-in_err-of-clause-reads t c = stopped_at _ c.from_residual.result c.from_residual.ensures.1 (λ cs ps. c.in_err-of.ensures.reads.follows cs ps)

pub read_boxed-returns-clause-reads : goal.read_boxed-returns-clause-reads
read_boxed-returns-clause-reads t c = record {
  follows = λ cs ps. c.in_ok-of.ensures.reads.follows cs ps;
  spelled = rw (c.in_ok-of-2.ensures.ok) c.in_ok-of.ensures.reads.spelled;
  shorter = c.in_ok-of.ensures.reads.shorter;
}

pub read_behind_mark-returns-in_err-rest-clause-reads : goal.read_behind_mark-returns-in_err-rest-clause-reads
read_behind_mark-returns-in_err-rest-clause-reads t c = stopped_at _ c.from_residual.result c.from_residual.ensures.1 (λ cs ps. c.in_err-rest.ensures.reads.follows (declared_in c.args.frame.now.decls.now cs) (an_amount_here c.args.frame.now ∷ ps))

pub read_behind_mark-returns-clause-reads : goal.read_behind_mark-returns-clause-reads
read_behind_mark-returns-clause-reads t c = record {
  follows = λ cs ps. rw (c.in_ok-rest.ensures.reads.follows (declared_in c.args.frame.now.decls.now cs) (an_amount_here c.args.frame.now ∷ ps)) (c.read_boxed.ensures.reads.follows cs ps);
  spelled = IfOk-weaker c.read_boxed.result _ _ (λ r h. followed_by (tokens c.in_ok-rest.rest.now) c.in_ok-rest.ensures.reads.spelled h) c.read_boxed.ensures.reads.spelled;
  shorter = IfOk-weaker c.read_boxed.result _ _ (λ r h. le_trans h c.in_ok-rest.ensures.reads.shorter) c.read_boxed.ensures.reads.shorter;
}

pub read_behind_word-returns-in_err-rest-clause-reads : goal.read_behind_word-returns-in_err-rest-clause-reads
read_behind_word-returns-in_err-rest-clause-reads t c = stopped_at _ c.from_residual.result c.from_residual.ensures.1 (λ cs ps. c.in_err-rest.ensures.reads.follows (declared_in c.args.frame.now.decls.now cs) (an_amount_here c.args.frame.now ∷ ps))

pub read_behind_word-returns-clause-reads : goal.read_behind_word-returns-clause-reads
read_behind_word-returns-clause-reads t c = record {
  follows = λ cs ps. rw (c.in_ok-rest.ensures.reads.follows (declared_in c.args.frame.now.decls.now cs) (an_amount_here c.args.frame.now ∷ ps)) (c.read_boxed.ensures.reads.follows cs ps);
  spelled = IfOk-weaker c.read_boxed.result _ _ (λ r h. followed_by (tokens c.in_ok-rest.rest.now) c.in_ok-rest.ensures.reads.spelled h) c.read_boxed.ensures.reads.spelled;
  shorter = IfOk-weaker c.read_boxed.result _ _ (λ r h. le_trans h c.in_ok-rest.ensures.reads.shorter) c.read_boxed.ensures.reads.shorter;
}

pub read_branches-returns-in_err-hit-clause-reads : goal.read_branches-returns-in_err-hit-clause-reads
read_branches-returns-in_err-hit-clause-reads t c = stopped_at _ c.from_residual.result c.from_residual.ensures.1 (λ cs ps. c.in_err-hit.ensures.reads.follows cs (TheWord (codes "else") ∷ an_amount_here c.args.frame.now ∷ ps))

pub read_branches-returns-in_err-miss-clause-reads : goal.read_branches-returns-in_err-miss-clause-reads
read_branches-returns-in_err-miss-clause-reads t c = stopped_at _ c.from_residual-in_err-miss.result c.from_residual-in_err-miss.ensures.1 (λ cs ps.
    rw (c.in_ok-hit.ensures.reads.follows cs (TheWord (codes "else") ∷ an_amount_here c.args.frame.now ∷ ps))
    (c.in_err-miss.ensures.reads.follows cs ps))

pub read_branches-returns-clause-reads : goal.read_branches-returns-clause-reads
read_branches-returns-clause-reads t c = record {
  follows = λ cs ps.
      c.in_ok-hit.ensures.reads.follows cs (TheWord (codes "else") ∷ an_amount_here c.args.frame.now ∷ ps)
      ∙ c.in_ok-miss.ensures.reads.follows cs ps;
  spelled = two_then (tokens c.in_ok-hit.rest.now) c.in_ok-hit.ensures.reads.spelled c.in_ok-miss.ensures.reads.spelled;
  shorter = le_trans c.in_ok-miss.ensures.reads.shorter c.in_ok-hit.ensures.reads.shorter;
}

pub read_add-returns-in_err-left-clause-reads : goal.read_add-returns-in_err-left-clause-reads
read_add-returns-in_err-left-clause-reads t c = stopped_at _ c.from_residual.result c.from_residual.ensures.1 (λ cs ps. c.in_err-left.ensures.reads.follows cs (TheMark (codes ",") ∷ an_amount_here c.args.frame.now ∷ TheMark (codes ")") ∷ ps))

pub read_add-returns-in_err-right-clause-reads : goal.read_add-returns-in_err-right-clause-reads
read_add-returns-in_err-right-clause-reads t c = stopped_at _ c.from_residual-in_err-right.result c.from_residual-in_err-right.ensures.1 (λ cs ps.
    rw (c.in_ok-left.ensures.reads.follows cs (TheMark (codes ",") ∷ an_amount_here c.args.frame.now ∷ TheMark (codes ")") ∷ ps))
    (c.in_err-right.ensures.reads.follows cs (TheMark (codes ")") ∷ ps)))

pub read_add-returns-in_err-rest-clause-reads : goal.read_add-returns-in_err-rest-clause-reads
read_add-returns-in_err-rest-clause-reads t c = stopped_at _ c.from_residual-in_err-rest.result c.from_residual-in_err-rest.ensures.1 (λ cs ps.
    rw (c.in_ok-left.ensures.reads.follows cs (TheMark (codes ",") ∷ an_amount_here c.args.frame.now ∷ TheMark (codes ")") ∷ ps)
    ∙ c.in_ok-right.ensures.reads.follows cs (TheMark (codes ")") ∷ ps))
    (c.in_err-rest.ensures.reads.follows (declared_in c.args.frame.now.decls.now cs) ps))

pub read_add-returns-clause-reads : goal.read_add-returns-clause-reads
read_add-returns-clause-reads t c = record {
  follows = λ cs ps.
      c.in_ok-left.ensures.reads.follows cs (TheMark (codes ",") ∷ an_amount_here c.args.frame.now ∷ TheMark (codes ")") ∷ ps)
      ∙ c.in_ok-right.ensures.reads.follows cs (TheMark (codes ")") ∷ ps)
      ∙ c.in_ok-rest.ensures.reads.follows (declared_in c.args.frame.now.decls.now cs) ps;
  spelled = λ ts first.
      followed_by (tokens c.args.rest.now) first
      (two_then (tokens c.in_ok-left.rest.now) c.in_ok-left.ensures.reads.spelled
      (two_then (tokens c.in_ok-right.rest.now) c.in_ok-right.ensures.reads.spelled c.in_ok-rest.ensures.reads.spelled));
  shorter = le_trans c.in_ok-rest.ensures.reads.shorter (le_trans c.in_ok-right.ensures.reads.shorter c.in_ok-left.ensures.reads.shorter);
}

pub read_scaled-returns-in_err-factor-clause-reads : goal.read_scaled-returns-in_err-factor-clause-reads
read_scaled-returns-in_err-factor-clause-reads t c = stopped_at _ c.from_residual.result c.from_residual.ensures.1 (λ cs ps. c.in_err-factor.ensures.reads.follows cs (TheMark (codes ",") ∷ an_amount_here c.args.frame.now ∷ TheMark (codes ")") ∷ ps))

pub read_scaled-returns-in_err-body-clause-reads : goal.read_scaled-returns-in_err-body-clause-reads
read_scaled-returns-in_err-body-clause-reads t c = stopped_at _ c.from_residual-in_err-body.result c.from_residual-in_err-body.ensures.1 (λ cs ps.
    rw (c.in_ok-factor.ensures.reads.follows cs (TheMark (codes ",") ∷ an_amount_here c.args.frame.now ∷ TheMark (codes ")") ∷ ps))
    (c.in_err-body.ensures.reads.follows cs (TheMark (codes ")") ∷ ps)))

pub read_scaled-returns-in_err-rest-clause-reads : goal.read_scaled-returns-in_err-rest-clause-reads
read_scaled-returns-in_err-rest-clause-reads t c = stopped_at _ c.from_residual-in_err-rest.result c.from_residual-in_err-rest.ensures.1 (λ cs ps.
    rw (c.in_ok-factor.ensures.reads.follows cs (TheMark (codes ",") ∷ an_amount_here c.args.frame.now ∷ TheMark (codes ")") ∷ ps)
    ∙ c.in_ok-body.ensures.reads.follows cs (TheMark (codes ")") ∷ ps))
    (c.in_err-rest.ensures.reads.follows (declared_in c.args.frame.now.decls.now cs) ps))

pub read_scaled-returns-clause-reads : goal.read_scaled-returns-clause-reads
read_scaled-returns-clause-reads t c = record {
  follows = λ cs ps.
      c.in_ok-factor.ensures.reads.follows cs (TheMark (codes ",") ∷ an_amount_here c.args.frame.now ∷ TheMark (codes ")") ∷ ps)
      ∙ c.in_ok-body.ensures.reads.follows cs (TheMark (codes ")") ∷ ps)
      ∙ c.in_ok-rest.ensures.reads.follows (declared_in c.args.frame.now.decls.now cs) ps;
  spelled = λ ts first.
      followed_by (tokens c.args.rest.now) first
      (two_then (tokens c.in_ok-factor.rest.now) c.in_ok-factor.ensures.reads.spelled
      (two_then (tokens c.in_ok-body.rest.now) c.in_ok-body.ensures.reads.spelled c.in_ok-rest.ensures.reads.spelled));
  shorter = le_trans c.in_ok-rest.ensures.reads.shorter (le_trans c.in_ok-body.ensures.reads.shorter c.in_ok-factor.ensures.reads.shorter);
}

pub read_let-returns-in_err-name-clause-reads : goal.read_let-returns-in_err-name-clause-reads
read_let-returns-in_err-name-clause-reads t c = stopped_at _ c.from_residual.result c.from_residual.ensures.1 (λ cs ps. c.in_err-name.ensures.reads.follows binder.Let Language.Code One c.args.frame.now.depth (names_at c.args.frame.now) (declared_in c.args.frame.now.decls.now cs) ps)

pub read_let-returns-in_err-value-clause-reads : goal.read_let-returns-in_err-value-clause-reads
read_let-returns-in_err-value-clause-reads t c = stopped_at _ c.from_residual-in_err-value.result c.from_residual-in_err-value.ensures.1 (λ cs ps.
    rw (c.in_ok-name.ensures.reads.follows binder.Let Language.Code One c.args.frame.now.depth (names_at c.args.frame.now) (declared_in c.args.frame.now.decls.now cs) ps)
    (c.in_err-value.ensures.reads.follows cs (TheWord (codes "in") ∷ AmountAt (c.args.frame.now.depth + 1) (c.in_ok-name.name.now ∷ names_at c.args.frame.now) ∷ ps)))

pub read_let-returns-in_err-body-clause-reads : goal.read_let-returns-in_err-body-clause-reads
read_let-returns-in_err-body-clause-reads t c = stopped_at _ c.from_residual-in_err-body.result c.from_residual-in_err-body.ensures.1 (λ cs ps.
    rw (c.in_ok-name.ensures.reads.follows binder.Let Language.Code One c.args.frame.now.depth (names_at c.args.frame.now) (declared_in c.args.frame.now.decls.now cs) ps
    ∙ c.in_ok-value.ensures.reads.follows cs (TheWord (codes "in") ∷ AmountAt (c.args.frame.now.depth + 1) (c.in_ok-name.name.now ∷ names_at c.args.frame.now) ∷ ps))
    (c.in_err-body.ensures.reads.follows cs ps))

pub read_let-returns-clause-reads : goal.read_let-returns-clause-reads
read_let-returns-clause-reads t c = record {
  follows = λ cs ps.
      c.in_ok-name.ensures.reads.follows binder.Let Language.Code One c.args.frame.now.depth (names_at c.args.frame.now) (declared_in c.args.frame.now.decls.now cs) ps
      ∙ c.in_ok-value.ensures.reads.follows cs (TheWord (codes "in") ∷ AmountAt (c.args.frame.now.depth + 1) (c.in_ok-name.name.now ∷ names_at c.args.frame.now) ∷ ps)
      ∙ c.in_ok-body.ensures.reads.follows cs ps;
  spelled = λ ts first.
      record {
        name = c.in_ok-name.name.now;
        spelled = followed_by (tokens c.args.rest.now) first
            (followed_by (tokens c.in_ok-name.rest.now) c.in_ok-name.ensures.reads.spelled
            (two_then (tokens c.in_ok-value.rest.now) c.in_ok-value.ensures.reads.spelled c.in_ok-body.ensures.reads.spelled));
      };
  shorter = le_trans c.in_ok-body.ensures.reads.shorter (le_trans c.in_ok-value.ensures.reads.shorter c.in_ok-name.ensures.reads.shorter);
}

pub read_loop-returns-in_err-test-clause-reads : goal.read_loop-returns-in_err-test-clause-reads
read_loop-returns-in_err-test-clause-reads t c = stopped_at _ c.from_residual.result c.from_residual.ensures.1 (λ cs ps. c.in_err-test.ensures.reads.follows cs (TheWord (codes "then") ∷ an_amount_here c.args.frame.now ∷ TheWord (codes "else") ∷ an_amount_here c.args.frame.now ∷ ps))

pub read_loop-returns-in_err-hit-clause-reads : goal.read_loop-returns-in_err-hit-clause-reads
read_loop-returns-in_err-hit-clause-reads t c = stopped_at _ c.from_residual-in_err-hit.result c.from_residual-in_err-hit.ensures.1 (λ cs ps.
    rw (c.in_ok-test.ensures.reads.follows cs (TheWord (codes "then") ∷ an_amount_here c.args.frame.now ∷ TheWord (codes "else") ∷ an_amount_here c.args.frame.now ∷ ps))
    (c.in_err-hit.ensures.reads.follows cs ps))

pub read_loop-returns-clause-reads : goal.read_loop-returns-clause-reads
read_loop-returns-clause-reads t c = record {
  follows = λ cs ps.
      c.in_ok-test.ensures.reads.follows cs (TheWord (codes "then") ∷ an_amount_here c.args.frame.now ∷ TheWord (codes "else") ∷ an_amount_here c.args.frame.now ∷ ps)
      ∙ c.in_ok-hit.ensures.reads.follows cs ps;
  spelled = λ ts first.
      followed_by (tokens c.args.rest.now) first
      (three_then (tokens c.in_ok-test.rest.now) c.in_ok-test.ensures.reads.spelled c.in_ok-hit.ensures.reads.spelled);
  shorter = le_trans c.in_ok-hit.ensures.reads.shorter c.in_ok-test.ensures.reads.shorter;
}

pub read_cut-returns-in_err-date-clause-reads : goal.read_cut-returns-in_err-date-clause-reads
read_cut-returns-in_err-date-clause-reads t c = stopped_at _ c.from_residual.result c.from_residual.ensures.1 (λ cs ps. c.in_err-date.ensures.reads.follows cs (TheMark (codes ",") ∷ an_amount_here c.args.frame.now ∷ TheMark (codes ")") ∷ ps))

pub read_cut-returns-in_err-body-clause-reads : goal.read_cut-returns-in_err-body-clause-reads
read_cut-returns-in_err-body-clause-reads t c = stopped_at _ c.from_residual-in_err-body.result c.from_residual-in_err-body.ensures.1 (λ cs ps.
    rw (c.in_ok-date.ensures.reads.follows cs (TheMark (codes ",") ∷ an_amount_here c.args.frame.now ∷ TheMark (codes ")") ∷ ps))
    (c.in_err-body.ensures.reads.follows cs (TheMark (codes ")") ∷ ps)))

pub read_cut-returns-in_err-rest-clause-reads : goal.read_cut-returns-in_err-rest-clause-reads
read_cut-returns-in_err-rest-clause-reads t c = stopped_at _ c.from_residual-in_err-rest.result c.from_residual-in_err-rest.ensures.1 (λ cs ps.
    rw (c.in_ok-date.ensures.reads.follows cs (TheMark (codes ",") ∷ an_amount_here c.args.frame.now ∷ TheMark (codes ")") ∷ ps)
    ∙ c.in_ok-body.ensures.reads.follows cs (TheMark (codes ")") ∷ ps))
    (c.in_err-rest.ensures.reads.follows (declared_in c.args.frame.now.decls.now cs) ps))

pub read_cut-returns-clause-reads : goal.read_cut-returns-clause-reads
read_cut-returns-clause-reads t c = record {
  follows = λ cs ps.
      c.in_ok-date.ensures.reads.follows cs (TheMark (codes ",") ∷ an_amount_here c.args.frame.now ∷ TheMark (codes ")") ∷ ps)
      ∙ c.in_ok-body.ensures.reads.follows cs (TheMark (codes ")") ∷ ps)
      ∙ c.in_ok-rest.ensures.reads.follows (declared_in c.args.frame.now.decls.now cs) ps;
  spelled = λ ts first.
      followed_by (tokens c.args.rest.now) first
      (two_then (tokens c.in_ok-date.rest.now) c.in_ok-date.ensures.reads.spelled
      (two_then (tokens c.in_ok-body.rest.now) c.in_ok-body.ensures.reads.spelled c.in_ok-rest.ensures.reads.spelled));
  shorter = le_trans c.in_ok-rest.ensures.reads.shorter (le_trans c.in_ok-body.ensures.reads.shorter c.in_ok-date.ensures.reads.shorter);
}
