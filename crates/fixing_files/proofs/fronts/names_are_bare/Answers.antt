use Rattle.std.proofs.Common.{sym, subst, arith}
use Rattle.term_model.specs.Declarations.{declarations}
use Rattle.fixing_files.specs.Words.{IsBare}
use Rattle.fixing_files.proofs.NameFacts.{bare_before, bare_next, plain_names}
use Rattle.fixing_files.proofs.fronts.names_are_bare.Goals as goal

pub loop-number-init : goal.loop-number-init
loop-number-init c = bare_before c.args.decls.now.labels.entries

pub loop-number-preserved : goal.loop-number-preserved
loop-number-preserved c =
    let bare = subst IsBare c.text.ensures (c.is_bare.ensures c.if-not-is_bare.false) in
    bare_next c.args.decls.now.labels.entries c.loop-number.number c.in-Some.name.now _ c.loop-number.invariant (sym c.in-Some.ensures.entry) bare

pub returns : goal.returns
returns c = λ _. plain_names (declarations c.args.decls.now) c.loop-number.number c.len-number-end.ensures.unique (omega arith) c.loop-number.invariant
