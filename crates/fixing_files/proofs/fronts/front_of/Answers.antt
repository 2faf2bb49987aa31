use Rattle.std.proofs.Common.{arith}
use Rattle.term_model.specs.Declarations.{declarations}
use Rattle.fixing_files.specs.Tables.{table_of}
use Rattle.fixing_files.proofs.FrontFacts.{front_none, front_whole}
use Rattle.fixing_files.proofs.fronts.front_of.Goals as goal

pub returns : goal.returns
returns c =
    let front = c.in_ok-front.front in
    front_whole (declarations c.args.decls.now) c.args.bytes.now c.unmarked-text.result.now c.in-Some.rows.now front.rest.now c.unmarked-behind.result.now front.records front.runs.items c.unmarked-text.ensures c.in-Some.ensures c.in_ok-front.ensures c.unmarked-behind.ensures (omega arith)

pub returns-in_default : goal.returns-in_default
returns-in_default c =
    let none = c.unread.ensures in
    rw (none.records, none.runs, none.rest) (front_none (declarations c.args.decls.now) (table_of c.args.bytes.now))

pub returns-then-not-names_are_bare : goal.returns-then-not-names_are_bare
returns-then-not-names_are_bare c =
    let none = c.unread-then-not-names_are_bare.ensures in
    rw (none.records, none.runs, none.rest) (front_none (declarations c.args.decls.now) (table_of c.args.bytes.now))
