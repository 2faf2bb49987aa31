use Rattle.std.proofs.Common.{◌∷◌, FitsSigned, arith, rules, w64}
use Rattle.std.proofs.lemmas.Int.{to_z-of_z}
use Rattle.term_model.specs.Declarations.{declarations}
use Rattle.fixing_files.specs.PlainRows.{rows_of}
use Rattle.fixing_files.specs.Records.{header}
use Rattle.fixing_files.specs.Steps.{place_of}
use Rattle.fixing_files.proofs.FrontFacts.{front_header, front_more}
use Rattle.fixing_files.proofs.fronts.plain_front.Goals as goal

pub loop-records-init : goal.loop-records-init
loop-records-init c = rw c.new-runs.ensures.items (front_header (declarations c.args.decls.now) (rows_of c.args.rows.now))

pub loop-records-preserved : goal.loop-records-preserved
loop-records-preserved c =
    let rows = header ∷ rows_of c.args.rows.now in
    let loop = c.loop-records in
    let fits : FitsSigned w64 c.in-Some.place.day = search rules in
    let added = simp to_z-of_z at c.in_ok-take_row.ensures.added in
    front_more (declarations c.args.decls.now) rows loop.records loop.runs.items c.take_row.new.runs.items loop.rest.now c.in-Some.behind.now (place_of c.in-Some.place) c.in-Some.value (omega arith) loop.invariant c.in-Some.ensures c.in_ok-take_row.ensures.runs added
