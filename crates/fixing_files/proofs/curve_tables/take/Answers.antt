use Rattle.std.proofs.Common.{◌≡◌, ◌∙◌, ℕ, ◌∷◌, ◌++◌, Option, None, Err, sym, ap, subst, arith}
use Rattle.csv.specs.Records.{fields_of}
use Rattle.fixing_files.specs.CurveSteps.{TellsNext, broken_behind, last_of}
use Rattle.fixing_files.specs.CurveTables.{BreaksCurve}
use Rattle.fixing_files.specs.Curves.{rows_of}
use Rattle.fixing_files.specs.declared.curves.CurveStep.{CurveStep}
use Rattle.fixing_files.proofs.CurveStepFacts.{breaks_next, front_more}
use Rattle.fixing_files.proofs.CurveTableFacts.{header_front, header_lacks, next_is_first}
use Rattle.fixing_files.proofs.curve_tables.take.Goals as goal

pub returns-in-Ok-push : goal.returns-in-Ok-push
returns-in-Ok-push c t next front =
    let f = fields_of c.args.record.now in
    let steps = c.args.steps.now.items in
    let last : c.last_of.result ≡ last_of steps = c.last_of.ensures ∙ ap last_of c.deref.ensures.value in
    let said = c.in-Ok.ensures.0 in
    let follows = subst (λ (o : Option CurveStep). broken_behind o c.in-Ok.step ≡ None) last c.in-Ok.ensures.1 in
    rw c.in-Ok-push.ensures.items (front_more t f steps c.in-Ok.step (omega (arith, next, c.requires.number, c.if-number-eq1.false)) front said follows)

pub returns-in-Err : goal.returns-in-Err
returns-in-Err c = rw c.refused-in-Err.ensures (λ t more next front.
    let f = fields_of c.args.record.now in
    let steps = c.args.steps.now.items in
    let k = c.in-Err.kind in
    let last : c.last_of.result ≡ last_of steps = c.last_of.ensures ∙ ap last_of c.deref.ensures.value in
    let tells = subst (λ (o : Option CurveStep). TellsNext o f (Err k)) last c.in-Err.ensures in
    let breaks = breaks_next t f more steps k (omega (arith, next, c.requires.number, c.if-number-eq1.false)) front tells in
    next_is_first t (f ∷ more) (rows_of steps) c.args.number k front next (subst (λ (n : ℕ). BreaksCurve (t ++ f ∷ more) n k) (sym next) breaks))

pub returns-then-is_curve_header : goal.returns-then-is_curve_header
returns-then-is_curve_header c t next front =
    header_front t (fields_of c.args.record.now) (rows_of c.args.steps.now.items) (sym c.if-number-eq1.true ∙ next) (sym c.if-is_curve_header.ensures) front

pub returns-else-is_curve_header : goal.returns-else-is_curve_header
returns-else-is_curve_header c = rw c.refused.ensures (λ t more next front.
    header_lacks t (fields_of c.args.record.now) more (rows_of c.args.steps.now.items) (sym c.if-number-eq1.true ∙ next) (sym c.if-is_curve_header.ensures) front)
