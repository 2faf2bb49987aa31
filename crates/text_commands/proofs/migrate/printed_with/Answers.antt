use Rattle.std.proofs.Common.{ℕ, inl}
use Rattle.std.specs.Global.{Vec}
use Rattle.term_model.specs.Declarations.{declarations}
use Rattle.command_courses.specs.Course.{Stops, Tells}
use Rattle.text_commands.specs.MigrateCourse.{migrate_of_text}
use Rattle.used_contracts.specs.ReadingParts.{IsNextOrEnd}
use Rattle.used_contracts.specs.Portfolios.{IsBadText}
use Rattle.command_courses.specs.declared.status.Status.TheVariants as status
use Rattle.used_contracts.proofs.ReadingFacts.{end_is, next_is}
use Rattle.text_commands.proofs.MigrateFacts.{migrated_all, migrated_more, migrated_none, next_writable}
use Rattle.command_courses.proofs.StopFacts.{handed_on}
use Rattle.text_commands.proofs.migrate.printed_with.Goals as goal

pub loop-text-init : goal.loop-text-init
loop-text-init c = λ text begun.
    migrated_none text (declarations c.args.decls.now) (declarations c.args.printed.now) c.requires.version c.args.reader.now c.new-text.result.items
    c.print_beginning.new.out.items begun c.new-text.ensures.items c.in_ok-print_beginning.ensures.ok

pub print_next-requires : goal.print_next-requires
print_next-requires c =
    let text = c.requires.begun.0 in
    let d = declarations c.args.decls.now in
    let h = c.loop-text.invariant text c.requires.begun.1 in
    let next = next_is text d h.entries c.read_next.new.reader c.in_ok-next.field-0 c.in-Some.next c.in-Some.is (c.in_ok-next.ensures.next text h.entries h.read) in
    next_writable text d h.entries c.read_next.new.reader c.in-Some.next next

pub returns-in_err-next : goal.returns-in_err-next
returns-in_err-next c = λ text begun.
    let d = declarations c.args.decls.now in
    let h = c.loop-text.invariant text begun in
    let course = migrate_of_text text in
    handed_on (IsNextOrEnd text d h.entries c.read_next.new.reader) (λ (out : Vec ℕ). Tells course status.Done out.items) (IsBadText text) (Stops course) (λ f k. inl k)
    c.in_err-next.field-0.0 c.from_residual-in_err-next.result (c.in_err-next.ensures.next text h.entries h.read) c.from_residual-in_err-next.ensures.1

pub loop-text-preserved : goal.loop-text-preserved
loop-text-preserved c = λ text begun.
    let d = declarations c.args.decls.now in
    let one = c.in-Some.next in
    let h = c.loop-text.invariant text begun in
    let next = next_is text d h.entries c.read_next.new.reader c.in_ok-next.field-0 one c.in-Some.is (c.in_ok-next.ensures.next text h.entries h.read) in
    migrated_more text d (declarations c.args.printed.now) c.requires.version c.loop-text.reader c.read_next.new.reader one c.loop-text.text.items
    c.print_next.new.out.items h next c.in_ok-print_next.ensures

pub returns : goal.returns
returns c = λ text begun.
    let d = declarations c.args.decls.now in
    let h = c.loop-text.invariant text begun in
    migrated_all text d c.loop-text.reader c.loop-text.text.items h
    (end_is text d h.entries c.read_next.new.reader c.in_ok-next.field-0 c.in_default.not-Some (c.in_ok-next.ensures.next text h.entries h.read))
