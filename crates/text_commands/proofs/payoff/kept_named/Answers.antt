use Rattle.std.proofs.Common.{[], refl}
use Rattle.term_model.specs.Declarations.{declarations}
use Rattle.text_commands.specs.PayoffParts.{IsKeptOfText}
use Rattle.used_contracts.specs.ReadingParts.{IsNextOrEnd}
use Rattle.used_contracts.specs.Portfolios.{IsBadText}
use Rattle.used_contracts.proofs.ReadingFacts.{end_is, next_is}
use Rattle.text_commands.proofs.PayoffFacts.{all_kept, more_kept}
use Rattle.command_courses.proofs.StopFacts.{handed_on}
use Rattle.text_commands.proofs.payoff.kept_named.Goals as goal

pub loop-kept-init : goal.loop-kept-init
loop-kept-init c = λ text begun. record { entries = []; read = begun; is_kept = refl }

pub returns-in_err-next : goal.returns-in_err-next
returns-in_err-next c = λ text begun.
    let d = declarations c.args.decls.now in
    let h = c.loop-kept.invariant text begun in
    handed_on (IsNextOrEnd text d h.entries c.read_next.new.reader) (IsKeptOfText text d c.args.word.now) (IsBadText text) (IsBadText text) (λ f k. k)
    c.in_err-next.field-0.0 c.from_residual.result (c.in_err-next.ensures.next text h.entries h.read) c.from_residual.ensures.1

pub loop-kept-preserved : goal.loop-kept-preserved
loop-kept-preserved c = λ text begun.
    let d = declarations c.args.decls.now in
    let h = c.loop-kept.invariant text begun in
    let next = next_is text d h.entries c.read_next.new.reader c.in_ok-next.field-0 c.in-Some.next c.in-Some.is (c.in_ok-next.ensures.next text h.entries h.read) in
    more_kept text d c.args.word.now c.loop-kept.reader c.read_next.new.reader c.loop-kept.kept c.if_named.result c.or-kept.result c.in-Some.next h next c.if_named.ensures c.or-kept.ensures

pub returns : goal.returns
returns c = λ text begun.
    let d = declarations c.args.decls.now in
    let h = c.loop-kept.invariant text begun in
    all_kept text d c.args.word.now c.loop-kept.reader c.loop-kept.kept h
    (end_is text d h.entries c.read_next.new.reader c.in_ok-next.field-0 c.in_default.not-Some (c.in_ok-next.ensures.next text h.entries h.read))
