use Rattle.std.proofs.Common.{ap, refl, ◌+◌, ℕ}
use Rattle.fixing_files.proofs.WordFacts.{digits_none, digits_one_more}
use Rattle.fixing_files.proofs.numerals.count_digits.Goals as goal

pub loop-b-init : goal.loop-b-init
loop-b-init c = (refl, digits_none c.args.before c.args.text.now c.requires)

pub loop-b-preserved : goal.loop-b-preserved
loop-b-preserved c =
    let loop = c.loop-b in (
      ap (λ (k : ℕ). k + 1) loop.invariant.0,
      digits_one_more c.args.before c.args.text.now loop.number _ loop.count loop.b-index loop.invariant.0 loop.invariant.1 c.loop-b-test.true c.if-not-is_ascii_digit.ensures.bound refl c.if-number-ge-FULL.false,
    )
