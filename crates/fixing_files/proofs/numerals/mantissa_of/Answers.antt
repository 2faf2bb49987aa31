use Rattle.std.proofs.Common.{◌≡◌, ◌-◌, arith, false}
use Rattle.std.specs.Int.{w128}
use Rattle.std.proofs.lemmas.Int.{to_z_pos}
use Rattle.fixing_files.proofs.WordFacts.{raised_small}
use Rattle.fixing_files.proofs.numerals.mantissa_of.Goals as goal

pub align-mant-requires-clause-small : goal.align-mant-requires-clause-small
align-mant-requires-clause-small c =
    let number = to_z_pos w128 c.args.number (omega arith) in
    let more : c.args.more - 0 ≡ c.args.more = omega arith in
    rw (number, more) (raised_small false c.args.number c.args.more c.requires.number c.requires.more)
