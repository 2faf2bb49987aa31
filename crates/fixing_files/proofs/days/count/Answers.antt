use Rattle.std.proofs.Common.{◌≡◌, ◌≤◌, ◌+◌, ◌^◌, ◌∙◌, length, nat_le, true, refl, arith}
use Rattle.std.proofs.Math.Nat.{pow-le-pow_right}
use Rattle.std.proofs.lemmas.Bool.Decides.{nat_tests}
use Rattle.decimal.proofs.ReadingFacts.{few_digits_fit}
use Rattle.fixing_files.proofs.days.count.Goals as goal

pub returns-clause-value : goal.returns-clause-value
returns-clause-value c =
    let few : 10 ^ length c.args.text.now ≤ 999_999_999 + 1 = pow-le-pow_right (omega arith) c.if-text-gt9.false in
    let short : nat_le (length c.args.text.now) 9 ≡ true = grind (arith, nat_tests, c.if-text-gt9.false) in
    c.number_up_to.ensures.value ∙ few_digits_fit 999_999_999 c.args.text.now few ∙ rw short refl
