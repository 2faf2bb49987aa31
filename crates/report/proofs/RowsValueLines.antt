-- Worked rows: the lines of values.
use Rattle.std.proofs.Common.{◌≡◌, pos, neg_ℤ, refl}
use Rattle.std.specs.Prelude.{codes}
use Rattle.decimal.specs.Text.{text_of}
use Rattle.report.specs.ValueLines.{value_text}

below_zero : value_text (neg_ℤ (pos 50_000_000_000)) 11 ≡ codes "-0.50000000000\n"
unfolding text_of
below_zero = refl

zero_value : value_text (pos 0) 9 ≡ codes "0.000000000\n"
unfolding text_of
zero_value = refl

no_decimals : value_text (pos 120) 0 ≡ codes "120\n"
unfolding text_of
no_decimals = refl
