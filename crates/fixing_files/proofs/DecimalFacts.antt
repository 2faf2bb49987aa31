-- A field has a mantissa at a scale exactly where it is the text of a decimal that fits there.
use Rattle.std.proofs.Common.{◌≡◌, ◌∙◌, ◌-◌, ◌≤◌, pos, true, sym, ap₂, subst, ℕ, ◌^◌, inl, inr, ℤ, List, ap, arith, refl, unsigned_abs}
use Rattle.std.specs.Prelude.{Option, Some, None, Result, Ok, Err}
use Rattle.decimal.specs.declared.reading.Decimal.{Decimal}
use Rattle.decimal.specs.declared.reading.DecFault.{DecFault}
use Rattle.decimal.specs.declared.reading.DecFault.TheVariants.{NotDecimal, TooWide}
use Rattle.decimal.specs.DecimalText.{Reads}
use Rattle.decimal.specs.Mantissas.{mantissa}
use Rattle.decimal.specs.Reading.{read_of}
use Rattle.decimal.proofs.MantissaFacts.{mantissa_is, mantissa_within}
use Rattle.decimal.proofs.ReadingFacts.{reads}
use Rattle.decimal.specs.Rounding.{raised}
use Rattle.std.specs.Prelude.{nat_le}
use Rattle.std.proofs.lemmas.Bool.{cases_Bool}
use Rattle.std.proofs.lemmas.Bool.Decides.{nat_tests}
use Rattle.std.proofs.lemmas.Int.{unsigned_abs-mul}
use Rattle.std.proofs.Math.Nat.{one-le-pow}
use Rattle.fixing_files.specs.Laws.{MantissasAreWritten, Writes}
use Rattle.decimal.proofs.TextLawFacts.{stands_for_one}
use Rattle.fixing_files.specs.Records.{mantissa_at}

few_is : (scale : ℕ) (d : Decimal) (m : ℤ) → mantissa_at scale (Some d) ≡ Some m → (d.scale ≤ scale) × (mantissa (raised d.mant (scale - d.scale)) ≡ Some m)
few_is scale d m h = elim (cases_Bool (nat_le d.scale scale)) [
  | inl few ↦ (grind (arith, nat_tests), rw few at h)
  | inr other ↦ let wrong : ◌≡◌ {A = Option ℤ} None (Some m) = rw other at h in absurd (cc)
]

few_at : (scale : ℕ) (d : Decimal) → d.scale ≤ scale → mantissa_at scale (Some d) ≡ mantissa (raised d.mant (scale - d.scale))
few_at scale d h = let few : nat_le d.scale scale ≡ true = grind (arith, nat_tests) in rw few refl

abbrev decimal_in : Result Decimal DecFault → Option Decimal
decimal_in r = elim r [ Ok d ↦ Some d | Err fault ↦ None ]

writes_from : (text : List ℕ) (scale : ℕ) (m : ℤ) (r : Result Decimal DecFault) → Reads text r → mantissa_at scale (decimal_in r) ≡ Some m → Writes text scale m
writes_from text scale m (Ok d) h e =
    let few = few_is scale d m e in
    let last = mantissa_is (raised d.mant (scale - d.scale)) m few.1 in
    record { mantissa = d.mant; decimals = d.scale; written = h.0; few = few.0; widened = sym last.0; limited = last.1 }
writes_from text scale m (Err fault) h e = absurd (cc)

-- a mantissa is no greater than with further decimals
no_greater : (k : ℤ) (more : ℕ) → unsigned_abs k ≤ unsigned_abs (raised k more)
no_greater k more = let size = unsigned_abs-mul k (pos (10 ^ more)) in let power = one-le-pow more 10 (omega arith) in grind (arith, size, power)

written_at : (text : List ℕ) (scale : ℕ) (m : ℤ) (r : Result Decimal DecFault) → scale ≤ 18 → Reads text r → Writes text scale m → mantissa_at scale (decimal_in r) ≡ Some m
written_at text scale m (Ok d) most h w =
    let same = stands_for_one text d.mant w.mantissa d.scale w.decimals h.0 w.written in
    let value : raised d.mant (scale - d.scale) ≡ m = ap₂ (λ (k : ℤ) (s : ℕ). raised k (scale - s)) same.0 same.1 ∙ sym w.widened in
    let scale_is : d.scale ≡ w.decimals = same.1 in
    few_at scale d (omega (arith, w.few)) ∙ ap mantissa value ∙ mantissa_within m w.limited
written_at text scale m (Err NotDecimal) most h w = absurd (h w.mantissa w.decimals w.written)
written_at text scale m (Err TooWide) most h w =
    let same = stands_for_one text h.0 w.mantissa h.1 w.decimals h.2 w.written in
    let size : unsigned_abs h.0 ≡ unsigned_abs w.mantissa = ap unsigned_abs same.0 in
    let decimals : h.1 ≡ w.decimals = same.1 in
    let most_is : unsigned_abs (raised w.mantissa (scale - w.decimals)) ≤ 10 ^ 37 = subst (λ (x : ℤ). unsigned_abs x ≤ 10 ^ 37) w.widened w.limited in
    absurd (elim h.3 [
      | inl big ↦ omega (arith, big, size, no_greater w.mantissa (scale - w.decimals), most_is)
      | inr long ↦ omega (arith, long, decimals, w.few)
    ])

pub mantissas_written : MantissasAreWritten
mantissas_written text scale m most =
    (λ e. writes_from text scale m (read_of text) (reads text) e, λ w. written_at text scale m (read_of text) most (reads text) w)
