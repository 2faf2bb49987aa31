-- Texts without a byte above 127.
use Rattle.std.proofs.Common.{◌≡◌, ◌≤◌, ◌<◌, ◌+◌, ℕ, List, length, inl, inr, arith}
use Rattle.std.specs.Prelude.{All, nat_lt}
use Rattle.std.specs.Str.{IsAscii, IsUtf8}
use Rattle.std.proofs.Math.ListN.{get_or}
use Rattle.std.proofs.lemmas.Bool.{cases_Bool}
use Rattle.std.proofs.lemmas.Bool.Decides.{nat_tests}
use Rattle.std.proofs.lemmas.List.{get_or_past}
use Rattle.std.proofs.lemmas.List.Elements.{All-from_get_or, All-get_or}
use Rattle.std.proofs.lemmas.Str.{IsUtf8-from_ascii}

-- the bytes before a position are at most this
abbrev pub AreUpTo : List ℕ → ℕ → ℕ → Type 0
AreUpTo bytes n most = (i : ℕ) → i < n → get_or bytes i 0 ≤ most

pub one_more : (bytes : List ℕ) (n most next : ℕ) → AreUpTo bytes n most → most ≤ next → get_or bytes n 0 ≤ next → AreUpTo bytes (n + 1) next
one_more bytes n most next h grows covers i lower = elim (cases_Bool (nat_lt i n)) [
  | inl e ↦ let below : i < n = grind (arith, nat_tests) in omega (arith, h i below, grows)
  | inr e ↦ let at : i ≡ n = grind (arith, nat_tests) in rw at covers
]

pub all_up_to : (bytes : List ℕ) (n most : ℕ) → AreUpTo bytes n most → length bytes ≤ n → All (λ b. b ≤ most) bytes
all_up_to bytes n most h few = All-from_get_or (λ b. b ≤ most) bytes 0 (λ i within. h i (omega (arith, few, within)))

is_ascii : (bytes : List ℕ) (most : ℕ) → All (λ b. b ≤ most) bytes → most < 128 → IsAscii bytes
is_ascii bytes most all small i = elim (cases_Bool (nat_lt i (length bytes))) [
  | inl e ↦ let within : i < length bytes = grind (arith, nat_tests) in omega (arith, All-get_or (λ b. b ≤ most) bytes i 0 within all, small)
  | inr e ↦ let past : length bytes ≤ i = grind (arith, nat_tests) in rw (get_or_past bytes i 0 past) (omega arith)
]

pub ascii_text : (bytes : List ℕ) (most : ℕ) → All (λ b. b ≤ most) bytes → most < 128 → IsUtf8 bytes
ascii_text bytes most all small = IsUtf8-from_ascii bytes (is_ascii bytes most all small)
