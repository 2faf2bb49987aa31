-- Rows of plans: lines that are taken to their end, and the faults of others.
use Rattle.std.proofs.Common.{◌≡◌, ℕ, pos, List, [], ◌∷◌, Some, None, refl}
use Rattle.std.specs.Prelude.{codes}
use Rattle.decimal.specs.Reading.{read_of}
use Rattle.term_model.specs.Declarations.{Declarations}
use Rattle.term_model.specs.declared.label.Label.TheVariants as label
use Rattle.term_model.specs.Dates.{parts_of, two_of}
use Rattle.contract_grammar.specs.Tokens.{Tok, extent_at, next_lexeme, tokens, tokens_from}
use Rattle.contract_grammar.specs.Words.{Bytes}
use Rattle.contract_grammar.specs.declared.token.LexemeKind.{LexemeKind}
use Rattle.contract_grammar.specs.declared.token.LexemeKind.TheVariants.{Word, Number, Mark, End}
use Rattle.contract_grammar.specs.declared.faults.TextKind.TheVariants as kind
use Rattle.schedule_forms.specs.PlanExpecting.{plan_fault, plan_expected}

abbrev token : LexemeKind → Bytes → ℕ → Tok
token kind text left = record { kind = kind; text = text; left = left }

abbrev declared : Declarations
declared =
    record {
      version = 1;
      amounts = 2;
      origin = None;
      start = 0;
      parties = codes "A" ∷ codes "B" ∷ codes "C" ∷ [];
      assets = (codes "EUR", 2) ∷ [];
      labels = (codes "FX", label.Number 4 (pos 5_000) (pos 20_000)) ∷ (codes "D", label.Flag) ∷ [];
      templates = [];
    }

-- a line of each form is taken, and the words of schedule files are names
-- leg first = 1.00 of EUR from A to B first 0 every 20 times 5000; swap leg = -1 of EUR from A to A first 100000 every 1 times 1 against round(floor, 27, FX, 1000000, -3) of EUR from C to B first 1 every 1 times 1; guarded every = 1.00 of EUR from A to B first 41 every 1694 times 60 until D covers -5;
abbrev plans_are_taken_tokens : List Tok
plans_are_taken_tokens = token Word (codes "leg") 300 ∷ token Word (codes "first") 296 ∷ token Mark (codes "=") 290 ∷ token Number (codes "1.00") 288 ∷ token Word (codes "of") 283 ∷ token Word (codes "EUR") 280 ∷ token Word (codes "from") 276 ∷ token Word (codes "A") 271 ∷ token Word (codes "to") 269 ∷ token Word (codes "B") 266 ∷ token Word (codes "first") 264 ∷ token Number (codes "0") 258 ∷ token Word (codes "every") 256 ∷ token Number (codes "20") 250 ∷ token Word (codes "times") 247 ∷ token Number (codes "5000") 241 ∷ token Mark (codes ";") 237 ∷ token Word (codes "swap") 235 ∷ token Word (codes "leg") 230 ∷ token Mark (codes "=") 226 ∷ token Mark (codes "-") 224 ∷ token Number (codes "1") 223 ∷ token Word (codes "of") 221 ∷ token Word (codes "EUR") 218 ∷ token Word (codes "from") 214 ∷ token Word (codes "A") 209 ∷ token Word (codes "to") 207 ∷ token Word (codes "A") 204 ∷ token Word (codes "first") 202 ∷ token Number (codes "100000") 196 ∷ token Word (codes "every") 189 ∷ token Number (codes "1") 183 ∷ token Word (codes "times") 181 ∷ token Number (codes "1") 175 ∷ token Word (codes "against") 173 ∷ token Word (codes "round") 165 ∷ token Mark (codes "(") 160 ∷ token Word (codes "floor") 159 ∷ token Mark (codes ",") 154 ∷ token Number (codes "27") 152 ∷ token Mark (codes ",") 150 ∷ token Word (codes "FX") 148 ∷ token Mark (codes ",") 146 ∷ token Number (codes "1000000") 144 ∷ token Mark (codes ",") 137 ∷ token Mark (codes "-") 135 ∷ token Number (codes "3") 134 ∷ token Mark (codes ")") 133 ∷ token Word (codes "of") 131 ∷ token Word (codes "EUR") 128 ∷ token Word (codes "from") 124 ∷ token Word (codes "C") 119 ∷ token Word (codes "to") 117 ∷ token Word (codes "B") 114 ∷ token Word (codes "first") 112 ∷ token Number (codes "1") 106 ∷ token Word (codes "every") 104 ∷ token Number (codes "1") 98 ∷ token Word (codes "times") 96 ∷ token Number (codes "1") 90 ∷ token Mark (codes ";") 89 ∷ token Word (codes "guarded") 87 ∷ token Word (codes "every") 79 ∷ token Mark (codes "=") 73 ∷ token Number (codes "1.00") 71 ∷ token Word (codes "of") 66 ∷ token Word (codes "EUR") 63 ∷ token Word (codes "from") 59 ∷ token Word (codes "A") 54 ∷ token Word (codes "to") 52 ∷ token Word (codes "B") 49 ∷ token Word (codes "first") 47 ∷ token Number (codes "41") 41 ∷ token Word (codes "every") 38 ∷ token Number (codes "1694") 32 ∷ token Word (codes "times") 27 ∷ token Number (codes "60") 21 ∷ token Word (codes "until") 18 ∷ token Word (codes "D") 12 ∷ token Word (codes "covers") 10 ∷ token Mark (codes "-") 3 ∷ token Number (codes "5") 2 ∷ token Mark (codes ";") 1 ∷ token End [] 0 ∷ []

plans_are_taken_are : tokens (codes "leg first = 1.00 of EUR from A to B first 0 every 20 times 5000; swap leg = -1 of EUR from A to A first 100000 every 1 times 1 against round(floor, 27, FX, 1000000, -3) of EUR from C to B first 1 every 1 times 1; guarded every = 1.00 of EUR from A to B first 41 every 1694 times 60 until D covers -5;") ≡ plans_are_taken_tokens
unfolding tokens tokens_from next_lexeme extent_at parts_of two_of
plans_are_taken_are = refl

plans_are_taken : plan_fault [] (plan_expected declared) plans_are_taken_tokens ≡ None
unfolding plan_fault read_of
plans_are_taken = refl

-- the last day is behind day 100,000: the fault is at the number of payments
-- leg a = 1.00 of EUR from A to B first 0 every 21 times 5000;
abbrev a_last_day_tokens : List Tok
a_last_day_tokens = token Word (codes "leg") 60 ∷ token Word (codes "a") 56 ∷ token Mark (codes "=") 54 ∷ token Number (codes "1.00") 52 ∷ token Word (codes "of") 47 ∷ token Word (codes "EUR") 44 ∷ token Word (codes "from") 40 ∷ token Word (codes "A") 35 ∷ token Word (codes "to") 33 ∷ token Word (codes "B") 30 ∷ token Word (codes "first") 28 ∷ token Number (codes "0") 22 ∷ token Word (codes "every") 20 ∷ token Number (codes "21") 14 ∷ token Word (codes "times") 11 ∷ token Number (codes "5000") 5 ∷ token Mark (codes ";") 1 ∷ token End [] 0 ∷ []

a_last_day_are : tokens (codes "leg a = 1.00 of EUR from A to B first 0 every 21 times 5000;") ≡ a_last_day_tokens
unfolding tokens tokens_from next_lexeme extent_at parts_of two_of
a_last_day_are = refl

a_last_day : plan_fault [] (plan_expected declared) a_last_day_tokens ≡ Some (record { kind = kind.Number; left = 5 })
unfolding plan_fault read_of
a_last_day = refl

-- a guarded leg has at most 60 payments
-- guarded a = 1.00 of EUR from A to B first 0 every 20 times 61 until D covers 1;
abbrev a_guarded_leg_tokens : List Tok
a_guarded_leg_tokens = token Word (codes "guarded") 79 ∷ token Word (codes "a") 71 ∷ token Mark (codes "=") 69 ∷ token Number (codes "1.00") 67 ∷ token Word (codes "of") 62 ∷ token Word (codes "EUR") 59 ∷ token Word (codes "from") 55 ∷ token Word (codes "A") 50 ∷ token Word (codes "to") 48 ∷ token Word (codes "B") 45 ∷ token Word (codes "first") 43 ∷ token Number (codes "0") 37 ∷ token Word (codes "every") 35 ∷ token Number (codes "20") 29 ∷ token Word (codes "times") 26 ∷ token Number (codes "61") 20 ∷ token Word (codes "until") 17 ∷ token Word (codes "D") 11 ∷ token Word (codes "covers") 9 ∷ token Number (codes "1") 2 ∷ token Mark (codes ";") 1 ∷ token End [] 0 ∷ []

a_guarded_leg_are : tokens (codes "guarded a = 1.00 of EUR from A to B first 0 every 20 times 61 until D covers 1;") ≡ a_guarded_leg_tokens
unfolding tokens tokens_from next_lexeme extent_at parts_of two_of
a_guarded_leg_are = refl

a_guarded_leg : plan_fault [] (plan_expected declared) a_guarded_leg_tokens ≡ Some (record { kind = kind.Number; left = 20 })
unfolding plan_fault read_of
a_guarded_leg = refl

-- there is a day from one payment to the next
-- leg a = 1.00 of EUR from A to B first 0 every 0 times 1;
abbrev a_number_of_days_tokens : List Tok
a_number_of_days_tokens = token Word (codes "leg") 56 ∷ token Word (codes "a") 52 ∷ token Mark (codes "=") 50 ∷ token Number (codes "1.00") 48 ∷ token Word (codes "of") 43 ∷ token Word (codes "EUR") 40 ∷ token Word (codes "from") 36 ∷ token Word (codes "A") 31 ∷ token Word (codes "to") 29 ∷ token Word (codes "B") 26 ∷ token Word (codes "first") 24 ∷ token Number (codes "0") 18 ∷ token Word (codes "every") 16 ∷ token Number (codes "0") 10 ∷ token Word (codes "times") 8 ∷ token Number (codes "1") 2 ∷ token Mark (codes ";") 1 ∷ token End [] 0 ∷ []

a_number_of_days_are : tokens (codes "leg a = 1.00 of EUR from A to B first 0 every 0 times 1;") ≡ a_number_of_days_tokens
unfolding tokens tokens_from next_lexeme extent_at parts_of two_of
a_number_of_days_are = refl

a_number_of_days : plan_fault [] (plan_expected declared) a_number_of_days_tokens ≡ Some (record { kind = kind.Number; left = 10 })
unfolding plan_fault read_of
a_number_of_days = refl

-- a flag is no number
-- leg a = round(half_even, 2, D, 0, 1) of EUR from A to B first 0 every 1 times 1;
abbrev a_flag_observed_tokens : List Tok
a_flag_observed_tokens = token Word (codes "leg") 80 ∷ token Word (codes "a") 76 ∷ token Mark (codes "=") 74 ∷ token Word (codes "round") 72 ∷ token Mark (codes "(") 67 ∷ token Word (codes "half_even") 66 ∷ token Mark (codes ",") 57 ∷ token Number (codes "2") 55 ∷ token Mark (codes ",") 54 ∷ token Word (codes "D") 52 ∷ token Mark (codes ",") 51 ∷ token Number (codes "0") 49 ∷ token Mark (codes ",") 48 ∷ token Number (codes "1") 46 ∷ token Mark (codes ")") 45 ∷ token Word (codes "of") 43 ∷ token Word (codes "EUR") 40 ∷ token Word (codes "from") 36 ∷ token Word (codes "A") 31 ∷ token Word (codes "to") 29 ∷ token Word (codes "B") 26 ∷ token Word (codes "first") 24 ∷ token Number (codes "0") 18 ∷ token Word (codes "every") 16 ∷ token Number (codes "1") 10 ∷ token Word (codes "times") 8 ∷ token Number (codes "1") 2 ∷ token Mark (codes ";") 1 ∷ token End [] 0 ∷ []

a_flag_observed_are : tokens (codes "leg a = round(half_even, 2, D, 0, 1) of EUR from A to B first 0 every 1 times 1;") ≡ a_flag_observed_tokens
unfolding tokens tokens_from next_lexeme extent_at parts_of two_of
a_flag_observed_are = refl

a_flag_observed : plan_fault [] (plan_expected declared) a_flag_observed_tokens ≡ Some (record { kind = kind.Unknown; left = 52 })
unfolding plan_fault read_of
a_flag_observed = refl

-- and a number is no flag
-- guarded a = 1.00 of EUR from A to B first 0 every 20 times 60 until FX covers 1;
abbrev a_number_for_a_flag_tokens : List Tok
a_number_for_a_flag_tokens = token Word (codes "guarded") 80 ∷ token Word (codes "a") 72 ∷ token Mark (codes "=") 70 ∷ token Number (codes "1.00") 68 ∷ token Word (codes "of") 63 ∷ token Word (codes "EUR") 60 ∷ token Word (codes "from") 56 ∷ token Word (codes "A") 51 ∷ token Word (codes "to") 49 ∷ token Word (codes "B") 46 ∷ token Word (codes "first") 44 ∷ token Number (codes "0") 38 ∷ token Word (codes "every") 36 ∷ token Number (codes "20") 30 ∷ token Word (codes "times") 27 ∷ token Number (codes "60") 21 ∷ token Word (codes "until") 18 ∷ token Word (codes "FX") 12 ∷ token Word (codes "covers") 9 ∷ token Number (codes "1") 2 ∷ token Mark (codes ";") 1 ∷ token End [] 0 ∷ []

a_number_for_a_flag_are : tokens (codes "guarded a = 1.00 of EUR from A to B first 0 every 20 times 60 until FX covers 1;") ≡ a_number_for_a_flag_tokens
unfolding tokens tokens_from next_lexeme extent_at parts_of two_of
a_number_for_a_flag_are = refl

a_number_for_a_flag : plan_fault [] (plan_expected declared) a_number_for_a_flag_tokens ≡ Some (record { kind = kind.Unknown; left = 12 })
unfolding plan_fault read_of
a_number_for_a_flag = refl

-- a lag has no sign
-- leg a = round(half_even, 2, FX, -1, 1) of EUR from A to B first 0 every 1 times 1;
abbrev a_lag_with_a_sign_tokens : List Tok
a_lag_with_a_sign_tokens = token Word (codes "leg") 82 ∷ token Word (codes "a") 78 ∷ token Mark (codes "=") 76 ∷ token Word (codes "round") 74 ∷ token Mark (codes "(") 69 ∷ token Word (codes "half_even") 68 ∷ token Mark (codes ",") 59 ∷ token Number (codes "2") 57 ∷ token Mark (codes ",") 56 ∷ token Word (codes "FX") 54 ∷ token Mark (codes ",") 52 ∷ token Mark (codes "-") 50 ∷ token Number (codes "1") 49 ∷ token Mark (codes ",") 48 ∷ token Number (codes "1") 46 ∷ token Mark (codes ")") 45 ∷ token Word (codes "of") 43 ∷ token Word (codes "EUR") 40 ∷ token Word (codes "from") 36 ∷ token Word (codes "A") 31 ∷ token Word (codes "to") 29 ∷ token Word (codes "B") 26 ∷ token Word (codes "first") 24 ∷ token Number (codes "0") 18 ∷ token Word (codes "every") 16 ∷ token Number (codes "1") 10 ∷ token Word (codes "times") 8 ∷ token Number (codes "1") 2 ∷ token Mark (codes ";") 1 ∷ token End [] 0 ∷ []

a_lag_with_a_sign_are : tokens (codes "leg a = round(half_even, 2, FX, -1, 1) of EUR from A to B first 0 every 1 times 1;") ≡ a_lag_with_a_sign_tokens
unfolding tokens tokens_from next_lexeme extent_at parts_of two_of
a_lag_with_a_sign_are = refl

a_lag_with_a_sign : plan_fault [] (plan_expected declared) a_lag_with_a_sign_tokens ≡ Some (record { kind = kind.Syntax; left = 50 })
unfolding plan_fault read_of
a_lag_with_a_sign = refl

-- a reserved word is no name
-- leg zero = 1
abbrev a_reserved_word_tokens : List Tok
a_reserved_word_tokens = token Word (codes "leg") 12 ∷ token Word (codes "zero") 8 ∷ token Mark (codes "=") 3 ∷ token Number (codes "1") 1 ∷ token End [] 0 ∷ []

a_reserved_word_are : tokens (codes "leg zero = 1") ≡ a_reserved_word_tokens
unfolding tokens tokens_from next_lexeme extent_at parts_of two_of
a_reserved_word_are = refl

a_reserved_word : plan_fault [] (plan_expected declared) a_reserved_word_tokens ≡ Some (record { kind = kind.Syntax; left = 8 })
unfolding plan_fault read_of
a_reserved_word = refl

-- plans are one set of names
-- leg a = 1.00 of EUR from A to B first 0 every 20 times 1; swap a = 1
abbrev a_name_twice_tokens : List Tok
a_name_twice_tokens = token Word (codes "leg") 68 ∷ token Word (codes "a") 64 ∷ token Mark (codes "=") 62 ∷ token Number (codes "1.00") 60 ∷ token Word (codes "of") 55 ∷ token Word (codes "EUR") 52 ∷ token Word (codes "from") 48 ∷ token Word (codes "A") 43 ∷ token Word (codes "to") 41 ∷ token Word (codes "B") 38 ∷ token Word (codes "first") 36 ∷ token Number (codes "0") 30 ∷ token Word (codes "every") 28 ∷ token Number (codes "20") 22 ∷ token Word (codes "times") 19 ∷ token Number (codes "1") 13 ∷ token Mark (codes ";") 12 ∷ token Word (codes "swap") 10 ∷ token Word (codes "a") 5 ∷ token Mark (codes "=") 3 ∷ token Number (codes "1") 1 ∷ token End [] 0 ∷ []

a_name_twice_are : tokens (codes "leg a = 1.00 of EUR from A to B first 0 every 20 times 1; swap a = 1") ≡ a_name_twice_tokens
unfolding tokens tokens_from next_lexeme extent_at parts_of two_of
a_name_twice_are = refl

a_name_twice : plan_fault [] (plan_expected declared) a_name_twice_tokens ≡ Some (record { kind = kind.Twice; left = 5 })
unfolding plan_fault read_of
a_name_twice = refl

-- a line ends with a semicolon
-- leg a = 1.00 of EUR from A to B first 0 every 20 times 1
abbrev a_line_without_end_tokens : List Tok
a_line_without_end_tokens = token Word (codes "leg") 56 ∷ token Word (codes "a") 52 ∷ token Mark (codes "=") 50 ∷ token Number (codes "1.00") 48 ∷ token Word (codes "of") 43 ∷ token Word (codes "EUR") 40 ∷ token Word (codes "from") 36 ∷ token Word (codes "A") 31 ∷ token Word (codes "to") 29 ∷ token Word (codes "B") 26 ∷ token Word (codes "first") 24 ∷ token Number (codes "0") 18 ∷ token Word (codes "every") 16 ∷ token Number (codes "20") 10 ∷ token Word (codes "times") 7 ∷ token Number (codes "1") 1 ∷ token End [] 0 ∷ []

a_line_without_end_are : tokens (codes "leg a = 1.00 of EUR from A to B first 0 every 20 times 1") ≡ a_line_without_end_tokens
unfolding tokens tokens_from next_lexeme extent_at parts_of two_of
a_line_without_end_are = refl

a_line_without_end : plan_fault [] (plan_expected declared) a_line_without_end_tokens ≡ Some (record { kind = kind.Syntax; left = 0 })
unfolding plan_fault read_of
a_line_without_end = refl
