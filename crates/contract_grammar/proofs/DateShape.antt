-- What begins with a date: four digits, a hyphen, two digits, a hyphen and two digits.
use Rattle.std.proofs.Common.{◌≡◌, ℕ, ◌+◌, ◌*◌, ◌-◌, ◌<◌, ◌==◌, Bool, true, false, ◌&&◌, Option, Some, None, List, [], ◌∷◌, length, get_or, refl, ap, arith}
use Rattle.std.specs.Prelude.{if◌then◌else◌, is_some, not, option_and_then, option_map}
use Rattle.std.specs.List.{prefix_len}
use Rattle.std.proofs.lemmas.Bool.{false≢true}
use Rattle.std.proofs.lemmas.Bool.Decides.{nat_tests}
use Rattle.term_model.specs.Dates.{Parts, parts_of, two_of}
use Rattle.contract_grammar.specs.Tokens.{begins_with_date, begins_with_digit, is_digit}
use Rattle.contract_grammar.proofs.EntryFacts.{and_parts}

-- by whether each number is one, and the marks are hyphens
parts_are : (high low month day : Option ℕ) (marks : Bool)
    → is_some {T = Parts} (option_and_then (λ x. option_and_then (λ y. option_and_then (λ m. option_and_then (λ d. if marks then Some (record { year = 100 * x + y; month = m; day = d }) else None) day) month) low) high) ≡ true
    → (is_some high ≡ true) × (is_some low ≡ true) × (is_some month ≡ true) × (is_some day ≡ true) × (marks ≡ true)
parts_are (Some x) (Some y) (Some m) (Some d) true is = (refl, refl, refl, refl, refl)
parts_are (Some x) (Some y) (Some m) (Some d) false is = absurd (false≢true is)
parts_are (Some x) (Some y) (Some m) None marks is = absurd (false≢true is)
parts_are (Some x) (Some y) None day marks is = absurd (false≢true is)
parts_are (Some x) None month day marks is = absurd (false≢true is)
parts_are None low month day marks is = absurd (false≢true is)

digits_are : (a b : Bool) (x y : ℕ)
    → is_some (option_and_then (λ h. option_and_then (λ l. Some (10 * h + l)) (if b then Some y else None)) (if a then Some x else None)) ≡ true → (a ≡ true) × (b ≡ true)
digits_are true true x y is = (refl, refl)
digits_are true false x y is = absurd (false≢true is)
digits_are false b x y is = absurd (false≢true is)

two_are : (a b : ℕ) → is_some (two_of a b) ≡ true → (is_digit a ≡ true) × (is_digit b ≡ true)
unfolding two_of
two_are a b is = digits_are (is_digit a) (is_digit b) (a - 48) (b - 48) is

-- the ten bytes of a date
pub record AreDate (a b c d h e f i g j : ℕ) : Type 0 where
  pub year : (is_digit a ≡ true) × (is_digit b ≡ true) × (is_digit c ≡ true) × (is_digit d ≡ true)
  pub month : (is_digit e ≡ true) × (is_digit f ≡ true)
  pub day : (is_digit g ≡ true) × (is_digit j ≡ true)
  pub hyphens : (h ≡ 45) × (i ≡ 45)

is_hyphen : (b : ℕ) → (b == 45) ≡ true → b ≡ 45
is_hyphen b is = grind (arith, nat_tests)

pub are_date : (a b c d h e f i g j : ℕ) → is_some (parts_of (a ∷ b ∷ c ∷ d ∷ h ∷ e ∷ f ∷ i ∷ g ∷ j ∷ [])) ≡ true → AreDate a b c d h e f i g j
unfolding parts_of
are_date a b c d h e f i g j is =
    let parts = parts_are (two_of a b) (two_of c d) (two_of e f) (two_of g j) ((h == 45) && (i == 45)) is in
    let high = two_are a b parts.0 in
    let low = two_are c d parts.1 in
    let marks = and_parts (h == 45) (i == 45) parts.4 in
    record {
      year = (high.0, high.1, low.0, low.1);
      month = two_are e f parts.2;
      day = two_are g j parts.3;
      hyphens = (is_hyphen h marks.0, is_hyphen i marks.1);
    }

pub record BeginsDate (bytes : List ℕ) : Type 0 where
  pub year : prefix_len is_digit bytes ≡ 4
  pub hyphen : get_or bytes 4 0 ≡ 45
  pub last : is_digit (get_or bytes 9 0) ≡ true

pub begins_date : (bytes : List ℕ) → begins_with_date bytes ≡ true → BeginsDate bytes
unfolding parts_of
begins_date (a ∷ b ∷ c ∷ d ∷ h ∷ e ∷ f ∷ i ∷ g ∷ j ∷ bs) is =
    let date = are_date a b c d h e f i g j (and_parts (is_some (parts_of (a ∷ b ∷ c ∷ d ∷ h ∷ e ∷ f ∷ i ∷ g ∷ j ∷ []))) (not (begins_with_digit bs)) is).0 in
    record {
      year = rw (date.year.0, date.year.1, date.year.2, date.year.3, date.hyphens.0) refl;
      hyphen = date.hyphens.0;
      last = date.day.1;
    }
begins_date _ is = absurd (false≢true is)

-- fewer than ten bytes do not begin with a date
pub too_few : (bytes : List ℕ) → length bytes < 10 → begins_with_date bytes ≡ false
unfolding parts_of
too_few (a ∷ b ∷ c ∷ d ∷ h ∷ e ∷ f ∷ i ∷ g ∷ j ∷ bs) few = absurd (omega arith)
too_few _ few = refl

-- the ten bytes and what is behind them, as the code has them
pub as_parts : {A : Type 0} (f : A → Parts) (read : Option A) (text : List ℕ) → option_map f read ≡ parts_of text → is_some read ≡ is_some (parts_of text)
as_parts f (Some x) text is = ap is_some is
as_parts f None text is = ap is_some is
