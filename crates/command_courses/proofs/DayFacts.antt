-- The day of a word: in range, or out of it, and one.
use Rattle.std.proofs.Common.{◌≡◌, ◌∙◌, ◌≤ℤ◌, ◌<ℤ◌, ℕ, ℤ, pos, Bool, true, false, ◌&&◌, List, ap, arith, refl, FitsSigned, w64, sym}
use Rattle.std.specs.Prelude.{Option, Some, None, Result, Ok, Err, int_le, if◌then◌else◌}
use Rattle.std.proofs.lemmas.Int.{ints}
use Rattle.term_model.specs.Declarations.{Declarations}
use Rattle.fixing_files.specs.Days.{day_named, day_of, placed_day, placed_if_named}
use Rattle.fixing_files.specs.declared.days.DayFault.{DayFault}
use Rattle.fixing_files.specs.declared.days.DayFault.TheVariants.{NotDay, NoOrigin}
use Rattle.fixing_files.specs.declared.days.NamedDay.{NamedDay}
use Rattle.fixing_files.specs.declared.days.NamedDay.TheVariants.{Number, Date}
use Rattle.flow_eval.specs.Readiness.{last_day}
use Rattle.command_courses.specs.Days.{IsDayAsked, IsOutOfRange, day_in_range, greatest_day, no_origin, too_early, too_late}

le_from : (a b : ℤ) → int_le a b ≡ true → a ≤ℤ b
le_from a b h = grind (arith, ints)

lt_from : (a b : ℤ) → int_le a b ≡ false → b <ℤ a
lt_from a b h = grind (arith, ints)

in_range_by : (start day greatest last : ℤ) (p q : Bool) → int_le start day ≡ p → int_le day greatest ≡ q → (if p && q then Some day else None) ≡ Some last → (day ≡ last) × (start ≤ℤ last) × (last ≤ℤ greatest)
in_range_by start day greatest last true true low high h =
    let same : day ≡ last = cc in
    (same, (let k = le_from start day low in omega (arith, ints, same)), (let k = le_from day greatest high in omega (arith, ints, same)))
in_range_by start day greatest last true false low high h = absurd cc
in_range_by start day greatest last false q low high h = absurd cc

of_result : (d : Declarations) (greatest : ℤ) (r : Result ℤ DayFault) (last : ℤ) → day_in_range d greatest r ≡ Some last → (r ≡ Ok last) × (pos d.start ≤ℤ last) × (last ≤ℤ greatest)
of_result d greatest (Ok day) last h =
    let k = in_range_by (pos d.start) day greatest last (int_le (pos d.start) day) (int_le day greatest) refl refl h in
    (ap (λ (x : ℤ). Ok x) k.0, k.1, k.2)
of_result d greatest (Err fault) last h = absurd cc

-- the day that is named is that of its word
named_day : (origin : Option ℤ) (word : List ℕ) (named : NamedDay) → day_named word ≡ Some named → day_of origin word ≡ placed_day origin named
unfolding day_of
named_day origin word named reads = ap (placed_if_named origin) reads

pub is_asked_day : (d : Declarations) (greatest : ℤ) (word : List ℕ) (named : NamedDay) (day : ℤ) → day_named word ≡ Some named → day_in_range d greatest (placed_day d.origin named) ≡ Some day → IsDayAsked d greatest word day
is_asked_day d greatest word named day reads h =
    let k = of_result d greatest (placed_day d.origin named) day h in
    (named_day d.origin word named reads ∙ k.0, k.1, k.2)

-- a day that is asked for is none before day 0
pub asked_first : (d : Declarations) (greatest : ℤ) (word : List ℕ) (day : ℤ) → IsDayAsked d greatest word day → pos 0 ≤ℤ day
asked_first d greatest word day h = let low = h.1 in omega (arith, ints)

some_day : (origin : Option ℤ) (named : NamedDay) → placed_day origin named ≡ Err NotDay → ⊥
some_day origin (Number day) h = let no : Ok day ≡ Err NotDay = h in cc
some_day None (Date day) h = let no : Err NoOrigin ≡ Err NotDay = h in cc
some_day (Some o) (Date day) h = cc

out_by : (d : Declarations) (greatest : ℤ) (word : List ℕ) (day : ℤ) (p q : Bool) → day_of d.origin word ≡ Ok day → int_le (pos d.start) day ≡ p → int_le day greatest ≡ q → (if p && q then Some day else None) ≡ None → IsOutOfRange d greatest word
out_by d greatest word day true true is low high h = absurd cc
out_by d greatest word day true false is low high h = too_late day is (lt_from day greatest high)
out_by d greatest word day false q is low high h = too_early day is (lt_from (pos d.start) day low)

out_of : (d : Declarations) (greatest : ℤ) (word : List ℕ) (r : Result ℤ DayFault) → day_of d.origin word ≡ r → (r ≡ Err NotDay → ⊥) → day_in_range d greatest r ≡ None → IsOutOfRange d greatest word
out_of d greatest word (Ok day) is some h = out_by d greatest word day (int_le (pos d.start) day) (int_le day greatest) is refl refl h
out_of d greatest word (Err NoOrigin) is some h = no_origin is
out_of d greatest word (Err NotDay) is some h = absurd (some refl)

pub is_out : (d : Declarations) (greatest : ℤ) (word : List ℕ) (named : NamedDay) → day_named word ≡ Some named → day_in_range d greatest (placed_day d.origin named) ≡ None → IsOutOfRange d greatest word
is_out d greatest word named reads h = out_of d greatest word (placed_day d.origin named) (named_day d.origin word named reads) (some_day d.origin named) h

pub fits_day : (day : ℤ) → pos 0 ≤ℤ day → day ≤ℤ pos last_day → FitsSigned w64 day
fits_day day low high = omega (arith, ints)

pub in_range_or_not : (d : Declarations) (greatest : ℤ) (word : List ℕ) (last : ℤ) → IsDayAsked d greatest word last → IsOutOfRange d greatest word → ⊥
in_range_or_not d greatest word last h (no_origin e) = let same = sym h.0 ∙ e in cc
in_range_or_not d greatest word last h (too_early day e less) = let same : last ≡ day = (let both = sym h.0 ∙ e in cc) in omega (arith, ints, same, h.1, less)
in_range_or_not d greatest word last h (too_late day e more) = let same : last ≡ day = (let both = sym h.0 ∙ e in cc) in omega (arith, ints, same, h.2, more)

pub one_day : (d : Declarations) (word : List ℕ) (m n : ℤ) → IsDayAsked d greatest_day word m → IsDayAsked d greatest_day word n → m ≡ n
one_day d word m n h k = let e = sym h.0 ∙ k.0 in cc
