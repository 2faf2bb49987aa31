-- Dates at a setting: their sums.
use Rattle.std.proofs.Common.{◌≡◌, ℕ, ℤ, pos, ◌+ℤ◌, ◌+◌, Bool, true, false, if◌then◌else◌, List, [], ◌∷◌, nat_le, slice_index, refl, ◌∙◌, arith}
use Rattle.std.proofs.lemmas.Int.{ints}
use Rattle.term_model.specs.DayCounts.{Days}
use Rattle.term_model.specs.DayCounts.{Num as Count, Named, Sum}
use Rattle.term_model.specs.Flows.{count_of}
use Rattle.term_model.specs.Instances.{with_number}
use Rattle.payoff_terms.specs.TemplateDates.{Date, sum_at, day_of, insert_name, insert_names, date_of_days, plus, plus_days}

insert_at : (xs us : List ℕ) (t u : ℕ) (b : Bool) → sum_at xs (insert_name t us) ≡ slice_index xs t + sum_at xs us → sum_at xs (if b then t ∷ u ∷ us else u ∷ insert_name t us) ≡ slice_index xs t + (slice_index xs u + sum_at xs us)
insert_at xs us t u true h = refl
insert_at xs us t u false h = omega arith

insert_sum : (xs : List ℕ) (t : ℕ) (us : List ℕ) → sum_at xs (insert_name t us) ≡ slice_index xs t + sum_at xs us
insert_sum xs t [] = refl
insert_sum xs t (u ∷ us) = insert_at xs us t u (nat_le t u) (insert_sum xs t us)

inserts_sum : (xs ts us : List ℕ) → sum_at xs (insert_names ts us) ≡ sum_at xs ts + sum_at xs us
inserts_sum xs [] us = omega arith
inserts_sum xs (t ∷ ts) us = insert_sum xs t (insert_names ts us) ∙ omega (arith, inserts_sum xs ts us)

pub day_plus : (xs : List ℕ) (q r : Date) → day_of xs (plus q r) ≡ day_of xs q +ℤ day_of xs r
day_plus xs q r = omega (arith, ints, inserts_sum xs r.names q.names)

pub day_plus_days : (xs : List ℕ) (q : Date) (t : ℤ) → day_of xs (plus_days q t) ≡ t +ℤ day_of xs q
day_plus_days xs q t = omega (arith, ints)

pub day_of_count : (xs : List ℕ) (m : Days) → day_of xs (date_of_days m) ≡ pos (count_of (with_number xs m))
day_of_count xs (Count n) = omega (arith, ints)
day_of_count xs (Named t) = omega (arith, ints)
day_of_count xs (Sum n ts) = omega (arith, ints, inserts_sum xs ts [])
