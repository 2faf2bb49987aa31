-- Day sums: a number and templates, which stand in declared order, each as often as it was added. The numbers of a sum
-- add up to at most 100,000, and it has at most 4 names.
use Rattle.std.specs.Prelude.{◌≡◌, ℕ, zero, ◌+◌, ◌-◌, ◌≤◌, ◌&&◌, List, [], ◌∷◌, Option, Some, None, Result, Ok, Err, length, nat_le, nat_lt, if◌then◌else◌}
use Rattle.term_model.specs.DayCounts.{Days}
use Rattle.term_model.specs.DayCounts.{Num as Count, Named, Sum}
use Rattle.term_model.specs.Terms.{Contract, Zero, Pay, Both, Scale, After, Let, Within}
use Rattle.contract_grammar.specs.Versions.{Version, One, Two}
use Rattle.contract_grammar.specs.Tokens.{Tok}
use Rattle.contract_grammar.specs.Words.{Bytes, is_integer, is_name}
use Rattle.contract_grammar.specs.Judgements.{up_to, use_at, whole}
use Rattle.contract_grammar.specs.declared.faults.TextKind.{TextKind}
use Rattle.contract_grammar.specs.declared.faults.TextKind.TheVariants.{Number}
use Rattle.term_model.specs.declared.terms.DaySum.{DaySum}

-- the number and the names of the items of a sum so far
pub record Tally : Type 0 where
  pub number : ℕ
  pub names : List ℕ

abbrev pub no_items : Tally
no_items = record { number = 0; names = [] }

-- what the program counts in
abbrev pub tally_of : DaySum → Tally
tally_of sum = record { number = sum.days; names = sum.names.items }

-- one more name, behind those that are declared before it
abbrev pub with_name : ℕ → List ℕ → List ℕ
with_name t [] = t ∷ []
with_name t (u ∷ us) = if nat_lt t u then t ∷ u ∷ us else u ∷ with_name t us

abbrev pub with_number : Tally → Option ℕ → Result Tally TextKind
with_number tally None = Err Number
with_number tally (Some n) = Ok (record { number = tally.number + n; names = tally.names })

abbrev pub with_use : Tally → Result ℕ TextKind → Result Tally TextKind
with_use tally (Err kind) = Err kind
with_use tally (Ok i) = Ok (record { number = tally.number; names = with_name i tally.names })

-- one more item: a number, or the name of a template
abbrev pub item_at : List Bytes → Tally → Tok → Result Tally TextKind
item_at templates tally t =
    if is_integer t then with_number tally (up_to (100_000 - tally.number) (whole t))
    else if is_name t && nat_le 4 (length tally.names) then Err Number
    else with_use tally (use_at templates t)

-- what a sum stands for
abbrev pub sum_of : ℕ → List ℕ → Days
sum_of n [] = Count n
sum_of zero (t ∷ []) = Named t
sum_of n ts = Sum n ts

-- names in declared order, from one on
abbrev pub AreInOrder : ℕ → List ℕ → Type 0
AreInOrder low [] = Unit {0}
AreInOrder low (t ∷ ts) = (low ≤ t) × AreInOrder t ts

-- a sum within the limits of texts
pub record IsTally (tally : Tally) : Type 0 where
  pub number : tally.number ≤ 100_000
  pub few : length tally.names ≤ 4
  pub order : AreInOrder 0 tally.names

-- the counts of days that texts of a version can stand for: a sum stands in version 2 alone, and it is no number and no
-- name
abbrev pub IsCountOfTexts : Version → Days → Type 0
IsCountOfTexts v (Count n) = n ≤ 100_000
IsCountOfTexts v (Named t) = Unit {0}
IsCountOfTexts One (Sum n ts) = ⊥
IsCountOfTexts Two (Sum n ts) = IsTally (record { number = n; names = ts }) × (sum_of n ts ≡ Sum n ts)

-- the same of each count of days of a contract
abbrev pub HasCountsOfTexts : Version → Contract → Type 0
HasCountsOfTexts v Zero = Unit {0}
HasCountsOfTexts v (Pay asset from to) = Unit {0}
HasCountsOfTexts v (Both a b) = HasCountsOfTexts v a × HasCountsOfTexts v b
HasCountsOfTexts v (Scale e c) = HasCountsOfTexts v c
HasCountsOfTexts v (After n c) = IsCountOfTexts v n × HasCountsOfTexts v c
HasCountsOfTexts v (Let e c) = HasCountsOfTexts v c
HasCountsOfTexts v (Within e n a b) = IsCountOfTexts v n × HasCountsOfTexts v a × HasCountsOfTexts v b
