-- A contract at a setting, which has a whole number of days for each template: the numbers stand in place of the names
-- of templates. The defaults are the numbers that the templates are declared with.
use Rattle.std.specs.Prelude.{ℕ, ◌<◌, ◌≤◌, ◌+◌, List, [], ◌∷◌, length, map, slice_index}
use Rattle.term_model.specs.DayCounts.{Days}
use Rattle.term_model.specs.DayCounts.{Num as Count, Named, Sum}
use Rattle.term_model.specs.Declarations.{Declarations}
use Rattle.term_model.specs.WellFormed.{AreBelow}
use Rattle.term_model.specs.Terms.{Contract, Zero, Pay, Both, Scale, After, Let, Within}

-- the numbers that a setting has for templates, added up
abbrev pub sum_at : List ℕ → List ℕ → ℕ
sum_at xs [] = 0
sum_at xs (t ∷ ts) = slice_index xs t + sum_at xs ts

abbrev pub with_number : List ℕ → Days → Days
with_number xs (Count n) = Count n
with_number xs (Named t) = Count (slice_index xs t)
with_number xs (Sum n ts) = Count (n + sum_at xs ts)

-- numbers for names
abbrev pub instance : List ℕ → Contract → Contract
instance xs Zero = Zero
instance xs (Pay a p q) = Pay a p q
instance xs (Both a b) = Both (instance xs a) (instance xs b)
instance xs (Scale e c) = Scale e (instance xs c)
instance xs (After n c) = After (with_number xs n) (instance xs c)
instance xs (Let e c) = Let e (instance xs c)
instance xs (Within e n a b) = Within e (with_number xs n) (instance xs a) (instance xs b)

abbrev pub HasNumber : List ℕ → Days → Type 0
HasNumber xs (Count n) = Unit {0}
HasNumber xs (Named t) = t < length xs
HasNumber xs (Sum n ts) = AreBelow (length xs) ts

-- each name has a number
abbrev pub HasNumbers : List ℕ → Contract → Type 0
HasNumbers xs Zero = Unit {0}
HasNumbers xs (Pay a p q) = Unit {0}
HasNumbers xs (Both a b) = HasNumbers xs a × HasNumbers xs b
HasNumbers xs (Scale e c) = HasNumbers xs c
HasNumbers xs (After n c) = HasNumber xs n × HasNumbers xs c
HasNumbers xs (Let e c) = HasNumbers xs c
HasNumbers xs (Within e n a b) = HasNumber xs n × HasNumbers xs a × HasNumbers xs b

-- a sum has a number of at most 100,000 and at most 4 names
abbrev pub IsSmallSum : Days → Type 0
IsSmallSum (Count n) = Unit {0}
IsSmallSum (Named t) = Unit {0}
IsSmallSum (Sum n ts) = (n ≤ 100_000) × (length ts ≤ 4)

abbrev pub HasSmallSums : Contract → Type 0
HasSmallSums Zero = Unit {0}
HasSmallSums (Pay a p q) = Unit {0}
HasSmallSums (Both a b) = HasSmallSums a × HasSmallSums b
HasSmallSums (Scale e c) = HasSmallSums c
HasSmallSums (After n c) = IsSmallSum n × HasSmallSums c
HasSmallSums (Let e c) = HasSmallSums c
HasSmallSums (Within e n a b) = IsSmallSum n × HasSmallSums a × HasSmallSums b

-- each number of a setting is at most 100,000
abbrev pub IsSetting : List ℕ → Type 0
IsSetting xs = (t : ℕ) → slice_index xs t ≤ 100_000

-- the numbers that the templates are declared with
abbrev pub declared_numbers : Declarations → List ℕ
declared_numbers d = map (λ entry. entry.1) d.templates
