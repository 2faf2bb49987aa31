-- What names no template is its own instance.
use Rattle.std.proofs.Common.{◌≡◌, ℕ, List, refl}
use Rattle.term_model.specs.DayCounts.{Days, Named, Num as Count, Sum}
use Rattle.term_model.specs.Terms.{Contract, Zero, Pay, Both, Scale, After, Let, Within}
use Rattle.term_model.specs.WellFormed.{HasOnlyNumbers, IsNumber}
use Rattle.term_model.specs.Instances.{instance, with_number}

same_number : (xs : List ℕ) (n : Days) → IsNumber n → with_number xs n ≡ n
same_number xs (Count n) h = refl
same_number xs (Named t) h = absurd h
same_number xs (Sum n ts) h = absurd h

pub own_instance : (xs : List ℕ) (c : Contract) → HasOnlyNumbers c → instance xs c ≡ c
own_instance xs Zero h = refl
own_instance xs (Pay a p q) h = refl
own_instance xs (Both a b) h = rw (own_instance xs a h.0, own_instance xs b h.1) refl
own_instance xs (Scale e c) h = rw (own_instance xs c h) refl
own_instance xs (After n c) h = rw (same_number xs n h.0, own_instance xs c h.1) refl
own_instance xs (Let e c) h = rw (own_instance xs c h) refl
own_instance xs (Within e n a b) h = rw (same_number xs n h.0, own_instance xs a h.1, own_instance xs b h.2) refl
