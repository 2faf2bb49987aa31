-- Instances of contracts.
use Rattle.std.proofs.Common.{◌≡◌, ℕ, suc, ◌+◌, ◌*◌, ◌<◌, ◌≤◌, List, [], ◌∷◌, length, map, refl, ap, sym, subst, arith}
use Rattle.term_model.specs.Declarations.{Declarations}
use Rattle.term_model.specs.declared.name.Name.{Name}
use Rattle.term_model.specs.DayCounts.{Days}
use Rattle.term_model.specs.DayCounts.{Num as Count, Named, Sum}
use Rattle.term_model.specs.Terms.{Zero, Pay, Both, Scale, After, Let, Within}
use Rattle.term_model.specs.WellFormed.{AreBelow, IsDeclared, IsNumber}
use Rattle.term_model.specs.Instances.{with_number, HasNumber, IsSetting, sum_at}
use Rattle.term_model.specs.LawsInstances.{InstancesHaveNumbers, InstancesAreWellFormed, SettingsSuit, DefaultsSuit}

count_is_number : (xs : List ℕ) (n : Days) → IsNumber (with_number xs n)
count_is_number xs (Count n) = tt
count_is_number xs (Named t) = tt
count_is_number xs (Sum n ts) = tt

pub instances_have_numbers : InstancesHaveNumbers
instances_have_numbers xs Zero = tt
instances_have_numbers xs (Pay a p q) = tt
instances_have_numbers xs (Both a b) = (instances_have_numbers xs a, instances_have_numbers xs b)
instances_have_numbers xs (Scale e c) = instances_have_numbers xs c
instances_have_numbers xs (After n c) = (count_is_number xs n, instances_have_numbers xs c)
instances_have_numbers xs (Let e c) = instances_have_numbers xs c
instances_have_numbers xs (Within e n a b) = (count_is_number xs n, instances_have_numbers xs a, instances_have_numbers xs b)

count_is_declared : (d : Declarations) (xs : List ℕ) (n : Days) → IsDeclared d (with_number xs n)
count_is_declared d xs (Count n) = tt
count_is_declared d xs (Named t) = tt
count_is_declared d xs (Sum n ts) = tt

pub instances_well_formed : InstancesAreWellFormed
instances_well_formed d k xs Zero h = tt
instances_well_formed d k xs (Pay a p q) h = h
instances_well_formed d k xs (Both a b) h = (instances_well_formed d k xs a h.0, instances_well_formed d k xs b h.1)
instances_well_formed d k xs (Scale e c) h = (h.0, instances_well_formed d k xs c h.1)
instances_well_formed d k xs (After n c) h = (count_is_declared d xs n, instances_well_formed d k xs c h.1)
instances_well_formed d k xs (Let e c) h = (h.0, instances_well_formed d (k + 1) xs c h.1)
instances_well_formed d k xs (Within e n a b) h =
    (h.0, count_is_declared d xs n, instances_well_formed d k xs a h.2, instances_well_formed d k xs b h.3)

count_has_number : (d : Declarations) (xs : List ℕ) (n : Days) → IsDeclared d n → length xs ≡ length d.templates → HasNumber xs n
count_has_number d xs (Count n) h e = tt
count_has_number d xs (Named t) h e = subst (λ (m : ℕ). t < m) (sym e) h
count_has_number d xs (Sum n ts) h e = subst (λ (m : ℕ). AreBelow m ts) (sym e) h

pub settings_suit : SettingsSuit
settings_suit d k xs Zero h e = tt
settings_suit d k xs (Pay a p q) h e = tt
settings_suit d k xs (Both a b) h e = (settings_suit d k xs a h.0 e, settings_suit d k xs b h.1 e)
settings_suit d k xs (Scale f c) h e = settings_suit d k xs c h.1 e
settings_suit d k xs (After n c) h e = (count_has_number d xs n h.0 e, settings_suit d k xs c h.1 e)
settings_suit d k xs (Let f c) h e = settings_suit d (k + 1) xs c h.1 e
settings_suit d k xs (Within f n a b) h e =
    (count_has_number d xs n h.1 e, settings_suit d k xs a h.2 e, settings_suit d k xs b h.3 e)

numbers_length : (ts : List (Name × ℕ)) → length (map (λ entry. entry.1) ts) ≡ length ts
numbers_length [] = refl
numbers_length (t ∷ ts) = ap (λ (n : ℕ). suc n) (numbers_length ts)

pub defaults_suit : DefaultsSuit
defaults_suit d = numbers_length d.templates

-- what is added up at a setting of small numbers is small
pub sum_small : (xs ts : List ℕ) → IsSetting xs → sum_at xs ts ≤ length ts * 100_000
sum_small xs [] h = omega arith
sum_small xs (t ∷ ts) h = omega (arith, h t, sum_small xs ts h)
