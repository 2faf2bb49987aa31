-- The laws of instances: an instance has numbers for all its day counts, is well formed where the contract is, and each
-- well-formed contract has one at every setting with a number for each template, the defaults among them.
use Rattle.std.specs.Prelude.{ℕ, ◌≡◌, List, length}
use Rattle.term_model.specs.Declarations.{Declarations}
use Rattle.term_model.specs.Terms.{Contract}
use Rattle.term_model.specs.WellFormed.{IsWellFormedContract, HasOnlyNumbers}
use Rattle.term_model.specs.Instances.{instance, HasNumbers, declared_numbers}

abbrev pub InstancesHaveNumbers : Type 0
InstancesHaveNumbers = (xs : List ℕ) (c : Contract) → HasOnlyNumbers (instance xs c)

abbrev pub InstancesAreWellFormed : Type 0
InstancesAreWellFormed =
    (d : Declarations) (k : ℕ) (xs : List ℕ) (c : Contract) → IsWellFormedContract d k c → IsWellFormedContract d k (instance xs c)

abbrev pub SettingsSuit : Type 0
SettingsSuit =
    (d : Declarations) (k : ℕ) (xs : List ℕ) (c : Contract) → IsWellFormedContract d k c → length xs ≡ length d.templates → HasNumbers xs c

abbrev pub DefaultsSuit : Type 0
DefaultsSuit = (d : Declarations) → length (declared_numbers d) ≡ length d.templates
