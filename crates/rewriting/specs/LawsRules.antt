-- The rules on sorts, scales and bounds do not see whether a name stands for a literal or the literal stands itself; and a
-- name that is not used may go.
use Rattle.std.specs.Prelude.{ℕ, ◌≡◌, true, List, slice_get}
use Rattle.term_model.specs.Declarations.{Declarations}
use Rattle.term_model.specs.Terms.{Expression, Contract}
use Rattle.term_model.specs.Redexes.{uses, uses_in_contract}
use Rattle.term_model.specs.Bounds.{Range, range_kinds, interval_of, interval_of_range, total_of}
use Rattle.interval_check.specs.Nodes.{MeetsRules, ContractMeetsRules}
use Rattle.rewriting.specs.LawsNames.{HasKindOf}
use Rattle.rewriting.specs.Substituting.{substituted, substituted_in, without}

-- x meets the rules by itself, and has the kind and the interval of the name at j
pub record IsRangeOf (d : Declarations) (x : Expression) (g : List Range) (j : ℕ) : Type 0 where
  pub rules : (h : List Range) → MeetsRules d x h
  pub kind : HasKindOf d x (range_kinds g) j
  pub interval : (h : List Range) → interval_of d x h ≡ interval_of_range (slice_get g j)

abbrev pub RulesWithoutName : Type 0
RulesWithoutName =
    (d : Declarations) (e : Expression) (j : ℕ) (x : Expression) (g : List Range)
    → (uses j e ≡ true → IsRangeOf d x g j) → MeetsRules d e g → MeetsRules d (substituted j x e) (without j g)

abbrev pub ContractRulesWithoutName : Type 0
ContractRulesWithoutName =
    (d : Declarations) (c : Contract) (j : ℕ) (x : Expression) (g : List Range)
    → (uses_in_contract j c ≡ true → IsRangeOf d x g j) → ContractMeetsRules d c g
    → ContractMeetsRules d (substituted_in j x c) (without j g) × (total_of d (substituted_in j x c) (without j g) ≡ total_of d c g)
