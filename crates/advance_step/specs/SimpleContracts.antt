-- Simple contracts, of transfers, sums, waits and factors that are literals, of which no part reduces. What is left of one
-- hangs on nothing that is observed.
use Rattle.std.specs.Prelude.{ℕ, ℤ, pos, ◌≡◌, ◌≤◌, not, Bool, true, false, List}
use Rattle.std.specs.Ordering.{int_eq}
use Rattle.term_model.specs.Declarations.{Declarations}
use Rattle.term_model.specs.Terms.{Expression, Lit, Contract, Pay, Both, Scale, After}
use Rattle.term_model.specs.Environments.{Environment}
use Rattle.term_model.specs.Values.{Entry}
use Rattle.term_model.specs.Flows.{count_of}
use Rattle.simplify.specs.TurningContracts.{is_later}
use Rattle.advance_step.specs.WhatIsLeft.{left_of}

-- a decimal that is not 0
abbrev pub is_factor : Expression → Bool
is_factor (Lit m s) = not (int_eq m (pos 0))
is_factor _ = false

abbrev pub IsReducedSimple : Contract → Type 0
IsReducedSimple (Pay a p q) = Unit {0}
IsReducedSimple (Both a b) = IsReducedSimple a × IsReducedSimple b
IsReducedSimple (Scale e c) = (is_factor e ≡ true) × IsReducedSimple c
IsReducedSimple (After n c) = (1 ≤ count_of n) × (is_later c ≡ false) × IsReducedSimple c
IsReducedSimple _ = ⊥

-- what is left of c after j + 1 days, on whatever day it stands and whatever is observed
abbrev pub IsLeftAnywhere : Contract → ℕ → Contract → Type 0
IsLeftAnywhere c j rest =
    (d : Declarations) (g : List Entry) (env : Environment) (f : ℤ) → rest ≡ left_of d c g env f j
