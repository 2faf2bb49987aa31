-- Parts of a contract that are handed on as they are: no part reduces, and nothing that is read on a known frame is fixed.
-- Under a name that is bound nothing is handed on.
use Rattle.std.specs.Prelude.{ℕ, ℤ, pos, ◌+ℤ◌, ◌-ℤ◌, ◌-◌, ◌≡◌, ◌≤◌, ◌&&◌, ◌||◌, not, min, nat_le, if◌then◌else◌, Bool, true, false, Option, Some, None, suc, []}
use Rattle.term_model.specs.Declarations.{Declarations}
use Rattle.term_model.specs.DayCounts.{Num as Count}
use Rattle.term_model.specs.Terms.{Expression, Lit, Yes, Var, Obs, Neg, Num, Cmp, Not, Logic, Cond, Widen, Round, Div, Acc}
use Rattle.term_model.specs.Terms.{Contract, Zero, Pay, Both, Scale, After, Let, Within}
use Rattle.term_model.specs.Environments.{Environment, Extends}
use Rattle.term_model.specs.Values.{first_true}
use Rattle.term_model.specs.Flows.{count_of}
use Rattle.term_model.specs.Reads.{is_fixed}
use Rattle.term_model.specs.Redexes.{is_literal, is_fixed_at, is_zero_literal, moved}
use Rattle.term_model.specs.Sizes.{reach}
use Rattle.simplify.specs.TurningContracts.{is_later, is_nothing}
use Rattle.advance_step.specs.WhatIsLeft.{both_left, delayed}

-- an expression on a day reads a place that is not fixed, whatever it comes to; in no accumulator
abbrev pub lacks : Environment → ℤ → Expression → Bool
lacks F f (Obs l t) = not (is_fixed F (record { label = l; day = f +ℤ t }))
lacks F f (Neg e) = lacks F f e
lacks F f (Num op a b) = lacks F f a || lacks F f b
lacks F f (Cmp op a b) = lacks F f a || lacks F f b
lacks F f (Not e) = lacks F f e
lacks F f (Logic op a b) = lacks F f a
lacks F f (Cond t a b) = lacks F f t
lacks F f (Widen s e) = lacks F f e
lacks F f (Round mode s e) = lacks F f e
lacks F f (Div mode s a b) = lacks F f a || lacks F f b
lacks F f _ = false

-- an accumulator does so, at its start or on its first day; where its frame is not known it need not
abbrev pub is_open : Environment → Option ℤ → Expression → ℕ → Expression → Bool
is_open F None body n first = true
is_open F (Some f) body n first = lacks F (f -ℤ pos n) first || lacks F ((f -ℤ pos n) +ℤ pos 1) body

-- no part is a redex, what is observed on a known frame is not fixed there, and each accumulator is open
abbrev pub IsSettled : Environment → Option ℤ → Expression → Type 0
IsSettled F o (Lit m s) = Unit {0}
IsSettled F o (Yes b) = Unit {0}
IsSettled F o (Var back) = Unit {0}
IsSettled F o (Obs l t) = is_fixed_at F o l t ≡ false
IsSettled F o (Neg e) = (is_literal e ≡ false) × IsSettled F o e
IsSettled F o (Num op a b) = ((is_literal a && is_literal b) ≡ false) × IsSettled F o a × IsSettled F o b
IsSettled F o (Cmp op a b) = ((is_literal a && is_literal b) ≡ false) × IsSettled F o a × IsSettled F o b
IsSettled F o (Not e) = (is_literal e ≡ false) × IsSettled F o e
IsSettled F o (Logic op a b) = (is_literal a ≡ false) × IsSettled F o a × IsSettled F o b
IsSettled F o (Cond t a b) = (is_literal t ≡ false) × IsSettled F o t × IsSettled F o a × IsSettled F o b
IsSettled F o (Widen s e) = (is_literal e ≡ false) × IsSettled F o e
IsSettled F o (Round mode s e) = (is_literal e ≡ false) × IsSettled F o e
IsSettled F o (Div mode s a b) = ((is_literal a && is_literal b) ≡ false) × IsSettled F o a × IsSettled F o b
IsSettled F o (Acc body n first) =
    (1 ≤ n) × (is_open F o body n first ≡ true) × IsSettled F None body × IsSettled F (moved (pos 0 -ℤ pos n) o) first

-- a contract on a frame that is known or not
abbrev pub Stays : Environment → Option ℤ → Contract → Type 0
Stays F o Zero = Unit {0}
Stays F o (Pay a p q) = Unit {0}
Stays F o (Both a b) = (is_nothing a ≡ false) × (is_nothing b ≡ false) × Stays F o a × Stays F o b
Stays F o (Scale e c) = (is_zero_literal e ≡ false) × (is_nothing c ≡ false) × IsSettled F o e × Stays F o c
Stays F o (After n c) =
    (1 ≤ count_of n) × (is_later c ≡ false) × (is_nothing c ≡ false) × Stays F (moved (pos (count_of n)) o) c
Stays F o (Let e c) = ⊥
Stays F o (Within e n a b) =
    (is_literal e ≡ false) × ((is_nothing a && is_nothing b) ≡ false) × IsSettled F None e × Stays F None a
    × Stays F (moved (pos (count_of n)) o) b

-- one claim where a test holds, and the other where it does not
abbrev pub Either : Bool → Type 0 → Type 0 → Type 0
Either true A B = A
Either false A B = B

-- a test is false on days 0 to n from day f on, whatever more is fixed
abbrev pub IsFalseUpTo : Declarations → Expression → Environment → ℤ → ℕ → Type 0
IsFalseUpTo d e F f n = (env : Environment) → Extends F env → first_true d e [] env f n ≡ None

-- of a contract that stands on day f: what stands on that day and the j days behind it is gone then, and what stands later
-- stays
abbrev pub StaysBehind : Environment → Contract → ℤ → ℕ → Type 0
StaysBehind F Zero f j = Unit {0}
StaysBehind F (Pay a p q) f j = Unit {0}
StaysBehind F (Both a b) f j = StaysBehind F a f j × StaysBehind F b f j
StaysBehind F (Scale e c) f j = reach c ≤ j
StaysBehind F (Let e c) f j = reach c ≤ j
StaysBehind F (After m c) f j =
    Either (nat_le (count_of m) j) (StaysBehind F c (f +ℤ pos (count_of m)) (j - count_of m))
    ((is_later c ≡ false) × (is_nothing c ≡ false) × Stays F (Some (f +ℤ pos (count_of m))) c)
StaysBehind F (Within e m a b) f j =
    Either (nat_le (count_of m) j) (StaysBehind F b (f +ℤ pos (count_of m)) (j - count_of m))
    (Stays F (Some (f +ℤ pos (suc j))) (Within e (Count (count_of m - suc j)) a b))

-- and the tests that are tried on these days are false on them
abbrev pub AreFalseOn : Declarations → Environment → Contract → ℤ → ℕ → Type 0
AreFalseOn d F (Both a b) f j = AreFalseOn d F a f j × AreFalseOn d F b f j
AreFalseOn d F (After m c) f j =
    Either (nat_le (count_of m) j) (AreFalseOn d F c (f +ℤ pos (count_of m)) (j - count_of m)) (Unit {0})
AreFalseOn d F (Within e m a b) f j =
    IsFalseUpTo d e F f (min (count_of m) j)
    × Either (nat_le (count_of m) j) (AreFalseOn d F b (f +ℤ pos (count_of m)) (j - count_of m)) (Unit {0})
AreFalseOn d F _ f j = Unit {0}

-- so it is handed on over j days more
abbrev pub IsHandedOn : Declarations → Environment → Contract → ℤ → ℕ → Type 0
IsHandedOn d F c f j = StaysBehind F c f j × AreFalseOn d F c f j

-- what is left of it, by its form alone
abbrev pub handed : Contract → ℕ → Contract
handed Zero j = Zero
handed (Pay a p q) j = Zero
handed (Both a b) j = both_left (handed a j) (handed b j)
handed (Scale e c) j = Zero
handed (Let e c) j = Zero
handed (After m c) j = if nat_le (count_of m) j then handed c (j - count_of m) else delayed (count_of m - suc j) c
handed (Within e m a b) j =
    if nat_le (count_of m) j then handed b (j - count_of m) else Within e (Count (count_of m - suc j)) a b
