-- The single payments of a contract up to a last day, on the path that its tests choose: each transfer between two
-- different parties, on its day and times the factors round it, before any is netted against another. Amounts are in
-- units of so many decimals: a part of a contract has those of the whole less the decimals of the factors round it.
use Rattle.std.specs.Prelude.{ℕ, ℤ, pos, neg_ℤ, ◌+ℤ◌, ◌*ℤ◌, ◌-◌, ◌^◌, ◌≤◌, ◌==◌, ◌||◌, unsigned_abs, int_lt, nat_lt, min, max, map, Bool, true, false, List, [], ◌∷◌, ◌++◌, Some, None, if◌then◌else◌}
use Rattle.std.specs.List.{All}
use Rattle.decimal.specs.Rounding.{raised}
use Rattle.term_model.specs.Declarations.{Declarations}
use Rattle.term_model.specs.Terms.{Contract, Zero, Pay, Both, Scale, After, Let, Within}
use Rattle.term_model.specs.Environments.{Environment}
use Rattle.term_model.specs.Kinds.{scale_of}
use Rattle.term_model.specs.Values.{Entry, kinds, num, value_of, first_true}
use Rattle.term_model.specs.Flows.{count_of}
use Rattle.interval_check.specs.Sums.{entry_of}
use Rattle.flow_eval.specs.declared.payments.Payment.{Payment}
use Rattle.flow_eval.specs.declared.payments.Transfer.{Transfer}

-- a transfer between two parties, seen from the lower one
abbrev pub payment_on : ℤ → Transfer → ℤ → Payment
payment_on day t m =
    record {
      slot = record { day = day; asset = t.asset; lower = min t.from t.to; higher = max t.from t.to };
      amount = if nat_lt t.from t.to then m else neg_ℤ m;
    }

-- an amount of which as many as a contract has payments can be added up
abbrev pub HasRoomToSum : ℤ → Type 0
HasRoomToSum m = unsigned_abs m ≤ 10 ^ 30

-- the payment of an amount, if it counts
abbrev pub paid : ℤ → ℤ → Transfer → ℤ → List Payment
paid last day t m = if int_lt last day || (t.from == t.to) then [] else payment_on day t m ∷ []

-- a payment times a factor
abbrev pub times : ℤ → Payment → Payment
times v p = record p { amount = p.amount *ℤ v }

abbrev pub CanBeMultiplied : ℤ → List Payment → Type 0
CanBeMultiplied v ps = All (λ p. HasRoomToSum (p.amount *ℤ v)) ps

abbrev pub multiplied : ℤ → List Payment → List Payment
multiplied v ps = map (times v) ps

abbrev pub some_paid : List Payment → Bool
some_paid [] = false
some_paid (p ∷ ps) = true

-- the payments up to the last day of a contract on frame f, at so many decimals
abbrev pub payments_of : Declarations → ℕ → Contract → List Entry → Environment → ℤ → ℤ → List Payment
payments_of d decimals Zero g env f last = []
payments_of d decimals (Pay a p q) g env f last = paid last f (record { asset = a; from = p; to = q }) (raised (pos 1) decimals)
payments_of d decimals (Both x y) g env f last = payments_of d decimals x g env f last ++ payments_of d decimals y g env f last
payments_of d decimals (Scale e c) g env f last =
    multiplied (num (value_of d e g env f)) (payments_of d (decimals - scale_of d e (kinds g)) c g env f last)
payments_of d decimals (After n c) g env f last = payments_of d decimals c g env (f +ℤ pos (count_of n)) last
payments_of d decimals (Let e c) g env f last = payments_of d decimals c (entry_of d e g env f ∷ g) env f last
payments_of d decimals (Within e n x y) g env f last =
    elim (first_true d e g env f (count_of n)) [
      | Some k ↦ payments_of d decimals x g env (f +ℤ pos k) last
      | None ↦ payments_of d decimals y g env (f +ℤ pos (count_of n)) last
    ]
