-- The walk over a contract by fixings, up to a last day: each part on the path taken once, in the order in which it reads,
-- until a place is met that is not fixed. It answers the payments on the path, or that place. Names have values, and the
-- places that these were read from, as in `Reads`.
use Rattle.std.specs.Prelude.{ℕ, suc, ℤ, pos, ◌+ℤ◌, ◌-ℤ◌, ◌-◌, min, int_lt, unsigned_abs, List, [], ◌∷◌, ◌++◌, Option, Some, None, Result, Ok, Err, if◌then◌else◌}
use Rattle.decimal.specs.Rounding.{raised}
use Rattle.term_model.specs.Declarations.{Declarations}
use Rattle.term_model.specs.declared.values.Missing.{Missing}
use Rattle.term_model.specs.Terms.{Contract, Zero, Pay, Both, Scale, After, Let, Within}
use Rattle.term_model.specs.Environments.{Environment, Place}
use Rattle.term_model.specs.Kinds.{scale_of}
use Rattle.term_model.specs.Values.{Entry, kinds, num}
use Rattle.term_model.specs.Flows.{count_of}
use Rattle.term_model.specs.Reads.{reads_of}
use Rattle.interval_check.specs.Sums.{entry_of}
use Rattle.expr_eval.specs.Trials.{DayOrMissing, ValueOrMissing, answer_of, first_tried, missing_at}
use Rattle.flow_eval.specs.declared.payments.Payment.{Payment}
use Rattle.flow_eval.specs.Payments.{multiplied, paid}

-- what comes out where a place may be missing
abbrev pub PaymentsOrMissing : Type 0
PaymentsOrMissing = Result (List Payment) Missing

abbrev pub payments_unless : Option Place → List Payment → PaymentsOrMissing
payments_unless (Some q) ps = Err (missing_at q)
payments_unless None ps = Ok ps

-- the payments of two parts
abbrev pub then_others : PaymentsOrMissing → PaymentsOrMissing → PaymentsOrMissing
then_others (Err m) others = Err m
then_others (Ok ps) (Err m) = Err m
then_others (Ok ps) (Ok qs) = Ok (ps ++ qs)

-- payments times a factor, which is not asked for where there are none
abbrev pub then_factor : PaymentsOrMissing → ValueOrMissing → PaymentsOrMissing
then_factor (Err m) factor = Err m
then_factor (Ok []) factor = Ok []
then_factor (Ok (p ∷ ps)) (Err m) = Err m
then_factor (Ok (p ∷ ps)) (Ok v) = Ok (multiplied (num v) (p ∷ ps))

-- the branch that is entered, if its day has come by the last day
abbrev pub then_branch : DayOrMissing → ℤ → ℤ → ℕ → (ℕ → PaymentsOrMissing) → PaymentsOrMissing → PaymentsOrMissing
then_branch (Err m) last f n hit miss = Err m
then_branch (Ok (Some k)) last f n hit miss = hit k
then_branch (Ok None) last f n hit miss = if int_lt last (f +ℤ pos n) then Ok [] else miss

-- the days on which a test of n days is tried, up to the last day
abbrev pub days_to_try : ℤ → ℤ → ℕ → ℕ
days_to_try last f n = suc (min n (unsigned_abs (last -ℤ f)))

abbrev pub walk_of : Declarations → ℕ → Contract → List Entry → List (List Place) → Environment → ℤ → ℤ → PaymentsOrMissing
walk_of d decimals Zero g bs fixings f last = Ok []
walk_of d decimals (Pay a p q) g bs fixings f last = Ok (paid last f (record { asset = a; from = p; to = q }) (raised (pos 1) decimals))
walk_of d decimals (Both x y) g bs fixings f last = then_others (walk_of d decimals x g bs fixings f last) (walk_of d decimals y g bs fixings f last)
walk_of d decimals (Scale e c) g bs fixings f last =
    then_factor (walk_of d (decimals - scale_of d e (kinds g)) c g bs fixings f last) (answer_of d e g bs fixings f)
walk_of d decimals (After n c) g bs fixings f last = walk_of d decimals c g bs fixings (f +ℤ pos (count_of n)) last
walk_of d decimals (Let e c) g bs fixings f last =
    walk_of d decimals c (entry_of d e g fixings f ∷ g) (reads_of d e g bs fixings f ∷ bs) fixings f last
walk_of d decimals (Within e n x y) g bs fixings f last =
    if int_lt last f then Ok [] else
    then_branch (first_tried (days_to_try last f (count_of n)) (λ i. answer_of d e g bs fixings (f +ℤ pos i))) last f (count_of n)
    (λ k. walk_of d decimals x g bs fixings (f +ℤ pos k) last)
    (walk_of d decimals y g bs fixings (f +ℤ pos (count_of n)) last)
