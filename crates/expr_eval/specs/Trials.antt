-- The days of a test, one after another: the first on which it is true, or the first place that is met before and that is
-- not fixed.
use Rattle.std.specs.Prelude.{ℕ, zero, suc, ℤ, pos, ◌+ℤ◌, ◌<◌, ◌≡◌, List, Option, Some, None, Result, Ok, Err, if◌then◌else◌}
use Rattle.term_model.specs.Declarations.{Declarations}
use Rattle.term_model.specs.declared.values.Value.{Value}
use Rattle.term_model.specs.declared.values.Missing.{Missing}
use Rattle.term_model.specs.Terms.{Expression}
use Rattle.term_model.specs.Environments.{Environment, Place}
use Rattle.term_model.specs.Values.{Entry, truth, value_of}
use Rattle.term_model.specs.Reads.{first_unfixed, reads_of}
use Rattle.expr_eval.specs.declared.scratch.Binding.{Binding}
use Rattle.expr_eval.specs.Standing.{StandFor}

abbrev pub missing_at : Place → Missing
missing_at q = record { label = q.label; day = q.day }

-- what comes out where a place may be missing
abbrev pub ValueOrMissing : Type 0
ValueOrMissing = Result Value Missing

abbrev pub DayOrMissing : Type 0
DayOrMissing = Result (Option ℕ) Missing

abbrev pub value_unless : Option Place → Value → ValueOrMissing
value_unless (Some q) v = Err (missing_at q)
value_unless None v = Ok v

-- the value of an expression over fixings, or its first place that is not fixed
abbrev pub answer_of : Declarations → Expression → List Entry → List (List Place) → Environment → ℤ → ValueOrMissing
answer_of d e g bs fixings f = value_unless (first_unfixed fixings (reads_of d e g bs fixings f)) (value_of d e g fixings f)

-- one day of a test
abbrev pub tried_on : ℕ → ValueOrMissing → DayOrMissing
tried_on n (Err m) = Err m
tried_on n (Ok v) = Ok (if truth v then Some n else None)

abbrev pub or_next : DayOrMissing → ℕ → ValueOrMissing → DayOrMissing
or_next (Err m) n next = Err m
or_next (Ok (Some k)) n next = Ok (Some k)
or_next (Ok None) n next = tried_on n next

-- the first of n days on which a test is true
abbrev pub first_tried : ℕ → (ℕ → ValueOrMissing) → DayOrMissing
first_tried zero answers = Ok None
first_tried (suc n) answers = or_next (first_tried n answers) n (answers n)

-- r is what n days of a test answer, from the day f on, whatever the entries stand for
abbrev pub IsFirstTrue : Declarations → Expression → List Binding → Environment → ℤ → ℕ → DayOrMissing → Type 0
IsFirstTrue d e bs fixings f n r =
    (es : List Entry) (ps : List (List Place)) → StandFor fixings bs es ps
    → r ≡ first_tried n (λ i. answer_of d e es ps fixings (f +ℤ pos i))

-- a day that was found is one of n
abbrev pub IsOneOf : ℕ → Option ℕ → Type 0
IsOneOf n None = Unit {0}
IsOneOf n (Some k) = k < n
