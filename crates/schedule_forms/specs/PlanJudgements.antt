-- What one token is where a plan expects what no portfolio has, or the kind of its fault: a number from 1 on, a number of
-- payments that end in time, and a declared observable of a sort.
use Rattle.std.specs.Prelude.{ℕ, zero, suc, ◌+◌, ◌-◌, ◌*◌, Bool, true, false, Option, Some, Result, Ok, Err, nat_le, if◌then◌else◌}
use Rattle.std.specs.Map.{keys_of}
use Rattle.term_model.specs.Declarations.{Declarations}
use Rattle.term_model.specs.Environments.{label_of}
use Rattle.term_model.specs.declared.label.Label.{Label}
use Rattle.term_model.specs.declared.label.Label.TheVariants.{Number as NumberLabel, Flag}
use Rattle.contract_grammar.specs.Tokens.{Tok}
use Rattle.contract_grammar.specs.Judgements.{integer_at, use_at}
use Rattle.contract_grammar.specs.declared.faults.TextKind.{TextKind}
use Rattle.contract_grammar.specs.declared.faults.TextKind.TheVariants.{Number, Unknown}

-- not 0
abbrev pub from_one : Result ℕ TextKind → Result ℕ TextKind
from_one (Ok zero) = Err Number
from_one (Ok (suc n)) = Ok (suc n)
from_one (Err kind) = Err kind

-- a number without a point, from 1 up to a greatest
abbrev pub count_at : ℕ → Tok → Result ℕ TextKind
count_at most t = from_one (integer_at most t)

-- so many payments, the first on a day and each so many days after the one before it, end by day 100,000
abbrev pub in_time : ℕ → ℕ → Result ℕ TextKind → Result ℕ TextKind
in_time first every (Ok n) = if nat_le (first + (n - 1) * every) 100_000 then Ok n else Err Number
in_time first every (Err kind) = Err kind

abbrev pub times_at : ℕ → ℕ → ℕ → Tok → Result ℕ TextKind
times_at most first every t = in_time first every (count_at most t)

-- whether an observable is a number, and whether it is a flag
abbrev pub is_number_label : Option Label → Bool
is_number_label (Some (NumberLabel scale low high)) = true
is_number_label _ = false

abbrev pub is_flag_label : Option Label → Bool
is_flag_label (Some Flag) = true
is_flag_label _ = false

-- an observable of a sort, by its index; one of another sort is not known here
abbrev pub of_sort : (Option Label → Bool) → Declarations → Result ℕ TextKind → Result ℕ TextKind
of_sort sort d (Ok i) = if sort (label_of d i) then Ok i else Err Unknown
of_sort sort d (Err kind) = Err kind

-- a declared number, and a declared flag
abbrev pub number_label_at : Declarations → Tok → Result ℕ TextKind
number_label_at d t = of_sort is_number_label d (use_at (keys_of d.labels) t)

abbrev pub flag_at : Declarations → Tok → Result ℕ TextKind
flag_at d t = of_sort is_flag_label d (use_at (keys_of d.labels) t)
