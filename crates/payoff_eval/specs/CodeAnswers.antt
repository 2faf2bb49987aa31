-- What the call for a value answers: the value of code at a base, at nine decimals more than the portfolio's, in every
-- environment that extends the fixings; or the first place that it reads and that is not fixed, exactly where there is one.
use Rattle.std.specs.Prelude.{ℕ, ℤ, pos, ◌≡◌, ◌+◌, ◌-◌, List, [], Option, Some, None, Result, Ok, Err, IfOk}
use Rattle.decimal.specs.Rounding.{raised}
use Rattle.term_model.specs.Declarations.{Declarations}
use Rattle.term_model.specs.declared.values.Missing.{Missing}
use Rattle.term_model.specs.Environments.{Environment, Place, Extends}
use Rattle.term_model.specs.Reads.{first_unfixed}
use Rattle.interval_check.specs.Safety.{IsSmall}
use Rattle.expr_eval.specs.Standing.{place_of}
use Rattle.payoff_terms.specs.Code.{PayoffCode}
use Rattle.payoff_terms.specs.CodeBooks.{CodeBook}
use Rattle.payoff_terms.specs.CodeValues.{Asked, code_value, scale_of_code}
use Rattle.payoff_terms.specs.CodeReads.{reads_of_code}

-- the value of closed code, at nine decimals more than the portfolio's
abbrev pub aligned_value : Declarations → PayoffCode → Environment → List ℕ → Asked → ℤ → ℤ
aligned_value d k env xs a b = raised (code_value d k [] env xs a b) (d.amounts + 9 - scale_of_code d k [])

-- the place that an answer lacks
abbrev pub lacked_place : Result ℤ Missing → Option Place
lacked_place (Ok m) = None
lacked_place (Err m) = Some (place_of m)

pub record IsCodeValue (d : Declarations) (k : PayoffCode) (xs : List ℕ) (fixings : Environment) (a : Asked) (b : ℤ)
    (r : Result ℤ Missing) : Type 0 where
  pub value : IfOk r (λ m. (env : Environment) → Extends fixings env → aligned_value d k env xs a b ≡ m)
  pub missing : lacked_place r ≡ first_unfixed fixings (reads_of_code d k [] [] fixings xs a b)

-- of a code file, whose base is the start of its declarations
abbrev pub IsValueOf : CodeBook → List ℕ → Environment → Asked → Result ℤ Missing → Type 0
IsValueOf b xs fixings a r = IsCodeValue b.declarations b.code xs fixings a (pos b.declarations.start) r

-- the answer to a question: such a value, which is at most a mantissa in size
pub record AnswersValue (b : CodeBook) (xs : List ℕ) (fixings : Environment) (a : Asked) (r : Result ℤ Missing) : Type 0 where
  pub value : IsValueOf b xs fixings a r
  pub small : IfOk r IsSmall
