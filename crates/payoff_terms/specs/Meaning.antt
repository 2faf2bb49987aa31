-- Code means a contract if, at every setting at which the contract is accepted, whatever is observed, on every day, and
-- for every pair of parties and asset, its value is that of the contract, and it reads no place that the contract does
-- not read from some own day on (the soundness statement of Annenkov and Elsman, PPDP 2018). Cut code counts what is left
-- to pay, and plain code what is gone by as well, at face value.
use Rattle.std.specs.Prelude.{ℕ, ℤ, pos, ◌+◌, ◌-◌, ◌-ℤ◌, ◌<◌, ◌≤ℤ◌, ◌≡◌, List, [], length, Contains}
use Rattle.decimal.specs.Rounding.{raised}
use Rattle.term_model.specs.Declarations.{Declarations}
use Rattle.term_model.specs.Terms.{Contract}
use Rattle.term_model.specs.Environments.{Environment, Place, IsAdmitted}
use Rattle.term_model.specs.Factors.{IsCurve}
use Rattle.term_model.specs.Instances.{instance, IsSetting}
use Rattle.term_model.specs.Acceptance.{IsAccepted}
use Rattle.term_model.specs.Reads.{reads_of_contract}
use Rattle.payoff_terms.specs.CodeValues.{Asked, scale_of_code, code_value}
use Rattle.payoff_terms.specs.CodeReads.{reads_of_code}
use Rattle.payoff_terms.specs.PresentValues.{present_value}
use Rattle.payoff_terms.specs.Code.{PayoffCode}

-- payments gone by count nothing, or their face value
pub data Counting : Type 0 where
  Remaining : Counting
  Everything : Counting

-- 1, at the nine decimals of factors
abbrev pub face_value : ℤ
face_value = pos 1_000_000_000

abbrev pub of_past : Counting → ℤ
of_past Remaining = pos 0
of_past Everything = face_value

-- the same question, with another worth of payments gone by
abbrev pub counting : ℤ → Asked → Asked
counting w a = record { now = a.now; curve = a.curve; gone = w; flow = a.flow }

-- the first own day whose reads count
abbrev pub first_day : Counting → Declarations → ℤ → ℤ
first_day Remaining d now = now -ℤ pos d.start
first_day Everything d now = pos 0

-- what may be asked of code that means a contract: a setting, which has a number of at most 100,000 days for each
-- template, at which the contract is accepted, an admitted environment, a curve, a day from the start on, and parties and
-- an asset that are declared
pub record MayBeAsked (d : Declarations) (c : Contract) (xs : List ℕ) (env : Environment) (a : Asked) : Type 0 where
  pub setting : length xs ≡ length d.templates
  pub small : IsSetting xs
  pub accepted : IsAccepted d (instance xs c)
  pub admitted : IsAdmitted d env
  pub curve : IsCurve a.curve
  pub begun : pos d.start ≤ℤ a.now
  pub near : a.now ≤ℤ pos 1_100_000
  pub payer : a.flow.from < length d.parties
  pub receiver : a.flow.to < length d.parties
  pub asset : a.flow.asset < length d.assets

-- the code's value at the start, at nine decimals more than amounts, is the contract's value
abbrev pub IsWorth : Declarations → PayoffCode → Contract → Counting → Type 0
IsWorth d k c v =
    (xs : List ℕ) (env : Environment) (a : Asked) → MayBeAsked d c xs env a
    → raised (code_value d k [] env xs (counting face_value a) (pos d.start)) (d.amounts + 9 - scale_of_code d k [])
    ≡ present_value d (instance xs c) env (pos d.start) (counting (of_past v) a)

-- and the code reads what the contract reads from a first own day on, and no other place
abbrev pub ReadsNoMore : Declarations → PayoffCode → Contract → Counting → Type 0
ReadsNoMore d k c v =
    (xs : List ℕ) (env : Environment) (a : Asked) → MayBeAsked d c xs env a
    → (q : Place) → Contains (reads_of_code d k [] [] env xs (counting face_value a) (pos d.start)) q
    → Contains (reads_of_contract d (instance xs c) [] [] env (pos d.start) (first_day v d a.now) (pos 100_000)) q

pub record CodeMeans (d : Declarations) (k : PayoffCode) (c : Contract) (v : Counting) : Type 0 where
  pub values : IsWorth d k c v
  pub reads : ReadsNoMore d k c v
