-- What the commands are asked for: `check` of a portfolio's file; `flows` of a portfolio's file, over the fixings of another
-- file where one is named, up to a day where a word gives one, of one contract where its name is given, and with the flows of
-- all contracts summed where that is asked; `positions` and `settle` of a portfolio's file, over fixings and up to a day in the
-- same way; `advance` of a portfolio's file, over the fixings of another, to the day of a word, and `novate` with a new party for
-- an old one in the contract of a name; `payoff` of the contract of a name in a portfolio's file, with its payments uncut where
-- that is asked; `value` of a code file, over the fixings and the discount factors of two others, and `scenarios` over a table of
-- scenarios in the place of the fixings; `migrate` of a portfolio's file; `expand` of a schedule file; and `sample` of a number of
-- contracts, which has no file.
use Rattle.std.specs.Prelude.{ℕ, ◌≤◌, Bool, List, [], ◌∷◌, Option, Some, None}
use Rattle.std.specs.List.{All}
use Rattle.decimal.specs.declared.rounding.Mode.{Mode}

pub record FlowsAsked : Type 0 where
  pub portfolio : List ℕ
  pub fixings : Option (List ℕ)
  pub until : Option (List ℕ)
  pub contract : Option (List ℕ)
  pub net : Bool

pub record AdvanceAsked : Type 0 where
  pub portfolio : List ℕ
  pub fixings : List ℕ
  pub to : List ℕ

pub record PayoffAsked : Type 0 where
  pub portfolio : List ℕ
  pub contract : List ℕ
  pub plain : Bool

-- numbers that are set for templates by their names, each of at most 100,000
abbrev pub AreSettings : List (List ℕ × ℕ) → Type 0
AreSettings settings = All (λ setting. setting.1 ≤ 100_000) settings

-- the files of `value`: payoff code, fixings and discount factors
pub record ValueFiles : Type 0 where
  pub code : List ℕ
  pub fixings : List ℕ
  pub curve : List ℕ

-- from which party to which, and in which asset
pub record Between : Type 0 where
  pub from : List ℕ
  pub to : List ℕ
  pub asset : List ℕ

-- `value` of a code file: on the day of a word, between two parties, at the numbers that words set for templates
pub record ValueAsked : Type 0 where
  pub files : ValueFiles
  pub at : List ℕ
  pub between : Between
  pub settings : List (List ℕ × ℕ)

-- `positions` or `settle` of a portfolio's file, over the fixings of another file where one is named, up to a day where a word
-- gives one
pub record NettingAsked : Type 0 where
  pub portfolio : List ℕ
  pub fixings : Option (List ℕ)
  pub until : Option (List ℕ)

-- `advance` with the name of a contract in which a new party takes the place of an old one
pub record NovateAsked : Type 0 where
  pub advance : AdvanceAsked
  pub contract : List ℕ
  pub old : List ℕ
  pub new : List ℕ

-- `value` in each scenario of a table, which stands in the place of the fixings, with the mode that rounds the mean
pub record ScenariosAsked : Type 0 where
  pub value : ValueAsked
  pub mean : Mode

-- what words ask for
pub data Request : Type 0 where
  Check : List ℕ → Request
  Flows : FlowsAsked → Request
  Advance : AdvanceAsked → Request
  Payoff : PayoffAsked → Request
  Value : ValueAsked → Request
  Migrate : List ℕ → Request
  Expand : List ℕ → Request
  Sample : ℕ → Request
  Positions : NettingAsked → Request
  Settle : NettingAsked → Request
  Novate : NovateAsked → Request
  Scenarios : ScenariosAsked → Request

-- the file that a word names, if there is such a word
abbrev pub file_if_named : Option (List ℕ) → List (List ℕ)
file_if_named None = []
file_if_named (Some file) = file ∷ []

-- the files of a request, in the order in which they are read
abbrev pub files_of : Request → List (List ℕ)
files_of (Check portfolio) = portfolio ∷ []
files_of (Flows flows) = flows.portfolio ∷ file_if_named flows.fixings
files_of (Advance advance) = advance.portfolio ∷ advance.fixings ∷ []
files_of (Payoff payoff) = payoff.portfolio ∷ []
files_of (Value value) = value.files.code ∷ value.files.fixings ∷ value.files.curve ∷ []
files_of (Migrate portfolio) = portfolio ∷ []
files_of (Expand plans) = plans ∷ []
files_of (Sample contracts) = []
files_of (Positions netting) = netting.portfolio ∷ file_if_named netting.fixings
files_of (Settle netting) = netting.portfolio ∷ file_if_named netting.fixings
files_of (Novate novate) = novate.advance.portfolio ∷ novate.advance.fixings ∷ []
files_of (Scenarios scenarios) = scenarios.value.files.code ∷ scenarios.value.files.fixings ∷ scenarios.value.files.curve ∷ []
