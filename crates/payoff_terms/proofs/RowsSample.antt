-- The sample of the worked rows: parties A and B are 0 and 1, the asset EUR is 0, the observable FX, of 4 decimals from
-- 0.5000 to 2.0000, is label 0, and the template T is 0. Amounts have 2 decimals, so values have 11.
use Rattle.std.proofs.Common.{ℕ, ℤ, pos, ◌-◌, List, [], ◌∷◌, None, codes}
use Rattle.decimal.specs.Rounding.{raised}
use Rattle.term_model.specs.Declarations.{Declarations}
use Rattle.term_model.specs.declared.label.Label.TheVariants.{Number}
use Rattle.term_model.specs.declared.values.Value.TheVariants.{Num as Amount}
use Rattle.term_model.specs.Environments.{Environment}
use Rattle.term_model.specs.Factors.{CurveRow}
use Rattle.payoff_terms.specs.TemplateDates.{Date}
use Rattle.payoff_terms.specs.Code.{PayoffCode}
use Rattle.payoff_terms.specs.CodeValues.{Asked, code_value, scale_of_code}

abbrev pub decls : Declarations
decls =
    record { version = 1; amounts = 2; origin = None; start = 0; parties = codes "A" ∷ codes "B" ∷ codes "C" ∷ []; assets = record { 0 = codes "EUR"; 1 = 2 } ∷ []; labels = record { 0 = codes "FX"; 1 = Number 4 (pos 5000) (pos 20000) } ∷ []; templates = record { 0 = codes "T"; 1 = 90 } ∷ [] }

-- 1 from today on, 0.99 from 90 days on
abbrev pub curve : List CurveRow
curve = record { offset = 0; factor = pos 1_000_000_000 } ∷ record { offset = 90; factor = pos 990_000_000 } ∷ []

-- between A and B in EUR
abbrev pub asked : ℤ → Asked
asked now = record { now = now; curve = curve; gone = pos 1_000_000_000; flow = record { from = 0; to = 1; asset = 0 } }

-- the value with 11 decimals, from A to B in EUR
abbrev pub worth : PayoffCode → Environment → List ℕ → ℤ → ℤ
worth k env xs now = raised (code_value decls k [] env xs (asked now) (pos 0)) (11 - scale_of_code decls k [])

-- a date without templates
abbrev pub days : ℤ → Date
days n = record { days = n; names = [] }

-- FX on a day, and what else is observed
abbrev pub fx : ℤ → ℤ → Environment → Environment
fx day rate rest = record { 0 = record { label = 0; day = day }; 1 = Amount rate } ∷ rest
