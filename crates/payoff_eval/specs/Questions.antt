-- What may be asked of a code file whose code is closed and accepted at a setting with a number for each template: what one
-- declared party owes another in a declared asset, on a day from the start on. A payment gone by counts with its face value.
use Rattle.std.specs.Prelude.{ℕ, ℤ, pos, ◌<◌, ◌≤ℤ◌, ◌≡◌, List, length}
use Rattle.term_model.specs.Declarations.{Declarations}
use Rattle.term_model.specs.Factors.{CurveRow}
use Rattle.payoff_terms.specs.CodeAcceptance.{IsAcceptedCode}
use Rattle.payoff_terms.specs.CodeBooks.{CodeBook}
use Rattle.payoff_terms.specs.CodeValues.{Asked}
use Rattle.payoff_terms.specs.Meaning.{face_value}
use Rattle.payoff_terms.specs.WellFormedCode.{IsClosedCode}

abbrev pub asked_on : List CurveRow → ℤ → ℕ → ℕ → ℕ → Asked
asked_on curve at from to asset =
    record { now = at; curve = curve; gone = face_value; flow = record { from = from; to = to; asset = asset } }

pub record IsQuestion (d : Declarations) (a : Asked) : Type 0 where
  pub begun : pos d.start ≤ℤ a.now
  pub near : a.now ≤ℤ pos 1_100_000
  pub payer : a.flow.from < length d.parties
  pub receiver : a.flow.to < length d.parties
  pub asset : a.flow.asset < length d.assets

abbrev pub HasNumberForEach : Declarations → List ℕ → Type 0
HasNumberForEach d xs = length xs ≡ length d.templates

-- the code of a file can be valued at a setting: it is closed, the setting has a number for each template, and the code is
-- accepted there
pub record CanBeValued (b : CodeBook) (xs : List ℕ) : Type 0 where
  pub setting : HasNumberForEach b.declarations xs
  pub closed : IsClosedCode b.declarations b.code
  pub accepted : IsAcceptedCode b.declarations xs b.code
