-- The laws of the code of contracts and of its cut code, and of the values of code.
use Rattle.std.specs.Prelude.{ℕ, ℤ, ◌≡◌, List, [], None}
use Rattle.term_model.specs.Declarations.{Declarations}
use Rattle.term_model.specs.Environments.{Environment, Extends}
use Rattle.term_model.specs.Reads.{first_unfixed}
use Rattle.term_model.specs.WellFormed.{IsClosed}
use Rattle.payoff_terms.specs.Code.{PayoffCode}
use Rattle.payoff_terms.specs.CodeValues.{Asked, code_value}
use Rattle.payoff_terms.specs.CodeReads.{reads_of_code}
use Rattle.term_model.specs.Terms.{Contract}
use Rattle.payoff_terms.specs.Compiled.{code_of, cut_code}
use Rattle.payoff_terms.specs.Meaning.{CodeMeans, Remaining, Everything}
use Rattle.payoff_terms.specs.WellFormedCode.{IsClosedCode}
use Rattle.payoff_terms.specs.PrintableCode.{IsPrintableCode}
use Rattle.payoff_terms.specs.WritableCode.{IsWritableCode}

abbrev pub CompiledCodeMeans : Type 0
CompiledCodeMeans = (d : Declarations) (c : Contract) → CodeMeans d (code_of c) c Everything

abbrev pub CutCodeMeans : Type 0
CutCodeMeans = (d : Declarations) (c : Contract) → CodeMeans d (cut_code (code_of c)) c Remaining

abbrev pub CodeIsWellFormed : Type 0
CodeIsWellFormed =
    (d : Declarations) (c : Contract) → IsClosed d c → IsClosedCode d (code_of c) × IsClosedCode d (cut_code (code_of c))

-- where no place that code reads is unfixed, its value is that of the fixings in every environment that extends them
abbrev pub CodeValuesAreFixed : Type 0
CodeValuesAreFixed =
    (d : Declarations) (k : PayoffCode) (fixings env : Environment) (xs : List ℕ) (a : Asked) (b : ℤ) → Extends fixings env
    → first_unfixed fixings (reads_of_code d k [] [] fixings xs a b) ≡ None
    → code_value d k [] env xs a b ≡ code_value d k [] fixings xs a b

-- what a text can stand for can be printed
abbrev pub PrintableIsWritable : Type 0
PrintableIsWritable = (d : Declarations) (k : PayoffCode) → IsPrintableCode d k → IsWritableCode k
