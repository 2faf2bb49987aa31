-- Code over two tables of fixings that hold the same: its first read that is not fixed is the same, and so is its value.
use Rattle.std.proofs.Common.{◌≡◌, ◌∙◌, ℕ, ℤ, pos, List, [], ap, sym}
use Rattle.term_model.specs.Declarations.{Declarations}
use Rattle.term_model.specs.Environments.{Environment, Extends, Place}
use Rattle.term_model.specs.Reads.{first_unfixed, is_fixed, up_to_first}
use Rattle.term_model.proofs.ReadLawFacts.{extension_reads, no_names}
use Rattle.payoff_terms.specs.Code.{PayoffCode}
use Rattle.payoff_terms.specs.CodeBooks.{CodeBook}
use Rattle.payoff_terms.specs.CodeReads.{reads_of_code}
use Rattle.payoff_terms.specs.CodeValues.{Asked as Question}
use Rattle.payoff_terms.proofs.CodeAlikeFacts.{code_alike}
use Rattle.valuation_commands.specs.ValuePromise.{IsValue, missing_of_code}
use Rattle.command_courses.proofs.FixingFacts.{HoldSame, extends_same, same_unfixed, unfixed_up_to}

-- code reads the same in an environment that extends fixings, up to the first place that they do not hold
code_reads_stay : (d : Declarations) (k : PayoffCode) (fixings env : Environment) (xs : List ℕ) (a : Question) (b : ℤ) → Extends fixings env
    → up_to_first (is_fixed fixings) (reads_of_code d k [] [] env xs a b) ≡ up_to_first (is_fixed fixings) (reads_of_code d k [] [] fixings xs a b)
code_reads_stay d k fixings env xs a b x =
    (code_alike d (is_fixed fixings) env fixings (extension_reads d fixings env x) k [] [] [] [] (no_names (is_fixed fixings)) xs a b).lists

pub same_missing_of_code : (d : Declarations) (k : PayoffCode) (xs : List ℕ) (a : Question) (one other : Environment) → HoldSame one other
    → missing_of_code d k xs one a ≡ missing_of_code d k xs other a
same_missing_of_code d k xs a one other same =
    let reads : Environment → List Place = λ env. reads_of_code d k [] [] env xs a (pos d.start) in
    unfixed_up_to one (reads one)
    ∙ ap (first_unfixed one) (sym (code_reads_stay d k one other xs a (pos d.start) (extends_same one other same)))
    ∙ sym (unfixed_up_to one (reads other))
    ∙ same_unfixed one other same (reads other)

-- two values of code over such fixings are equal: both are its value in the one environment of the two
pub same_value : (b : CodeBook) (xs : List ℕ) (a : Question) (one other : Environment) → HoldSame one other → (m n : ℤ)
    → IsValue b xs one a m → IsValue b xs other a n → m ≡ n
same_value b xs a one other same m n h k = sym (h one (λ q v e. e)) ∙ k one (λ q v e. same q ∙ e)
