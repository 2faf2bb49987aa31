-- Code over two maps that hold the same: its first read that is not fixed is the same, and so is what it is worth.
use Rattle.std.proofs.Common.{◌≡◌, ◌∙◌, ℕ, ℤ, pos, List, [], ◌∷◌, Bool, true, false, Option, Some, Result, Ok, Err, if◌then◌else◌, refl, ap, sym}
use Rattle.std.specs.Prelude.{is_some}
use Rattle.term_model.specs.Declarations.{Declarations}
use Rattle.term_model.specs.declared.values.Missing.{Missing}
use Rattle.term_model.specs.declared.values.Value.{Value}
use Rattle.term_model.specs.Environments.{Environment, Extends, Place}
use Rattle.term_model.specs.Reads.{first_unfixed, is_fixed, up_to_first}
use Rattle.term_model.proofs.ReadLawFacts.{extension_reads, no_names}
use Rattle.fixing_files.specs.Layers.{HoldSame}
use Rattle.payoff_terms.specs.Code.{PayoffCode}
use Rattle.payoff_terms.specs.CodeBooks.{CodeBook}
use Rattle.payoff_terms.specs.CodeReads.{reads_of_code}
use Rattle.payoff_terms.specs.CodeValues.{Asked}
use Rattle.payoff_terms.proofs.CodeAlikeFacts.{code_alike}
use Rattle.payoff_eval.specs.CodeAnswers.{IsValueOf}

pub extends_same : (one other : Environment) → HoldSame one other → Extends one other
extends_same one other same q v e = sym (same q) ∙ e

up_to_step : (fixings : Environment) (q : Place) (qs : List Place) (b : Bool) → first_unfixed fixings qs ≡ first_unfixed fixings (up_to_first (is_fixed fixings) qs) → (if b then first_unfixed fixings qs else Some q) ≡ (if b then first_unfixed fixings (if b then up_to_first (is_fixed fixings) qs else []) else Some q)
up_to_step fixings q qs true h = h
up_to_step fixings q qs false h = refl

pub unfixed_up_to : (fixings : Environment) (qs : List Place) → first_unfixed fixings qs ≡ first_unfixed fixings (up_to_first (is_fixed fixings) qs)
unfixed_up_to fixings [] = refl
unfixed_up_to fixings (q ∷ qs) = up_to_step fixings q qs (is_fixed fixings q) (unfixed_up_to fixings qs)

pub same_unfixed : (one other : Environment) → HoldSame one other → (qs : List Place) → first_unfixed one qs ≡ first_unfixed other qs
same_unfixed one other same [] = refl
same_unfixed one other same (q ∷ qs) =
    ap (λ (o : Option Value). if is_some o then first_unfixed one qs else Some q) (same q) ∙ ap (λ (r : Option Place). if is_fixed other q then r else Some q) (same_unfixed one other same qs)

reads_stay : (d : Declarations) (k : PayoffCode) (fixings env : Environment) (xs : List ℕ) (a : Asked) (b : ℤ) → Extends fixings env
    → up_to_first (is_fixed fixings) (reads_of_code d k [] [] env xs a b) ≡ up_to_first (is_fixed fixings) (reads_of_code d k [] [] fixings xs a b)
reads_stay d k fixings env xs a b x =
    (code_alike d (is_fixed fixings) env fixings (extension_reads d fixings env x) k [] [] [] [] (no_names (is_fixed fixings)) xs a b).lists

-- the first read that is not fixed is the same
pub same_lacked :
    (d : Declarations) (k : PayoffCode) (xs : List ℕ) (a : Asked) (b : ℤ) (one other : Environment) → HoldSame one other
    → first_unfixed one (reads_of_code d k [] [] one xs a b) ≡ first_unfixed other (reads_of_code d k [] [] other xs a b)
same_lacked d k xs a b one other same =
    let reads : Environment → List Place = λ env. reads_of_code d k [] [] env xs a b in
    unfixed_up_to one (reads one)
    ∙ ap (first_unfixed one) (sym (reads_stay d k one other xs a b (extends_same one other same)))
    ∙ sym (unfixed_up_to one (reads other))
    ∙ same_unfixed one other same (reads other)

-- what is answered over one is what is answered over the other
pub same_answer :
    (b : CodeBook) (xs : List ℕ) (a : Asked) (one other : Environment) (r : Result ℤ Missing) → HoldSame one other
    → IsValueOf b xs one a r → IsValueOf b xs other a r
same_answer b xs a one other (Ok m) same h = record {
  value = λ env x. h.value env (λ q v e. x q v (sym (same q) ∙ e));
  missing = h.missing ∙ same_lacked b.declarations b.code xs a (pos b.declarations.start) one other same;
}
same_answer b xs a one other (Err lacked) same h = record {
  value = h.value;
  missing = h.missing ∙ same_lacked b.declarations b.code xs a (pos b.declarations.start) one other same;
}
