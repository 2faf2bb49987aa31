-- A walk at the portfolio's decimals and nine more answers the value.
use Rattle.std.proofs.Common.{◌≡◌, ℕ, ℤ, ◌+◌, ◌-◌, ◌≤◌, List, [], Option, Some, None, Result, refl, ap, sym, subst, ◌∙◌}
use Rattle.decimal.specs.Rounding.{raised}
use Rattle.term_model.specs.Declarations.{Declarations}
use Rattle.term_model.specs.declared.values.Missing.{Missing}
use Rattle.term_model.specs.Environments.{Environment, Place, Extends}
use Rattle.term_model.specs.Reads.{first_unfixed, is_fixed}
use Rattle.term_model.proofs.ReadLawFacts.{no_names, extension_reads, all_fixed}
use Rattle.payoff_terms.specs.Code.{PayoffCode}
use Rattle.payoff_terms.specs.CodeValues.{Asked, code_value, scale_of_code}
use Rattle.payoff_terms.specs.CodeReads.{reads_of_code, reaches_payment}
use Rattle.payoff_terms.proofs.CodeAlikeFacts.{Worth as Worth', code_alike}
use Rattle.payoff_eval.specs.declared.walk.Worth.{Worth}
use Rattle.payoff_eval.specs.Walks.{unless, walk_of}
use Rattle.payoff_eval.specs.CodeAnswers.{IsCodeValue}
use Rattle.payoff_eval.specs.CodeRuns.{amount_in}
use Rattle.payoff_eval.proofs.WalkFacts.{walk_is}

fixed : (d : Declarations) (k : PayoffCode) (F env : Environment) (xs : List ℕ) (a : Asked) (b : ℤ) → Extends F env → first_unfixed F (reads_of_code d k [] [] F xs a b) ≡ None → code_value d k [] env xs a b ≡ code_value d k [] F xs a b
fixed d k F env xs a b x none =
    sym (ap (λ (p : Worth'). p.0) ((code_alike d (is_fixed F) F env (λ q q_fixed. sym (extension_reads d F env x q q_fixed)) k [] [] [] [] (no_names (is_fixed F)) xs a b).values (all_fixed F (reads_of_code d k [] [] F xs a b) none)))

answer : (d : Declarations) (k : PayoffCode) (xs : List ℕ) (F : Environment) (a : Asked) (b : ℤ) (o : Option Place) (w : Worth) → first_unfixed F (reads_of_code d k [] [] F xs a b) ≡ o → w.amount ≡ raised (code_value d k [] F xs a b) (d.amounts + 9 - scale_of_code d k []) → IsCodeValue d k xs F a b (amount_in (unless o w))
answer d k xs F a b (Some q) w e h = record { value = tt; missing = sym e }
answer d k xs F a b None w e h = record {
  value = λ env x. ap (λ (z : ℤ). raised z (d.amounts + 9 - scale_of_code d k [])) (fixed d k F env xs a b x e) ∙ sym h;
  missing = sym e;
}

pub walks_are_values : (d : Declarations) (k : PayoffCode) (xs : List ℕ) (F : Environment) (a : Asked) (b : ℤ) → scale_of_code d k [] ≤ d.amounts + 9 → IsCodeValue d k xs F a b (amount_in (walk_of d (d.amounts + 9) k [] [] F xs a b))
walks_are_values d k xs F a b le =
    let n = d.amounts + 9 - scale_of_code d k [] in
    let w : Worth = record { amount = raised (code_value d k [] F xs a b) n; reached = reaches_payment d k [] F xs a b } in
    subst (λ (r : Result Worth Missing). IsCodeValue d k xs F a b (amount_in r)) (sym (walk_is d k (d.amounts + 9) [] [] F xs a b le))
    (answer d k xs F a b (first_unfixed F (reads_of_code d k [] [] F xs a b)) w refl refl)
