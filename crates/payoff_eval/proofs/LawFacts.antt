-- The law of sizes, and what the call for a value answers.
use Rattle.std.proofs.Common.{◌≡◌, ℤ, ◌≤◌, ◌+◌, ◌^◌, ◌∙◌, unsigned_abs, List, [], ℕ, Result, Ok, Err, IfOk, ap, sym, subst, arith}
use Rattle.term_model.specs.Declarations.{Declarations}
use Rattle.term_model.specs.declared.values.Missing.{Missing}
use Rattle.term_model.specs.Environments.{Environment, IsAdmitted}
use Rattle.term_model.specs.Factors.{CurveRow, IsCurve, IsFactor}
use Rattle.interval_check.specs.Safety.{IsSmall}
use Rattle.interval_check.specs.Within.{KeepsLimits}
use Rattle.expr_eval.specs.declared.scratch.Binding.{Binding}
use Rattle.expr_eval.proofs.RunReads.{self_extends}
use Rattle.payoff_terms.specs.Code.{PayoffCode}
use Rattle.payoff_terms.specs.CodeValues.{Asked}
use Rattle.payoff_terms.specs.CodeAcceptance.{IsAcceptedCode}
use Rattle.payoff_eval.specs.declared.walk.Worth.{Worth}
use Rattle.payoff_eval.specs.Questions.{asked_on}
use Rattle.payoff_eval.specs.CodeRuns.{CodeFits, amount_in, run_code}
use Rattle.payoff_eval.specs.CodeAnswers.{IsCodeValue, aligned_value}
use Rattle.payoff_eval.specs.LawsValues.{ValuesAreWithinTotals}
use Rattle.payoff_eval.proofs.AnswerFacts.{walks_are_values}
use Rattle.payoff_eval.proofs.NodeFacts.{bounds_hold, scale_of_accepted, total_at_root}
use Rattle.payoff_eval.proofs.RuleFacts.{accepted_code_meets}
use Rattle.payoff_eval.proofs.RunFacts.{runs_are_walks}
use Rattle.payoff_eval.proofs.SizeFacts.{code_within, curve_fits}

pub values_are_within_totals : ValuesAreWithinTotals
values_are_within_totals d xs k env a b limits accepted admitted curve gone =
    code_within d xs a (curve_fits a curve gone) k [] [] env b (d.amounts + 9) (accepted_code_meets d xs k accepted)
    (record { limits = limits; inside = tt; of_kinds = tt; admitted = admitted }) (scale_of_accepted d xs k accepted)

-- what a run answers
pub run_is_value : (d : Declarations) (k : PayoffCode) (xs : List ℕ) (F : Environment) (a : Asked) (b : ℤ) → IsAcceptedCode d xs k → IsCodeValue d k xs F a b (amount_in (run_code d (d.amounts + 9) k [] F xs a b))
run_is_value d k xs F a b accepted =
    subst (λ (r : Result Worth Missing). IsCodeValue d k xs F a b (amount_in r)) (sym (runs_are_walks d xs k (d.amounts + 9) F a b (accepted_code_meets d xs k accepted)))
    (walks_are_values d k xs F a b (scale_of_accepted d xs k accepted))

-- of a question whose parts are equal to those of the run
pub answered : (d : Declarations) (k : PayoffCode) (F : Environment) (curve : List CurveRow) (from to asset : ℕ) (bs : List Binding) (xs ys : List ℕ) (t u b e : ℤ) (w : Result Worth Missing) (r : Result ℤ Missing) → bs ≡ [] → ys ≡ xs → u ≡ t → e ≡ b → IsAcceptedCode d xs k → w ≡ run_code d (d.amounts + 9) k bs F ys (asked_on curve u from to asset) e → r ≡ amount_in w → IsCodeValue d k xs F (asked_on curve t from to asset) b r
answered d k F curve from to asset bs xs ys t u b e w r same_names same_numbers same_day same_base accepted run is =
    let n = d.amounts + 9 in
    let same : run_code d n k bs F ys (asked_on curve u from to asset) e ≡ run_code d n k [] F xs (asked_on curve t from to asset) b =
    ap (λ (g : List Binding). run_code d n k g F ys (asked_on curve u from to asset) e) same_names
    ∙ ap (λ (zs : List ℕ). run_code d n k [] F zs (asked_on curve u from to asset) e) same_numbers
    ∙ ap (λ (day : ℤ). run_code d n k [] F xs (asked_on curve day from to asset) e) same_day
    ∙ ap (λ (base : ℤ). run_code d n k [] F xs (asked_on curve t from to asset) base) same_base in
    subst (λ (o : Result ℤ Missing). IsCodeValue d k xs F (asked_on curve t from to asset) b o) (sym (is ∙ ap amount_in (run ∙ same)))
    (run_is_value d k xs F (asked_on curve t from to asset) b accepted)

pub asked_fits : (d : Declarations) (k : PayoffCode) (F : Environment) (curve : List CurveRow) (from to asset : ℕ) (bs : List Binding) (xs ys : List ℕ) (t u b e : ℤ) → bs ≡ [] → ys ≡ xs → u ≡ t → e ≡ b → CodeFits d (d.amounts + 9) k [] F xs (asked_on curve t from to asset) b → CodeFits d (d.amounts + 9) k bs F ys (asked_on curve u from to asset) e
asked_fits d k F curve from to asset bs xs ys t u b e same_names same_numbers same_day same_base h =
    let n = d.amounts + 9 in
    subst (λ (g : List Binding). CodeFits d n k g F ys (asked_on curve u from to asset) e) (sym same_names)
    (subst (λ (zs : List ℕ). CodeFits d n k [] F zs (asked_on curve u from to asset) e) (sym same_numbers)
    (subst (λ (day : ℤ). CodeFits d n k [] F xs (asked_on curve day from to asset) e) (sym same_day)
    (subst (λ (base : ℤ). CodeFits d n k [] F xs (asked_on curve t from to asset) base) (sym same_base) h)))

-- and it is small
pub value_is_small : (d : Declarations) (k : PayoffCode) (xs : List ℕ) (F : Environment) (a : Asked) (b : ℤ) (r : Result ℤ Missing) → KeepsLimits d → IsAcceptedCode d xs k → IsAdmitted d F → IsCurve a.curve → IsFactor a.gone → IsCodeValue d k xs F a b r → IfOk r IsSmall
value_is_small d k xs F a b (Err m) limits accepted admitted curve gone h = tt
value_is_small d k xs F a b (Ok m) limits accepted admitted curve gone h =
    let most = values_are_within_totals d xs k F a b limits accepted admitted curve gone in
    let total = total_at_root d k [] (bounds_hold d xs k accepted) in
    let small : unsigned_abs (aligned_value d k F xs a b) ≤ 10 ^ 37 = omega arith in
    subst (λ (z : ℤ). unsigned_abs z ≤ 10 ^ 37) (h.value F (self_extends F)) small
