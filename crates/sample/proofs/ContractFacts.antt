-- The flows of the contracts of the sample.
use Rattle.std.proofs.Common.{◌≡◌, ◌∙◌, ℕ, zero, suc, ◌^◌, ◌≤◌, ℤ, pos, ◌+ℤ◌, ◌-ℤ◌, List, [], Some, None, refl, ap, sym, subst, arith, unsigned_abs}
use Rattle.std.proofs.lemmas.Int.{ints}
use Rattle.std.proofs.lemmas.List.Elements.{All-weaker}
use Rattle.decimal.specs.Rounding.{at_scale}
use Rattle.term_model.specs.Declarations.{Declarations}
use Rattle.term_model.specs.Terms.{Contract}
use Rattle.term_model.specs.Environments.{Environment, IsAdmitted, Place}
use Rattle.term_model.specs.Flows.{Flow, amount_of}
use Rattle.term_model.specs.Reads.{first_unfixed}
use Rattle.term_model.specs.Bounds.{aligned_total}
use Rattle.term_model.specs.Acceptance.{IsAccepted}
use Rattle.term_model.proofs.FlowFacts.{amounts_opposite}
use Rattle.interval_check.specs.Sums.{sum_of_amounts, sum_of_sizes}
use Rattle.interval_check.proofs.GuaranteeFacts.{amounts_add_up_to_total}
use Rattle.flow_eval.specs.FlowAnswers.{AreKnownFlows, reads_until}
use Rattle.flow_eval.specs.Tables.{IsPaid, IsTable, flow_in, paid_by, IsMutual}
use Rattle.flow_eval.specs.declared.flow_table.FlowRow.{FlowRow}
use Rattle.report.specs.SumTables.{IsSummable}
use Rattle.sample.specs.Sample.{HoldSame, IsOfSample, sample_contract, sample_declarations, sample_fixings}
use Rattle.flow_eval.specs.Readiness.{last_day}
use Rattle.sample.specs.Days.{over_days, sum_before}
use Rattle.sample.specs.Summary.{AreRowsOf, paid_of}
use Rattle.sample.proofs.AcceptedFacts.{sample_accepted}
use Rattle.sample.proofs.DaySums.{sum_before-size}
use Rattle.sample.proofs.FixingFacts.{days_fixed, same_extends}
use Rattle.sample.proofs.ReadFacts.{sample_fixed}

module _ (d : Declarations) (is_d : d ≡ sample_declarations) where
  module _ (c : Contract) (of : IsOfSample c) where
    pub is_accepted : IsAccepted d c
    is_accepted = subst (λ (x : Declarations). IsAccepted x c) (sym is_d) (subst (λ (x : Contract). IsAccepted sample_declarations x) (sym of.1) (sample_accepted of.0))

    none_missing : (env : Environment) → HoldSame env sample_fixings → first_unfixed env (reads_until d c env (pos d.start) (pos last_day)) ≡ None
    none_missing env same =
        subst (λ (x : Declarations). first_unfixed env (reads_until x c env (pos x.start) (pos last_day)) ≡ None) (sym is_d) (
        subst (λ (x : Contract). first_unfixed env (reads_until sample_declarations x env (pos 0) (pos last_day)) ≡ None) (sym of.1) (sample_fixed env (days_fixed env same) of.0 (pos last_day -ℤ pos 0))
        )

    -- no read lacks a fixing
    pub not_missing : (env : Environment) (q : Place) → HoldSame env sample_fixings → first_unfixed env (reads_until d c env (pos d.start) (pos last_day)) ≡ Some q → ⊥
    not_missing env q same h =
        let none = none_missing env same in
        cc

    pub rows_known : (env : Environment) (rows : List FlowRow) → HoldSame env sample_fixings → AreKnownFlows d c env (pos d.start) (pos last_day) rows → AreRowsOf c rows
    rows_known env rows same known =
        subst (λ (x : Declarations). IsTable (paid_by x c sample_fixings (pos x.start)) (pos x.start) (pos last_day) rows) is_d (known.table sample_fixings (same_extends env sample_fixings same))

-- ---- sizes

sizes_same : (n : ℕ) (f g : ℕ → ℤ) → ((i : ℕ) → f i ≡ g i) → sum_of_sizes n f ≡ sum_of_sizes n g
sizes_same zero f g h = refl
sizes_same (suc n) f g h = let first = sizes_same n f g h in let last = ap unsigned_abs (h n) in omega arith

-- 200.00
total_is : (number : ℕ) → aligned_total sample_declarations (sample_contract number) [] ≡ 20_000
unfolding at_scale
total_is number = refl

same_day : (i : ℕ) → (pos i -ℤ pos 0) ≡ pos 0 +ℤ pos i
same_day i = omega (arith, ints)

small_sum : (sum sizes amounts total : ℕ) → sum ≤ sizes → sizes ≡ amounts → amounts ≤ total → total ≡ 20_000 → sum ≤ 10 ^ 27
small_sum sum sizes amounts total h k l e = omega arith

days_small : (n number : ℕ) (w : Flow) → IsAdmitted sample_declarations sample_fixings → unsigned_abs (sum_before n (λ i. paid_of (sample_contract number) (pos i) w)) ≤ 10 ^ 27
days_small n number w admitted =
    let d = sample_declarations in
    let c = sample_contract number in
    small_sum (unsigned_abs (sum_before n (λ i. paid_of (sample_contract number) (pos i) w))) (sum_of_sizes n (λ i. paid_of (sample_contract number) (pos i) w)) (sum_of_amounts d c sample_fixings (pos 0) (pos 0) n w) (aligned_total d c [])
    (sum_before-size n (λ i. paid_of (sample_contract number) (pos i) w))
    (sizes_same n (λ i. paid_of (sample_contract number) (pos i) w) (λ i. amount_of d c sample_fixings (pos 0) (pos 0 +ℤ pos i) w) (λ i. ap (λ (day : ℤ). amount_of d c sample_fixings (pos 0) day w) (same_day i)))
    (amounts_add_up_to_total d c sample_fixings (pos 0) (pos 0) n w refl (sample_accepted number).bounds admitted).1 (total_is number)

pub paid_mutual : (number : ℕ) → IsMutual (paid_of (sample_contract number))
paid_mutual number = λ day w. amounts_opposite sample_declarations (sample_contract number) sample_fixings (pos 0) (day -ℤ pos 0) w

-- what a contract pays over all days can be summed
pub sums_summable : (number : ℕ) (sums : List FlowRow) → IsAdmitted sample_declarations sample_fixings → IsTable (over_days (paid_of (sample_contract number))) (pos 0) (pos 0) sums → IsSummable sums
sums_summable number sums admitted table = record {
  ordered = table.ordered;
  small = All-weaker (IsPaid (over_days (paid_of (sample_contract number))) (pos 0) (pos 0)) (λ row. unsigned_abs row.amount ≤ 10 ^ 27) (λ row paid. subst (λ (x : ℤ). unsigned_abs x ≤ 10 ^ 27) (sym paid.exact) (days_small (suc last_day) number (flow_in row) admitted)) sums table.right;
}

-- ---- the rows of one contract

same_own : (n : ℤ) → n ≡ n +ℤ pos 0
same_own n = omega (arith, ints)

amount_small : (number : ℕ) (day : ℤ) (w : Flow) → IsAdmitted sample_declarations sample_fixings → unsigned_abs (paid_of (sample_contract number) day w) ≤ 10 ^ 27
amount_small number day w admitted =
    let d = sample_declarations in
    let c = sample_contract number in
    let most = (amounts_add_up_to_total d c sample_fixings (pos 0) (day -ℤ pos 0) 1 w refl (sample_accepted number).bounds admitted).1 in
    let total = total_is number in
    let one = ap (λ (k : ℤ). unsigned_abs (amount_of d c sample_fixings (pos 0) k w)) (same_own (day -ℤ pos 0)) in
    omega arith

pub rows_summable : (number : ℕ) (rows : List FlowRow) → IsAdmitted sample_declarations sample_fixings → AreRowsOf (sample_contract number) rows → IsSummable rows
rows_summable number rows admitted table = record {
  ordered = table.ordered;
  small = All-weaker (IsPaid (paid_of (sample_contract number)) (pos 0) (pos last_day)) (λ row. unsigned_abs row.amount ≤ 10 ^ 27) (λ row paid. subst (λ (x : ℤ). unsigned_abs x ≤ 10 ^ 27) (sym paid.exact) (amount_small number row.day (flow_in row) admitted)) rows table.right;
}

pub is_admitted_same : (env : Environment) → HoldSame env sample_fixings → IsAdmitted sample_declarations env → IsAdmitted sample_declarations sample_fixings
is_admitted_same env same h = λ q v e. h q v (same q ∙ e)
