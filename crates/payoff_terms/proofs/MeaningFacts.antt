-- Compiled code and cut code mean their contract.
use Rattle.std.proofs.Common.{◌≡◌, ℕ, suc, ℤ, pos, ◌+ℤ◌, ◌≤◌, ◌+◌, ◌-◌, List, [], IsTrue, refl, ap₂, subst, sym, ◌∙◌, arith}
use Rattle.std.specs.Prelude.{Contains}
use Rattle.std.proofs.lemmas.Int.{ints}
use Rattle.std.proofs.lemmas.Bool.Decides.{nat_tests}
use Rattle.decimal.specs.Rounding.{raised}
use Rattle.term_model.specs.Declarations.{Declarations}
use Rattle.term_model.specs.Terms.{Contract}
use Rattle.term_model.specs.Environments.{Environment, Place}
use Rattle.term_model.specs.Flows.{scale_of_contract}
use Rattle.term_model.specs.Horizons.{horizon_of}
use Rattle.term_model.specs.Instances.{instance}
use Rattle.term_model.specs.Sizes.{reach, height_of_contract, nodes_of_contract, past_of_contract, work_of_contract}
use Rattle.term_model.specs.Smallness.{is_small, within_limits, days_of_contract}
use Rattle.term_model.specs.Scales.{is_scaled}
use Rattle.term_model.specs.Acceptance.{IsAccepted}
use Rattle.term_model.specs.Reads.{reads_of_contract}
use Rattle.term_model.proofs.TimeFacts.{whole_passes}
use Rattle.payoff_terms.specs.TemplateDates.{day_of, no_date}
use Rattle.payoff_terms.specs.Code.{PayoffCode}
use Rattle.payoff_terms.specs.CodeValues.{Asked, code_value, scale_of_code}
use Rattle.payoff_terms.specs.CodeReads.{reads_of_code}
use Rattle.payoff_terms.specs.PresentValues.{present_value}
use Rattle.payoff_terms.specs.Compiled.{code_of}
use Rattle.payoff_terms.specs.Meaning.{Counting, Remaining, Everything, first_day, counting, face_value}
use Rattle.payoff_terms.specs.LawsCode.{CompiledCodeMeans, CutCodeMeans}
use Rattle.payoff_terms.proofs.ValueFacts.{amounts_match}
use Rattle.payoff_terms.proofs.ReadFacts.{reads_match, counted, counted_cut, counted_all, Begins}
use Rattle.payoff_terms.proofs.CutFacts.{cut_value, cut_scale}

far_of : (h n days far back steps : ℕ) → IsTrue (within_limits h n days far back steps) → far ≤ 100_000
far_of h n days far back steps p = grind (arith, nat_tests)

pub reach_of : (d : Declarations) (c : Contract) → IsAccepted d c → reach c ≤ 100_000
reach_of d c h =
    far_of (height_of_contract c) (nodes_of_contract c) (days_of_contract c) (reach c) (past_of_contract c) (work_of_contract c) (whole_passes (λ s. IsTrue (is_small s)) c [] 0 h.sizes)

pub scale_fits : (d : Declarations) (c : Contract) → IsAccepted d c → scale_of_contract d c [] ≤ d.amounts
scale_fits d c h =
    let p = whole_passes (λ s. IsTrue (is_scaled d s)) c [] 0 h.scales in
    grind (arith, nat_tests)

at_start : (xs : List ℕ) (f : ℤ) → f ≡ f +ℤ day_of xs no_date
at_start xs f = omega (arith, ints)

value_means : (d : Declarations) (c : Contract) (xs : List ℕ) (env : Environment) (a : Asked) → IsAccepted d (instance xs c) → raised (code_value d (code_of c) [] env xs a (pos d.start)) (d.amounts + 9 - scale_of_code d (code_of c) []) ≡ present_value d (instance xs c) env (pos d.start) a
value_means d c xs env a h =
    amounts_match d env xs a c no_date [] (pos d.start) (pos d.start) d.amounts (suc (horizon_of (instance xs c))) (at_start xs (pos d.start)) (scale_fits d (instance xs c) h) (omega arith)

begins : (v : Counting) (d : Declarations) (now : ℤ) → Begins v now (pos d.start) (first_day v d now)
begins Remaining d now = refl
begins Everything d now = omega (arith, ints)

reads_mean : (d : Declarations) (c : Contract) (xs : List ℕ) (env : Environment) (a : Asked) (v : Counting) (q : Place) → IsAccepted d (instance xs c) → Contains (reads_of_code d (counted v (code_of c)) [] [] env xs a (pos d.start)) q → Contains (reads_of_contract d (instance xs c) [] [] env (pos d.start) (first_day v d a.now) (pos 100_000)) q
reads_mean d c xs env a v q h i =
    let far = reach_of d (instance xs c) h in
    reads_match d env xs a v c no_date [] [] (pos d.start) (pos d.start) (first_day v d a.now) (pos 100_000) q (at_start xs (pos d.start)) (begins v d a.now) (omega (arith, ints)) i

pub compiled_means : CompiledCodeMeans
compiled_means d c = record {
  values = λ xs env a m. value_means d c xs env (counting face_value a) m.accepted;
  reads = λ xs env a m q i. reads_mean d c xs env (counting face_value a) Everything q m.accepted (subst (λ (k : PayoffCode). Contains (reads_of_code d k [] [] env xs (counting face_value a) (pos d.start)) q) (sym (counted_all (code_of c))) i);
}

pub cut_means : CutCodeMeans
cut_means d c = record {
  values = λ xs env a m. ap₂ (λ (z : ℤ) (s : ℕ). raised z (d.amounts + 9 - s)) (cut_value d (code_of c) [] env xs a.now a.curve face_value a.flow (pos d.start) m.curve) (cut_scale d (code_of c) []) ∙ value_means d c xs env (counting (pos 0) a) m.accepted;
  reads = λ xs env a m q i. reads_mean d c xs env (counting face_value a) Remaining q m.accepted (subst (λ (k : PayoffCode). Contains (reads_of_code d k [] [] env xs (counting face_value a) (pos d.start)) q) (sym (counted_cut (code_of c))) i);
}
