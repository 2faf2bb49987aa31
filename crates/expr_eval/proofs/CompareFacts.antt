-- Comparisons on one day after another: their sides have the scales that their forms tell, and fit.
use Rattle.std.proofs.Common.{◌≡◌, ℕ, ◌≤◌, ◌^◌, ℤ, pos, ◌*ℤ◌, unsigned_abs, refl, ap, ap₂, sym, subst, ◌∙◌, Ok, Err, Some, List, []}
use Rattle.term_model.specs.Declarations.{Declarations}
use Rattle.term_model.specs.declared.terms.CmpOp.{CmpOp}
use Rattle.term_model.specs.declared.values.Kind.{Kind}
use Rattle.term_model.specs.declared.values.Kind.TheVariants.{Truth as TruthKind, Number}
use Rattle.term_model.specs.declared.values.Missing.{Missing}
use Rattle.term_model.specs.Terms.{Expression, Cmp}
use Rattle.term_model.specs.Environments.{Environment, IsAdmitted}
use Rattle.term_model.specs.Kinds.{kind_of, scale_of, scale_of_kind}
use Rattle.term_model.specs.Scales.{greatest_scale}
use Rattle.term_model.specs.Values.{kinds}
use Rattle.interval_check.specs.Safety.{IsSmall}
use Rattle.interval_check.specs.Within.{KeepsLimits}
use Rattle.interval_check.proofs.KindsFound.{two_numbers, has_kind, scale_is}
use Rattle.interval_check.proofs.SuitedFacts.{nothing_fixed}
use Rattle.expr_eval.specs.declared.scratch.Binding.{Binding}
use Rattle.expr_eval.specs.declared.operations.Typed.{Typed}
use Rattle.expr_eval.specs.declared.comparisons.Factors.{Factors}
use Rattle.expr_eval.specs.Rooms.{kinds_of}
use Rattle.expr_eval.specs.KindScales.{KindFits}
use Rattle.expr_eval.specs.Operations.{Compares, number_in, scale_in}
use Rattle.expr_eval.specs.Runs.{Answer, both_of, on_both, run_of}
use Rattle.expr_eval.specs.Fits.{OnValues}
use Rattle.expr_eval.specs.Evaluable.{MayEvaluate}
use Rattle.expr_eval.specs.Comparing.{AreBrought, ComparesOn, SidesFit, factors, factors_found, number_found, scale_found, truth_found}
use Rattle.expr_eval.proofs.RunValues.{run_is_value, same_kinds}
use Rattle.expr_eval.proofs.RunReads.{self_extends}
use Rattle.expr_eval.proofs.FitFacts.{kind_fits}
use Rattle.expr_eval.proofs.EvaluableFacts.{kind_for, may_run, safe_entries}

-- a side that lacks a place

pub left_lacks : (a b : Answer) (go : Typed → Typed → Typed) (m : Missing) → number_found a ≡ Err m → Err m ≡ truth_found (on_both (both_of a b) go)
left_lacks (Ok v) b go m h = cc
left_lacks (Err n) b go m h = cc

pub right_lacks : (a b : Answer) (go : Typed → Typed → Typed) (x : ℤ) (m : Missing) → number_found a ≡ Ok x → number_found b ≡ Err m → Err m ≡ truth_found (on_both (both_of a b) go)
right_lacks (Ok v) (Ok w) go x m p h = cc
right_lacks (Ok v) (Err n) go x m p h = cc
right_lacks (Err n) b go x m p h = cc

-- the scales of both sides

at_most_of : (m n s : ℕ) → m ≡ n → s ≡ n → s ≤ greatest_scale → m ≤ greatest_scale
at_most_of m n s e f h = subst (λ (k : ℕ). k ≤ greatest_scale) (f ∙ sym e) h

found_of : (d : Declarations) (e : Expression) (ks hs : List Kind) (s : ℕ) → ks ≡ hs → kind_of d e hs ≡ Some (Number s) → scale_found d e ks ≡ s
found_of d e ks hs s same h = ap (λ (js : List Kind). scale_found d e js) same ∙ ap (λ (k : Kind). scale_of_kind k) (has_kind d e hs (Number s) h)

pub sides_fit : (d : Declarations) (op : CmpOp) (a b : Expression) (bs : List Binding) → KeepsLimits d → MayEvaluate d (Cmp op a b) bs → SidesFit d a b (kinds_of bs)
sides_fit d op a b bs limits h =
    let s = safe_entries d (Cmp op a b) bs [] (pos 0) limits (nothing_fixed d) h in
    let k = kind_for d (Cmp op a b) bs [] (pos 0) s in
    let same = same_kinds bs s.entries s.known in
    let ks = kinds s.entries in
    let p = two_numbers (λ i j. TruthKind) (kind_of d a ks) (kind_of d b ks) k.0 (subst (λ (js : List Kind). kind_of d (Cmp op a b) js ≡ Some k.0) same k.1) in
    let safe = s.safe.safe.1 in
    let scales = s.safe.scales in
    record {
      left = subst (λ (js : List Kind). KindFits d a js) (sym same) (kind_fits d a ks (Number p.left_scale) p.left scales.0);
      right = subst (λ (js : List Kind). KindFits d b js) (sym same) (kind_fits d b ks (Number p.right_scale) p.right scales.1);
      left_scale = at_most_of (scale_found d a (kinds_of bs)) p.left_scale (scale_of d a ks) (found_of d a (kinds_of bs) ks p.left_scale same p.left) (scale_is d a ks (Number p.left_scale) p.left) safe.0.0.most;
      right_scale = at_most_of (scale_found d b (kinds_of bs)) p.right_scale (scale_of d b ks) (found_of d b (kinds_of bs) ks p.right_scale same p.right) (scale_is d b ks (Number p.right_scale) p.right) safe.1.0.most;
    }

-- both sides on a day

on_values_too : (a b : Answer) (P Q : Typed → Typed → Type 0) → ((x y : Typed) → a ≡ Ok x → b ≡ Ok y → P x y → Q x y) → OnValues a b P → OnValues a b Q
on_values_too (Ok x) (Ok y) P Q go h = go x y refl refl h
on_values_too (Ok x) (Err m) P Q go h = tt
on_values_too (Err m) b P Q go h = tt

are_brought : (i j : ℕ) (x y : Typed) → scale_in x ≡ i → scale_in y ≡ j → Compares x y → AreBrought (factors i j) x y
are_brought i j x y p q h =
    let e : factors (scale_in x) (scale_in y) ≡ factors i j = ap₂ factors p q in
    record {
      factors = e;
      left = subst (λ (c : Factors). IsSmall (number_in x *ℤ c.left)) e h.fits.left;
      right = subst (λ (c : Factors). IsSmall (number_in y *ℤ c.right)) e h.fits.right;
    }

pub compares_on_day : (d : Declarations) (op : CmpOp) (a b : Expression) (bs : List Binding) (env : Environment) (f : ℤ) → KeepsLimits d → IsAdmitted d env → unsigned_abs f ≤ 10 ^ 12 → MayEvaluate d (Cmp op a b) bs → ComparesOn d a b (factors_found d a b (kinds_of bs)) bs env f
compares_on_day d op a b bs env f limits admitted day h =
    let s = safe_entries d (Cmp op a b) bs env f limits admitted h in
    let k = kind_for d (Cmp op a b) bs env f s in
    let same = same_kinds bs s.entries s.known in
    let ks = kinds s.entries in
    let p = two_numbers (λ i j. TruthKind) (kind_of d a ks) (kind_of d b ks) k.0 (subst (λ (js : List Kind). kind_of d (Cmp op a b) js ≡ Some k.0) same k.1) in
    let fits = may_run d (Cmp op a b) bs env f limits admitted day h in
    record {
      left = fits.0;
      right = fits.1;
      brought = on_values_too (run_of d a bs env f) (run_of d b bs env f) Compares (AreBrought (factors_found d a b (kinds_of bs))) (λ x y u w both.
          let i = ap (λ (o : Typed). scale_in o) (run_is_value d a bs s.entries s.known env env (self_extends env) f (Number p.left_scale) p.left x u) ∙ sym (found_of d a (kinds_of bs) ks p.left_scale same p.left) in
          let j = ap (λ (o : Typed). scale_in o) (run_is_value d b bs s.entries s.known env env (self_extends env) f (Number p.right_scale) p.right y w) ∙ sym (found_of d b (kinds_of bs) ks p.right_scale same p.right) in
          are_brought (scale_found d a (kinds_of bs)) (scale_found d b (kinds_of bs)) x y i j both) fits.2;
    }

-- the same of equal sides, factors and days
pub compares_too : (d : Declarations) (a b x y u w : Expression) (by : Factors) (bs : List Binding) (env : Environment) (f t : ℤ) → x ≡ a → y ≡ b → u ≡ a → w ≡ b → by ≡ factors_found d u w (kinds_of bs) → t ≡ f → ComparesOn d a b (factors_found d a b (kinds_of bs)) bs env f → ComparesOn d x y by bs env t
compares_too d a b x y u w by bs env f t p q r s is day h =
    let by_is : by ≡ factors_found d a b (kinds_of bs) = is ∙ ap₂ (λ (m n : Expression). factors_found d m n (kinds_of bs)) r s in
    subst (λ (k : ℤ). ComparesOn d x y by bs env k) (sym day)
    (subst (λ (c : Factors). ComparesOn d x y c bs env f) (sym by_is)
    (subst (λ (n : Expression). ComparesOn d x n (factors_found d a b (kinds_of bs)) bs env f) (sym q)
    (subst (λ (m : Expression). ComparesOn d m b (factors_found d a b (kinds_of bs)) bs env f) (sym p) h)))
