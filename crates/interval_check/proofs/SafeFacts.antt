-- An expression can be evaluated in 128 bits, where it meets the rules on sorts, scales and bounds and each name has an
-- entry within its range.
use Rattle.std.proofs.Common.{◌≡◌, ℕ, zero, suc, ◌-◌, ◌≤◌, ◌<◌, ℤ, pos, ◌+ℤ◌, ◌-ℤ◌, nat_le, IsTrue, is_some, List, ◌∷◌, Option, Some, None, refl, sym, subst, arith}
use Rattle.std.proofs.lemmas.Bool.{and_parts, leb-true}
use Rattle.decimal.specs.declared.rounding.Mode.{Mode}
use Rattle.decimal.specs.Rounding.{raised, at_scale}
use Rattle.term_model.specs.Declarations.{Declarations}
use Rattle.term_model.specs.declared.terms.NumOp.{NumOp}
use Rattle.term_model.specs.declared.terms.NumOp.TheVariants.{Plus, Minus, Times, Min, Max}
use Rattle.term_model.specs.declared.values.Kind.{Kind}
use Rattle.term_model.specs.declared.values.Kind.TheVariants.{Truth as TruthKind, Number}
use Rattle.term_model.specs.declared.values.Value.{Value}
use Rattle.term_model.specs.declared.values.Value.TheVariants.{Num as Amount, Truth}
use Rattle.term_model.specs.Terms.{Expression, Lit, Yes, Var, Obs, Neg, Num, Cmp, Not, Logic, Cond, Widen, Round, Div, Acc}
use Rattle.term_model.specs.Environments.{Environment, IsAdmitted}
use Rattle.term_model.specs.Kinds.{kind_of, scale_of, scale_of_kind, on_truth, on_number, of_acc}
use Rattle.term_model.specs.Values.{Entry, kinds, num, of_num, widened, kind_or, value_of}
use Rattle.term_model.specs.LawsKinds.{IsOfKind, AreOfKinds}
use Rattle.term_model.specs.Scales.{greatest_scale}
use Rattle.term_model.specs.Bounds.{Interval, Range, range_kinds, lifted, of_op, interval_of, fit_aligned, fit_operands, fits}
use Rattle.term_model.proofs.KindFacts.{values_have_kinds}
use Rattle.interval_check.specs.Nodes.{MeetsRules, IsSortedPart, is_sorted_part, is_scaled_part, has_scaled_parts, range_after}
use Rattle.interval_check.specs.Within.{IsIn, KeepsLimits}
use Rattle.interval_check.specs.Safety.{IsSmall, AlignSafely, OperateSafely, WidensSafely, RoundsSafely, DivideSafely, HasSafeValue, HasSafeParts, ScalesFit, IsSafe, CanEvaluate, entry_after}
use Rattle.interval_check.proofs.InclusionFacts.{in_raised, in_rounded, in_of_op}
use Rattle.interval_check.proofs.DivisionFacts.{sign_nonzero}
use Rattle.interval_check.proofs.RoundingFacts.{at_scale_up}
use Rattle.interval_check.proofs.TestFacts.{small_in, align_in, division_fits, divide_in}
use Rattle.interval_check.proofs.KindsEnough.{kinds_are_enough}
use Rattle.interval_check.proofs.NodeTests.{at_root, scale_fits, scales_fit, bound_tests, interval_fits, round_fits, some_kind, scale_of_some, number_scale, numbers_scale}
use Rattle.interval_check.proofs.ValueFacts.{AreInside, same_kinds, values_lie, inside_round, round_lies}

-- what is known of an expression's names
pub record Suits (d : Declarations) (g : List Range) (es : List Entry) (env : Environment) : Type 0 where
  pub limits : KeepsLimits d
  pub inside : AreInside g es
  pub of_kinds : AreOfKinds es
  pub admitted : IsAdmitted d env

-- the kind of an accumulator's name is kept in each round
round_of_truth : (u : Option Kind) (i j : ℕ) (w : Value) → IsTrue (is_some (on_truth u (Some TruthKind))) → ((b : Kind) → u ≡ Some b → IsOfKind b w) → IsOfKind TruthKind (widened i j w)
round_of_truth None i j w h k = absurd (cc)
round_of_truth (Some (Number s)) i j w h k = absurd (cc)
round_of_truth (Some TruthKind) i j (Truth b) h k = tt
round_of_truth (Some TruthKind) i j (Amount m) h k = absurd (k TruthKind refl)

round_of_number : (u : Option Kind) (s i j : ℕ) (w : Value) → IsTrue (is_some (on_number (λ _. Some (Number s)) u)) → ((b : Kind) → u ≡ Some b → IsOfKind b w) → IsOfKind (Number s) (widened i j w)
round_of_number None s i j w h k = absurd (cc)
round_of_number (Some TruthKind) s i j w h k = absurd (cc)
round_of_number (Some (Number t)) s i j (Amount m) h k = tt
round_of_number (Some (Number t)) s i j (Truth b) h k = absurd (k (Number t) refl)

round_of_kind : (o : Option Kind) (body : Kind → Option Kind) (i j : ℕ) (w : Value) → IsTrue (is_some (of_acc o body)) → ((b : Kind) → body (kind_or o) ≡ Some b → IsOfKind b w) → IsOfKind (kind_or o) (widened i j w)
round_of_kind None body i j w h k = absurd (cc)
round_of_kind (Some TruthKind) body i j w h k = round_of_truth (body TruthKind) i j w h k
round_of_kind (Some (Number s)) body i j w h k = round_of_number (body (Number s)) s i j w h k

-- an expression's own value
pub value_is_safe : (d : Declarations) (e : Expression) (g : List Range) (es : List Entry) (env : Environment) (f : ℤ) → MeetsRules d e g → Suits d g es env → HasSafeValue d e es env f
value_is_safe d e g es env f h s =
    let same = same_kinds g es s.inside in
    let known : IsTrue (is_some (kind_of d e (kinds es))) = subst (λ (ks : List Kind). IsTrue (is_some (kind_of d e ks))) same (at_root (IsSortedPart d) d e g h.sorts) in
    record {
      sorted = known;
      of_kind = values_have_kinds d e es env f (kind_or (kind_of d e (kinds es))) s.admitted s.of_kinds (some_kind (kind_of d e (kinds es)) known);
      most = subst (λ (ks : List Kind). scale_of d e ks ≤ greatest_scale) same (scale_fits d e g h.scales);
      small = small_in (interval_of d e g) (num (value_of d e es env f)) (interval_fits d e g h.bounds) (values_lie d s.limits e g es env f h.bounds s.inside s.admitted);
    }

-- operands, between the scales that they have among ranges and among entries

operate_in : (op : NumOp) (a b : ℕ) (i j : Interval) (x y : ℤ) → IsTrue (fit_operands op a i b j) → IsTrue (fits (of_op op a i b j)) → IsSmall x → IsSmall y → IsIn i x → IsIn j y → OperateSafely op a x b y
operate_in Times a b i j x y h whole small_x small_y in_i in_j =
    (small_x, small_y, small_in (of_op Times a i b j) (of_num Times a x b y) whole (in_of_op Times a b i j x y in_i in_j))
operate_in Plus a b i j x y h whole small_x small_y in_i in_j =
    (align_in a b i j x y h in_i in_j, small_in (of_op Plus a i b j) (of_num Plus a x b y) whole (in_of_op Plus a b i j x y in_i in_j))
operate_in Minus a b i j x y h whole small_x small_y in_i in_j =
    (align_in a b i j x y h in_i in_j, small_in (of_op Minus a i b j) (of_num Minus a x b y) whole (in_of_op Minus a b i j x y in_i in_j))
operate_in Min a b i j x y h whole small_x small_y in_i in_j =
    (align_in a b i j x y h in_i in_j, small_in (of_op Min a i b j) (of_num Min a x b y) whole (in_of_op Min a b i j x y in_i in_j))
operate_in Max a b i j x y h whole small_x small_y in_i in_j =
    (align_in a b i j x y h in_i in_j, small_in (of_op Max a i b j) (of_num Max a x b y) whole (in_of_op Max a b i j x y in_i in_j))

rounds_in : (mode : Mode) (i s : ℕ) (k : Interval) (x : ℤ) → IsTrue (fits (lifted (λ m. at_scale mode m i s) k)) → IsIn k x → s ≤ greatest_scale → RoundsSafely i s x
rounds_in mode i s k x h inside most =
    record { most = most; small = λ up. subst IsSmall (at_scale_up mode x i s up) (small_in (lifted (λ m. at_scale mode m i s) k) _ h (in_rounded mode k i s x inside)) }

-- an accumulator's name, in each round
rounds_suit : (d : Declarations) (body : Expression) (n : ℕ) (first : Expression) (g : List Range) (es : List Entry) (env : Environment) (f : ℤ) → MeetsRules d (Acc body n first) g → Suits d g es env → (i : ℕ) → i ≤ n → Suits d (range_after d body i first g ∷ g) (entry_after d body n first es env f i ∷ es) env
rounds_suit d body n first g es env f h s zero l =
    let known = value_is_safe d first g es env (f -ℤ pos n) (record { sorts = h.sorts.0; scales = h.scales.0; bounds = h.bounds.0 }) s in
    record {
      limits = s.limits;
      inside = inside_round d body zero first g es (value_of d first es env (f -ℤ pos n)) s.inside (values_lie d s.limits first g es env (f -ℤ pos n) h.bounds.0 s.inside s.admitted);
      of_kinds = (known.of_kind, s.of_kinds);
      admitted = s.admitted;
    }
rounds_suit d body n first g es env f h s (suc i) l =
    let before = rounds_suit d body n first g es env f h s i (omega arith) in
    let day = f -ℤ pos n +ℤ pos (suc i) in
    let o = kind_of d first (kinds es) in
    let ks = kind_or o ∷ kinds es in
    let now = value_of d body (entry_after d body n first es env f i ∷ es) env day in
    let sorted = subst (λ (js : List Kind). IsTrue (is_some (kind_of d (Acc body n first) js))) (same_kinds g es s.inside) (at_root (IsSortedPart d) d (Acc body n first) g h.sorts) in
    record {
      limits = s.limits;
      inside = inside_round d body (suc i) first g es (entry_after d body n first es env f (suc i)).value s.inside (round_lies d body i first g es now s.inside (values_lie d s.limits body (range_after d body i first g ∷ g) (entry_after d body n first es env f i ∷ es) env day (h.bounds.1 i (omega arith)).0 before.inside s.admitted));
      of_kinds = (round_of_kind o (λ k. kind_of d body (k ∷ kinds es)) (scale_of d body ks) (scale_of_kind (kind_or o)) now sorted (λ b e. values_have_kinds d body (entry_after d body n first es env f i ∷ es) env day b s.admitted before.of_kinds e), s.of_kinds);
      admitted = s.admitted;
    }

-- the parts of an expression

abbrev PartsAreSafe : Declarations → Expression → Type 0
PartsAreSafe d e =
    (g : List Range) (es : List Entry) (env : Environment) (f : ℤ) → MeetsRules d e g → Suits d g es env → HasSafeParts d e es env f

-- a part of one, with what is known of it
whole : (d : Declarations) (e : Expression) (g : List Range) (es : List Entry) (env : Environment) (f : ℤ) → PartsAreSafe d e → MeetsRules d e g → Suits d g es env → IsSafe d e es env f
whole d e g es env f parts h s = (value_is_safe d e g es env f h s, parts g es env f h s)

number_in : (d : Declarations) (e : Expression) (g : List Range) (es : List Entry) (env : Environment) (f : ℤ) → MeetsRules d e g → Suits d g es env → IsIn (interval_of d e g) (num (value_of d e es env f))
number_in d e g es env f h s = values_lie d s.limits e g es env f h.bounds s.inside s.admitted

-- two operands that are aligned
aligned_safely : (d : Declarations) (a b : Expression) (g : List Range) (es : List Entry) (env : Environment) (f : ℤ) → MeetsRules d a g → MeetsRules d b g → Suits d g es env → IsTrue (fit_aligned (scale_of d a (range_kinds g)) (interval_of d a g) (scale_of d b (range_kinds g)) (interval_of d b g)) → AlignSafely (scale_of d a (kinds es)) (num (value_of d a es env f)) (scale_of d b (kinds es)) (num (value_of d b es env f))
aligned_safely d a b g es env f ha hb s fit =
    subst (λ (ks : List Kind). AlignSafely (scale_of d a ks) (num (value_of d a es env f)) (scale_of d b ks) (num (value_of d b es env f))) (same_kinds g es s.inside)
    (align_in (scale_of d a (range_kinds g)) (scale_of d b (range_kinds g)) (interval_of d a g) (interval_of d b g) _ _ fit (number_in d a g es env f ha s) (number_in d b g es env f hb s))

-- a round of an accumulator: its body, and the widening of its value
round_is_safe : (d : Declarations) (body : Expression) (n : ℕ) (first : Expression) (g : List Range) (es : List Entry) (env : Environment) (f : ℤ) → MeetsRules d (Acc body n first) g → Suits d g es env → (i : ℕ) → i < n → PartsAreSafe d body → IsSafe d body (entry_after d body n first es env f i ∷ es) env (f -ℤ pos n +ℤ pos (suc i)) × WidensSafely (scale_of d body (kind_or (kind_of d first (kinds es)) ∷ kinds es)) (scale_of_kind (kind_or (kind_of d first (kinds es)))) (num (value_of d body (entry_after d body n first es env f i ∷ es) env (f -ℤ pos n +ℤ pos (suc i))))
round_is_safe d body n first g es env f h known i l parts =
    let day = f -ℤ pos n +ℤ pos (suc i) in
    let ranges = range_after d body i first g ∷ g in
    let entries = entry_after d body n first es env f i ∷ es in
    let hb : MeetsRules d body ranges = record { sorts = kinds_are_enough (λ ks part. IsTrue (is_sorted_part d ks part)) d body (range_after d body 0 first g ∷ g) ranges refl h.sorts.1.0; scales = kinds_are_enough (λ ks part. IsTrue (is_scaled_part d ks part)) d body (range_after d body 0 first g ∷ g) ranges refl h.scales.1.0; bounds = (h.bounds.1 i l).0 } in
    let suits = rounds_suit d body n first g es env f h known i (omega arith) in
    let x = num (value_of d body entries env day) in
    let ks = range_kinds g in
    let o = kind_of d first ks in
    let low = scale_of d body (kind_or o ∷ ks) in
    let high = scale_of_kind (kind_or o) in
    let scaled = and_parts (nat_le (scale_of d (Acc body n first) ks) greatest_scale) (has_scaled_parts d ks (Acc body n first)) h.scales.1.1 in
    let start = scale_fits d first g h.scales.0 in
    let same = scale_of_some o in
    let here : WidensSafely low high x = record {
      order = subst (λ (m : ℕ). low ≤ m) (sym same) (leb-true low (scale_of d first ks) scaled.1);
      most = subst (λ (m : ℕ). m ≤ greatest_scale) (sym same) start;
      small = small_in (interval_of d (Acc body (suc i) first) g) (raised x (high - low)) (round_fits d body n i first g h.bounds l) (in_raised (interval_of d body ranges) (high - low) x (number_in d body ranges entries env day hb suits));
    } in (
      whole d body ranges entries env day parts hb suits,
      subst (λ (js : List Kind). WidensSafely (scale_of d body (kind_or (kind_of d first js) ∷ js)) (scale_of_kind (kind_or (kind_of d first js))) x) (same_kinds g es known.inside) here,
    )

parts_are_safe : (d : Declarations) (e : Expression) → PartsAreSafe d e
parts_are_safe d (Lit m s) g es env f h known = tt
parts_are_safe d (Yes b) g es env f h known = tt
parts_are_safe d (Var back) g es env f h known = tt
parts_are_safe d (Obs l t) g es env f h known = tt
parts_are_safe d (Neg e) g es env f h known =
    whole d e g es env f (parts_are_safe d e) (record { sorts = h.sorts.0; scales = h.scales.0; bounds = h.bounds.0 }) known
parts_are_safe d (Num op a b) g es env f h known =
    let ha : MeetsRules d a g = record { sorts = h.sorts.0; scales = h.scales.0; bounds = h.bounds.0 } in
    let hb : MeetsRules d b g = record { sorts = h.sorts.1; scales = h.scales.1; bounds = h.bounds.1 } in
    let x = num (value_of d a es env f) in
    let y = num (value_of d b es env f) in
    let fit = bound_tests d (Num op a b) g h.bounds.2 in
    let left = value_is_safe d a g es env f ha known in
    let right = value_is_safe d b g es env f hb known in (
      whole d a g es env f (parts_are_safe d a) ha known,
      whole d b g es env f (parts_are_safe d b) hb known,
      subst (λ (ks : List Kind). OperateSafely op (scale_of d a ks) x (scale_of d b ks) y) (same_kinds g es known.inside)
          (operate_in op (scale_of d a (range_kinds g)) (scale_of d b (range_kinds g)) (interval_of d a g) (interval_of d b g) x y fit.0 fit.1 left.small right.small (number_in d a g es env f ha known) (number_in d b g es env f hb known)),
    )
parts_are_safe d (Cmp op a b) g es env f h known =
    let ha : MeetsRules d a g = record { sorts = h.sorts.0; scales = h.scales.0; bounds = h.bounds.0 } in
    let hb : MeetsRules d b g = record { sorts = h.sorts.1; scales = h.scales.1; bounds = h.bounds.1 } in (
      whole d a g es env f (parts_are_safe d a) ha known,
      whole d b g es env f (parts_are_safe d b) hb known,
      aligned_safely d a b g es env f ha hb known (bound_tests d (Cmp op a b) g h.bounds.2).0,
    )
parts_are_safe d (Not e) g es env f h known =
    whole d e g es env f (parts_are_safe d e) (record { sorts = h.sorts.0; scales = h.scales.0; bounds = h.bounds.0 }) known
parts_are_safe d (Logic op a b) g es env f h known = (
  whole d a g es env f (parts_are_safe d a) (record { sorts = h.sorts.0; scales = h.scales.0; bounds = h.bounds.0 }) known,
  whole d b g es env f (parts_are_safe d b) (record { sorts = h.sorts.1; scales = h.scales.1; bounds = h.bounds.1 }) known,
)
parts_are_safe d (Cond t a b) g es env f h known =
    let ht : MeetsRules d t g = record { sorts = h.sorts.0; scales = h.scales.0; bounds = h.bounds.0 } in
    let ha : MeetsRules d a g = record { sorts = h.sorts.1; scales = h.scales.1; bounds = h.bounds.1 } in
    let hb : MeetsRules d b g = record { sorts = h.sorts.2; scales = h.scales.2; bounds = h.bounds.2 } in (
      whole d t g es env f (parts_are_safe d t) ht known,
      whole d a g es env f (parts_are_safe d a) ha known,
      whole d b g es env f (parts_are_safe d b) hb known,
      aligned_safely d a b g es env f ha hb known (bound_tests d (Cond t a b) g h.bounds.3).0,
    )
parts_are_safe d (Widen s e) g es env f h known =
    let he : MeetsRules d e g = record { sorts = h.sorts.0; scales = h.scales.0; bounds = h.bounds.0 } in
    let ks = range_kinds g in
    let i = scale_of d e ks in
    let x = num (value_of d e es env f) in
    let scaled = and_parts (nat_le (scale_of d (Widen s e) ks) greatest_scale) (has_scaled_parts d ks (Widen s e)) h.scales.1 in
    let fit = (bound_tests d (Widen s e) g h.bounds.1).1 in
    let here : WidensSafely i s x = record {
      order = leb-true i s scaled.1;
      most = subst (λ (m : ℕ). m ≤ greatest_scale) (number_scale (kind_of d e ks) s h.sorts.1) (leb-true (scale_of d (Widen s e) ks) greatest_scale scaled.0);
      small = small_in (interval_of d (Widen s e) g) (raised x (s - i)) fit (in_raised (interval_of d e g) (s - i) x (number_in d e g es env f he known));
    } in
    (whole d e g es env f (parts_are_safe d e) he known, subst (λ (js : List Kind). WidensSafely (scale_of d e js) s x) (same_kinds g es known.inside) here)
parts_are_safe d (Round mode s e) g es env f h known =
    let he : MeetsRules d e g = record { sorts = h.sorts.0; scales = h.scales.0; bounds = h.bounds.0 } in
    let ks = range_kinds g in
    let x = num (value_of d e es env f) in
    let most = subst (λ (m : ℕ). m ≤ greatest_scale) (number_scale (kind_of d e ks) s h.sorts.1) (scale_fits d (Round mode s e) g h.scales) in
    let fit = (bound_tests d (Round mode s e) g h.bounds.1).1 in (
      whole d e g es env f (parts_are_safe d e) he known,
      subst (λ (js : List Kind). RoundsSafely (scale_of d e js) s x) (same_kinds g es known.inside)
          (rounds_in mode (scale_of d e ks) s (interval_of d e g) x fit (number_in d e g es env f he known) most),
    )
parts_are_safe d (Div mode s a b) g es env f h known =
    let ha : MeetsRules d a g = record { sorts = h.sorts.0; scales = h.scales.0; bounds = h.bounds.0 } in
    let hb : MeetsRules d b g = record { sorts = h.sorts.1; scales = h.scales.1; bounds = h.bounds.1 } in
    let ks = range_kinds g in
    let x = num (value_of d a es env f) in
    let y = num (value_of d b es env f) in
    let in_a = number_in d a g es env f ha known in
    let in_b = number_in d b g es env f hb known in
    let division = division_fits (scale_of d a ks) (interval_of d a g) (scale_of d b ks) (interval_of d b g) s (bound_tests d (Div mode s a b) g h.bounds.2).0 in
    let here : DivideSafely (scale_of d a ks) x (scale_of d b ks) y s = record {
      nonzero = sign_nonzero (interval_of d b g) y division.sign in_b;
      most = subst (λ (m : ℕ). m ≤ greatest_scale) (numbers_scale (kind_of d a ks) (kind_of d b ks) s h.sorts.2) (scale_fits d (Div mode s a b) g h.scales);
      fits = divide_in (scale_of d a ks) (interval_of d a g) (scale_of d b ks) (interval_of d b g) s x y division in_a in_b;
    } in (
      whole d a g es env f (parts_are_safe d a) ha known,
      whole d b g es env f (parts_are_safe d b) hb known,
      subst (λ (js : List Kind). DivideSafely (scale_of d a js) x (scale_of d b js) y s) (same_kinds g es known.inside) here,
    )
parts_are_safe d (Acc body n first) g es env f h known = (
  whole d first g es env (f -ℤ pos n) (parts_are_safe d first) (record { sorts = h.sorts.0; scales = h.scales.0; bounds = h.bounds.0 }) known,
  λ i l. round_is_safe d body n first g es env f h known i l (parts_are_safe d body),
)

pub expression_is_safe : (d : Declarations) (e : Expression) (g : List Range) (es : List Entry) (env : Environment) (f : ℤ) → MeetsRules d e g → Suits d g es env → CanEvaluate d e es env f
expression_is_safe d e g es env f h known =
    record {
      scales = subst (ScalesFit d e) (same_kinds g es known.inside) (scales_fit d e g h.scales);
      safe = whole d e g es env f (parts_are_safe d e) h known;
    }
