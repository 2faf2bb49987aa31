-- Where an expression may be evaluated, there are values for its names with which it is safe.
use Rattle.std.proofs.Common.{◌≡◌, inl, inr, ℕ, ◌^◌, ◌≤◌, ℤ, pos, unsigned_abs, IsTrue, is_some, List, [], ◌∷◌, Option, Some, None, refl, sym, subst, ap, ◌∙◌, arith}
use Rattle.std.proofs.lemmas.Int.{ints}
use Rattle.std.proofs.lemmas.Bool.Decides.{nat_tests}
use Rattle.term_model.specs.Declarations.{Declarations}
use Rattle.term_model.specs.declared.values.Kind.{Kind}
use Rattle.term_model.specs.declared.values.Kind.TheVariants.{Truth as TruthKind, Number}
use Rattle.term_model.specs.declared.values.Value.{Value}
use Rattle.term_model.specs.Terms.{Expression, Lit, Yes, Var, Obs, Neg, Num, Cmp, Not, Logic, Cond, Widen, Round, Div, Acc}
use Rattle.term_model.specs.Terms.{Contract, Zero, Pay, Both, Scale, After, Let, Within}
use Rattle.term_model.specs.Environments.{Environment, IsAdmitted}
use Rattle.term_model.specs.Kinds.{kind_of}
use Rattle.term_model.specs.Values.{Entry, num, value_of}
use Rattle.term_model.specs.LawsKinds.{IsOfKind}
use Rattle.term_model.specs.Bounds.{Range, interval_of}
use Rattle.term_model.specs.Acceptance.{IsAccepted}
use Rattle.term_model.specs.Sizes.{past, past_of_contract, height_of_contract, nodes_of_contract, reach, work_of_contract}
use Rattle.term_model.specs.Smallness.{is_small, within_limits, days_of_contract}
use Rattle.term_model.proofs.TimeFacts.{whole_passes}
use Rattle.interval_check.specs.Nodes.{range_of}
use Rattle.interval_check.specs.Within.{IsIn, OnNumber, IsWithin, AreWithin, IsSuited, AreSuited, KeepsLimits}
use Rattle.interval_check.specs.Parts.{IsPart, StandsIn}
use Rattle.interval_check.specs.Safety.{ScalesFit, CanEvaluate}
use Rattle.interval_check.specs.RangeTrials.{kind_found}
use Rattle.term_model.specs.Shifts.{shifted}
use Rattle.interval_check.proofs.GuaranteeFacts.{accepted_meet_rules, parts_meet_rules, expressions_are_safe}
use Rattle.interval_check.proofs.GuaranteeFacts.{values_lie_in_intervals}
use Rattle.interval_check.proofs.ShiftedRules.{rules_see_no_offsets}
use Rattle.interval_check.proofs.SuitedFacts.{suited_are_within, entries_round, nothing_fixed}
use Rattle.interval_check.proofs.KindsFound.{has_kind}
use Rattle.interval_check.proofs.ClosedFacts.{closed_need_no_names}
use Rattle.expr_eval.specs.declared.scratch.Held.{Held}
use Rattle.expr_eval.specs.declared.scratch.Held.TheVariants.{Known, Lacking}
use Rattle.expr_eval.specs.declared.scratch.Binding.{Binding}
use Rattle.expr_eval.specs.Rooms.{kinds_of}
use Rattle.expr_eval.specs.KindScales.{KindFits}
use Rattle.expr_eval.specs.Evaluable.{IsHeldIn, SuitAll, MayEvaluate}
use Rattle.expr_eval.specs.Fits.{Fits}
use Rattle.expr_eval.proofs.RunValues.{HasValue, HaveValues, same_kinds}
use Rattle.expr_eval.proofs.SpanFacts.{span, span-shifted, span-past}
use Rattle.expr_eval.proofs.FitFacts.{InDays, kind_fits, run_fits}

-- entries that lie within the ranges round an expression, with the known values in the place of theirs

pub on_number : (k : Kind) (P : Type 0) → P → OnNumber k P
on_number TruthKind P p = tt
on_number (Number s) P p = p

pub record Filled (r : Range) (k : Kind) (b : Held) : Type 0 where
  pub value : Value
  pub suited : IsSuited r (record { value = value; kind = k })
  pub known : HasValue b value

filled : (r : Range) (k : Kind) (b : Held) (x : Entry) → k ≡ r.kind → IsHeldIn r b → IsWithin r x → Filled r k b
filled r k (Known v) x e h w =
    record {
      value = v;
      suited = record { same_kind = e; of_kind = subst (λ (j : Kind). IsOfKind j v) (sym e) h.of_kind; inside = h.inside };
      known = refl;
    }
filled r k (Lacking m) x e h w =
    record {
      value = x.value;
      suited = record { same_kind = e; of_kind = subst (λ (j : Kind). IsOfKind j x.value) (w.same_kind ∙ sym e) w.of_kind; inside = on_number r.kind (IsIn r.interval (num x.value)) w.inside };
      known = tt;
    }

pub record SuitedEntries (g : List Range) (bs : List Binding) : Type 0 where
  pub entries : List Entry
  pub suited : AreSuited g entries
  pub known : HaveValues bs entries

suited_entries : (g : List Range) (bs : List Binding) (xs : List Entry) → SuitAll g bs → AreWithin g xs → SuitedEntries g bs
suited_entries [] [] [] s w = record { entries = []; suited = tt; known = tt }
suited_entries [] [] (x ∷ xs) s w = absurd w
suited_entries [] (b ∷ bs) xs s w = absurd s
suited_entries (r ∷ g) [] xs s w = absurd s
suited_entries (r ∷ g) (b ∷ bs) [] s w = absurd w
suited_entries (r ∷ g) (b ∷ bs) (x ∷ xs) s w =
    let one = filled r b.kind b.held x s.0.same_kind s.0.within w.0 in
    let rest = suited_entries g bs xs s.1 w.1 in
    record {
      entries = record { value = one.value; kind = b.kind } ∷ rest.entries;
      suited = (one.suited, rest.suited);
      known = (refl, one.known, rest.known);
    }

pub entries_for : (d : Declarations) → KeepsLimits d → (e : Expression) (g : List Range) (c : Contract) (bs : List Binding) → IsAccepted d c → StandsIn d e g c [] → SuitAll g bs → SuitedEntries g bs
entries_for d limits e g c bs accepted stands suit =
    let some = entries_round d limits e g c [] stands (accepted_meet_rules d c accepted) ([], tt) in
    suited_entries g bs some.0 suit some.1

-- what stands in an accepted contract with its offsets moved is safe as it is
pub moved_is_safe : (d : Declarations) (c : Contract) (e : Expression) (m : ℤ) (h : List Range) (es : List Entry) (env : Environment) (f : ℤ) → KeepsLimits d → IsAccepted d c → StandsIn d (shifted m e) h c [] → AreSuited h es → IsAdmitted d env → CanEvaluate d e es env f × IsIn (interval_of d e h) (num (value_of d e es env f))
moved_is_safe d c e m h es env f limits accepted stands suited admitted =
    let whole = accepted_meet_rules d c accepted in
    let rules = (rules_see_no_offsets d e m h).0 (parts_meet_rules d (shifted m e) h c [] stands whole) in
    let within = suited_are_within d limits (shifted m e) h c es stands whole suited in
    (expressions_are_safe d e h es env f limits rules within admitted, values_lie_in_intervals d e h es env f limits rules.bounds within admitted)

-- so it is safe with these

pub record SafeEntries (d : Declarations) (e : Expression) (bs : List Binding) (env : Environment) (f : ℤ) : Type 0 where
  pub entries : List Entry
  pub known : HaveValues bs entries
  pub safe : CanEvaluate d e entries env f

pub safe_entries : (d : Declarations) (e : Expression) (bs : List Binding) (env : Environment) (f : ℤ) → KeepsLimits d → IsAdmitted d env → MayEvaluate d e bs → SafeEntries d e bs env f
safe_entries d e bs env f limits admitted h = elim h.entries [
  | inl suit ↦
      let known = entries_for d limits (shifted h.moved e) h.ranges h.contract bs h.accepted h.stands suit in
      record {
        entries = known.entries;
        known = known.known;
        safe = (moved_is_safe d h.contract e h.moved h.ranges known.entries env f limits h.accepted h.stands known.suited admitted).0;
      }
  | inr none ↦
      let rules = (rules_see_no_offsets d e h.moved h.ranges).0 (parts_meet_rules d (shifted h.moved e) h.ranges h.contract [] h.stands (accepted_meet_rules d h.contract h.accepted)) in
      record {
        entries = [];
        known = subst (λ (cs : List Binding). HaveValues cs []) (sym none.empty) tt;
        safe = expressions_are_safe d e [] [] env f limits (closed_need_no_names d e h.ranges none.closed rules) tt admitted;
      }
]

-- and has a kind

some_of : (o : Option Kind) → IsTrue (is_some o) → (k : Kind) × (o ≡ Some k)
some_of None h = absurd (cc)
some_of (Some k) h = (k, refl)

pub kind_for : (d : Declarations) (e : Expression) (bs : List Binding) (env : Environment) (f : ℤ) → SafeEntries d e bs env f → (k : Kind) × (kind_of d e (kinds_of bs) ≡ Some k)
kind_for d e bs env f h =
    some_of (kind_of d e (kinds_of bs)) (subst (λ (ks : List Kind). IsTrue (is_some (kind_of d e ks))) (sym (same_kinds bs h.entries h.known)) h.safe.safe.0.sorted)

-- and that is what is found by its form

pub record FoundKind (d : Declarations) (e : Expression) (bs : List Binding) : Type 0 where
  pub fits : KindFits d e (kinds_of bs)
  pub right : kind_of d e (kinds_of bs) ≡ Some (kind_found d e (kinds_of bs))

pub found_kind : (d : Declarations) (e : Expression) (bs : List Binding) → KeepsLimits d → MayEvaluate d e bs → FoundKind d e bs
found_kind d e bs limits h =
    let s = safe_entries d e bs [] (pos 0) limits (nothing_fixed d) h in
    let k = kind_for d e bs [] (pos 0) s in
    let scales = subst (λ (ks : List Kind). ScalesFit d e ks) (sym (same_kinds bs s.entries s.known)) s.safe.scales in
    record {
      fits = kind_fits d e (kinds_of bs) k.0 k.1 scales;
      right = k.1 ∙ ap (λ (j : Kind). Some j) (sym (has_kind d e (kinds_of bs) k.0 k.1));
    }

-- the past of an accepted contract is limited, and so is that of each part

past_of_part : (e x : Expression) → IsPart e x → past e ≤ past x
past_of_part e (Lit m s) p = let q = ap past p in omega arith
past_of_part e (Yes b) p = let q = ap past p in omega arith
past_of_part e (Var back) p = let q = ap past p in omega arith
past_of_part e (Obs l t) p = let q = ap past p in omega arith
past_of_part e (Neg a) (inl p) = let q = ap past p in omega arith
past_of_part e (Neg a) (inr p) = past_of_part e a p
past_of_part e (Num op a b) (inl p) = let q = ap past p in omega arith
past_of_part e (Num op a b) (inr (inl p)) = let q = past_of_part e a p in omega arith
past_of_part e (Num op a b) (inr (inr p)) = let q = past_of_part e b p in omega arith
past_of_part e (Cmp op a b) (inl p) = let q = ap past p in omega arith
past_of_part e (Cmp op a b) (inr (inl p)) = let q = past_of_part e a p in omega arith
past_of_part e (Cmp op a b) (inr (inr p)) = let q = past_of_part e b p in omega arith
past_of_part e (Not a) (inl p) = let q = ap past p in omega arith
past_of_part e (Not a) (inr p) = past_of_part e a p
past_of_part e (Logic op a b) (inl p) = let q = ap past p in omega arith
past_of_part e (Logic op a b) (inr (inl p)) = let q = past_of_part e a p in omega arith
past_of_part e (Logic op a b) (inr (inr p)) = let q = past_of_part e b p in omega arith
past_of_part e (Cond t a b) (inl p) = let q = ap past p in omega arith
past_of_part e (Cond t a b) (inr (inl p)) = let q = past_of_part e t p in omega arith
past_of_part e (Cond t a b) (inr (inr (inl p))) = let q = past_of_part e a p in omega arith
past_of_part e (Cond t a b) (inr (inr (inr p))) = let q = past_of_part e b p in omega arith
past_of_part e (Widen s a) (inl p) = let q = ap past p in omega arith
past_of_part e (Widen s a) (inr p) = past_of_part e a p
past_of_part e (Round mode s a) (inl p) = let q = ap past p in omega arith
past_of_part e (Round mode s a) (inr p) = past_of_part e a p
past_of_part e (Div mode s a b) (inl p) = let q = ap past p in omega arith
past_of_part e (Div mode s a b) (inr (inl p)) = let q = past_of_part e a p in omega arith
past_of_part e (Div mode s a b) (inr (inr p)) = let q = past_of_part e b p in omega arith
past_of_part e (Acc body n first) (inl p) = let q = ap past p in omega arith
past_of_part e (Acc body n first) (inr p) = let q = past_of_part e first p in omega arith

pub past_of_standing : (d : Declarations) (e : Expression) (h : List Range) (c : Contract) (g : List Range) → StandsIn d e h c g → past e ≤ past_of_contract c
past_of_standing d e h Zero g p = absurd p
past_of_standing d e h (Pay a x y) g p = absurd p
past_of_standing d e h (Both a b) g (inl p) = let q = past_of_standing d e h a g p in omega arith
past_of_standing d e h (Both a b) g (inr p) = let q = past_of_standing d e h b g p in omega arith
past_of_standing d e h (Scale x c) g (inl p) = let q = past_of_part e x p.part in omega arith
past_of_standing d e h (Scale x c) g (inr p) = let q = past_of_standing d e h c g p in omega arith
past_of_standing d e h (After n c) g p = past_of_standing d e h c g p
past_of_standing d e h (Let x c) g (inl p) = let q = past_of_part e x p.part in omega arith
past_of_standing d e h (Let x c) g (inr p) = let q = past_of_standing d e h c (range_of d x g ∷ g) p in omega arith
past_of_standing d e h (Within x n a b) g (inl p) = let q = past_of_part e x p.part in omega arith
past_of_standing d e h (Within x n a b) g (inr (inl p)) = let q = past_of_standing d e h a g p in omega arith
past_of_standing d e h (Within x n a b) g (inr (inr p)) = let q = past_of_standing d e h b g p in omega arith

back_within : (h n days far back steps : ℕ) → IsTrue (within_limits h n days far back steps) → back ≤ 1_000_000
back_within h n days far back steps p = grind (arith, nat_tests)

pub past_limited : (d : Declarations) (c : Contract) → IsAccepted d c → past_of_contract c ≤ 1_000_000
past_limited d c h =
    back_within (height_of_contract c) (nodes_of_contract c) (days_of_contract c) (reach c) (past_of_contract c) (work_of_contract c) (whole_passes (λ s. IsTrue (is_small s)) c [] 0 h.sizes)

near : (n : ℕ) (f : ℤ) → n ≤ 1_000_000 → unsigned_abs f ≤ 10 ^ 12 → InDays n f
near n f h k = record { low = omega (arith, ints); high = omega (arith, ints) }

-- so an evaluation fits

pub may_run : (d : Declarations) (e : Expression) (bs : List Binding) (env : Environment) (f : ℤ) → KeepsLimits d → IsAdmitted d env → unsigned_abs f ≤ 10 ^ 12 → MayEvaluate d e bs → Fits d e bs env f
may_run d e bs env f limits admitted day h =
    let s = safe_entries d e bs env f limits admitted h in
    let k = kind_for d e bs env f s in
    let moved = shifted h.moved e in
    let back = past_limited d h.contract h.accepted in
    let here = past_of_standing d moved h.ranges h.contract [] h.stands in
    let reached = span-past moved in
    let same = span-shifted h.moved e in
    let close : span e ≤ 1_000_000 = omega arith in
    run_fits d e bs s.entries s.known env f (near (span e) f close day) k.0 (subst (λ (ks : List Kind). kind_of d e ks ≡ Some k.0) (same_kinds bs s.entries s.known) k.1) s.safe.scales s.safe.safe.1
