-- An expression with parts replaced may stand for the whole: by induction over the whole.
use Rattle.std.proofs.Common.{◌≡◌, ℕ, ◌≤◌, ◌<◌, inl, inr, IsTrue, List, ◌∷◌, refl, sym, subst, arith}
use Rattle.term_model.specs.Declarations.{Declarations}
use Rattle.term_model.specs.Terms.{Expression, Lit, Yes, Var, Obs, Neg, Num, Cmp, Not, Logic, Cond, Widen, Round, Div, Acc}
use Rattle.term_model.specs.Bounds.{Range}
use Rattle.interval_check.specs.Nodes.{IsBounded, is_sorted_part, is_scaled_part, MeetsRules, range_after}
use Rattle.interval_check.specs.Within.{KeepsLimits}
use Rattle.interval_check.specs.Narrowing.{AreNarrower}
use Rattle.rewriting.specs.Replacing.{Replaces, RewrittenReplaces}
use Rattle.interval_check.proofs.KindsEnough.{kinds_are_enough}
use Rattle.interval_check.proofs.NarrowerFacts.{stays_tight}
use Rattle.rewriting.proofs.ReplacingFacts.{replaces_neg, replaces_num, replaces_cmp, replaces_not, replaces_logic, replaces_cond, replaces_widen, replaces_round, replaces_div, replaces_acc}

-- an accumulator of fewer days
fewer_days : (d : Declarations) (body : Expression) (n i : ℕ) (first : Expression) (g : List Range) → i ≤ n → IsBounded d (Acc body n first) g → IsBounded d (Acc body i first) g
fewer_days d body n i first g l h = (h.0, λ j m. h.1 j (omega arith))

-- the names of its body in a round are in order
pub ordered_round : (d : Declarations) → KeepsLimits d → (body : Expression) (n i : ℕ) (first : Expression) (g : List Range) → AreNarrower g g → i < n → IsBounded d (Acc body n first) g → AreNarrower (range_after d body i first g ∷ g) (range_after d body i first g ∷ g)
ordered_round d limits body n i first g ordered l h =
    let known = stays_tight d limits (Acc body i first) g g ordered (fewer_days d body n i first g (omega arith) h) in
    (record { same_kind = refl; inside = known.inside }, ordered)

-- and the body meets the rules there
pub round_rules : (d : Declarations) (body : Expression) (n i : ℕ) (first : Expression) (g : List Range) → i < n → MeetsRules d (Acc body n first) g → MeetsRules d body (range_after d body i first g ∷ g)
round_rules d body n i first g l h =
    record {
      sorts = kinds_are_enough (λ ks part. IsTrue (is_sorted_part d ks part)) d body (range_after d body 0 first g ∷ g) (range_after d body i first g ∷ g) refl h.sorts.1.0;
      scales = kinds_are_enough (λ ks part. IsTrue (is_scaled_part d ks part)) d body (range_after d body 0 first g ∷ g) (range_after d body i first g ∷ g) refl h.scales.1.0;
      bounds = (h.bounds.1 i l).0;
    }

-- an equal expression
equal : (d : Declarations) (y z x : Expression) (g : List Range) → y ≡ z → Replaces d z x g → Replaces d y x g
equal d y z x g e r = subst (λ (w : Expression). Replaces d w x g) (sym e) r

pub rewritten_replaces : RewrittenReplaces
rewritten_replaces d (Lit m s) y g limits ordered h w = w
rewritten_replaces d (Yes b) y g limits ordered h w = w
rewritten_replaces d (Var back) y g limits ordered h w = w
rewritten_replaces d (Obs l t) y g limits ordered h w = w
rewritten_replaces d (Neg a) y g limits ordered h (inl r) = r
rewritten_replaces d (Neg a) y g limits ordered h (inr w) =
    let part : MeetsRules d a g = record { sorts = h.sorts.0; scales = h.scales.0; bounds = h.bounds.0 } in
    equal d y (Neg w.0) (Neg a) g w.1 (replaces_neg d w.0 a g (rewritten_replaces d a w.0 g limits ordered part w.2) h)
rewritten_replaces d (Num op a b) y g limits ordered h (inl r) = r
rewritten_replaces d (Num op a b) y g limits ordered h (inr w) =
    let left : MeetsRules d a g = record { sorts = h.sorts.0; scales = h.scales.0; bounds = h.bounds.0 } in
    let right : MeetsRules d b g = record { sorts = h.sorts.1; scales = h.scales.1; bounds = h.bounds.1 } in
    equal d y (Num op w.0 w.1) (Num op a b) g w.2 (replaces_num d op w.0 w.1 a b g (rewritten_replaces d a w.0 g limits ordered left w.3) (rewritten_replaces d b w.1 g limits ordered right w.4) h)
rewritten_replaces d (Cmp op a b) y g limits ordered h (inl r) = r
rewritten_replaces d (Cmp op a b) y g limits ordered h (inr w) =
    let left : MeetsRules d a g = record { sorts = h.sorts.0; scales = h.scales.0; bounds = h.bounds.0 } in
    let right : MeetsRules d b g = record { sorts = h.sorts.1; scales = h.scales.1; bounds = h.bounds.1 } in
    equal d y (Cmp op w.0 w.1) (Cmp op a b) g w.2 (replaces_cmp d op w.0 w.1 a b g (rewritten_replaces d a w.0 g limits ordered left w.3) (rewritten_replaces d b w.1 g limits ordered right w.4) h)
rewritten_replaces d (Not a) y g limits ordered h (inl r) = r
rewritten_replaces d (Not a) y g limits ordered h (inr w) =
    let part : MeetsRules d a g = record { sorts = h.sorts.0; scales = h.scales.0; bounds = h.bounds.0 } in
    equal d y (Not w.0) (Not a) g w.1 (replaces_not d w.0 a g (rewritten_replaces d a w.0 g limits ordered part w.2) h)
rewritten_replaces d (Logic op a b) y g limits ordered h (inl r) = r
rewritten_replaces d (Logic op a b) y g limits ordered h (inr w) =
    let left : MeetsRules d a g = record { sorts = h.sorts.0; scales = h.scales.0; bounds = h.bounds.0 } in
    let right : MeetsRules d b g = record { sorts = h.sorts.1; scales = h.scales.1; bounds = h.bounds.1 } in
    equal d y (Logic op w.0 w.1) (Logic op a b) g w.2 (replaces_logic d op w.0 w.1 a b g (rewritten_replaces d a w.0 g limits ordered left w.3) (rewritten_replaces d b w.1 g limits ordered right w.4) h)
rewritten_replaces d (Cond t a b) y g limits ordered h (inl r) = r
rewritten_replaces d (Cond t a b) y g limits ordered h (inr w) =
    let test : MeetsRules d t g = record { sorts = h.sorts.0; scales = h.scales.0; bounds = h.bounds.0 } in
    let left : MeetsRules d a g = record { sorts = h.sorts.1; scales = h.scales.1; bounds = h.bounds.1 } in
    let right : MeetsRules d b g = record { sorts = h.sorts.2; scales = h.scales.2; bounds = h.bounds.2 } in
    equal d y (Cond w.0 w.1 w.2) (Cond t a b) g w.3 (replaces_cond d w.0 w.1 w.2 t a b g (rewritten_replaces d t w.0 g limits ordered test w.4) (rewritten_replaces d a w.1 g limits ordered left w.5) (rewritten_replaces d b w.2 g limits ordered right w.6) h)
rewritten_replaces d (Widen s a) y g limits ordered h (inl r) = r
rewritten_replaces d (Widen s a) y g limits ordered h (inr w) =
    let part : MeetsRules d a g = record { sorts = h.sorts.0; scales = h.scales.0; bounds = h.bounds.0 } in
    equal d y (Widen s w.0) (Widen s a) g w.1 (replaces_widen d s w.0 a g (rewritten_replaces d a w.0 g limits ordered part w.2) h)
rewritten_replaces d (Round mode s a) y g limits ordered h (inl r) = r
rewritten_replaces d (Round mode s a) y g limits ordered h (inr w) =
    let part : MeetsRules d a g = record { sorts = h.sorts.0; scales = h.scales.0; bounds = h.bounds.0 } in
    equal d y (Round mode s w.0) (Round mode s a) g w.1 (replaces_round d mode s w.0 a g (rewritten_replaces d a w.0 g limits ordered part w.2) h)
rewritten_replaces d (Div mode s a b) y g limits ordered h (inl r) = r
rewritten_replaces d (Div mode s a b) y g limits ordered h (inr w) =
    let left : MeetsRules d a g = record { sorts = h.sorts.0; scales = h.scales.0; bounds = h.bounds.0 } in
    let right : MeetsRules d b g = record { sorts = h.sorts.1; scales = h.scales.1; bounds = h.bounds.1 } in
    equal d y (Div mode s w.0 w.1) (Div mode s a b) g w.2 (replaces_div d mode s w.0 w.1 a b g (rewritten_replaces d a w.0 g limits ordered left w.3) (rewritten_replaces d b w.1 g limits ordered right w.4) h)
rewritten_replaces d (Acc body n first) y g limits ordered h (inl r) = r
rewritten_replaces d (Acc body n first) y g limits ordered h (inr w) =
    let start : MeetsRules d first g = record { sorts = h.sorts.0; scales = h.scales.0; bounds = h.bounds.0 } in
    equal d y (Acc w.0 n w.1) (Acc body n first) g w.2
    (replaces_acc d limits w.0 n w.1 body first g ordered (rewritten_replaces d first w.1 g limits ordered start w.3) w.4
    (λ i l. rewritten_replaces d body w.0 (range_after d body i first g ∷ g) limits (ordered_round d limits body n i first g ordered l h.bounds) (round_rules d body n i first g l h) (w.5 i l))
    h)
