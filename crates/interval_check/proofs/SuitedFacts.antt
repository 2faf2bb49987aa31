-- Entries that suit the bindings round an expression lie within their ranges, so that the expression can be evaluated.
use Rattle.std.proofs.Common.{inl, inr, pos, List, [], ◌∷◌, sym, subst}
use Rattle.term_model.specs.Declarations.{Declarations}
use Rattle.term_model.specs.declared.values.Kind.{Kind}
use Rattle.term_model.specs.declared.values.Kind.TheVariants.{Truth as TruthKind, Number}
use Rattle.term_model.specs.declared.values.Value.{Value}
use Rattle.term_model.specs.declared.values.Value.TheVariants.{Num as Amount, Truth}
use Rattle.term_model.specs.Terms.{Expression, Contract, Zero, Pay, Both, Scale, After, Let, Within}
use Rattle.term_model.specs.Environments.{IsAdmitted}
use Rattle.term_model.specs.Values.{Entry, num}
use Rattle.term_model.specs.LawsKinds.{IsOfKind}
use Rattle.term_model.specs.Bounds.{Interval, Range}
use Rattle.interval_check.specs.Nodes.{ContractMeetsRules, range_of}
use Rattle.interval_check.specs.Within.{IsIn, OnNumber, IsWithin, AreWithin, IsSuited, AreSuited, KeepsLimits}
use Rattle.interval_check.specs.Parts.{IsPartHere, StandsIn}
use Rattle.interval_check.specs.Sums.{entry_of}
use Rattle.interval_check.specs.Guarantees.{PartsOfAcceptedAreSafe}
use Rattle.interval_check.proofs.GuaranteeFacts.{accepted_meet_rules, parts_meet_rules, values_lie_in_intervals, expressions_are_safe, bindings_lie_within}

-- a truth value stands for the number 0
zero_of_truth : (v w : Value) (i : Interval) → IsOfKind TruthKind v → IsOfKind TruthKind w → IsIn i (num v) → IsIn i (num w)
zero_of_truth (Truth a) (Truth b) i h g inside = inside
zero_of_truth (Truth a) (Amount m) i h g inside = absurd g
zero_of_truth (Amount m) w i h g inside = absurd h

inside_by_kind : (k : Kind) (i : Interval) (v w : Value) → IsOfKind k v → IsOfKind k w → IsIn i (num v) → OnNumber k (IsIn i (num w)) → IsIn i (num w)
inside_by_kind TruthKind i v w h g inside known = zero_of_truth v w i h g inside
inside_by_kind (Number s) i v w h g inside known = known

-- next to an entry that lies within a range, one that suits it does too
one_within : (r : Range) (e x : Entry) → IsWithin r x → IsSuited r e → IsWithin r e
one_within r e x within suited =
    let here = subst (λ (k : Kind). IsOfKind k x.value) within.same_kind within.of_kind in
    let there = subst (λ (k : Kind). IsOfKind k e.value) suited.same_kind suited.of_kind in
    record {
      same_kind = suited.same_kind;
      of_kind = suited.of_kind;
      inside = inside_by_kind r.kind r.interval x.value e.value here there within.inside suited.inside;
    }

all_within : (g : List Range) (xs es : List Entry) → AreWithin g xs → AreSuited g es → AreWithin g es
all_within [] [] [] h s = tt
all_within [] [] (e ∷ es) h s = absurd s
all_within [] (x ∷ xs) es h s = absurd h
all_within (r ∷ g) [] es h s = absurd h
all_within (r ∷ g) (x ∷ xs) [] h s = absurd s
all_within (r ∷ g) (x ∷ xs) (e ∷ es) h s = (one_within r e x h.0 s.0, all_within g xs es h.1 s.1)

-- some entries lie within the ranges: the values where nothing is fixed
abbrev pub HasEntries : List Range → Type 0
HasEntries g = (es : List Entry) × AreWithin g es

pub nothing_fixed : (d : Declarations) → IsAdmitted d []
nothing_fixed d q v e = absurd (cc)

entries_of_part : (h : List Range) (e x : Expression) (g : List Range) → IsPartHere e h x g → HasEntries g → HasEntries h
entries_of_part h e x g p some = (some.0, subst (λ (k : List Range). AreWithin k some.0) (sym p.ranges) some.1)

pub entries_round : (d : Declarations) → KeepsLimits d → (e : Expression) (h : List Range) (c : Contract) (g : List Range) → StandsIn d e h c g → ContractMeetsRules d c g → HasEntries g → HasEntries h
entries_round d limits e h Zero g p rules some = absurd p
entries_round d limits e h (Pay a x y) g p rules some = absurd p
entries_round d limits e h (Both a b) g (inl p) rules some =
    entries_round d limits e h a g p (record { sorts = rules.sorts.0; scales = rules.scales.0; bounds = rules.bounds.0 }) some
entries_round d limits e h (Both a b) g (inr p) rules some =
    entries_round d limits e h b g p (record { sorts = rules.sorts.1; scales = rules.scales.1; bounds = rules.bounds.1 }) some
entries_round d limits e h (Scale x c) g (inl p) rules some = entries_of_part h e x g p some
entries_round d limits e h (Scale x c) g (inr p) rules some =
    entries_round d limits e h c g p (record { sorts = rules.sorts.1; scales = rules.scales.1; bounds = rules.bounds.1 }) some
entries_round d limits e h (After n c) g p rules some =
    entries_round d limits e h c g p (record { sorts = rules.sorts.0; scales = rules.scales.0; bounds = rules.bounds.0 }) some
entries_round d limits e h (Let x c) g (inl p) rules some = entries_of_part h e x g p some
entries_round d limits e h (Let x c) g (inr p) rules some =
    let bound = bindings_lie_within d x g some.0 [] (pos 0) limits (record { sorts = rules.sorts.0; scales = rules.scales.0; bounds = rules.bounds.0 }) some.1 (nothing_fixed d) in
    entries_round d limits e h c (range_of d x g ∷ g) p (record { sorts = rules.sorts.1; scales = rules.scales.1; bounds = rules.bounds.1 }) (entry_of d x some.0 [] (pos 0) ∷ some.0, bound)
entries_round d limits e h (Within x n a b) g (inl p) rules some = entries_of_part h e x g p some
entries_round d limits e h (Within x n a b) g (inr (inl p)) rules some =
    entries_round d limits e h a g p (record { sorts = rules.sorts.1; scales = rules.scales.1; bounds = rules.bounds.1 }) some
entries_round d limits e h (Within x n a b) g (inr (inr p)) rules some =
    entries_round d limits e h b g p (record { sorts = rules.sorts.2; scales = rules.scales.2; bounds = rules.bounds.2 }) some

pub suited_are_within : (d : Declarations) → KeepsLimits d → (e : Expression) (h : List Range) (c : Contract) (es : List Entry) → StandsIn d e h c [] → ContractMeetsRules d c [] → AreSuited h es → AreWithin h es
suited_are_within d limits e h c es stands rules suited =
    let some = entries_round d limits e h c [] stands rules ([], tt) in
    all_within h some.0 es some.1 suited

pub parts_of_accepted_are_safe : PartsOfAcceptedAreSafe
parts_of_accepted_are_safe d c e h es env f limits accepted stands suited admitted =
    let whole = accepted_meet_rules d c accepted in
    let rules = parts_meet_rules d e h c [] stands whole in
    let within = suited_are_within d limits e h c es stands whole suited in (
      expressions_are_safe d e h es env f limits rules within admitted,
      values_lie_in_intervals d e h es env f limits rules.bounds within admitted,
    )
