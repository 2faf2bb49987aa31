-- What meets the rules can be turned, over contracts with shared parts.
use Rattle.std.proofs.Common.{◌≡◌, ℕ, pos, ◌+◌, ◌<◌, ◌≤◌, ◌^◌, Option, Some, ℤ, true, false, List, ◌∷◌, [], refl, ap, subst, ◌∙◌, arith}
use Rattle.term_model.specs.Declarations.{Declarations}
use Rattle.term_model.specs.declared.values.Kind.{Kind}
use Rattle.term_model.specs.declared.values.Kind.TheVariants.{Truth as TruthKind}
use Rattle.term_core.specs.declared.shared.SharedContr.{SharedContr}
use Rattle.term_core.specs.declared.shared.SharedContr.TheVariants.{Zero as Zero', Pay as Pay', Both', Scale', After', Let', Within'}
use Rattle.term_core.specs.SharedTerms.{shared}
use Rattle.term_model.specs.Shifts.{shifted}
use Rattle.term_model.specs.Terms.{Expression, expression, Lit, Yes, Contract, Zero, Pay, Both, Scale, After, Let, Within}
use Rattle.term_model.specs.Kinds.{kind_of}
use Rattle.term_model.specs.Sizes.{height_of_contract, reach}
use Rattle.term_model.specs.Values.{Entry, kind_or}
use Rattle.term_model.specs.Bounds.{Range, range_kinds}
use Rattle.term_model.proofs.ShiftFacts.{kind-shifted}
use Rattle.interval_check.specs.Nodes.{MeetsRules, ContractMeetsRules, range_of}
use Rattle.interval_check.specs.Narrowing.{AreNarrower}
use Rattle.interval_check.specs.RangeTrials.{kind_found}
use Rattle.interval_check.specs.Sums.{entry_of}
use Rattle.interval_check.specs.Within.{AreWithin, KeepsLimits}
use Rattle.interval_check.proofs.GuaranteeFacts.{bindings_lie_within}
use Rattle.interval_check.proofs.NarrowerFacts.{stays_tight, narrower_let}
use Rattle.interval_check.proofs.SuitedFacts.{nothing_fixed}
use Rattle.interval_check.proofs.ShiftedRules.{rules_see_no_offsets}
use Rattle.simplify.specs.LawsRulesStand.{TruthsAreNothing}
use Rattle.simplify.specs.Turning.{turned}
use Rattle.simplify.specs.TurningContracts.{turned_in}
use Rattle.simplify.specs.TurnableContracts.{joined_days, DecidesTest, CanTurnIn}
use Rattle.simplify.proofs.FormFacts.{root_kind}
use Rattle.simplify.proofs.TruthIntervals.{truths_have_nothing}
use Rattle.simplify.proofs.TurnReplaces.{turn_replaces}
use Rattle.simplify.proofs.TurnSmall.{turn_lesser_in}
use Rattle.simplify.proofs.TurnableFacts.{can_turn, kind_is}
use Rattle.simplify.proofs.TurnFlows.{truth_kind}

decides_test : (d : Declarations) (x : Expression) (ks : List Kind) → kind_of d x ks ≡ Some TruthKind → DecidesTest x
decides_test d (Lit m s) ks h n a b = absurd (cc)
decides_test d (Yes true) ks h n a b = refl
decides_test d (Yes false) ks h n a b = refl
decides_test d x ks h n a b = refl

few_days : (n : ℕ) (c : Contract) → joined_days n c ≤ n + reach c
few_days n Zero = omega arith
few_days n (Pay a p q) = omega arith
few_days n (Both a b) = omega arith
few_days n (Scale e c) = omega arith
few_days n (After k c) = omega arith
few_days n (Let e c) = omega arith
few_days n (Within e k a b) = omega arith

stored : (d : Declarations) (k : ℤ) (e : Expression) (g : List Range) → MeetsRules d (shifted k e) g → MeetsRules d e g
stored d k e g r = (rules_see_no_offsets d e k g).0 r

pub can_turn_in : (d : Declarations) (s : SharedContr) (g : List Range) (es : List Entry) → KeepsLimits d → AreNarrower g g → AreWithin g es → TruthsAreNothing g → ContractMeetsRules d (shared s) g → height_of_contract (shared s) ≤ 2 ^ 30 → reach (shared s) < 2 ^ 32 → CanTurnIn d s (range_kinds g)
can_turn_in d Zero' g es limits ordered within t r low near = tt
can_turn_in d (Pay' x p q) g es limits ordered within t r low near = tt
can_turn_in d (Both' p a q b) g es limits ordered within t r low near = (
  can_turn_in d a g es limits ordered within t (record { sorts = r.sorts.0; scales = r.scales.0; bounds = r.bounds.0 }) (omega (arith, low)) (omega (arith, near)),
  can_turn_in d b g es limits ordered within t (record { sorts = r.sorts.1; scales = r.scales.1; bounds = r.bounds.1 }) (omega (arith, low)) (omega (arith, near)),
)
can_turn_in d (Scale' e k q c) g es limits ordered within t r low near = (
  can_turn d (expression e.value) g es limits ordered within t (stored d k (expression e.value) g (record { sorts = r.sorts.0; scales = r.scales.0; bounds = r.bounds.0 })),
  can_turn_in d c g es limits ordered within t (record { sorts = r.sorts.1; scales = r.scales.1; bounds = r.bounds.1 }) (omega (arith, low)) near,
)
can_turn_in d (After' n p c) g es limits ordered within t r low near =
    let less = (turn_lesser_in d (shared c) (range_kinds g)).reaches in (
      can_turn_in d c g es limits ordered within t (record { sorts = r.sorts.0; scales = r.scales.0; bounds = r.bounds.0 }) (omega (arith, low)) (omega (arith, near)),
      omega (arith, few_days n (turned_in d (range_kinds g) (shared c)), less, near),
    )
can_turn_in d (Let' e k q c) g es limits ordered within t r low near =
    let ks = range_kinds g in
    let x = expression e.value in
    let y = shifted k x in
    let bound : MeetsRules d y g = record { sorts = r.sorts.0; scales = r.scales.0; bounds = r.bounds.0 } in
    let rules : MeetsRules d x g = stored d k x g bound in
    let truths : TruthsAreNothing (range_of d y g ∷ g) = (λ h. truths_have_nothing d y g t (root_kind d y g bound.sorts ∙ ap (λ (j : Kind). Some j) h), t) in
    let kind : kind_or (kind_of d y ks) ≡ kind_found d x ks = ap (λ (o : Option Kind). kind_or o) (kind-shifted d x k ks) ∙ kind_is d x g rules in
    let inner = can_turn_in d c (range_of d y g ∷ g) (entry_of d y es [] (pos 0) ∷ es) limits (narrower_let d y g g ordered (stays_tight d limits y g g ordered bound.bounds).inside) (bindings_lie_within d y g es [] (pos 0) limits bound within (nothing_fixed d)) truths (record { sorts = r.sorts.1; scales = r.scales.1; bounds = r.bounds.1 }) (omega (arith, low)) near in (
      can_turn d x g es limits ordered within t rules,
      kind,
      subst (λ (j : Kind). CanTurnIn d c (j ∷ ks)) kind inner,
      omega (arith, low, (turn_lesser_in d (shared c) (kind_found d x ks ∷ ks)).heights),
    )
can_turn_in d (Within' e n q a p b) g es limits ordered within t r low near =
    let ks = range_kinds g in
    let x = expression e.value in
    let rules : MeetsRules d x g = record { sorts = r.sorts.0; scales = r.scales.0; bounds = r.bounds.0 } in
    let same = (turn_replaces d x g es limits ordered within t rules).same_kind in (
      can_turn d x g es limits ordered within t rules,
      can_turn_in d a g es limits ordered within t (record { sorts = r.sorts.1; scales = r.scales.1; bounds = r.bounds.1 }) (omega (arith, low)) (omega (arith, near)),
      can_turn_in d b g es limits ordered within t (record { sorts = r.sorts.2; scales = r.scales.2; bounds = r.bounds.2 }) (omega (arith, low)) (omega (arith, near)),
      decides_test d (turned d ks x) ks (same ∙ truth_kind (kind_of d x ks) r.sorts.3),
    )
