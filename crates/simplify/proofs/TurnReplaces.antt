-- A turn may stand in the place of what is turned.
use Rattle.std.proofs.Common.{◌≡◌, ℕ, pos, ◌<◌, ◌≤◌, Option, Some, List, ◌∷◌, [], refl, ap, sym, subst, ◌∙◌, inl, inr, arith}
use Rattle.term_model.specs.Declarations.{Declarations}
use Rattle.term_model.specs.declared.values.Kind.{Kind}
use Rattle.term_model.specs.Terms.{Expression, Lit, Yes, Var, Obs, Neg, Num, Cmp, Not, Logic, Cond, Widen, Round, Div, Acc}
use Rattle.term_model.specs.Terms.{Contract, Zero, Pay, Both, Scale, After, Let, Within}
use Rattle.term_model.specs.Kinds.{kind_of}
use Rattle.term_model.specs.Values.{Entry, kind_or}
use Rattle.term_model.specs.Bounds.{Range, range_kinds, interval_of}
use Rattle.interval_check.specs.Nodes.{MeetsRules, range_of, range_after}
use Rattle.interval_check.specs.Narrowing.{AreNarrower}
use Rattle.interval_check.specs.Within.{AreWithin, KeepsLimits}
use Rattle.interval_check.specs.Sums.{entry_of}
use Rattle.rewriting.specs.Replacing.{Replaces, ReplacesContract, IsRewrittenContract}
use Rattle.interval_check.proofs.GuaranteeFacts.{bindings_lie_within}
use Rattle.interval_check.proofs.KindsFound.{days}
use Rattle.interval_check.proofs.NarrowerFacts.{stays_tight, narrower_let}
use Rattle.rewriting.proofs.ReplacingFacts.{replaces_neg, replaces_num, replaces_cmp, replaces_not, replaces_logic, replaces_cond, replaces_widen, replaces_round, replaces_div, replaces_acc}
use Rattle.rewriting.proofs.RewritingContracts.{rewritten_contract_replaces, parts_stand_for_themselves, replacements_compose}
use Rattle.interval_check.proofs.SuitedFacts.{nothing_fixed}
use Rattle.rewriting.proofs.RewritingFacts.{ordered_round, round_rules}
use Rattle.simplify.specs.Turning.{rule, turned}
use Rattle.simplify.specs.TurningContracts.{rule_in, turned_in}
use Rattle.specialise.proofs.SpecialRules.{itself, by_whole}
use Rattle.simplify.specs.LawsRulesStand.{TruthsAreNothing}
use Rattle.simplify.proofs.TruthIntervals.{truths_have_nothing}
use Rattle.simplify.proofs.RuleStands.{rule_replaces}
use Rattle.simplify.proofs.ContractRuleStands.{contract_rule_replaces}
use Rattle.simplify.specs.LawsTurnsStand.{TurnsReplace, ContractTurnsReplace}
use Rattle.simplify.proofs.FormFacts.{root_kind}
use Rattle.simplify.proofs.TurnForm.{turn_form}

-- the rule, once the parts are turned
ruled : (d : Declarations) (x e : Expression) (g : List Range) (es : List Entry) → KeepsLimits d → AreNarrower g g → AreWithin g es → TruthsAreNothing g → Replaces d x e g → Replaces d (rule d (range_kinds g) x) e g
ruled d x e g es limits ordered within t p = (replacements_compose d g).0 (rule d (range_kinds g) x) x e (rule_replaces d x g es limits ordered within t p.rules) p

-- the name of an accumulator after some days
fewer_rules : (d : Declarations) (body first : Expression) (n i : ℕ) (g : List Range) → i ≤ n → MeetsRules d (Acc body n first) g → MeetsRules d (Acc body i first) g
fewer_rules d body first n i g le r = record { sorts = (r.sorts.0, (r.sorts.1.0, r.sorts.1.1)); scales = (r.scales.0, (r.scales.1.0, r.scales.1.1)); bounds = (r.bounds.0, λ j m. r.bounds.1 j (omega arith)) }

module _ (d : Declarations) (body first : Expression) (n : ℕ) (g : List Range) (r : MeetsRules d (Acc body n first) g) where
  start_kind : kind_of d first (range_kinds g) ≡ kind_of d (Acc body n first) (range_kinds g)
  start_kind =
      let ks = range_kinds g in
      (days (kind_of d first ks) (λ k. kind_of d body (k ∷ ks)) (kind_or (kind_of d (Acc body n first) ks)) (root_kind d (Acc body n first) g r.sorts)).first ∙ sym (root_kind d (Acc body n first) g r.sorts)

  pub round_within : (es : List Entry) (i : ℕ) → i < n → KeepsLimits d → AreWithin g es → AreWithin (range_after d body i first g ∷ g) (entry_of d (Acc body i first) es [] (pos 0) ∷ es)
  round_within es i l limits within =
      let there = bindings_lie_within d (Acc body i first) g es [] (pos 0) limits (fewer_rules d body first n i g (omega arith) r) within (nothing_fixed d) in
      let range : Option Kind → Range = λ o. record { interval = interval_of d (Acc body i first) g; kind = kind_or o } in
      subst (λ (o : Option Kind). AreWithin (range o ∷ g) (entry_of d (Acc body i first) es [] (pos 0) ∷ es)) (sym start_kind) there

  pub round_truths : (i : ℕ) → TruthsAreNothing g → TruthsAreNothing (range_after d body i first g ∷ g)
  round_truths i t =
      (λ e. truths_have_nothing d (Acc body i first) g t (root_kind d (Acc body n first) g r.sorts ∙ ap (λ (k : Kind). Some k) (ap kind_or (sym start_kind) ∙ e)), t)

pub turn_replaces : TurnsReplace
turn_replaces d (Lit m s) g es limits ordered within t r = itself d limits (Lit m s) g ordered r
turn_replaces d (Yes b) g es limits ordered within t r = itself d limits (Yes b) g ordered r
turn_replaces d (Var back) g es limits ordered within t r = itself d limits (Var back) g ordered r
turn_replaces d (Obs l u) g es limits ordered within t r = itself d limits (Obs l u) g ordered r
turn_replaces d (Neg e) g es limits ordered within t r =
    ruled d _ (Neg e) g es limits ordered within t (replaces_neg d _ e g (turn_replaces d e g es limits ordered within t (record { sorts = r.sorts.0; scales = r.scales.0; bounds = r.bounds.0 })) r)
turn_replaces d (Num op x y) g es limits ordered within t r =
    ruled d _ (Num op x y) g es limits ordered within t (replaces_num d op _ _ x y g (turn_replaces d x g es limits ordered within t (record { sorts = r.sorts.0; scales = r.scales.0; bounds = r.bounds.0 })) (turn_replaces d y g es limits ordered within t (record { sorts = r.sorts.1; scales = r.scales.1; bounds = r.bounds.1 })) r)
turn_replaces d (Cmp op x y) g es limits ordered within t r =
    ruled d _ (Cmp op x y) g es limits ordered within t (replaces_cmp d op _ _ x y g (turn_replaces d x g es limits ordered within t (record { sorts = r.sorts.0; scales = r.scales.0; bounds = r.bounds.0 })) (turn_replaces d y g es limits ordered within t (record { sorts = r.sorts.1; scales = r.scales.1; bounds = r.bounds.1 })) r)
turn_replaces d (Not e) g es limits ordered within t r =
    ruled d _ (Not e) g es limits ordered within t (replaces_not d _ e g (turn_replaces d e g es limits ordered within t (record { sorts = r.sorts.0; scales = r.scales.0; bounds = r.bounds.0 })) r)
turn_replaces d (Logic op x y) g es limits ordered within t r =
    ruled d _ (Logic op x y) g es limits ordered within t (replaces_logic d op _ _ x y g (turn_replaces d x g es limits ordered within t (record { sorts = r.sorts.0; scales = r.scales.0; bounds = r.bounds.0 })) (turn_replaces d y g es limits ordered within t (record { sorts = r.sorts.1; scales = r.scales.1; bounds = r.bounds.1 })) r)
turn_replaces d (Cond c x y) g es limits ordered within t r =
    ruled d _ (Cond c x y) g es limits ordered within t (replaces_cond d _ _ _ c x y g (turn_replaces d c g es limits ordered within t (record { sorts = r.sorts.0; scales = r.scales.0; bounds = r.bounds.0 })) (turn_replaces d x g es limits ordered within t (record { sorts = r.sorts.1; scales = r.scales.1; bounds = r.bounds.1 })) (turn_replaces d y g es limits ordered within t (record { sorts = r.sorts.2; scales = r.scales.2; bounds = r.bounds.2 })) r)
turn_replaces d (Widen s e) g es limits ordered within t r =
    ruled d _ (Widen s e) g es limits ordered within t (replaces_widen d s _ e g (turn_replaces d e g es limits ordered within t (record { sorts = r.sorts.0; scales = r.scales.0; bounds = r.bounds.0 })) r)
turn_replaces d (Round mode s e) g es limits ordered within t r =
    ruled d _ (Round mode s e) g es limits ordered within t (replaces_round d mode s _ e g (turn_replaces d e g es limits ordered within t (record { sorts = r.sorts.0; scales = r.scales.0; bounds = r.bounds.0 })) r)
turn_replaces d (Div mode s x y) g es limits ordered within t r =
    ruled d _ (Div mode s x y) g es limits ordered within t (replaces_div d mode s _ _ x y g (turn_replaces d x g es limits ordered within t (record { sorts = r.sorts.0; scales = r.scales.0; bounds = r.bounds.0 })) (turn_replaces d y g es limits ordered within t (record { sorts = r.sorts.1; scales = r.scales.1; bounds = r.bounds.1 })) r)
turn_replaces d (Acc body n first) g es limits ordered within t r =
    let ks = range_kinds g in
    let body' = turned d (kind_or (kind_of d first ks) ∷ ks) body in
    let first' = turned d ks first in
    ruled d (Acc body' n first') (Acc body n first) g es limits ordered within t
    (replaces_acc d limits body' n first' body first g ordered (turn_replaces d first g es limits ordered within t (record { sorts = r.sorts.0; scales = r.scales.0; bounds = r.bounds.0 }))
    (turn_form d body (range_after d body 0 first g ∷ g) r.sorts.1.0 r.scales.1.0)
    (λ i l. turn_replaces d body (range_after d body i first g ∷ g) (entry_of d (Acc body i first) es [] (pos 0) ∷ es) limits (ordered_round d limits body n i first g ordered l r.bounds) (round_within d body first n g r es i l limits within) (round_truths d body first n g r i t) (round_rules d body n i first g l r)) r)

-- ---- contracts

pub by_whole_in : (d : Declarations) (c k : Contract) (g : List Range) → ReplacesContract d k c g → IsRewrittenContract d c k g
by_whole_in d Zero k g r = r
by_whole_in d (Pay a p q) k g r = r
by_whole_in d (Both a b) k g r = inl r
by_whole_in d (Scale e c) k g r = inl r
by_whole_in d (After n c) k g r = inl r
by_whole_in d (Let e c) k g r = inl r
by_whole_in d (Within e n a b) k g r = inl r

ruled_in : (d : Declarations) (x c : Contract) (g : List Range) → KeepsLimits d → AreNarrower g g → ReplacesContract d x c g → ReplacesContract d (rule_in x) c g
ruled_in d x c g limits ordered p = (replacements_compose d g).1 (rule_in x) x c (contract_rule_replaces d x g limits ordered p.rules) p

pub contract_turn_replaces : ContractTurnsReplace
contract_turn_replaces d Zero g es limits ordered within t r = (parts_stand_for_themselves d g limits ordered).1 Zero r
contract_turn_replaces d (Pay a p q) g es limits ordered within t r = (parts_stand_for_themselves d g limits ordered).1 (Pay a p q) r
contract_turn_replaces d (Both a b) g es limits ordered within t r =
    let a' = turned_in d (range_kinds g) a in
    let b' = turned_in d (range_kinds g) b in
    ruled_in d (Both a' b') (Both a b) g limits ordered (rewritten_contract_replaces d (Both a b) (Both a' b') g limits ordered r
    (inr (a', b', refl, by_whole_in d a a' g (contract_turn_replaces d a g es limits ordered within t (record { sorts = r.sorts.0; scales = r.scales.0; bounds = r.bounds.0 })), by_whole_in d b b' g (contract_turn_replaces d b g es limits ordered within t (record { sorts = r.sorts.1; scales = r.scales.1; bounds = r.bounds.1 })))))
contract_turn_replaces d (Scale e c) g es limits ordered within t r =
    let e' = turned d (range_kinds g) e in
    let c' = turned_in d (range_kinds g) c in
    ruled_in d (Scale e' c') (Scale e c) g limits ordered (rewritten_contract_replaces d (Scale e c) (Scale e' c') g limits ordered r
    (inr (e', c', refl, by_whole d e e' g (turn_replaces d e g es limits ordered within t (record { sorts = r.sorts.0; scales = r.scales.0; bounds = r.bounds.0 })), by_whole_in d c c' g (contract_turn_replaces d c g es limits ordered within t (record { sorts = r.sorts.1; scales = r.scales.1; bounds = r.bounds.1 })))))
contract_turn_replaces d (After n c) g es limits ordered within t r =
    let c' = turned_in d (range_kinds g) c in
    ruled_in d (After n c') (After n c) g limits ordered (rewritten_contract_replaces d (After n c) (After n c') g limits ordered r
    (inr (n, c', refl, by_whole_in d c c' g (contract_turn_replaces d c g es limits ordered within t (record { sorts = r.sorts.0; scales = r.scales.0; bounds = r.bounds.0 })))))
contract_turn_replaces d (Let e c) g es limits ordered within t r =
    let ks = range_kinds g in
    let e' = turned d ks e in
    let c' = turned_in d (kind_or (kind_of d e ks) ∷ ks) c in
    let bound : MeetsRules d e g = record { sorts = r.sorts.0; scales = r.scales.0; bounds = r.bounds.0 } in
    let truths : TruthsAreNothing (range_of d e g ∷ g) = (λ k. truths_have_nothing d e g t (root_kind d e g bound.sorts ∙ ap (λ (j : Kind). Some j) k), t) in
    ruled_in d (Let e' c') (Let e c) g limits ordered (rewritten_contract_replaces d (Let e c) (Let e' c') g limits ordered r
    (inr (
      e',
      c',
      refl,
      by_whole d e e' g (turn_replaces d e g es limits ordered within t bound),
      by_whole_in d c c' (range_of d e g ∷ g) (contract_turn_replaces d c (range_of d e g ∷ g) (entry_of d e es [] (pos 0) ∷ es) limits (narrower_let d e g g ordered (stays_tight d limits e g g ordered bound.bounds).inside) (bindings_lie_within d e g es [] (pos 0) limits bound within (nothing_fixed d)) truths (record { sorts = r.sorts.1; scales = r.scales.1; bounds = r.bounds.1 })),
    )))
contract_turn_replaces d (Within e n a b) g es limits ordered within t r =
    let e' = turned d (range_kinds g) e in
    let a' = turned_in d (range_kinds g) a in
    let b' = turned_in d (range_kinds g) b in
    ruled_in d (Within e' n a' b') (Within e n a b) g limits ordered (rewritten_contract_replaces d (Within e n a b) (Within e' n a' b') g limits ordered r
    (inr (
      e',
      n,
      a',
      b',
      refl,
      by_whole d e e' g (turn_replaces d e g es limits ordered within t (record { sorts = r.sorts.0; scales = r.scales.0; bounds = r.bounds.0 })),
      by_whole_in d a a' g (contract_turn_replaces d a g es limits ordered within t (record { sorts = r.sorts.1; scales = r.scales.1; bounds = r.bounds.1 })),
      by_whole_in d b b' g (contract_turn_replaces d b g es limits ordered within t (record { sorts = r.sorts.2; scales = r.scales.2; bounds = r.bounds.2 })),
    )))
