-- What meets the rules can be turned.
use Rattle.std.proofs.Common.{◌≡◌, ◌≢◌, ℕ, pos, ◌<◌, ◌≤◌, Option, List, ◌∷◌, [], refl, ap, sym, subst, ◌∙◌, arith}
use Rattle.term_model.specs.Declarations.{Declarations}
use Rattle.term_model.specs.declared.terms.NumOp.{NumOp}
use Rattle.term_model.specs.declared.terms.CmpOp.{CmpOp}
use Rattle.term_model.specs.declared.terms.LogicOp.{LogicOp}
use Rattle.term_model.specs.declared.values.Kind.{Kind}
use Rattle.decimal.specs.declared.rounding.Mode.{Mode}
use Rattle.term_model.specs.Terms.{Expression, Lit, Yes, Var, Obs, Neg, Num, Cmp, Not, Logic, Cond, Widen, Round, Div, Acc}
use Rattle.term_model.specs.Kinds.{kind_of, scale_of, scale_of_kind, scale_of_op, scale_or_zero}
use Rattle.term_model.specs.Scales.{greatest_scale}
use Rattle.term_model.specs.Values.{Entry, kind_or}
use Rattle.term_model.specs.Bounds.{Range, range_kinds}
use Rattle.interval_check.specs.Nodes.{MeetsRules, range_after}
use Rattle.interval_check.specs.Narrowing.{AreNarrower}
use Rattle.interval_check.specs.RangeTrials.{kind_found}
use Rattle.interval_check.specs.Safety.{CanEvaluate}
use Rattle.interval_check.specs.Sums.{entry_of}
use Rattle.interval_check.specs.Within.{AreWithin, KeepsLimits}
use Rattle.rewriting.specs.Replacing.{Replaces}
use Rattle.interval_check.proofs.GuaranteeFacts.{expressions_are_safe, suits}
use Rattle.interval_check.proofs.KindsFound.{has_kind, scale_is}
use Rattle.interval_check.proofs.ValueFacts.{same_kinds}
use Rattle.rewriting.proofs.ReplacingFacts.{replaces_neg, replaces_num, replaces_cmp, replaces_not, replaces_logic, replaces_cond, replaces_widen, replaces_round, replaces_div}
use Rattle.interval_check.proofs.SuitedFacts.{nothing_fixed}
use Rattle.rewriting.proofs.RewritingFacts.{ordered_round, round_rules}
use Rattle.simplify.specs.LawsRulesStand.{TruthsAreNothing}
use Rattle.simplify.specs.Turning.{turned}
use Rattle.simplify.specs.Turnable.{FoldsTo, DecidesLogic, DecidesChoice, CanTurn}
use Rattle.simplify.proofs.FormFacts.{root_kind}
use Rattle.simplify.proofs.TurnReplaces.{turn_replaces, round_within, round_truths}
use Rattle.expr_eval.specs.Comparing.{scale_found}

-- ---- at a node whose parts are turned

module _ (d : Declarations) (g : List Range) (es : List Entry) (limits : KeepsLimits d) (within : AreWithin g es) where
  safe : (x : Expression) → MeetsRules d x g → CanEvaluate d x es [] (pos 0)
  safe x r = expressions_are_safe d x g es [] (pos 0) limits r within (nothing_fixed d)

  neg_folds : (x : Expression) → MeetsRules d (Neg x) g → FoldsTo d (range_kinds g) (Neg x)
  neg_folds (Lit m s) r = record { fits = (safe (Neg (Lit m s)) r).safe.1.0.small; same = refl }
  neg_folds (Yes b) r = let never = r.sorts.1 in absurd (cc)
  neg_folds x r = record { fits = tt; same = refl }

  not_folds : (x : Expression) → MeetsRules d (Not x) g → FoldsTo d (range_kinds g) (Not x)
  not_folds (Lit m s) r = let never = r.sorts.1 in absurd (cc)
  not_folds (Yes b) r = record { fits = tt; same = refl }
  not_folds x r = record { fits = tt; same = refl }

  widen_folds : (s : ℕ) (x : Expression) → MeetsRules d (Widen s x) g → FoldsTo d (range_kinds g) (Widen s x)
  widen_folds s (Lit m i) r = record { fits = (safe (Widen s (Lit m i)) r).safe.1.1; same = refl }
  widen_folds s (Yes b) r = let never = r.sorts.1 in absurd (cc)
  widen_folds s x r = record { fits = tt; same = refl }

  round_folds : (mode : Mode) (s : ℕ) (x : Expression) → MeetsRules d (Round mode s x) g → FoldsTo d (range_kinds g) (Round mode s x)
  round_folds mode s (Lit m i) r =
      let p = (safe (Round mode s (Lit m i)) r).safe.1 in
      record { fits = record { scale = p.0.0.most; small = p.0.0.small; fits = p.1 }; same = refl }
  round_folds mode s (Yes b) r = let never = r.sorts.1 in absurd (cc)
  round_folds mode s x r = record { fits = tt; same = refl }

  num_folds : (op : NumOp) (x y : Expression) → MeetsRules d (Num op x y) g → FoldsTo d (range_kinds g) (Num op x y)
  num_folds op (Lit m i) (Lit n j) r =
      let p = (safe (Num op (Lit m i) (Lit n j)) r).safe in
      record { fits = record { left = p.1.0.0.most; right = p.1.1.0.most; outcome = p.0.most; fits = p.1.2 }; same = refl }
  num_folds op (Lit m i) (Yes b) r = let never = r.sorts.2 in absurd (cc)
  num_folds op (Yes b) y r = let never = r.sorts.2 in absurd (cc)
  num_folds op (Lit m i) y r = record { fits = tt; same = refl }
  num_folds op x y r = record { fits = tt; same = refl }

  cmp_folds : (op : CmpOp) (x y : Expression) → MeetsRules d (Cmp op x y) g → FoldsTo d (range_kinds g) (Cmp op x y)
  cmp_folds op (Lit m i) (Lit n j) r =
      let p = (safe (Cmp op (Lit m i) (Lit n j)) r).safe.1 in
      record { fits = record { left = p.0.0.most; right = p.1.0.most; fits = p.2 }; same = refl }
  cmp_folds op (Lit m i) (Yes b) r = let never = r.sorts.2 in absurd (cc)
  cmp_folds op (Yes b) y r = let never = r.sorts.2 in absurd (cc)
  cmp_folds op (Lit m i) y r = record { fits = tt; same = refl }
  cmp_folds op x y r = record { fits = tt; same = refl }

  div_folds : (mode : Mode) (s : ℕ) (x y : Expression) → MeetsRules d (Div mode s x y) g → FoldsTo d (range_kinds g) (Div mode s x y)
  div_folds mode s (Lit m i) (Lit n j) r =
      let p = (safe (Div mode s (Lit m i) (Lit n j)) r).safe.1 in
      record { fits = record { left = p.0.0.most; right = p.1.0.most; fits = p.2 }; same = refl }
  div_folds mode s (Lit m i) (Yes b) r = let never = r.sorts.2 in absurd (cc)
  div_folds mode s (Yes b) y r = let never = r.sorts.2 in absurd (cc)
  div_folds mode s (Lit m i) y r = record { fits = tt; same = refl }
  div_folds mode s x y r = record { fits = tt; same = refl }

  logic_decides : (op : LogicOp) (x y : Expression) → MeetsRules d (Logic op x y) g → DecidesLogic d (range_kinds g) op x y
  logic_decides op (Lit m s) y r = let never = r.sorts.2 in absurd (cc)
  logic_decides op (Yes b) y r = refl
  logic_decides op x y r = refl

  choice_decides : (x y z : Expression) → MeetsRules d (Cond x y z) g → DecidesChoice d (range_kinds g) (scale_of d y (range_kinds g)) (scale_of d z (range_kinds g)) x y z
  choice_decides (Lit m s) y z r = let never = r.sorts.3 in absurd (cc)
  choice_decides (Yes b) y z r = refl
  choice_decides x y z r = refl

-- ---- what is found on the way

pub kind_is : (d : Declarations) (e : Expression) (g : List Range) → MeetsRules d e g → kind_or (kind_of d e (range_kinds g)) ≡ kind_found d e (range_kinds g)
kind_is d e g r = sym (has_kind d e (range_kinds g) _ (root_kind d e g r.sorts))

scale_is_found : (d : Declarations) (e : Expression) (g : List Range) → MeetsRules d e g → scale_of d e (range_kinds g) ≡ scale_found d e (range_kinds g)
scale_is_found d e g r = scale_is d e (range_kinds g) _ (root_kind d e g r.sorts) ∙ ap (λ (k : Kind). scale_of_kind k) (kind_is d e g r)

turned_scale : (d : Declarations) (x e : Expression) (g : List Range) → Replaces d x e g → MeetsRules d e g → scale_of d x (range_kinds g) ≡ scale_found d e (range_kinds g)
turned_scale d x e g p r = ap (λ (o : Option Kind). scale_or_zero o) p.same_kind ∙ scale_is_found d e g r

at_scales : (d : Declarations) (ks : List Kind) (i j u v : ℕ) (x y z : Expression) → u ≡ i → v ≡ j → DecidesChoice d ks u v x y z → DecidesChoice d ks i j x y z
at_scales d ks i j u v x y z p q h = subst (λ (n : ℕ). DecidesChoice d ks n j x y z) p (subst (λ (n : ℕ). DecidesChoice d ks u n x y z) q h)

num_scale : (d : Declarations) (op : NumOp) (a b : Expression) (g : List Range) (es : List Entry) → KeepsLimits d → AreWithin g es → MeetsRules d (Num op a b) g → scale_of_op op (scale_found d a (range_kinds g)) (scale_found d b (range_kinds g)) ≤ greatest_scale
num_scale d op a b g es limits within r =
    let most = (safe d g es limits within (Num op a b) r).safe.0.most in
    let here : scale_of d (Num op a b) (range_kinds g) ≤ greatest_scale = subst (λ (ks : List Kind). scale_of d (Num op a b) ks ≤ greatest_scale) (sym (same_kinds g es (suits d g es [] limits within (nothing_fixed d)).inside)) most in
    subst (λ (n : ℕ). n ≤ greatest_scale) (scale_is_found d (Num op a b) g r) here

above_none : (n : ℕ) → n ≢ 0 → 0 < n
above_none n h = omega (arith, h)

pub can_turn : (d : Declarations) (e : Expression) (g : List Range) (es : List Entry) → KeepsLimits d → AreNarrower g g → AreWithin g es → TruthsAreNothing g → MeetsRules d e g → CanTurn d e (range_kinds g)
can_turn d (Lit m s) g es limits ordered within t r = tt
can_turn d (Yes b) g es limits ordered within t r = tt
can_turn d (Var back) g es limits ordered within t r = tt
can_turn d (Obs l u) g es limits ordered within t r = tt
can_turn d (Neg e) g es limits ordered within t r =
    let p : MeetsRules d e g = record { sorts = r.sorts.0; scales = r.scales.0; bounds = r.bounds.0 } in
    let x = turned d (range_kinds g) e in
    (can_turn d e g es limits ordered within t p, neg_folds d g es limits within x (replaces_neg d x e g (turn_replaces d e g es limits ordered within t p) r).rules)
can_turn d (Num op a b) g es limits ordered within t r =
    let p : MeetsRules d a g = record { sorts = r.sorts.0; scales = r.scales.0; bounds = r.bounds.0 } in
    let q : MeetsRules d b g = record { sorts = r.sorts.1; scales = r.scales.1; bounds = r.bounds.1 } in
    let x = turned d (range_kinds g) a in
    let y = turned d (range_kinds g) b in (
      can_turn d a g es limits ordered within t p,
      can_turn d b g es limits ordered within t q,
      num_folds d g es limits within op x y (replaces_num d op x y a b g (turn_replaces d a g es limits ordered within t p) (turn_replaces d b g es limits ordered within t q) r).rules,
      num_scale d op a b g es limits within r,
    )
can_turn d (Cmp op a b) g es limits ordered within t r =
    let p : MeetsRules d a g = record { sorts = r.sorts.0; scales = r.scales.0; bounds = r.bounds.0 } in
    let q : MeetsRules d b g = record { sorts = r.sorts.1; scales = r.scales.1; bounds = r.bounds.1 } in
    let x = turned d (range_kinds g) a in
    let y = turned d (range_kinds g) b in (
      can_turn d a g es limits ordered within t p,
      can_turn d b g es limits ordered within t q,
      cmp_folds d g es limits within op x y (replaces_cmp d op x y a b g (turn_replaces d a g es limits ordered within t p) (turn_replaces d b g es limits ordered within t q) r).rules,
    )
can_turn d (Not e) g es limits ordered within t r =
    let p : MeetsRules d e g = record { sorts = r.sorts.0; scales = r.scales.0; bounds = r.bounds.0 } in
    let x = turned d (range_kinds g) e in
    (can_turn d e g es limits ordered within t p, not_folds d g es limits within x (replaces_not d x e g (turn_replaces d e g es limits ordered within t p) r).rules)
can_turn d (Logic op a b) g es limits ordered within t r =
    let p : MeetsRules d a g = record { sorts = r.sorts.0; scales = r.scales.0; bounds = r.bounds.0 } in
    let q : MeetsRules d b g = record { sorts = r.sorts.1; scales = r.scales.1; bounds = r.bounds.1 } in
    let x = turned d (range_kinds g) a in
    let y = turned d (range_kinds g) b in (
      can_turn d a g es limits ordered within t p,
      can_turn d b g es limits ordered within t q,
      logic_decides d g es limits within op x y (replaces_logic d op x y a b g (turn_replaces d a g es limits ordered within t p) (turn_replaces d b g es limits ordered within t q) r).rules,
    )
can_turn d (Cond c a b) g es limits ordered within t r =
    let o : MeetsRules d c g = record { sorts = r.sorts.0; scales = r.scales.0; bounds = r.bounds.0 } in
    let p : MeetsRules d a g = record { sorts = r.sorts.1; scales = r.scales.1; bounds = r.bounds.1 } in
    let q : MeetsRules d b g = record { sorts = r.sorts.2; scales = r.scales.2; bounds = r.bounds.2 } in
    let ks = range_kinds g in
    let x = turned d ks c in
    let y = turned d ks a in
    let z = turned d ks b in
    let left = turn_replaces d a g es limits ordered within t p in
    let right = turn_replaces d b g es limits ordered within t q in
    let rules = (replaces_cond d x y z c a b g (turn_replaces d c g es limits ordered within t o) left right r).rules in (
      can_turn d c g es limits ordered within t o,
      can_turn d a g es limits ordered within t p,
      can_turn d b g es limits ordered within t q,
      at_scales d ks (scale_found d a ks) (scale_found d b ks) (scale_of d y ks) (scale_of d z ks) x y z (turned_scale d y a g left p) (turned_scale d z b g right q) (choice_decides d g es limits within x y z rules),
    )
can_turn d (Widen s e) g es limits ordered within t r =
    let p : MeetsRules d e g = record { sorts = r.sorts.0; scales = r.scales.0; bounds = r.bounds.0 } in
    let x = turned d (range_kinds g) e in
    (can_turn d e g es limits ordered within t p, widen_folds d g es limits within s x (replaces_widen d s x e g (turn_replaces d e g es limits ordered within t p) r).rules)
can_turn d (Round mode s e) g es limits ordered within t r =
    let p : MeetsRules d e g = record { sorts = r.sorts.0; scales = r.scales.0; bounds = r.bounds.0 } in
    let x = turned d (range_kinds g) e in
    (can_turn d e g es limits ordered within t p, round_folds d g es limits within mode s x (replaces_round d mode s x e g (turn_replaces d e g es limits ordered within t p) r).rules)
can_turn d (Div mode s a b) g es limits ordered within t r =
    let p : MeetsRules d a g = record { sorts = r.sorts.0; scales = r.scales.0; bounds = r.bounds.0 } in
    let q : MeetsRules d b g = record { sorts = r.sorts.1; scales = r.scales.1; bounds = r.bounds.1 } in
    let x = turned d (range_kinds g) a in
    let y = turned d (range_kinds g) b in (
      can_turn d a g es limits ordered within t p,
      can_turn d b g es limits ordered within t q,
      div_folds d g es limits within mode s x y (replaces_div d mode s x y a b g (turn_replaces d a g es limits ordered within t p) (turn_replaces d b g es limits ordered within t q) r).rules,
    )
can_turn d (Acc body n first) g es limits ordered within t r =
    let p : MeetsRules d first g = record { sorts = r.sorts.0; scales = r.scales.0; bounds = r.bounds.0 } in
    let kind = kind_is d first g p in (
      can_turn d first g es limits ordered within t p,
      kind,
      (λ some. let l = above_none n some in
          subst (λ (k : Kind). CanTurn d body (k ∷ range_kinds g)) kind
          (can_turn d body (range_after d body 0 first g ∷ g) (entry_of d (Acc body 0 first) es [] (pos 0) ∷ es) limits (ordered_round d limits body n 0 first g ordered l r.bounds) (round_within d body first n g r es 0 l limits within) (round_truths d body first n g r 0 t) (round_rules d body n 0 first g l r))),
    )
