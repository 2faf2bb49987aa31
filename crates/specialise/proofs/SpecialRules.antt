-- The rules on sorts, scales and bounds hold of what is specialised.
use Rattle.std.proofs.Common.{◌≡◌, ℕ, ℤ, pos, ◌-ℤ◌, Option, None, List, ◌∷◌, [], refl, sym, subst, ◌∙◌, inl, inr}
use Rattle.term_model.specs.Declarations.{Declarations}
use Rattle.term_model.specs.declared.values.Kind.{Kind}
use Rattle.term_model.specs.declared.values.Value.{Value}
use Rattle.term_model.specs.Terms.{Expression, Lit, Yes, Var, Obs, Neg, Num, Cmp, Not, Logic, Cond, Widen, Round, Div, Acc}
use Rattle.term_model.specs.Terms.{Contract, Zero, Pay, Both, Scale, After, Let, Within}
use Rattle.term_model.specs.Environments.{Environment, IsAdmitted}
use Rattle.term_model.specs.Values.{Entry, value_of}
use Rattle.term_model.specs.Flows.{count_of}
use Rattle.term_model.specs.Redexes.{moved}
use Rattle.term_model.specs.Bounds.{Range, range_kinds}
use Rattle.interval_check.specs.Nodes.{MeetsRules, ContractMeetsRules, range_of, range_after}
use Rattle.interval_check.specs.Narrowing.{AreNarrower}
use Rattle.interval_check.specs.Within.{AreWithin, KeepsLimits}
use Rattle.interval_check.specs.Sums.{entry_of}
use Rattle.rewriting.specs.Replacing.{Replaces, IsRewritten, IsRewrittenContract, literal_of}
use Rattle.interval_check.proofs.GuaranteeFacts.{bindings_lie_within}
use Rattle.interval_check.proofs.NarrowerFacts.{stays_tight, narrower_let}
use Rattle.rewriting.proofs.ReplacingFacts.{replaces_neg, replaces_num, replaces_cmp, replaces_not, replaces_logic, replaces_cond, replaces_widen, replaces_round, replaces_div, replaces_acc}
use Rattle.rewriting.proofs.RewritingContracts.{parts_stand_for_themselves}
use Rattle.rewriting.proofs.StandingFacts.{values_replace}
use Rattle.rewriting.proofs.RewritingFacts.{ordered_round, round_rules}
use Rattle.specialise.specs.Specialising.{specialised, specialised_in}
use Rattle.specialise.proofs.ClosedFacts.{kind_among, value_among, agree_none, both_none}
use Rattle.specialise.proofs.ToldFacts.{IsTold, told_cases}
use Rattle.specialise.proofs.SpecialSizes.{nothing_told}
use Rattle.specialise.specs.LawsAccepted.{SpecialisedReplaces}

told_replaces : (d : Declarations) (F : Environment) (o : Option ℤ) (e : Expression) (f : ℤ) (k : Kind) (g : List Range) (es : List Entry) → KeepsLimits d → IsAdmitted d F → AreWithin g es → MeetsRules d e g → IsTold d F o e f k → Replaces d (literal_of k (value_of d e [] F f)) e g
told_replaces d F o e f k g es limits a within r t =
    subst (λ (v : Value). Replaces d (literal_of k v) e g) (sym (value_among d e 0 [] es F f t.closed (both_none [] es)))
    (values_replace d e g es F f k limits r within a (sym (kind_among d e 0 [] (range_kinds g) t.closed (agree_none [] (range_kinds g))) ∙ t.kind))

pub itself : (d : Declarations) → KeepsLimits d → (e : Expression) (g : List Range) → AreNarrower g g → MeetsRules d e g → Replaces d e e g
itself d limits e g ordered r = (parts_stand_for_themselves d g limits ordered).0 e r

-- an accumulator with another start
acc_replaces : (d : Declarations) → KeepsLimits d → (body' body first' first : Expression) (n : ℕ) (g : List Range) → body' ≡ body → AreNarrower g g → Replaces d first' first g → MeetsRules d (Acc body n first) g → Replaces d (Acc body' n first') (Acc body n first) g
acc_replaces d limits body' body first' first n g e ordered p r =
    subst (λ (b : Expression). Replaces d (Acc b n first') (Acc body n first) g) (sym e)
    (replaces_acc d limits body n first' body first g ordered p (record { sorts = r.sorts.1.0; scales = r.scales.1.0; same_kind = refl })
    (λ i l. itself d limits body (range_after d body i first g ∷ g) (ordered_round d limits body n i first g ordered l r.bounds) (round_rules d body n i first g l r)) r)

pub special_replaces : SpecialisedReplaces
special_replaces d F o (Lit m s) g es limits a ordered within r = itself d limits (Lit m s) g ordered r
special_replaces d F o (Yes b) g es limits a ordered within r = itself d limits (Yes b) g ordered r
special_replaces d F o (Var back) g es limits a ordered within r = itself d limits (Var back) g ordered r
special_replaces d F o (Obs l t) g es limits a ordered within r =
    told_cases (λ y. Replaces d y (Obs l t) g) d F o (Obs l t) (Obs l t) (λ f k h. told_replaces d F o (Obs l t) f k g es limits a within r h) (λ _. itself d limits (Obs l t) g ordered r)
special_replaces d F o (Neg e) g es limits a ordered within r =
    replaces_neg d _ e g (special_replaces d F o e g es limits a ordered within (record { sorts = r.sorts.0; scales = r.scales.0; bounds = r.bounds.0 })) r
special_replaces d F o (Num op x y) g es limits a ordered within r =
    replaces_num d op _ _ x y g (special_replaces d F o x g es limits a ordered within (record { sorts = r.sorts.0; scales = r.scales.0; bounds = r.bounds.0 })) (special_replaces d F o y g es limits a ordered within (record { sorts = r.sorts.1; scales = r.scales.1; bounds = r.bounds.1 })) r
special_replaces d F o (Cmp op x y) g es limits a ordered within r =
    replaces_cmp d op _ _ x y g (special_replaces d F o x g es limits a ordered within (record { sorts = r.sorts.0; scales = r.scales.0; bounds = r.bounds.0 })) (special_replaces d F o y g es limits a ordered within (record { sorts = r.sorts.1; scales = r.scales.1; bounds = r.bounds.1 })) r
special_replaces d F o (Not e) g es limits a ordered within r =
    replaces_not d _ e g (special_replaces d F o e g es limits a ordered within (record { sorts = r.sorts.0; scales = r.scales.0; bounds = r.bounds.0 })) r
special_replaces d F o (Logic op x y) g es limits a ordered within r =
    replaces_logic d op _ _ x y g (special_replaces d F o x g es limits a ordered within (record { sorts = r.sorts.0; scales = r.scales.0; bounds = r.bounds.0 })) (special_replaces d F o y g es limits a ordered within (record { sorts = r.sorts.1; scales = r.scales.1; bounds = r.bounds.1 })) r
special_replaces d F o (Cond t x y) g es limits a ordered within r =
    replaces_cond d _ _ _ t x y g (special_replaces d F o t g es limits a ordered within (record { sorts = r.sorts.0; scales = r.scales.0; bounds = r.bounds.0 })) (special_replaces d F o x g es limits a ordered within (record { sorts = r.sorts.1; scales = r.scales.1; bounds = r.bounds.1 })) (special_replaces d F o y g es limits a ordered within (record { sorts = r.sorts.2; scales = r.scales.2; bounds = r.bounds.2 })) r
special_replaces d F o (Widen s e) g es limits a ordered within r =
    replaces_widen d s _ e g (special_replaces d F o e g es limits a ordered within (record { sorts = r.sorts.0; scales = r.scales.0; bounds = r.bounds.0 })) r
special_replaces d F o (Round mode s e) g es limits a ordered within r =
    replaces_round d mode s _ e g (special_replaces d F o e g es limits a ordered within (record { sorts = r.sorts.0; scales = r.scales.0; bounds = r.bounds.0 })) r
special_replaces d F o (Div mode s x y) g es limits a ordered within r =
    replaces_div d mode s _ _ x y g (special_replaces d F o x g es limits a ordered within (record { sorts = r.sorts.0; scales = r.scales.0; bounds = r.bounds.0 })) (special_replaces d F o y g es limits a ordered within (record { sorts = r.sorts.1; scales = r.scales.1; bounds = r.bounds.1 })) r
special_replaces d F o (Acc body n first) g es limits a ordered within r =
    told_cases (λ y. Replaces d y (Acc body n first) g) d F o (Acc body n first) (Acc (specialised d F None body) n (specialised d F (moved (pos 0 -ℤ pos n) o) first)) (λ f k h. told_replaces d F o (Acc body n first) f k g es limits a within r h)
    (λ _. acc_replaces d limits _ body _ first n g (nothing_told d F body) ordered (special_replaces d F (moved (pos 0 -ℤ pos n) o) first g es limits a ordered within (record { sorts = r.sorts.0; scales = r.scales.0; bounds = r.bounds.0 })) r)

-- what may stand for a whole is the whole rewritten
pub by_whole : (d : Declarations) (x y : Expression) (g : List Range) → Replaces d y x g → IsRewritten d x y g
by_whole d (Lit m s) y g r = r
by_whole d (Yes b) y g r = r
by_whole d (Var back) y g r = r
by_whole d (Obs l t) y g r = r
by_whole d (Neg a) y g r = inl r
by_whole d (Num op a b) y g r = inl r
by_whole d (Cmp op a b) y g r = inl r
by_whole d (Not a) y g r = inl r
by_whole d (Logic op a b) y g r = inl r
by_whole d (Cond t a b) y g r = inl r
by_whole d (Widen s a) y g r = inl r
by_whole d (Round mode s a) y g r = inl r
by_whole d (Div mode s a b) y g r = inl r
by_whole d (Acc body n first) y g r = inl r

pub special_rewritten : (d : Declarations) (F : Environment) (o : Option ℤ) (c : Contract) (g : List Range) (es : List Entry) → KeepsLimits d → IsAdmitted d F → AreNarrower g g → AreWithin g es → ContractMeetsRules d c g → IsRewrittenContract d c (specialised_in d F o c) g
special_rewritten d F o Zero g es limits a ordered within r = (parts_stand_for_themselves d g limits ordered).1 Zero r
special_rewritten d F o (Pay x p q) g es limits a ordered within r = (parts_stand_for_themselves d g limits ordered).1 (Pay x p q) r
special_rewritten d F o (Both x y) g es limits a ordered within r =
    inr (specialised_in d F o x, specialised_in d F o y, refl, special_rewritten d F o x g es limits a ordered within (record { sorts = r.sorts.0; scales = r.scales.0; bounds = r.bounds.0 }), special_rewritten d F o y g es limits a ordered within (record { sorts = r.sorts.1; scales = r.scales.1; bounds = r.bounds.1 }))
special_rewritten d F o (Scale e c) g es limits a ordered within r =
    inr (specialised d F o e, specialised_in d F o c, refl, by_whole d e _ g (special_replaces d F o e g es limits a ordered within (record { sorts = r.sorts.0; scales = r.scales.0; bounds = r.bounds.0 })), special_rewritten d F o c g es limits a ordered within (record { sorts = r.sorts.1; scales = r.scales.1; bounds = r.bounds.1 }))
special_rewritten d F o (After n c) g es limits a ordered within r =
    inr (n, specialised_in d F (moved (pos (count_of n)) o) c, refl, special_rewritten d F (moved (pos (count_of n)) o) c g es limits a ordered within (record { sorts = r.sorts.0; scales = r.scales.0; bounds = r.bounds.0 }))
special_rewritten d F o (Let e c) g es limits a ordered within r =
    let bound : MeetsRules d e g = record { sorts = r.sorts.0; scales = r.scales.0; bounds = r.bounds.0 } in
    inr (
      specialised d F o e,
      specialised_in d F o c,
      refl,
      by_whole d e _ g (special_replaces d F o e g es limits a ordered within bound),
      special_rewritten d F o c (range_of d e g ∷ g) (entry_of d e es F (pos 0) ∷ es) limits a (narrower_let d e g g ordered (stays_tight d limits e g g ordered bound.bounds).inside) (bindings_lie_within d e g es F (pos 0) limits bound within a) (record { sorts = r.sorts.1; scales = r.scales.1; bounds = r.bounds.1 }),
    )
special_rewritten d F o (Within e n x y) g es limits a ordered within r =
    inr (
      specialised d F None e,
      n,
      specialised_in d F None x,
      specialised_in d F (moved (pos (count_of n)) o) y,
      refl,
      by_whole d e _ g (special_replaces d F None e g es limits a ordered within (record { sorts = r.sorts.0; scales = r.scales.0; bounds = r.bounds.0 })),
      special_rewritten d F None x g es limits a ordered within (record { sorts = r.sorts.1; scales = r.scales.1; bounds = r.bounds.1 }),
      special_rewritten d F (moved (pos (count_of n)) o) y g es limits a ordered within (record { sorts = r.sorts.2; scales = r.scales.2; bounds = r.bounds.2 }),
    )
