-- What is handed on is what is left of a contract, and nothing of it reduces.
use Rattle.std.proofs.Common.{◌≡◌, ◌∙◌, ◌≤◌, ◌<◌, ℕ, zero, suc, ℤ, pos, negsuc, ◌+ℤ◌, ◌-ℤ◌, ◌+◌, ◌-◌, ◌&&◌, ◌||◌, ◌==◌, not, nat_le, Bool, true, false, if◌then◌else◌, List, [], ◌∷◌, ◌++◌, Option, Some, None, refl, ap, ap₂, sym, subst, arith}
use Rattle.std.proofs.lemmas.Int.{ints}
use Rattle.std.specs.List.{list_all}
use Rattle.term_model.specs.Declarations.{Declarations}
use Rattle.term_model.specs.declared.values.Kind.{Kind}
use Rattle.term_model.specs.DayCounts.{Num as Count}
use Rattle.term_model.specs.Terms.{Expression, Lit, Yes, Var, Obs, Neg, Num, Cmp, Not, Logic, Cond, Widen, Round, Div, Acc}
use Rattle.term_model.specs.Terms.{Contract, Zero, Pay, Both, Scale, After, Let, Within}
use Rattle.term_model.specs.Environments.{Environment, Extends, IsAdmitted, Place}
use Rattle.term_model.specs.Acceptance.{IsAccepted}
use Rattle.term_model.specs.Flows.{count_of}
use Rattle.term_model.specs.Kinds.{kind_of}
use Rattle.term_model.specs.Reads.{is_fixed, reads_of, steps_before}
use Rattle.term_model.specs.Redexes.{Redex, FixedPlace, FixedSteps, HasNone, IsReduced}
use Rattle.term_model.specs.Redexes.{has_literal_operands, is_fixed_at, is_literal, is_zero_literal, moved, names_within}
use Rattle.term_model.specs.Values.{Entry, entry_of, kind_or}
use Rattle.term_model.specs.Shifts.{shifted}
use Rattle.term_model.specs.WellFormed.{IsClosed, HasOnlyNumbers}
use Rattle.interval_check.specs.Within.{KeepsLimits}
use Rattle.rewriting.specs.Measures.{size_in}
use Rattle.rewriting.proofs.Choices.{if_cases}
use Rattle.specialise.specs.Specialising.{is_known, specialised, specialised_in, told, told_or}
use Rattle.specialise.proofs.SpecialRedexes.{special_leaves_none}
use Rattle.specialise.proofs.SpecialSizes.{nothing_told}
use Rattle.simplify.specs.Turning.{HasNoPlain, is_plain_redex, rule, resolved, choice, is_chosen, turned}
use Rattle.simplify.specs.TurningContracts.{HasNoPlainIn, is_later, is_nothing, rule_in, turned_in}
use Rattle.simplify.proofs.SimplifyingFacts.{literals_fit}
use Rattle.advance_step.specs.Advancing.{IsResidual}
use Rattle.advance_step.specs.CarryingWalk.{IsLeftEverywhere}
use Rattle.advance_step.specs.HandedOn.{AreFalseOn, Either, IsHandedOn, IsSettled, Stays, StaysBehind, handed, is_open, lacks}
use Rattle.advance_step.specs.Reducing.{reduced, reduced_once}
use Rattle.advance_step.specs.WhatIsLeft.{both_left, delayed, left_of, scale_left, let_left}
use Rattle.advance_step.proofs.KnownFacts.{left_after, near_enough}
use Rattle.advance_step.proofs.LeftFlowFacts.{le_of, lt_of}
use Rattle.advance_step.proofs.LeftForms.{left_formed}
use Rattle.advance_step.proofs.LeftSizes.{gone}
use Rattle.advance_step.proofs.ReducingFacts.{each_kind, stays}
use Rattle.advance_step.proofs.SameFixings.{extends, reduced_same as same_reduced}
use Rattle.advance_step.proofs.SimpleFacts.{neither, no_rule as no_rule_in, not_now, not_so}

-- ---- what is lacked is read

module _ (F : Environment) where
  -- behind a place
  behind : (b x y : Bool) → (x ≡ false → y ≡ false) → (b && x) ≡ false → (b && y) ≡ false
  behind true x y h k = h k
  behind false x y h k = refl

  never : (a b : Bool) → b ≡ false → (a && b) ≡ false
  never true b h = h
  never false b h = refl

  some_left : (xs ys : List Place) → list_all (is_fixed F) xs ≡ false → list_all (is_fixed F) (xs ++ ys) ≡ false
  some_left [] ys h = absurd (cc)
  some_left (x ∷ xs) ys h = behind (is_fixed F x) (list_all (is_fixed F) xs) (list_all (is_fixed F) (xs ++ ys)) (some_left xs ys) h

  some_right : (xs ys : List Place) → list_all (is_fixed F) ys ≡ false → list_all (is_fixed F) (xs ++ ys) ≡ false
  some_right [] ys h = h
  some_right (x ∷ xs) ys h = never (is_fixed F x) (list_all (is_fixed F) (xs ++ ys)) (some_right xs ys h)

  some_either : (a b : Bool) (xs ys : List Place) → (a || b) ≡ true → (a ≡ true → list_all (is_fixed F) xs ≡ false) → (b ≡ true → list_all (is_fixed F) ys ≡ false) → list_all (is_fixed F) (xs ++ ys) ≡ false
  some_either true b xs ys h p q = some_left xs ys (p refl)
  some_either false b xs ys h p q = some_right xs ys (q h)

  some_place : (q : Place) → not (is_fixed F q) ≡ true → list_all (is_fixed F) (q ∷ []) ≡ false
  some_place q h = ap (λ (b : Bool). b && true) (not_so (is_fixed F q) h)

  some_step : (n : ℕ) (p : ℕ → List Place) → 1 ≤ n → list_all (is_fixed F) (p 0) ≡ false → list_all (is_fixed F) (steps_before n p) ≡ false
  some_step zero p le h = absurd (omega (arith, le))
  some_step (suc zero) p le h = some_right [] (p 0) h
  some_step (suc (suc n)) p le h = some_left (steps_before (suc n) p) (p (suc n)) (some_step (suc n) p (omega arith) h)

  is_read : (d : Declarations) (e : Expression) (g : List Entry) (bs : List (List Place)) (f : ℤ) → lacks F f e ≡ true → list_all (is_fixed F) (reads_of d e g bs F f) ≡ false
  is_read d (Lit m s) g bs f h = absurd (cc)
  is_read d (Yes b) g bs f h = absurd (cc)
  is_read d (Var back) g bs f h = absurd (cc)
  is_read d (Obs l t) g bs f h = some_place (record { label = l; day = f +ℤ t }) h
  is_read d (Neg e) g bs f h = is_read d e g bs f h
  is_read d (Num op a b) g bs f h = some_either (lacks F f a) (lacks F f b) _ _ h (is_read d a g bs f) (is_read d b g bs f)
  is_read d (Cmp op a b) g bs f h = some_either (lacks F f a) (lacks F f b) _ _ h (is_read d a g bs f) (is_read d b g bs f)
  is_read d (Not e) g bs f h = is_read d e g bs f h
  is_read d (Logic op a b) g bs f h = some_left _ _ (is_read d a g bs f h)
  is_read d (Cond t a b) g bs f h = some_left _ _ (is_read d t g bs f h)
  is_read d (Widen s e) g bs f h = is_read d e g bs f h
  is_read d (Round mode s e) g bs f h = is_read d e g bs f h
  is_read d (Div mode s a b) g bs f h = some_either (lacks F f a) (lacks F f b) _ _ h (is_read d a g bs f) (is_read d b g bs f)
  is_read d (Acc body n first) g bs f h = absurd (cc)

  -- so an accumulator that is open is not known
  unknown : (d : Declarations) (o : Option ℤ) (body first : Expression) (n : ℕ) → 1 ≤ n → is_open F o body n first ≡ true → is_known d F o (Acc body n first) ≡ false
  unknown d None body first n le h = never (names_within 0 (Acc body n first)) false refl
  unknown d (Some f) body first n le h =
      never (names_within 0 (Acc body n first)) _
      (some_either (lacks F (f -ℤ pos n) first) (lacks F ((f -ℤ pos n) +ℤ pos 1) body) _ _ h
      (is_read d first [] [] (f -ℤ pos n))
      (λ b. some_step n _ le (is_read d body _ _ ((f -ℤ pos n) +ℤ pos 1) b)))

-- ---- nothing is told of what is settled

module _ (d : Declarations) (F : Environment) where
  as_other : (o : Option ℤ) (e x : Expression) → is_known d F o e ≡ false → told_or d F o e x ≡ x
  as_other o e x h = ap (λ (b : Bool). if b then told d F o e x else x) h

  place_unknown : (o : Option ℤ) (l : ℕ) (t : ℤ) → is_fixed_at F o l t ≡ false → is_known d F o (Obs l t) ≡ false
  place_unknown None l t h = refl
  place_unknown (Some f) l t h = ap (λ (b : Bool). b && true) h

  untold : (o : Option ℤ) (e : Expression) → IsSettled F o e → specialised d F o e ≡ e
  untold o (Lit m s) h = refl
  untold o (Yes b) h = refl
  untold o (Var back) h = refl
  untold o (Obs l t) h = as_other o (Obs l t) (Obs l t) (place_unknown o l t h)
  untold o (Neg e) h = ap Neg (untold o e h.1)
  untold o (Num op a b) h = ap₂ (Num op) (untold o a h.1) (untold o b h.2)
  untold o (Cmp op a b) h = ap₂ (Cmp op) (untold o a h.1) (untold o b h.2)
  untold o (Not e) h = ap Not (untold o e h.1)
  untold o (Logic op a b) h = ap₂ (Logic op) (untold o a h.1) (untold o b h.2)
  untold o (Cond t a b) h =
      ap (λ (x : Expression). Cond x (specialised d F o a) (specialised d F o b)) (untold o t h.1) ∙ ap₂ (Cond t) (untold o a h.2) (untold o b h.3)
  untold o (Widen s e) h = ap (Widen s) (untold o e h.1)
  untold o (Round mode s e) h = ap (Round mode s) (untold o e h.1)
  untold o (Div mode s a b) h = ap₂ (Div mode s) (untold o a h.1) (untold o b h.2)
  untold o (Acc body n first) h =
      as_other o (Acc body n first) _ (unknown F d o body first n h.0 h.1)
      ∙ ap₂ (λ (x y : Expression). Acc x n y) (nothing_told d F body) (untold (moved (pos 0 -ℤ pos n) o) first h.3)

  untold_in : (o : Option ℤ) (c : Contract) → Stays F o c → specialised_in d F o c ≡ c
  untold_in o Zero h = refl
  untold_in o (Pay a p q) h = refl
  untold_in o (Both a b) h = ap₂ Both (untold_in o a h.2) (untold_in o b h.3)
  untold_in o (Scale e c) h = ap₂ Scale (untold o e h.2) (untold_in o c h.3)
  untold_in o (After n c) h = ap (After n) (untold_in (moved (pos (count_of n)) o) c h.3)
  untold_in o (Let e c) h = absurd h
  untold_in o (Within e n a b) h =
      ap (λ (x : Expression). Within x n (specialised_in d F None a) (specialised_in d F (moved (pos (count_of n)) o) b)) (untold None e h.2)
      ∙ ap₂ (Within e n) (untold_in None a h.3) (untold_in (moved (pos (count_of n)) o) b h.4)

-- ---- nothing of it is a redex

module _ (F : Environment) where
  plain : (o : Option ℤ) (e : Expression) → IsSettled F o e → HasNoPlain e
  plain o (Lit m s) h = tt
  plain o (Yes b) h = tt
  plain o (Var back) h = tt
  plain o (Obs l t) h = tt
  plain o (Neg e) h = (plain o e h.1, neither (is_literal e) false h.0 refl)
  plain o (Num op a b) h = (plain o a h.1, plain o b h.2, neither (is_literal a && is_literal b) false h.0 refl)
  plain o (Cmp op a b) h = (plain o a h.1, plain o b h.2, neither (is_literal a && is_literal b) false h.0 refl)
  plain o (Not e) h = (plain o e h.1, neither (is_literal e) false h.0 refl)
  plain o (Logic op a b) h = (plain o a h.1, plain o b h.2, neither (is_literal a) false h.0 refl)
  plain o (Cond t a b) h = (plain o t h.1, plain o a h.2, plain o b h.3, h.0)
  plain o (Widen s e) h = (plain o e h.1, neither (is_literal e) false h.0 refl)
  plain o (Round mode s e) h = (plain o e h.1, neither (is_literal e) false h.0 refl)
  plain o (Div mode s a b) h = (plain o a h.1, plain o b h.2, neither (is_literal a && is_literal b) false h.0 refl)
  plain o (Acc body n first) h = (plain None body h.2, plain (moved (pos 0 -ℤ pos n) o) first h.3, not_now n h.0)

  plain_in : (o : Option ℤ) (c : Contract) → Stays F o c → HasNoPlainIn c
  plain_in o Zero h = tt
  plain_in o (Pay a p q) h = tt
  plain_in o (Both a b) h = (plain_in o a h.2, plain_in o b h.3, neither (is_nothing a) (is_nothing b) h.0 h.1)
  plain_in o (Scale e c) h = (plain o e h.2, plain_in o c h.3, neither (is_nothing c) (is_zero_literal e) h.1 h.0)
  plain_in o (After n c) h =
      (plain_in (moved (pos (count_of n)) o) c h.3, neither (is_nothing c) ((count_of n == 0) || is_later c) h.2 (neither (count_of n == 0) (is_later c) (not_now (count_of n) h.0) h.1))
  plain_in o (Let e c) h = absurd h
  plain_in o (Within e n a b) h =
      (plain None e h.2, plain_in None a h.3, plain_in (moved (pos (count_of n)) o) b h.4, neither (is_literal e) (is_nothing a && is_nothing b) h.0 h.1)

-- ---- a turn leaves what has no redex as it is

either_false : (a b : Bool) → (a || b) ≡ false → (a ≡ false) × (b ≡ false)
either_false true b h = absurd (cc)
either_false false b h = (refl, h)

no_rule : (d : Declarations) (ks : List Kind) (e : Expression) → is_plain_redex e ≡ false → rule d ks e ≡ e
no_rule d ks e h =
    let both = either_false (has_literal_operands e) (is_chosen e) h in
    ap (λ (b : Bool). if b then resolved d ks e else (if is_chosen e then choice d ks e else e)) both.0
    ∙ ap (λ (b : Bool). if b then choice d ks e else e) both.1

unturned : (d : Declarations) (e : Expression) (ks : List Kind) → HasNoPlain e → turned d ks e ≡ e
unturned d (Lit m s) ks h = refl
unturned d (Yes b) ks h = refl
unturned d (Var back) ks h = refl
unturned d (Obs l t) ks h = refl
unturned d (Neg e) ks h = ap (λ (x : Expression). rule d ks (Neg x)) (unturned d e ks h.0) ∙ no_rule d ks (Neg e) h.1
unturned d (Num op a b) ks h = ap₂ (λ (x y : Expression). rule d ks (Num op x y)) (unturned d a ks h.0) (unturned d b ks h.1) ∙ no_rule d ks (Num op a b) h.2
unturned d (Cmp op a b) ks h = ap₂ (λ (x y : Expression). rule d ks (Cmp op x y)) (unturned d a ks h.0) (unturned d b ks h.1) ∙ no_rule d ks (Cmp op a b) h.2
unturned d (Not e) ks h = ap (λ (x : Expression). rule d ks (Not x)) (unturned d e ks h.0) ∙ no_rule d ks (Not e) h.1
unturned d (Logic op a b) ks h = ap₂ (λ (x y : Expression). rule d ks (Logic op x y)) (unturned d a ks h.0) (unturned d b ks h.1) ∙ no_rule d ks (Logic op a b) h.2
unturned d (Cond t a b) ks h =
    ap (λ (x : Expression). rule d ks (Cond x (turned d ks a) (turned d ks b))) (unturned d t ks h.0)
    ∙ ap₂ (λ (x y : Expression). rule d ks (Cond t x y)) (unturned d a ks h.1) (unturned d b ks h.2) ∙ no_rule d ks (Cond t a b) h.3
unturned d (Widen s e) ks h = ap (λ (x : Expression). rule d ks (Widen s x)) (unturned d e ks h.0) ∙ no_rule d ks (Widen s e) h.1
unturned d (Round mode s e) ks h = ap (λ (x : Expression). rule d ks (Round mode s x)) (unturned d e ks h.0) ∙ no_rule d ks (Round mode s e) h.1
unturned d (Div mode s a b) ks h = ap₂ (λ (x y : Expression). rule d ks (Div mode s x y)) (unturned d a ks h.0) (unturned d b ks h.1) ∙ no_rule d ks (Div mode s a b) h.2
unturned d (Acc body n first) ks h =
    ap₂ (λ (x y : Expression). rule d ks (Acc x n y)) (unturned d body (kind_or (kind_of d first ks) ∷ ks) h.0) (unturned d first ks h.1) ∙ no_rule d ks (Acc body n first) h.2

unturned_in : (d : Declarations) (c : Contract) (ks : List Kind) → HasNoPlainIn c → turned_in d ks c ≡ c
unturned_in d Zero ks h = refl
unturned_in d (Pay a p q) ks h = refl
unturned_in d (Both a b) ks h = ap rule_in (ap₂ Both (unturned_in d a ks h.0) (unturned_in d b ks h.1)) ∙ no_rule_in (Both a b) h.2
unturned_in d (Scale e c) ks h = ap rule_in (ap₂ Scale (unturned d e ks h.0) (unturned_in d c ks h.1)) ∙ no_rule_in (Scale e c) h.2
unturned_in d (After n c) ks h = ap (λ (x : Contract). rule_in (After n x)) (unturned_in d c ks h.0) ∙ no_rule_in (After n c) h.1
unturned_in d (Let e c) ks h = ap rule_in (ap₂ Let (unturned d e ks h.0) (unturned_in d c (kind_or (kind_of d e ks) ∷ ks) h.1)) ∙ no_rule_in (Let e c) h.2
unturned_in d (Within e n a b) ks h =
    ap (λ (x : Expression). rule_in (Within x n (turned_in d ks a) (turned_in d ks b))) (unturned d e ks h.0)
    ∙ ap₂ (λ (x y : Contract). rule_in (Within e n x y)) (unturned_in d a ks h.1) (unturned_in d b ks h.2) ∙ no_rule_in (Within e n a b) h.3

-- ---- so a round leaves it as it is

round_leaves : (d : Declarations) (F : Environment) (f : ℤ) (c : Contract) → Stays F (Some f) c → reduced_once d F f c ≡ c
round_leaves d F f c h = ap (turned_in d []) (untold_in d F (Some f) c h) ∙ unturned_in d c [] (plain_in F (Some f) c h)

-- ---- it is what is left

case : (X : Type 0) (A B C : Type 0) (b : Bool) (x y z w : X) → Either b A B → Either b C (Unit {0}) → (A → C → x ≡ z) → (B → y ≡ w) → (if b then x else y) ≡ (if b then z else w)
case X A B C true x y z w h k p q = p h k
case X A B C false x y z w h k p q = q h

module _ (d : Declarations) (F : Environment) where
  is_left : (env : Environment) → Extends F env → (c : Contract) (f : ℤ) (j : ℕ) → StaysBehind F c f j → AreFalseOn d F c f j → left_of d c [] env f j ≡ handed c j
  is_left env ext Zero f j h k = refl
  is_left env ext (Pay a p q) f j h k = refl
  is_left env ext (Both a b) f j h k = ap₂ both_left (is_left env ext a f j h.0 k.0) (is_left env ext b f j h.1 k.1)
  is_left env ext (Scale e c) f j h k = ap (scale_left (shifted (negsuc j) e)) (gone d c [] env f j h)
  is_left env ext (Let e c) f j h k = ap (let_left (shifted (negsuc j) e)) (gone d c (entry_of d e [] env f ∷ []) env f j h)
  is_left env ext (After m c) f j h k =
      case Contract _ _ _ (nat_le (count_of m) j) _ _ _ _ h k (is_left env ext c (f +ℤ pos (count_of m)) (j - count_of m)) (λ _. refl)
  is_left env ext (Within e m a b) f j h k =
      let n = count_of m in
      ap (λ (o : Option ℕ). elim o [
        | Some i ↦ left_of d a [] env (f +ℤ pos i) (j - i)
        | None ↦ if nat_le n j then left_of d b [] env (f +ℤ pos n) (j - n) else Within e (Count (n - suc j)) a b
      ]) (k.0 env ext)
      ∙ case Contract _ _ _ (nat_le n j) _ _ _ _ h k.1 (is_left env ext b (f +ℤ pos n) (j - n)) (λ _. refl)

-- ---- and it stays

pick : (P : Contract → Type 0) (A B : Type 0) (b : Bool) (x y : Contract) → Either b A B → (b ≡ true → A → P x) → (b ≡ false → B → P y) → P (if b then x else y)
pick P A B true x y h p q = p refl h
pick P A B false x y h p q = q refl h

both_stay : (F : Environment) (o : Option ℤ) (a b : Contract) → Stays F o a → Stays F o b → Stays F o (both_left a b)
both_stay F o a b h k =
    if_cases (Stays F o) (is_nothing a) b (if is_nothing b then a else Both a b) (λ _. k)
    (λ p. if_cases (Stays F o) (is_nothing b) a (Both a b) (λ _. h) (λ q. (p, q, h, k)))

delayed_stays : (F : Environment) (f : ℤ) (n : ℕ) (c : Contract) → is_later c ≡ false → is_nothing c ≡ false → Stays F (Some (f +ℤ pos n)) c → Stays F (Some f) (delayed n c)
delayed_stays F f zero c p q h = subst (λ (x : ℤ). Stays F (Some x) c) (omega (arith, ints)) h
delayed_stays F f (suc n) c p q h = (omega arith, p, q, h)

sooner : (f : ℤ) (n j : ℕ) → j < n → (f +ℤ pos (suc j)) +ℤ pos (n - suc j) ≡ f +ℤ pos n
sooner f n j lt = omega (arith, ints, lt)

later : (f : ℤ) (n j : ℕ) → n ≤ j → (f +ℤ pos n) +ℤ pos (suc (j - n)) ≡ f +ℤ pos (suc j)
later f n j le = omega (arith, ints, le)

handed_stays : (F : Environment) (c : Contract) (f : ℤ) (j : ℕ) → StaysBehind F c f j → Stays F (Some (f +ℤ pos (suc j))) (handed c j)
handed_stays F Zero f j h = tt
handed_stays F (Pay a p q) f j h = tt
handed_stays F (Both a b) f j h = both_stay F (Some (f +ℤ pos (suc j))) (handed a j) (handed b j) (handed_stays F a f j h.0) (handed_stays F b f j h.1)
handed_stays F (Scale e c) f j h = tt
handed_stays F (Let e c) f j h = tt
handed_stays F (After m c) f j h =
    let n = count_of m in
    pick (Stays F (Some (f +ℤ pos (suc j)))) _ _ (nat_le n j) (handed c (j - n)) (delayed (n - suc j) c) h
    (λ t k. subst (λ (x : ℤ). Stays F (Some x) (handed c (j - n))) (later f n j (le_of n j t)) (handed_stays F c (f +ℤ pos n) (j - n) k))
    (λ t k. delayed_stays F (f +ℤ pos (suc j)) (n - suc j) c k.0 k.1 (subst (λ (x : ℤ). Stays F (Some x) c) (sym (sooner f n j (lt_of n j t))) k.2))
handed_stays F (Within e m a b) f j h =
    let n = count_of m in
    pick (Stays F (Some (f +ℤ pos (suc j)))) _ _ (nat_le n j) (handed b (j - n)) (Within e (Count (n - suc j)) a b) h
    (λ t k. subst (λ (x : ℤ). Stays F (Some x) (handed b (j - n))) (later f n j (le_of n j t)) (handed_stays F b (f +ℤ pos n) (j - n) k))
    (λ t k. k)

-- ---- so it is a residual

rounds_leave : (d : Declarations) (F : Environment) (f : ℤ) (c : Contract) → Stays F (Some f) c → reduced d F f c ≡ c
rounds_leave d F f c h = stays d F f c (size_in c) (round_leaves d F f c h)

stays_reduced : (d : Declarations) (F : Environment) (f : ℤ) (c : Contract) → IsAdmitted d F → IsAccepted d c → Stays F (Some f) c → IsReduced d c F f
stays_reduced d F f c admitted a h =
    let none : (kind : Redex) → HasNone d F (Some f) kind (specialised_in d F (Some f) c) → HasNone d F (Some f) kind c =
    λ kind. subst (λ (x : Contract). HasNone d F (Some f) kind x) (untold_in d F (Some f) c h) in
    each_kind d F f c (plain_in F (Some f) c h)
    (none FixedPlace (special_leaves_none d c F (Some f) FixedPlace tt admitted a.sorts))
    (none FixedSteps (special_leaves_none d c F (Some f) FixedSteps tt admitted a.sorts))

handed_rest : (d : Declarations) (F : Environment) (c rest : Contract) (f : ℤ) (j : ℕ) → KeepsLimits d → IsAdmitted d F → IsAccepted d c → IsClosed d c → HasOnlyNumbers c → IsHandedOn d F c f j → rest ≡ handed c j
    → IsResidual d F f (suc j) c rest
handed_rest d F c rest f j limits admitted a w n h is =
    let there = f +ℤ pos (suc j) in
    let any : IsLeftEverywhere d F c f j rest = λ env ext. is ∙ sym (is_left d F env ext c f j h.0 h.1) in
    let left = left_after d F c rest f j limits a n any in
    let here : rest ≡ left_of d c [] F f j = any F (λ q v e. e) in
    let still : Stays F (Some there) rest = subst (Stays F (Some there)) (sym is) (handed_stays F c f j h.0) in
    record {
      exact = λ env same. sym (rounds_leave d F there rest still) ∙ same_reduced d F env same there rest ∙ ap (reduced d env there) (any env (extends d F env same));
      accepted = left.accepted;
      carries = left.carries;
      reduced = stays_reduced d F there rest admitted left.accepted still;
      gone = left.gone;
      closed = left.closed w;
      numbers = subst HasOnlyNumbers (sym here) (left_formed d c [] F f j 0 (near_enough d c a) w n).1;
      literals = literals_fit d rest limits left.accepted (plain_in F (Some there) rest still);
    }

pub handed_residual : (d : Declarations) (F : Environment) (c rest : Contract) (f f' : ℤ) (n j : ℕ) → KeepsLimits d → IsAdmitted d F → IsAccepted d c → IsClosed d c → HasOnlyNumbers c → f' ≡ f → j + 1 ≡ n → IsHandedOn d F c f' j → rest ≡ handed c j
    → IsResidual d F f n c rest
handed_residual d F c rest f f' n j limits admitted a w numbers from days h is =
    let same : suc j ≡ n = omega (arith, days) in
    subst (λ (x : ℤ). IsResidual d F x n c rest) from
    (subst (λ (k : ℕ). IsResidual d F f' k c rest) same (handed_rest d F c rest f' j limits admitted a w numbers h is))
