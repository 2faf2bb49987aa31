-- Declarations with the same amounts and observables give a contract the same residual.
use Rattle.std.proofs.Common.{◌≡◌, ◌∙◌, ℕ, zero, suc, ℤ, pos, negsuc, ◌+ℤ◌, ◌-ℤ◌, ◌-◌, ◌&&◌, min, max, nat_le, Bool, if◌then◌else◌, List, [], ◌∷◌, Option, Some, None, refl, ap, ap₂}
use Rattle.std.specs.List.{list_all}
use Rattle.term_model.specs.Declarations.{Declarations}
use Rattle.term_model.specs.LawsDeclarations.{MeanTheSame}
use Rattle.term_model.specs.declared.values.Kind.{Kind}
use Rattle.term_model.specs.declared.values.Value.{Value}
use Rattle.term_model.specs.DayCounts.{Days}
use Rattle.term_model.specs.DayCounts.{Num as Count}
use Rattle.term_model.specs.Terms.{Expression, Lit, Yes, Var, Obs, Neg, Num, Cmp, Not, Logic, Cond, Widen, Round, Div, Acc}
use Rattle.term_model.specs.Terms.{Contract, Zero, Pay, Both, Scale, After, Let, Within}
use Rattle.term_model.specs.Environments.{Environment}
use Rattle.term_model.specs.Flows.{count_of}
use Rattle.term_model.specs.Kinds.{kind_of, scale_of, scale_or_zero}
use Rattle.term_model.specs.Reads.{is_fixed}
use Rattle.term_model.specs.Redexes.{has_literal_operands, moved, names_within}
use Rattle.term_model.specs.Shifts.{shifted}
use Rattle.term_model.specs.Values.{Entry, entry_of, first_of, first_true, kind_or, kinds, truth, value_of}
use Rattle.term_model.proofs.MeaningFacts.{one_meaning}
use Rattle.rewriting.specs.Measures.{size_in}
use Rattle.rewriting.specs.Replacing.{branch_at, literal_of}
use Rattle.simplify.specs.Turning.{choice, is_chosen, resolved, rule, turned}
use Rattle.simplify.specs.TurningContracts.{rule_in, turned_in}
use Rattle.specialise.specs.Specialising.{literal_or, specialised, specialised_in, told, told_or}
use Rattle.advance_step.specs.Reducing.{reduced, reduced_once, reduced_times, residual, rest_after}
use Rattle.advance_step.specs.WhatIsLeft.{both_left, delayed, left_of, let_left, scale_left}

-- the first number that passes, of tests that say the same
first_same : (n : ℕ) (p q : ℕ → Bool) → ((i : ℕ) → p i ≡ q i) → first_of n p ≡ first_of n q
first_same zero p q same = ap (λ (b : Bool). if b then Some zero else None) (same zero)
first_same (suc n) p q same =
    ap₂ (λ (o : Option ℕ) (b : Bool). elim o [ Some i ↦ Some i | None ↦ if b then Some (suc n) else None ]) (first_same n p q same) (same (suc n))

module _ (d other : Declarations) (same : MeanTheSame d other) where
  -- ---- what is told

  told_alike : (F : Environment) (o : Option ℤ) (e x y : Expression) → x ≡ y → told_or d F o e x ≡ told_or other F o e y
  told_alike F None e x y is = ap₂ (λ (b : Bool) (r : Expression). if names_within 0 e && b then r else r) refl is
  told_alike F (Some f) e x y is =
      let fixed = ap (list_all (is_fixed F)) ((one_meaning d other same).reads e [] [] F f) in
      let literal = ap₂ (λ (k : Option Kind) (v : Value). literal_or k v x) ((one_meaning d other same).kinds e []) ((one_meaning d other same).values e [] F f) in
      ap₂ (λ (b : Bool) (r : Expression). if names_within 0 e && b then r else x) fixed literal
      ∙ ap (λ (r : Expression). told_or other F (Some f) e r) is

  special_alike : (F : Environment) (o : Option ℤ) (e : Expression) → specialised d F o e ≡ specialised other F o e
  special_alike F o (Lit m s) = refl
  special_alike F o (Yes b) = refl
  special_alike F o (Var back) = refl
  special_alike F o (Obs l t) = told_alike F o (Obs l t) (Obs l t) (Obs l t) refl
  special_alike F o (Neg e) = ap Neg (special_alike F o e)
  special_alike F o (Num op a b) = ap₂ (Num op) (special_alike F o a) (special_alike F o b)
  special_alike F o (Cmp op a b) = ap₂ (Cmp op) (special_alike F o a) (special_alike F o b)
  special_alike F o (Not e) = ap Not (special_alike F o e)
  special_alike F o (Logic op a b) = ap₂ (Logic op) (special_alike F o a) (special_alike F o b)
  special_alike F o (Cond t a b) =
      ap (λ (x : Expression). Cond x (specialised d F o a) (specialised d F o b)) (special_alike F o t) ∙ ap₂ (Cond (specialised other F o t)) (special_alike F o a) (special_alike F o b)
  special_alike F o (Widen s e) = ap (Widen s) (special_alike F o e)
  special_alike F o (Round mode s e) = ap (Round mode s) (special_alike F o e)
  special_alike F o (Div mode s a b) = ap₂ (Div mode s) (special_alike F o a) (special_alike F o b)
  special_alike F o (Acc body n first) =
      told_alike F o (Acc body n first) _ _
      (ap₂ (λ (x y : Expression). Acc x n y) (special_alike F None body) (special_alike F (moved (pos 0 -ℤ pos n) o) first))

  special_alike_in : (F : Environment) (o : Option ℤ) (c : Contract) → specialised_in d F o c ≡ specialised_in other F o c
  special_alike_in F o Zero = refl
  special_alike_in F o (Pay a p q) = refl
  special_alike_in F o (Both a b) = ap₂ Both (special_alike_in F o a) (special_alike_in F o b)
  special_alike_in F o (Scale e c) = ap₂ Scale (special_alike F o e) (special_alike_in F o c)
  special_alike_in F o (After n c) = ap (After n) (special_alike_in F (moved (pos (count_of n)) o) c)
  special_alike_in F o (Let e c) = ap₂ Let (special_alike F o e) (special_alike_in F o c)
  special_alike_in F o (Within e n a b) =
      ap (λ (x : Expression). Within x n (specialised_in d F None a) (specialised_in d F (moved (pos (count_of n)) o) b)) (special_alike F None e)
      ∙ ap₂ (Within (specialised other F None e) n) (special_alike_in F None a) (special_alike_in F (moved (pos (count_of n)) o) b)

  -- ---- a turn

  kind_alike : (e : Expression) (ks : List Kind) → kind_or (kind_of d e ks) ≡ kind_or (kind_of other e ks)
  kind_alike e ks = ap kind_or ((one_meaning d other same).kinds e ks)

  scale_alike : (e : Expression) (ks : List Kind) → scale_of d e ks ≡ scale_of other e ks
  scale_alike e ks = ap scale_or_zero ((one_meaning d other same).kinds e ks)

  literal_alike : (ks : List Kind) (e : Expression)
      → literal_of (kind_or (kind_of d e ks)) (value_of d e [] [] (pos 0)) ≡ literal_of (kind_or (kind_of other e ks)) (value_of other e [] [] (pos 0))
  literal_alike ks e = ap₂ literal_of (kind_alike e ks) ((one_meaning d other same).values e [] [] (pos 0))

  resolved_alike : (ks : List Kind) (e : Expression) → resolved d ks e ≡ resolved other ks e
  resolved_alike ks (Logic op (Yes v) b) = refl
  resolved_alike ks (Logic op a b) = refl
  resolved_alike ks e = literal_alike ks e

  choice_alike : (ks : List Kind) (e : Expression) → choice d ks e ≡ choice other ks e
  choice_alike ks (Cond (Yes v) a b) =
      ap₂ (λ (i j : ℕ). if v then branch_at i (max i j) a else branch_at j (max i j) b) (scale_alike a ks) (scale_alike b ks)
  choice_alike ks e = refl

  rule_alike : (ks : List Kind) (x y : Expression) → x ≡ y → rule d ks x ≡ rule other ks y
  rule_alike ks x y is =
      ap₂ (λ (r s : Expression). if has_literal_operands x then r else (if is_chosen x then s else x)) (resolved_alike ks x) (choice_alike ks x)
      ∙ ap (rule other ks) is

  turned_alike : (ks : List Kind) (e : Expression) → turned d ks e ≡ turned other ks e
  turned_alike ks (Lit m s) = refl
  turned_alike ks (Yes b) = refl
  turned_alike ks (Var back) = refl
  turned_alike ks (Obs l t) = refl
  turned_alike ks (Neg e) = rule_alike ks _ _ (ap Neg (turned_alike ks e))
  turned_alike ks (Num op a b) = rule_alike ks _ _ (ap₂ (Num op) (turned_alike ks a) (turned_alike ks b))
  turned_alike ks (Cmp op a b) = rule_alike ks _ _ (ap₂ (Cmp op) (turned_alike ks a) (turned_alike ks b))
  turned_alike ks (Not e) = rule_alike ks _ _ (ap Not (turned_alike ks e))
  turned_alike ks (Logic op a b) = rule_alike ks _ _ (ap₂ (Logic op) (turned_alike ks a) (turned_alike ks b))
  turned_alike ks (Cond t a b) =
      rule_alike ks _ _
      (ap (λ (x : Expression). Cond x (turned d ks a) (turned d ks b)) (turned_alike ks t) ∙ ap₂ (Cond (turned other ks t)) (turned_alike ks a) (turned_alike ks b))
  turned_alike ks (Widen s e) = rule_alike ks _ _ (ap (Widen s) (turned_alike ks e))
  turned_alike ks (Round mode s e) = rule_alike ks _ _ (ap (Round mode s) (turned_alike ks e))
  turned_alike ks (Div mode s a b) = rule_alike ks _ _ (ap₂ (Div mode s) (turned_alike ks a) (turned_alike ks b))
  turned_alike ks (Acc body n first) =
      let named = ap (λ (k : Kind). turned d (k ∷ ks) body) (kind_alike first ks) ∙ turned_alike (kind_or (kind_of other first ks) ∷ ks) body in
      rule_alike ks _ _ (ap₂ (λ (x y : Expression). Acc x n y) named (turned_alike ks first))

  turned_alike_in : (ks : List Kind) (c : Contract) → turned_in d ks c ≡ turned_in other ks c
  turned_alike_in ks Zero = refl
  turned_alike_in ks (Pay a p q) = refl
  turned_alike_in ks (Both a b) = ap₂ (λ (x y : Contract). rule_in (Both x y)) (turned_alike_in ks a) (turned_alike_in ks b)
  turned_alike_in ks (Scale e c) = ap₂ (λ (x : Expression) (y : Contract). rule_in (Scale x y)) (turned_alike ks e) (turned_alike_in ks c)
  turned_alike_in ks (After n c) = ap (λ (x : Contract). rule_in (After n x)) (turned_alike_in ks c)
  turned_alike_in ks (Let e c) =
      let named = ap (λ (k : Kind). turned_in d (k ∷ ks) c) (kind_alike e ks) ∙ turned_alike_in (kind_or (kind_of other e ks) ∷ ks) c in
      ap₂ (λ (x : Expression) (y : Contract). rule_in (Let x y)) (turned_alike ks e) named
  turned_alike_in ks (Within e n a b) =
      ap (λ (x : Expression). rule_in (Within x n (turned_in d ks a) (turned_in d ks b))) (turned_alike ks e)
      ∙ ap₂ (λ (x y : Contract). rule_in (Within (turned other ks e) n x y)) (turned_alike_in ks a) (turned_alike_in ks b)

  -- ---- what is left, and reduced

  entry_alike : (e : Expression) (g : List Entry) (env : Environment) (f : ℤ) → entry_of d e g env f ≡ entry_of other e g env f
  entry_alike e g env f =
      ap₂ (λ (v : Value) (k : Kind). record { value = v; kind = k }) ((one_meaning d other same).values e g env f) (kind_alike e (kinds g))

  first_alike : (e : Expression) (g : List Entry) (env : Environment) (f : ℤ) (n : ℕ) → first_true d e g env f n ≡ first_true other e g env f n
  first_alike e g env f n =
      first_same n (λ i. truth (value_of d e g env (f +ℤ pos i))) (λ i. truth (value_of other e g env (f +ℤ pos i)))
      (λ i. ap truth ((one_meaning d other same).values e g env (f +ℤ pos i)))

  -- of a test that is first true on such a day, or not yet
  abbrev branches : Declarations → Expression → Days → Contract → Contract → List Entry → Environment → ℤ → ℕ → Option ℕ → Contract
  branches by e m a b g env f j (Some k) = left_of by a g env (f +ℤ pos k) (j - k)
  branches by e m a b g env f j None =
      if nat_le (count_of m) j then left_of by b g env (f +ℤ pos (count_of m)) (j - count_of m) else Within e (Count (count_of m - suc j)) a b

  branches_alike : (e : Expression) (m : Days) (a b : Contract) (g : List Entry) (env : Environment) (f : ℤ) (j : ℕ)
      → ((k : ℕ) → left_of d a g env (f +ℤ pos k) (j - k) ≡ left_of other a g env (f +ℤ pos k) (j - k))
      → left_of d b g env (f +ℤ pos (count_of m)) (j - count_of m) ≡ left_of other b g env (f +ℤ pos (count_of m)) (j - count_of m)
      → (o : Option ℕ) → branches d e m a b g env f j o ≡ branches other e m a b g env f j o
  branches_alike e m a b g env f j hit miss (Some k) = hit k
  branches_alike e m a b g env f j hit miss None =
      ap (λ (x : Contract). if nat_le (count_of m) j then x else Within e (Count (count_of m - suc j)) a b) miss

  left_alike : (c : Contract) (g : List Entry) (env : Environment) (f : ℤ) (j : ℕ) → left_of d c g env f j ≡ left_of other c g env f j
  left_alike Zero g env f j = refl
  left_alike (Pay a p q) g env f j = refl
  left_alike (Both a b) g env f j = ap₂ both_left (left_alike a g env f j) (left_alike b g env f j)
  left_alike (Scale e c) g env f j = ap (scale_left (shifted (negsuc j) e)) (left_alike c g env f j)
  left_alike (After m c) g env f j =
      ap (λ (x : Contract). if nat_le (count_of m) j then x else delayed (count_of m - suc j) c) (left_alike c g env (f +ℤ pos (count_of m)) (j - count_of m))
  left_alike (Let e c) g env f j =
      ap (let_left (shifted (negsuc j) e))
      (ap (λ (x : Entry). left_of d c (x ∷ g) env f j) (entry_alike e g env f) ∙ left_alike c (entry_of other e g env f ∷ g) env f j)
  left_alike (Within e m a b) g env f j =
      ap (branches d e m a b g env f j) (first_alike e g env f (min (count_of m) j))
      ∙ branches_alike e m a b g env f j (λ k. left_alike a g env (f +ℤ pos k) (j - k)) (left_alike b g env (f +ℤ pos (count_of m)) (j - count_of m))
      (first_true other e g env f (min (count_of m) j))

  rest_alike : (env : Environment) (f : ℤ) (days : ℕ) (c : Contract) → rest_after d env f days c ≡ rest_after other env f days c
  rest_alike env f zero c = refl
  rest_alike env f (suc j) c = left_alike c [] env f j

  once_alike : (F : Environment) (f : ℤ) (c : Contract) → reduced_once d F f c ≡ reduced_once other F f c
  once_alike F f c = ap (turned_in d []) (special_alike_in F (Some f) c) ∙ turned_alike_in [] (specialised_in other F (Some f) c)

  times_alike : (F : Environment) (f : ℤ) (n : ℕ) (c : Contract) → reduced_times d F f n c ≡ reduced_times other F f n c
  times_alike F f zero c = refl
  times_alike F f (suc n) c = times_alike F f n (reduced_once d F f c) ∙ ap (reduced_times other F f n) (once_alike F f c)

  pub residual_alike : (env : Environment) (f : ℤ) (days : ℕ) (c : Contract) → residual d env f days c ≡ residual other env f days c
  residual_alike env f days c =
      let rest = rest_after d env f days c in
      times_alike env (f +ℤ pos days) (size_in rest) rest ∙ ap (reduced other env (f +ℤ pos days)) (rest_alike env f days c)
