-- Two lists of fixings that hold the same at each place: a contract is reduced to the same over both.
use Rattle.std.proofs.Common.{◌≡◌, ◌∙◌, ℕ, zero, suc, ℤ, pos, ◌-ℤ◌, ◌&&◌, Bool, true, if◌then◌else◌, List, [], ◌∷◌, Option, Some, None, refl, ap, ap₂, sym}
use Rattle.std.specs.Prelude.{is_some}
use Rattle.std.specs.List.{list_all}
use Rattle.term_model.specs.Declarations.{Declarations}
use Rattle.term_model.specs.declared.values.Value.{Value}
use Rattle.term_model.specs.Terms.{Expression, Lit, Yes, Var, Obs, Neg, Num, Cmp, Not, Logic, Cond, Widen, Round, Div, Acc}
use Rattle.term_model.specs.Terms.{Contract, Zero, Pay, Both, Scale, After, Let, Within}
use Rattle.term_model.specs.Environments.{Environment, Extends, Place, least, label_of, value_or}
use Rattle.term_model.specs.Flows.{count_of}
use Rattle.term_model.specs.Kinds.{kind_of}
use Rattle.term_model.specs.Reads.{is_fixed, reads_of, up_to_first}
use Rattle.term_model.specs.Redexes.{moved, names_within}
use Rattle.term_model.specs.Values.{value_of}
use Rattle.term_model.proofs.ReadFacts.{SameWhere, reads_alike}
use Rattle.term_model.proofs.ReadLawFacts.{no_names}
use Rattle.fixing_files.specs.Layers.{HoldSame}
use Rattle.rewriting.specs.Measures.{size_in}
use Rattle.simplify.specs.TurningContracts.{turned_in}
use Rattle.specialise.specs.Specialising.{is_known, literal_or, specialised, specialised_in, told, told_or}
use Rattle.advance_step.specs.Reducing.{reduced, reduced_once, reduced_times}

-- every place
abbrev any : Place → Bool
any q = true

whole : (qs : List Place) → up_to_first any qs ≡ qs
whole [] = refl
whole (q ∷ qs) = ap (λ (xs : List Place). q ∷ xs) (whole qs)

each : (qs : List Place) → list_all any qs ≡ true
each [] = refl
each (q ∷ qs) = each qs

module _ (d : Declarations) (one other : Environment) (same : HoldSame one other) where
  pub extends : Extends one other
  extends q v e = sym (same q) ∙ e

  alike : SameWhere d any one other
  alike q h = ap (λ (o : Option Value). value_or o (least (label_of d q.label))) (same q)

  same_reads : (e : Expression) (f : ℤ) → reads_of d e [] [] one f ≡ reads_of d e [] [] other f
  same_reads e f =
      sym (whole (reads_of d e [] [] one f)) ∙ (reads_alike d any one other alike e [] [] [] [] (no_names any) f).lists ∙ whole (reads_of d e [] [] other f)

  same_value : (e : Expression) (f : ℤ) → value_of d e [] one f ≡ value_of d e [] other f
  same_value e f = (reads_alike d any one other alike e [] [] [] [] (no_names any) f).values (each (reads_of d e [] [] one f))

  same_fixed : (qs : List Place) → list_all (is_fixed one) qs ≡ list_all (is_fixed other) qs
  same_fixed [] = refl
  same_fixed (q ∷ qs) = ap₂ (λ (x y : Bool). x && y) (ap (λ (o : Option Value). is_some o) (same q)) (same_fixed qs)

  known_same : (o : Option ℤ) (e : Expression) → is_known d one o e ≡ is_known d other o e
  known_same None e = refl
  known_same (Some f) e =
      ap (λ (b : Bool). names_within 0 e && b) (same_fixed (reads_of d e [] [] one f) ∙ ap (list_all (is_fixed other)) (same_reads e f))

  told_same : (o : Option ℤ) (e x : Expression) → told d one o e x ≡ told d other o e x
  told_same None e x = refl
  told_same (Some f) e x = ap (λ (v : Value). literal_or (kind_of d e []) v x) (same_value e f)

  -- what is told of a part, or else another, which is the same over both
  part_same : (o : Option ℤ) (e x y : Expression) → x ≡ y → told_or d one o e x ≡ told_or d other o e y
  part_same o e x y is =
      ap (λ (b : Bool). if b then told d one o e x else x) (known_same o e)
      ∙ ap₂ (λ (t r : Expression). if is_known d other o e then t else r) (told_same o e x ∙ ap (told d other o e) is) is

  special_same : (o : Option ℤ) (e : Expression) → specialised d one o e ≡ specialised d other o e
  special_same o (Lit m s) = refl
  special_same o (Yes b) = refl
  special_same o (Var back) = refl
  special_same o (Obs l t) = part_same o (Obs l t) (Obs l t) (Obs l t) refl
  special_same o (Neg e) = ap Neg (special_same o e)
  special_same o (Num op a b) = ap₂ (Num op) (special_same o a) (special_same o b)
  special_same o (Cmp op a b) = ap₂ (Cmp op) (special_same o a) (special_same o b)
  special_same o (Not e) = ap Not (special_same o e)
  special_same o (Logic op a b) = ap₂ (Logic op) (special_same o a) (special_same o b)
  special_same o (Cond t a b) =
      ap (λ (x : Expression). Cond x (specialised d one o a) (specialised d one o b)) (special_same o t) ∙ ap₂ (Cond (specialised d other o t)) (special_same o a) (special_same o b)
  special_same o (Widen s e) = ap (Widen s) (special_same o e)
  special_same o (Round mode s e) = ap (Round mode s) (special_same o e)
  special_same o (Div mode s a b) = ap₂ (Div mode s) (special_same o a) (special_same o b)
  special_same o (Acc body n first) =
      part_same o (Acc body n first) _ _
      (ap₂ (λ (x y : Expression). Acc x n y) (special_same None body) (special_same (moved (pos 0 -ℤ pos n) o) first))

  special_same_in : (o : Option ℤ) (c : Contract) → specialised_in d one o c ≡ specialised_in d other o c
  special_same_in o Zero = refl
  special_same_in o (Pay a p q) = refl
  special_same_in o (Both a b) = ap₂ Both (special_same_in o a) (special_same_in o b)
  special_same_in o (Scale e c) = ap₂ Scale (special_same o e) (special_same_in o c)
  special_same_in o (After n c) = ap (After n) (special_same_in (moved (pos (count_of n)) o) c)
  special_same_in o (Let e c) = ap₂ Let (special_same o e) (special_same_in o c)
  special_same_in o (Within e n a b) =
      ap (λ (x : Expression). Within x n (specialised_in d one None a) (specialised_in d one (moved (pos (count_of n)) o) b)) (special_same None e)
      ∙ ap₂ (Within (specialised d other None e) n) (special_same_in None a) (special_same_in (moved (pos (count_of n)) o) b)

  times_same : (f : ℤ) (n : ℕ) (c : Contract) → reduced_times d one f n c ≡ reduced_times d other f n c
  times_same f zero c = refl
  times_same f (suc n) c =
      times_same f n (reduced_once d one f c) ∙ ap (λ (x : Contract). reduced_times d other f n (turned_in d [] x)) (special_same_in (Some f) c)

  pub reduced_same : (f : ℤ) (c : Contract) → reduced d one f c ≡ reduced d other f c
  reduced_same f c = times_same f (size_in c) c
