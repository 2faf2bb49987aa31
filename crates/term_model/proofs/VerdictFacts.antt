-- Whether a term is accepted follows from the decimals of the amounts and from the observables.
use Rattle.std.proofs.Common.{◌≡◌, ℕ, zero, suc, ℤ, pos, ◌+ℤ◌, neg_ℤ, ◌+◌, ◌-◌, ◌*◌, ◌^◌, max, ◌&&◌, Bool, true, leb-true, List, [], ◌∷◌, inl, inr, Option, nat_le, is_some, refl, ap, ap₂, sym, subst, ◌∙◌, Contains}
use Rattle.std.specs.Prelude.{IsTrue}
use Rattle.std.proofs.lemmas.Bool.{and_parts, and_from}
use Rattle.decimal.specs.Rounding.{raised, at_scale, divided}
use Rattle.term_model.specs.declared.label.Label.{Label}
use Rattle.term_model.specs.declared.rules.Rule.{Rule}
use Rattle.term_model.specs.declared.rules.Rule.TheVariants.{Sort, Time as TimeRule, Scale as ScaleRule, Size, Bound}
use Rattle.term_model.specs.declared.values.Kind.{Kind}
use Rattle.term_model.specs.Declarations.{Declarations, decimals_of, at_one_scale}
use Rattle.term_model.specs.Terms.{Expression, Lit, Yes, Var, Obs, Neg, Num, Cmp, Not, Logic, Cond, Widen, Round, Div, Acc}
use Rattle.term_model.specs.Terms.{Contract, Zero, Pay, Both, Scale, After, Let, Within}
use Rattle.term_model.specs.Environments.{Environment, Place, IsAdmitted, IsValueOf}
use Rattle.term_model.specs.Kinds.{kind_of, scale_of, scale_of_kind}
use Rattle.term_model.specs.Values.{kind_or}
use Rattle.term_model.specs.Flows.{scale_of_contract}
use Rattle.term_model.specs.Sites.{Layer, Naming, Counting, Later, Earlier, Undated, Site, Part, Once, EachDay, OfExpression, OfContract, kinds_round, AllPass, FirstFault, sites}
use Rattle.term_model.specs.Sorts.{is_number, is_truth, part_is_sorted}
use Rattle.term_model.specs.Scales.{greatest_scale, part_is_scaled, parts_are_scaled}
use Rattle.term_model.specs.AssetScales.{assets_are_scaled}
use Rattle.term_model.specs.Bounds.{Interval, Range, range_kinds, lifted, swapped, hull, corners, aligned, of_op, interval_of_label, stepped, interval_of, range_of, range_after, ranges_round, fits, fit_aligned, fit_operands, fit_divided, operands_fit, greatest_size, total_of, aligned_total, greatest_total, part_is_bounded, is_bounded}
use Rattle.term_model.specs.LawsScales.{AcceptedAtOneScale}
use Rattle.term_model.specs.Acceptance.{Passes, trial_of, Meets, FailsAt, IsRefusal}
use Rattle.term_model.specs.Residuals.{Carries}
use Rattle.term_model.specs.LawsDeclarations.{MeanTheSame, HaveSameDecimals, DeclarationsGiveVerdicts}
use Rattle.term_model.proofs.AssetFacts.{one_scale_decides, has_one_scale}
use Rattle.term_model.proofs.MeaningFacts.{four, label_same, kind_same, scale_same, contract_scale_same, assets_same, amount_same, contract_reads_same}

same_steps : (n : ℕ) (step go : Interval → Interval) (i j : Interval) → i ≡ j → ((x : Interval) → step x ≡ go x) → stepped n step i ≡ stepped n go j
same_steps zero step go i j e h = e
same_steps (suc n) step go i j e h = ap step (same_steps n step go i j e h) ∙ h (stepped n go j)

interval_same : (d o : Declarations) → MeanTheSame d o → (e : Expression) (g : List Range) → interval_of d e g ≡ interval_of o e g
interval_same d o s (Lit m t) g = refl
interval_same d o s (Yes b) g = refl
interval_same d o s (Var back) g = refl
interval_same d o s (Obs l t) g = ap interval_of_label (label_same d o s l)
interval_same d o s (Neg e) g = ap (λ (i : Interval). lifted neg_ℤ (swapped i)) (interval_same d o s e g)
interval_same d o s (Num op a b) g =
    four (λ i x j y. of_op op i x j y) _ _ _ _ _ _ _ _ (scale_same d o s a (range_kinds g)) (interval_same d o s a g) (scale_same d o s b (range_kinds g)) (interval_same d o s b g)
interval_same d o s (Cmp op a b) g = refl
interval_same d o s (Not e) g = refl
interval_same d o s (Logic op a b) g = refl
interval_same d o s (Cond t a b) g =
    four (λ i x j y. hull (aligned i j x) (aligned j i y)) _ _ _ _ _ _ _ _ (scale_same d o s a (range_kinds g)) (interval_same d o s a g) (scale_same d o s b (range_kinds g)) (interval_same d o s b g)
interval_same d o s (Widen k e) g =
    ap₂ (λ (i : ℕ) (x : Interval). lifted (λ m. raised m (k - i)) x) (scale_same d o s e (range_kinds g)) (interval_same d o s e g)
interval_same d o s (Round mode k e) g =
    ap₂ (λ (i : ℕ) (x : Interval). lifted (λ m. at_scale mode m i k) x) (scale_same d o s e (range_kinds g)) (interval_same d o s e g)
interval_same d o s (Div mode k a b) g =
    four (λ i x j y. corners (λ u v. divided mode u i v j k) x y) _ _ _ _ _ _ _ _ (scale_same d o s a (range_kinds g)) (interval_same d o s a g) (scale_same d o s b (range_kinds g)) (interval_same d o s b g)
interval_same d o s (Acc body n first) g =
    let ks = range_kinds g in
    let run : Option Kind → Interval = λ u. stepped n (λ i. lifted (λ m. raised m (scale_of_kind (kind_or u) - scale_of d body (kind_or u ∷ ks))) (interval_of d body (record { interval = i; kind = kind_or u } ∷ g))) (interval_of d first g) in
    ap run (kind_same d o s first ks)
    ∙ same_steps n _ _ _ _ (interval_same d o s first g) (λ i.
    let kind = kind_or (kind_of o first ks) in
    let rs : List Range = record { interval = i; kind = kind } ∷ g in
    ap₂ (λ (j : ℕ) (x : Interval). lifted (λ m. raised m (scale_of_kind kind - j)) x) (scale_same d o s body (kind ∷ ks)) (interval_same d o s body rs))

range_same : (d o : Declarations) → MeanTheSame d o → (e : Expression) (g : List Range) → range_of d e g ≡ range_of o e g
range_same d o s e g =
    let range : Interval → Option Kind → Range = λ i u. record { interval = i; kind = kind_or u } in
    ap₂ range (interval_same d o s e g) (kind_same d o s e (range_kinds g))

total_same : (d o : Declarations) → MeanTheSame d o → (c : Contract) (g : List Range) → total_of d c g ≡ total_of o c g
total_same d o s Zero g = refl
total_same d o s (Pay a p q) g = refl
total_same d o s (Both a b) g =
    four (λ i x j y. x * 10 ^ (max i j - i) + y * 10 ^ (max i j - j)) _ _ _ _ _ _ _ _ (contract_scale_same d o s a (range_kinds g)) (total_same d o s a g) (contract_scale_same d o s b (range_kinds g)) (total_same d o s b g)
total_same d o s (Scale e c) g = ap₂ (λ (t : ℕ) (i : Interval). t * greatest_size i) (total_same d o s c g) (interval_same d o s e g)
total_same d o s (After n c) g = total_same d o s c g
total_same d o s (Let e c) g = total_same d o s c (range_of d e g ∷ g) ∙ ap (λ (r : Range). total_of o c (r ∷ g)) (range_same d o s e g)
total_same d o s (Within e n a b) g =
    four (λ i x j y. max (x * 10 ^ (max i j - i)) (y * 10 ^ (max i j - j))) _ _ _ _ _ _ _ _ (contract_scale_same d o s a (range_kinds g)) (total_same d o s a g) (contract_scale_same d o s b (range_kinds g)) (total_same d o s b g)

aligned_same : (d o : Declarations) → MeanTheSame d o → (c : Contract) (g : List Range) → aligned_total d c g ≡ aligned_total o c g
aligned_same d o s c g =
    ap₂ (λ (t k : ℕ). t * 10 ^ k) (total_same d o s c g) (ap₂ (λ (i j : ℕ). i - j) s.amounts (contract_scale_same d o s c (range_kinds g)))

-- ---- nodes

kinds_same : (d o : Declarations) → MeanTheSame d o → (r : List Layer) → kinds_round d r ≡ kinds_round o r
kinds_same d o s [] = refl
kinds_same d o s (Naming e ∷ r) =
    ap (λ (ks : List Kind). kind_or (kind_of d e ks) ∷ ks) (kinds_same d o s r) ∙ ap (λ (u : Option Kind). kind_or u ∷ kinds_round o r) (kind_same d o s e (kinds_round o r))
kinds_same d o s (Counting body n first ∷ r) =
    ap (λ (ks : List Kind). kind_or (kind_of d first ks) ∷ ks) (kinds_same d o s r) ∙ ap (λ (u : Option Kind). kind_or u ∷ kinds_round o r) (kind_same d o s first (kinds_round o r))
kinds_same d o s (Later n ∷ r) = kinds_same d o s r
kinds_same d o s (Earlier n ∷ r) = kinds_same d o s r
kinds_same d o s (Undated ∷ r) = kinds_same d o s r

range_after_same : (d o : Declarations) → MeanTheSame d o → (body : Expression) (n : ℕ) (first : Expression) (g : List Range) → range_after d body n first g ≡ range_after o body n first g
range_after_same d o s body n first g =
    let range : Interval → Option Kind → Range = λ i u. record { interval = i; kind = kind_or u } in
    ap₂ range (interval_same d o s (Acc body n first) g) (kind_same d o s first (range_kinds g))

ranges_same : (d o : Declarations) → MeanTheSame d o → (r : List Layer) → ranges_round d r ≡ ranges_round o r
ranges_same d o s [] = refl
ranges_same d o s (Naming e ∷ r) =
    ap (λ (g : List Range). range_of d e g ∷ g) (ranges_same d o s r) ∙ ap (λ (x : Range). x ∷ ranges_round o r) (range_same d o s e (ranges_round o r))
ranges_same d o s (Counting body n first ∷ r) =
    ap (λ (g : List Range). range_after d body n first g ∷ g) (ranges_same d o s r) ∙ ap (λ (x : Range). x ∷ ranges_round o r) (range_after_same d o s body n first (ranges_round o r))
ranges_same d o s (Later n ∷ r) = ranges_same d o s r
ranges_same d o s (Earlier n ∷ r) = ranges_same d o s r
ranges_same d o s (Undated ∷ r) = ranges_same d o s r

-- the kind of an expression at a node
kind_here : (d o : Declarations) → MeanTheSame d o → (e : Expression) (r : List Layer) → kind_of d e (kinds_round d r) ≡ kind_of o e (kinds_round o r)
kind_here d o s e r = ap (kind_of d e) (kinds_same d o s r) ∙ kind_same d o s e (kinds_round o r)

scale_here : (d o : Declarations) → MeanTheSame d o → (e : Expression) (r : List Layer) → scale_of d e (kinds_round d r) ≡ scale_of o e (kinds_round o r)
scale_here d o s e r = ap (scale_of d e) (kinds_same d o s r) ∙ scale_same d o s e (kinds_round o r)

sorted_same : (d o : Declarations) → MeanTheSame d o → (x : Site) (p : Part) → part_is_sorted d x p ≡ part_is_sorted o x p
sorted_same d o s x (OfExpression e) = ap is_some (kind_here d o s e x.layers)
sorted_same d o s x (OfContract Zero) = refl
sorted_same d o s x (OfContract (Pay a p q)) = refl
sorted_same d o s x (OfContract (Both a b)) = refl
sorted_same d o s x (OfContract (Scale e c)) = ap is_number (kind_here d o s e x.layers)
sorted_same d o s x (OfContract (After n c)) = refl
sorted_same d o s x (OfContract (Let e c)) = refl
sorted_same d o s x (OfContract (Within e n a b)) = ap is_truth (kind_here d o s e x.layers)

parts_same : (d o : Declarations) → MeanTheSame d o → (x : Site) (e : Expression) → parts_are_scaled d x e ≡ parts_are_scaled o x e
parts_same d o s x (Lit m t) = refl
parts_same d o s x (Yes b) = refl
parts_same d o s x (Var back) = refl
parts_same d o s x (Obs l t) = refl
parts_same d o s x (Neg e) = refl
parts_same d o s x (Num op a b) = refl
parts_same d o s x (Cmp op a b) = refl
parts_same d o s x (Not e) = refl
parts_same d o s x (Logic op a b) = refl
parts_same d o s x (Cond t a b) = refl
parts_same d o s x (Widen to e) = ap (λ (k : ℕ). nat_le k to) (scale_here d o s e x.layers)
parts_same d o s x (Round mode k e) = refl
parts_same d o s x (Div mode k a b) = refl
parts_same d o s x (Acc body n first) =
    let ks = kinds_round d x.layers in
    let js = kinds_round o x.layers in
    let body_scale : scale_of d body (kind_or (kind_of d first ks) ∷ ks) ≡ scale_of o body (kind_or (kind_of o first js) ∷ js) =
    ap₂ (λ (u : Option Kind) (hs : List Kind). scale_of d body (kind_or u ∷ hs)) (kind_here d o s first x.layers) (kinds_same d o s x.layers)
    ∙ scale_same d o s body (kind_or (kind_of o first js) ∷ js)
    in
    ap₂ nat_le body_scale (scale_here d o s first x.layers)

scaled_same : (d o : Declarations) → MeanTheSame d o → HaveSameDecimals d o → (x : Site) (p : Part) → part_is_scaled d x p ≡ part_is_scaled o x p
scaled_same d o s t x (OfExpression e) =
    ap₂ (λ (k : ℕ) (b : Bool). nat_le k greatest_scale && b) (scale_here d o s e x.layers) (parts_same d o s x e)
scaled_same d o s t x (OfContract c) =
    ap₂ (λ (a b : Bool). a && b)
    (ap₂ nat_le (ap (scale_of_contract d c) (kinds_same d o s x.layers) ∙ contract_scale_same d o s c (kinds_round o x.layers)) s.amounts)
    (ap (assets_are_scaled d c) (kinds_same d o s x.layers) ∙ assets_same d o s t c (kinds_round o x.layers))

operands_same : (d o : Declarations) → MeanTheSame d o → (g : List Range) (e : Expression) → operands_fit d g e ≡ operands_fit o g e
operands_same d o s g (Lit m t) = refl
operands_same d o s g (Yes b) = refl
operands_same d o s g (Var back) = refl
operands_same d o s g (Obs l t) = refl
operands_same d o s g (Neg e) = refl
operands_same d o s g (Num op a b) =
    four (λ i x j y. fit_operands op i x j y) _ _ _ _ _ _ _ _ (scale_same d o s a (range_kinds g)) (interval_same d o s a g) (scale_same d o s b (range_kinds g)) (interval_same d o s b g)
operands_same d o s g (Cmp op a b) =
    four (λ i x j y. fit_aligned i x j y) _ _ _ _ _ _ _ _ (scale_same d o s a (range_kinds g)) (interval_same d o s a g) (scale_same d o s b (range_kinds g)) (interval_same d o s b g)
operands_same d o s g (Not e) = refl
operands_same d o s g (Logic op a b) = refl
operands_same d o s g (Cond t a b) =
    four (λ i x j y. fit_aligned i x j y) _ _ _ _ _ _ _ _ (scale_same d o s a (range_kinds g)) (interval_same d o s a g) (scale_same d o s b (range_kinds g)) (interval_same d o s b g)
operands_same d o s g (Widen k e) = refl
operands_same d o s g (Round mode k e) = refl
operands_same d o s g (Div mode k a b) =
    four (λ i x j y. fit_divided i x j y k) _ _ _ _ _ _ _ _ (scale_same d o s a (range_kinds g)) (interval_same d o s a g) (scale_same d o s b (range_kinds g)) (interval_same d o s b g)
operands_same d o s g (Acc body n first) = refl

bounded_here : (d o : Declarations) → MeanTheSame d o → (g : List Range) (p : Part) → part_is_bounded d g p ≡ part_is_bounded o g p
bounded_here d o s g (OfExpression e) =
    ap₂ (λ (b : Bool) (i : Interval). b && fits i) (operands_same d o s g e) (interval_same d o s e g)
bounded_here d o s g (OfContract c) =
    ap₂ (λ (t u : ℕ). nat_le t greatest_total && nat_le u greatest_total) (total_same d o s c g) (aligned_same d o s c g)

bounded_same : (d o : Declarations) → MeanTheSame d o → (x : Site) → is_bounded d x ≡ is_bounded o x
bounded_same d o s x =
    ap (λ (g : List Range). part_is_bounded d g x.part) (ranges_same d o s x.layers) ∙ bounded_here d o s (ranges_round o x.layers) x.part

passes_same : (d o : Declarations) → MeanTheSame d o → HaveSameDecimals d o → (rule : Rule) (x : Site) → Passes d rule x → Passes o rule x
passes_same d o s t Sort x h = subst (λ (b : Bool). IsTrue b) (sorted_same d o s x x.part) h
passes_same d o s t TimeRule x h = h
passes_same d o s t ScaleRule x h = subst (λ (b : Bool). IsTrue b) (scaled_same d o s t x x.part) h
passes_same d o s t Size x h = h
passes_same d o s t Bound x h = subst (λ (b : Bool). IsTrue b) (bounded_same d o s x) h

-- ---- verdicts

all_pass : (P Q : Site → Type 0) → ((x : Site) → P x → Q x) → (xs : List Site) → AllPass P xs → AllPass Q xs
all_pass P Q h [] p = tt
all_pass P Q h (x ∷ xs) p = (h x p.0, all_pass P Q h xs p.1)

first_fault : (P Q : Site → Type 0) → ((x : Site) → P x → Q x) → ((x : Site) → Q x → P x) → (xs : List Site) (k : ℕ) → FirstFault P xs k → FirstFault Q xs k
first_fault P Q h g [] k p = absurd p
first_fault P Q h g (x ∷ xs) k (inl p) = inl (λ q. p.0 (g x q), p.1)
first_fault P Q h g (x ∷ xs) k (inr p) = inr (h x p.0, first_fault P Q h g xs k p.1)

turned : (d o : Declarations) → MeanTheSame d o → MeanTheSame o d
turned d o s = record { amounts = sym s.amounts; labels = sym s.labels }

meets_same : (d o : Declarations) → MeanTheSame d o → HaveSameDecimals d o → (rule : Rule) (c : Contract) → Meets d rule c → Meets o rule c
meets_same d o s t rule c h = all_pass (Passes d rule) (Passes o rule) (passes_same d o s t rule) (sites (trial_of rule) c) h

fails_same : (d o : Declarations) → MeanTheSame d o → HaveSameDecimals d o → (rule : Rule) (c : Contract) (k : ℕ) → FailsAt d rule c k → FailsAt o rule c k
fails_same d o s t rule c k h =
    first_fault (Passes d rule) (Passes o rule) (passes_same d o s t rule) (passes_same o d (turned d o s) (λ a. sym (t a)) rule) (sites (trial_of rule) c) k h

refused_same : (d o : Declarations) → MeanTheSame d o → HaveSameDecimals d o → (c : Contract) (rule : Rule) (k : ℕ) → IsRefusal d c rule k → IsRefusal o c rule k
refused_same d o s t c Sort k h = fails_same d o s t Sort c k h
refused_same d o s t c TimeRule k h = (meets_same d o s t Sort c h.0, fails_same d o s t TimeRule c k h.1)
refused_same d o s t c ScaleRule k h = (meets_same d o s t Sort c h.0, meets_same d o s t TimeRule c h.1, fails_same d o s t ScaleRule c k h.2)
refused_same d o s t c Size k h =
    (meets_same d o s t Sort c h.0, meets_same d o s t TimeRule c h.1, meets_same d o s t ScaleRule c h.2, fails_same d o s t Size c k h.3)
refused_same d o s t c Bound k h =
    (meets_same d o s t Sort c h.0, meets_same d o s t TimeRule c h.1, meets_same d o s t ScaleRule c h.2, meets_same d o s t Size c h.3, fails_same d o s t Bound c k h.4)

admitted_same : (d o : Declarations) → MeanTheSame d o → (env : Environment) → IsAdmitted o env → IsAdmitted d env
admitted_same d o s env h q v e = subst (λ (u : Option Label). IsValueOf u v) (sym (label_same d o s q.label)) (h q v e)

carried_same : (d o : Declarations) → MeanTheSame d o → (c : Contract) (f : ℤ) (fixings : Environment) (m : ℕ) (rest : Contract) → Carries d c f fixings m rest → Carries o c f fixings m rest
carried_same d o s c f fixings m rest h =
    record {
      amounts = λ env a x n w.
          sym (amount_same d o s rest env (f +ℤ pos m) (pos n) w) ∙ h.amounts env (admitted_same d o s env a) x n w ∙ amount_same d o s c env f (pos (m + n)) w;
      reads = λ env a x b q read.
          subst (λ (qs : List Place). Contains qs q) (contract_reads_same d o s c [] [] env f (pos 0) (pos (m + b)))
          (h.reads env (admitted_same d o s env a) x b q (subst (λ (qs : List Place). Contains qs q) (sym (contract_reads_same d o s rest [] [] env (f +ℤ pos m) (pos 0) (pos b))) read));
    }

pub one_verdict : DeclarationsGiveVerdicts
one_verdict d o s t =
    record {
      accepted = λ c h. record {
        sorts = meets_same d o s t Sort c h.sorts;
        times = meets_same d o s t TimeRule c h.times;
        scales = meets_same d o s t ScaleRule c h.scales;
        sizes = meets_same d o s t Size c h.sizes;
        bounds = meets_same d o s t Bound c h.bounds;
      };
      facts = λ c facts h. record {
        right_start = h.right_start;
        right_scale = h.right_scale ∙ contract_scale_same d o s c [];
        right_total = h.right_total ∙ aligned_same d o s c [];
        right_horizon = h.right_horizon;
      };
      refused = λ c rule k h. refused_same d o s t c rule k h;
      carried = λ c f fixings m rest h. carried_same d o s c f fixings m rest h;
    }

-- ---- where each asset has the decimals of the amounts

scale_decides : (d o : Declarations) → MeanTheSame d o → ((a : ℕ) → decimals_of o a ≡ o.amounts) → (x : Site) (p : Part) → IsTrue (part_is_scaled d x p) → IsTrue (part_is_scaled o x p)
scale_decides d o s t x (OfExpression e) h =
    subst (λ (b : Bool). IsTrue b) (ap₂ (λ (k : ℕ) (b : Bool). nat_le k greatest_scale && b) (scale_here d o s e x.layers) (parts_same d o s x e)) h
scale_decides d o s t x (OfContract c) h =
    let ks = kinds_round d x.layers in
    let js = kinds_round o x.layers in
    let whole = (and_parts (nat_le (scale_of_contract d c ks) d.amounts) (assets_are_scaled d c ks) h).0 in
    let there : nat_le (scale_of_contract o c js) o.amounts ≡ true = sym (ap₂ nat_le (ap (scale_of_contract d c) (kinds_same d o s x.layers) ∙ contract_scale_same d o s c js) s.amounts) ∙ whole in
    and_from _ _ there (one_scale_decides o c js t (leb-true (scale_of_contract o c js) o.amounts there))

pub accepted_at_one_scale : AcceptedAtOneScale
accepted_at_one_scale d c h =
    let o = at_one_scale d in
    let s : MeanTheSame d o = record { amounts = refl; labels = refl } in
    record {
      sorts = all_pass (Passes d Sort) (Passes o Sort) (λ x p. subst (λ (b : Bool). IsTrue b) (sorted_same d o s x x.part) p) (sites Once c) h.sorts;
      times = h.times;
      scales = all_pass (Passes d ScaleRule) (Passes o ScaleRule) (λ x p. scale_decides d o s (has_one_scale d) x x.part p) (sites Once c) h.scales;
      sizes = h.sizes;
      bounds = all_pass (Passes d Bound) (Passes o Bound) (λ x p. subst (λ (b : Bool). IsTrue b) (bounded_same d o s x) p) (sites EachDay c) h.bounds;
    }
