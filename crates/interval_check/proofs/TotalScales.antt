-- The scale of the total that the trial answers is the one that is found by structure.
use Rattle.std.proofs.Common.{◌≡◌, ℕ, ◌+◌, ◌≤◌, max, Bool, true, false, if◌then◌else◌, List, ◌∷◌, Result, Ok, Err, refl, ap, ◌∙◌, sym, subst}
use Rattle.term_model.specs.declared.values.Kind.{Kind}
use Rattle.term_model.specs.Declarations.{Declarations}
use Rattle.term_model.specs.Terms.{Expression, Contract, Zero, Pay, Both, Scale, After, Let, Within}
use Rattle.term_model.specs.Kinds.{scale_of_kind}
use Rattle.term_model.specs.Sizes.{nodes, nodes_of_contract}
use Rattle.term_model.specs.Bounds.{Range, range_kinds}
use Rattle.term_core.specs.Trying.{then_do, moved}
use Rattle.interval_check.specs.RangeTrials.{scale_in, range_tried, kind_found}
use Rattle.interval_check.specs.TotalTrials.{Total, Answer, total_fits, total_here, of_both, of_either, of_scaled, total_tried, scale_found, AreTotalsScaled}
use Rattle.interval_check.proofs.RangeKinds.{kind_is_found, found_there}

here_scale : (b : Bool) (x t : Total) → ◌≡◌ {A = Answer} (if b then Ok x else Err 0) (Ok t) → t.scale ≡ x.scale
here_scale true x t e = let same : ◌≡◌ {A = Total} x t = cc in ap (λ (u : Total). u.scale) (sym same)
here_scale false x t e = absurd (cc)

after_part : {A : Type 0} (n : ℕ) (a : Result A ℕ) (go : A → Answer) (t : Total) (s : ℕ) → ((x : A) → a ≡ Ok x → go x ≡ Ok t → t.scale ≡ s) → then_do (moved n a) go ≡ Ok t → t.scale ≡ s
after_part n (Ok x) go t s f e = f x refl e
after_part n (Err j) go t s f e = absurd (cc)

after_two : {A : Type 0} (m n : ℕ) (a : Result A ℕ) (go : A → Answer) (t : Total) (s : ℕ) → ((x : A) → a ≡ Ok x → go x ≡ Ok t → t.scale ≡ s) → then_do (moved m (moved n a)) go ≡ Ok t → t.scale ≡ s
after_two m n (Ok x) go t s f e = f x refl e
after_two m n (Err j) go t s f e = absurd (cc)

only_part : (n : ℕ) (a : Answer) (t : Total) → moved n a ≡ Ok t → a ≡ Ok t
only_part n (Ok x) t e = e
only_part n (Err j) t e = absurd (cc)

abbrev pub ScaleIsFound : Declarations → Contract → Type 0
ScaleIsFound d c = (g : List Range) (t : Total) → total_tried d c g ≡ Ok t → t.scale ≡ scale_found d c (range_kinds g)

pub scale_is_found : (d : Declarations) (c : Contract) → ScaleIsFound d c
scale_is_found d Zero g t e =
    here_scale (total_fits d.amounts (record { amount = 0; scale = 0 })) (record { amount = 0; scale = 0 }) t e
scale_is_found d (Pay a p q) g t e =
    here_scale (total_fits d.amounts (record { amount = 1; scale = 0 })) (record { amount = 1; scale = 0 }) t e
scale_is_found d (Both a b) g t e =
    after_part 1 (total_tried d a g) (λ x. then_do (moved (1 + nodes_of_contract a) (total_tried d b g)) (λ y. total_here d.amounts (of_both x y))) t _
    (λ x p. after_part (1 + nodes_of_contract a) (total_tried d b g) (λ y. total_here d.amounts (of_both x y)) t _
    (λ y q h. here_scale (total_fits d.amounts (of_both x y)) (of_both x y) t h
    ∙ ap (λ (s : ℕ). max s y.scale) (scale_is_found d a g x p)
    ∙ ap (λ (s : ℕ). max (scale_found d a (range_kinds g)) s) (scale_is_found d b g y q))) e
scale_is_found d (Scale x c) g t e =
    after_part 1 (range_tried d x g) (λ r. then_do (moved (1 + nodes x) (total_tried d c g)) (λ y. total_here d.amounts (of_scaled r y))) t _
    (λ r p. after_part (1 + nodes x) (total_tried d c g) (λ y. total_here d.amounts (of_scaled r y)) t _
    (λ y q h. here_scale (total_fits d.amounts (of_scaled r y)) (of_scaled r y) t h
    ∙ ap (λ (k : Kind). scale_of_kind k + y.scale) (kind_is_found d x g r p)
    ∙ ap (λ (s : ℕ). scale_of_kind (kind_found d x (range_kinds g)) + s) (scale_is_found d c g y q))) e
scale_is_found d (After n c) g t e = scale_is_found d c g t (only_part 1 (total_tried d c g) t e)
scale_is_found d (Let x c) g t e =
    after_part 1 (range_tried d x g) (λ r. moved (1 + nodes x) (total_tried d c (r ∷ g))) t _
    (λ r p q. scale_is_found d c (r ∷ g) t (only_part (1 + nodes x) (total_tried d c (r ∷ g)) t q)
    ∙ ap (λ (k : Kind). scale_found d c (k ∷ range_kinds g)) (kind_is_found d x g r p)) e
scale_is_found d (Within x n a b) g t e =
    after_part 1 (range_tried d x g) (λ _. then_do (moved (1 + nodes x) (total_tried d a g)) (λ u. then_do (moved (nodes x) (moved (1 + nodes_of_contract a) (total_tried d b g))) (λ y. total_here d.amounts (of_either u y)))) t _
    (λ r p. after_part (1 + nodes x) (total_tried d a g) (λ u. then_do (moved (nodes x) (moved (1 + nodes_of_contract a) (total_tried d b g))) (λ y. total_here d.amounts (of_either u y))) t _
    (λ u q. after_two (nodes x) (1 + nodes_of_contract a) (total_tried d b g) (λ y. total_here d.amounts (of_either u y)) t _
    (λ y v h. here_scale (total_fits d.amounts (of_either u y)) (of_either u y) t h
    ∙ ap (λ (s : ℕ). max s y.scale) (scale_is_found d a g u q)
    ∙ ap (λ (s : ℕ). max (scale_found d a (range_kinds g)) s) (scale_is_found d b g y v)))) e

total_there : (n : ℕ) (a : Answer) (t : Total) → Ok t ≡ moved n a → a ≡ Ok t
total_there n (Ok x) t e = sym e
total_there n (Err j) t e = absurd (cc)

-- the body's scales, with the kind of what is bound for its name
pub let_scaled : (d : Declarations) (m : ℕ) (e : Expression) (c : Contract) (g : List Range) (r : Range) → Ok r ≡ moved m (range_tried d e g) → AreTotalsScaled d (Let e c) (range_kinds g) → AreTotalsScaled d c (r.kind ∷ range_kinds g)
let_scaled d m e c g r p h =
    subst (λ (k : Kind). AreTotalsScaled d c (k ∷ range_kinds g)) (sym (kind_is_found d e g r (found_there m (range_tried d e g) r p))) h.1

-- the scale of a factor and its body
pub product_scaled : (d : Declarations) (m n : ℕ) (e : Expression) (c : Contract) (g : List Range) (r : Range) (t : Total) → Ok r ≡ moved m (range_tried d e g) → Ok t ≡ moved n (total_tried d c g) → AreTotalsScaled d (Scale e c) (range_kinds g) → scale_in r + t.scale ≤ d.amounts
product_scaled d m n e c g r t p q h =
    subst (λ (k : Kind). scale_of_kind k + t.scale ≤ d.amounts) (sym (kind_is_found d e g r (found_there m (range_tried d e g) r p)))
    (subst (λ (s : ℕ). scale_of_kind (kind_found d e (range_kinds g)) + s ≤ d.amounts) (sym (scale_is_found d c g t (total_there n (total_tried d c g) t q))) h.2)
