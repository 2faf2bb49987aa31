-- The trial of the rule on sizes at a setting finds the first node that breaks it.
use Rattle.std.proofs.Common.{◌≡◌, ℕ, pos, Bool, true, false, ◌&&◌, nat_le, if◌then◌else◌, List, [], ◌∷◌, map, Result, Ok, Err, refl, ap, ap₂, sym, ◌∙◌}
use Rattle.term_model.specs.declared.rules.Rule.TheVariants.{Size as SizeRule}
use Rattle.term_model.specs.Declarations.{Declarations}
use Rattle.term_model.specs.Sites.{Layer, Site, Once, sites_of}
use Rattle.term_core.specs.Trying.{moved}
use Rattle.scale_check.proofs.Finding as found
use Rattle.payoff_terms.specs.TemplateDates.{day_of}
use Rattle.payoff_terms.specs.Dating.{at_setting, undated}
use Rattle.payoff_terms.specs.Code.{ValueExpression, PayoffCode, Nothing, PayOn, Add, ScaleBy, LetBe, Loop, Cut}
use Rattle.payoff_terms.specs.CodeSizes.{nodes_of_code, height_of_code, work_of_code, loop_days, as_count}
use Rattle.payoff_terms.specs.CodeSites.{CodeSite, InValue, AtCode, number_of, sites_of_code}
use Rattle.payoff_terms.specs.CodeAcceptance.{code_is_small, dates_in_range, within_code_limits, MeetsInCode, FailsInCode}
use Rattle.payoff_check.specs.declared.part_sizes.ValueSize.{ValueSize}
use Rattle.payoff_check.specs.declared.part_sizes.CodeSize.{CodeSize}
use Rattle.payoff_check.specs.SizeTrials.{size_tried, unit, together, behind, over, looped, dated_code, sizing, sizes_tried}
use Rattle.payoff_check.proofs.Finding.{Finds, first_failing-map, fine, faulty, Follows, code_finds, each_any, meets, fails}
use Rattle.payoff_check.proofs.DateFreeFacts.{size_of, size_any}
use Rattle.payoff_check.proofs.ValueSizeFacts.{size_finds}

-- the size of code at a setting
abbrev pub size_of_code : List ℕ → PayoffCode → CodeSize
size_of_code xs k = record { height = height_of_code k; nodes = nodes_of_code k; work = work_of_code xs k; days = loop_days xs k }

abbrev pub IsValueSize : ValueExpression → ValueSize → Type 0
IsValueSize v u = u ≡ size_of (undated v)

abbrev pub IsCodeSize : List ℕ → PayoffCode → CodeSize → Type 0
IsCodeSize xs k a = a ≡ size_of_code xs k

value_found : (p : CodeSite → Bool) (xs : List Site) (n : ℕ) (x y : ValueSize) (a : Result ValueSize ℕ) → x ≡ y → found.Finds (λ s. p (InValue s)) xs n (λ (u : ValueSize). u ≡ x) a → Finds p (map (λ s. InValue s) xs) (λ (u : ValueSize). u ≡ y) (moved n a)
value_found p xs n x y (Ok s) e h = (first_failing-map p xs ∙ h.0, h.1 ∙ e)
value_found p xs n x y (Err j) e h = first_failing-map p xs ∙ h

-- a node that passes by its size, by its days and by its date
three_tests : {A : Type 0} (p : CodeSite → Bool) (s : CodeSite) (S : A → Type 0) (a b c : Bool) (x : A) → p s ≡ (a && (b && c)) → S x → Finds p (s ∷ []) S (if c then (if a && b then Ok x else Err (number_of s)) else Err (number_of s))
three_tests p s S true true true x e h = fine p s S x e h
three_tests p s S true true false x e h = faulty p s S e
three_tests p s S true false true x e h = faulty p s S e
three_tests p s S true false false x e h = faulty p s S e
three_tests p s S false b true x e h = faulty p s S e
three_tests p s S false b false x e h = faulty p s S e

node : (xs : List ℕ) (k : PayoffCode) (r : List Layer) (n : ℕ) (t : CodeSize) → IsCodeSize xs k t → Finds (code_is_small xs) (AtCode n k r ∷ []) (λ (a : CodeSize). IsCodeSize xs k a) (dated_code (dates_in_range xs k) t n)
node xs k r n t h =
    three_tests (code_is_small xs) (AtCode n k r) (λ (a : CodeSize). IsCodeSize xs k a) (within_code_limits t.height t.nodes t.work) (nat_le t.days 100_000) (dates_in_range xs k) t
    (sym (ap (λ (z : CodeSize). within_code_limits z.height z.nodes z.work && (nat_le z.days 100_000 && dates_in_range xs k)) h)) h

three : (n : ℕ) (u u' : ValueSize) (a a' b b' : CodeSize) → u ≡ u' → a ≡ a' → b ≡ b' → looped u n a b ≡ looped u' n a' b'
three n u u' a a' b b' hu ha hb = ap (λ (x : ValueSize). looped x n a b) hu ∙ ap₂ (λ (x y : CodeSize). looped u' n x y) ha hb

size_follows : (xs : List ℕ) → Follows (sizing xs) Once (day_of xs) (code_is_small xs) (λ _. tt) (λ v r u. IsValueSize v u) (λ k r a. IsCodeSize xs k a) (λ _ _ _. Unit {0}) (λ _ _ _. Unit {0})
size_follows xs = record {
  values = λ v r n _. value_found (code_is_small xs) (sites_of Once (at_setting xs v) r n) n (size_of (at_setting xs v)) (size_of (undated v)) (size_tried (at_setting xs v)) (size_any (day_of xs) (λ _. pos 0) v) (size_finds (at_setting xs v) r n);
  enters = λ v r u h. refl;
  nothings = λ r n _. node xs Nothing r n unit refl;
  payments = λ x a b c r n _. node xs (PayOn x a b c) r n unit refl;
  sums = λ k l r n a b ha hb _. node xs (Add k l) r n (together a b) (ap₂ together ha hb);
  factors = λ v k r n u a hu ha _. node xs (ScaleBy v k) r n (behind u a) (ap₂ behind hu ha);
  binders = λ v k r n u a hu ha _. node xs (LetBe v k) r n (behind u a) (ap₂ behind hu ha);
  loops = λ v x k l r n u a b hu ha hb _. node xs (Loop v x k l) r n (looped u (as_count (day_of xs x)) a b) (three (as_count (day_of xs x)) _ _ _ _ _ _ hu ha hb);
  cuts = λ x k r n a ha _. node xs (Cut x k) r n (over a) (ap over ha);
}

sizes_find : (xs : List ℕ) (k : PayoffCode) → Finds (code_is_small xs) (sites_of_code Once (day_of xs) k [] 0) (λ (a : CodeSize). IsCodeSize xs k a) (sizes_tried xs k 0)
sizes_find xs k =
    code_finds (sizing xs) Once (day_of xs) (code_is_small xs) (λ _. tt) (λ v r u. IsValueSize v u) (λ c r a. IsCodeSize xs c a) (λ _ _ _. Unit {0}) (λ _ _ _. Unit {0}) (size_follows xs) k [] 0 (each_any k [] 0)

pub sizes_meet : (d : Declarations) (xs : List ℕ) (k : PayoffCode) (a : CodeSize) → sizes_tried xs k 0 ≡ Ok a → MeetsInCode d xs SizeRule k
sizes_meet d xs k a e =
    let h = meets (code_is_small xs) (sites_of_code Once (day_of xs) k [] 0) (λ (b : CodeSize). IsCodeSize xs k b) (sizes_tried xs k 0) a (sizes_find xs k) e in
    h.0

pub sizes_fail : (d : Declarations) (xs : List ℕ) (k : PayoffCode) (j : ℕ) → sizes_tried xs k 0 ≡ Err j → FailsInCode d xs SizeRule k j
sizes_fail d xs k j e =
    fails (code_is_small xs) (sites_of_code Once (day_of xs) k [] 0) (λ (b : CodeSize). IsCodeSize xs k b) (sizes_tried xs k 0) j (sizes_find xs k) e
