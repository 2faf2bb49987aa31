-- Verdicts on code: accepted or refused, never both, and at most one refusal.
use Rattle.std.proofs.Common.{◌≡◌, ◌⊎◌, ℕ, ℤ, pos, Bool, List, [], ◌∷◌, Option, Some, None, Ok, Err, IsTrue, refl, sym, ap, ap₂, ◌∙◌, inl, inr}
use Rattle.term_model.specs.Declarations.{Declarations}
use Rattle.term_model.specs.declared.rules.Rule.{Rule}
use Rattle.term_model.specs.declared.rules.Rule.TheVariants.{Sort, Time, Scale, Size, Bound}
use Rattle.term_model.specs.declared.rules.CheckErr.TheVariants.{Refused, NoMemory}
use Rattle.term_model.specs.Sites.{Once, EachDay}
use Rattle.payoff_terms.specs.TemplateDates.{day_of}
use Rattle.payoff_terms.specs.Code.{PayoffCode}
use Rattle.payoff_terms.specs.CodeSites.{CodeSite, sites_of_code, AllPassInCode, FirstFaultInCode}
use Rattle.payoff_terms.specs.CodeAcceptance.{code_is_sorted, code_is_scaled, code_is_small, code_is_bounded, MeetsInCode, FailsInCode, IsAcceptedCode}
use Rattle.payoff_check.specs.declared.checks.CodeFacts.{CodeFacts}
use Rattle.payoff_check.specs.CodeChecks.{AreCodeFacts}
use Rattle.payoff_check.specs.CodeLaws.{HasRefusal, CodeIsAcceptedOrRefused, AcceptedCodeIsNotRefused, CodeRefusalsAreUnique, CodeAnswersAreUnique}
use Rattle.payoff_check.proofs.Finding.{first_failing, first_failing-is, FaultIs}

unique : (P : CodeSite → Type 0) (xs : List CodeSite) (j k : ℕ) → FirstFaultInCode P xs j → FirstFaultInCode P xs k → j ≡ k
unique P [] j k h i = absurd h
unique P (s ∷ xs) j k (inl h) (inl i) = sym h.1 ∙ i.1
unique P (s ∷ xs) j k (inl h) (inr i) = absurd (h.0 i.0)
unique P (s ∷ xs) j k (inr h) (inl i) = absurd (i.0 h.0)
unique P (s ∷ xs) j k (inr h) (inr i) = unique P xs j k h.1 i.1

apart : (P : CodeSite → Type 0) (xs : List CodeSite) (k : ℕ) → AllPassInCode P xs → FirstFaultInCode P xs k → ⊥
apart P [] k h f = f
apart P (s ∷ xs) k h (inl f) = f.0 h.0
apart P (s ∷ xs) k h (inr f) = apart P xs k h.1 f.1

-- one rule

rule_apart : (d : Declarations) (xs : List ℕ) (rule : Rule) (k : PayoffCode) (n : ℕ) → MeetsInCode d xs rule k → FailsInCode d xs rule k n → ⊥
rule_apart d xs Sort k n h f = apart (λ s. IsTrue (code_is_sorted d s)) (sites_of_code Once (λ _. pos 0) k [] 0) n h f
rule_apart d xs Time k n h f = f
rule_apart d xs Scale k n h f = apart (λ s. IsTrue (code_is_scaled d s)) (sites_of_code Once (λ _. pos 0) k [] 0) n h f
rule_apart d xs Size k n h f = apart (λ s. IsTrue (code_is_small xs s)) (sites_of_code Once (day_of xs) k [] 0) n h f
rule_apart d xs Bound k n h f = apart (λ s. IsTrue (code_is_bounded d s)) (sites_of_code EachDay (λ _. pos 0) k [] 0) n h f

rule_unique : (d : Declarations) (xs : List ℕ) (rule : Rule) (k : PayoffCode) (m n : ℕ) → FailsInCode d xs rule k m → FailsInCode d xs rule k n → m ≡ n
rule_unique d xs Sort k m n h f = unique (λ s. IsTrue (code_is_sorted d s)) (sites_of_code Once (λ _. pos 0) k [] 0) m n h f
rule_unique d xs Time k m n h f = absurd h
rule_unique d xs Scale k m n h f = unique (λ s. IsTrue (code_is_scaled d s)) (sites_of_code Once (λ _. pos 0) k [] 0) m n h f
rule_unique d xs Size k m n h f = unique (λ s. IsTrue (code_is_small xs s)) (sites_of_code Once (day_of xs) k [] 0) m n h f
rule_unique d xs Bound k m n h f = unique (λ s. IsTrue (code_is_bounded d s)) (sites_of_code EachDay (λ _. pos 0) k [] 0) m n h f

pub record Fails (d : Declarations) (xs : List ℕ) (rule : Rule) (k : PayoffCode) : Type 0 where
  pub node : ℕ
  pub fault : FailsInCode d xs rule k node

decide : (p : CodeSite → Bool) (xs : List CodeSite) (A B : Type 0) (o : Option ℕ) → FaultIs p xs o → (AllPassInCode (λ s. IsTrue (p s)) xs → A) → ((n : ℕ) → FirstFaultInCode (λ s. IsTrue (p s)) xs n → B) → A ⊎ B
decide p xs A B None h f g = inl (f h)
decide p xs A B (Some n) h f g = inr (g n h)

rule_decided : (d : Declarations) (xs : List ℕ) (rule : Rule) (k : PayoffCode) → MeetsInCode d xs rule k ⊎ Fails d xs rule k
rule_decided d xs Sort k =
    let ys = sites_of_code Once (λ _. pos 0) k [] 0 in
    decide (code_is_sorted d) ys (MeetsInCode d xs Sort k) (Fails d xs Sort k) (first_failing (code_is_sorted d) ys) (first_failing-is (code_is_sorted d) ys) (λ h. h) (λ n f. record { node = n; fault = f })
rule_decided d xs Time k = inl tt
rule_decided d xs Scale k =
    let ys = sites_of_code Once (λ _. pos 0) k [] 0 in
    decide (code_is_scaled d) ys (MeetsInCode d xs Scale k) (Fails d xs Scale k) (first_failing (code_is_scaled d) ys) (first_failing-is (code_is_scaled d) ys) (λ h. h) (λ n f. record { node = n; fault = f })
rule_decided d xs Size k =
    let ys = sites_of_code Once (day_of xs) k [] 0 in
    decide (code_is_small xs) ys (MeetsInCode d xs Size k) (Fails d xs Size k) (first_failing (code_is_small xs) ys) (first_failing-is (code_is_small xs) ys) (λ h. h) (λ n f. record { node = n; fault = f })
rule_decided d xs Bound k =
    let ys = sites_of_code EachDay (λ _. pos 0) k [] 0 in
    decide (code_is_bounded d) ys (MeetsInCode d xs Bound k) (Fails d xs Bound k) (first_failing (code_is_bounded d) ys) (first_failing-is (code_is_bounded d) ys) (λ h. h) (λ n f. record { node = n; fault = f })

-- all rules

settled : (d : Declarations) (xs : List ℕ) (k : PayoffCode) → MeetsInCode d xs Sort k ⊎ Fails d xs Sort k → MeetsInCode d xs Scale k ⊎ Fails d xs Scale k → MeetsInCode d xs Size k ⊎ Fails d xs Size k → MeetsInCode d xs Bound k ⊎ Fails d xs Bound k → IsAcceptedCode d xs k ⊎ HasRefusal d xs k
settled d xs k (inr f) b c e = inr (record { rule = Sort; node = f.node; refused = f.fault })
settled d xs k (inl h) (inr f) c e = inr (record { rule = Scale; node = f.node; refused = (h, f.fault) })
settled d xs k (inl h) (inl i) (inr f) e = inr (record { rule = Size; node = f.node; refused = (h, i, f.fault) })
settled d xs k (inl h) (inl i) (inl j) (inr f) = inr (record { rule = Bound; node = f.node; refused = (h, i, j, f.fault) })
settled d xs k (inl h) (inl i) (inl j) (inl l) = inl (record { sorts = h; scales = i; sizes = j; bounds = l })

pub accepted_or_refused : CodeIsAcceptedOrRefused
accepted_or_refused d xs k =
    settled d xs k (rule_decided d xs Sort k) (rule_decided d xs Scale k) (rule_decided d xs Size k) (rule_decided d xs Bound k)

pub accepted_not_refused : AcceptedCodeIsNotRefused
accepted_not_refused d xs k Sort n a f = rule_apart d xs Sort k n a.sorts f
accepted_not_refused d xs k Time n a f = f
accepted_not_refused d xs k Scale n a f = rule_apart d xs Scale k n a.scales f.1
accepted_not_refused d xs k Size n a f = rule_apart d xs Size k n a.sizes f.2
accepted_not_refused d xs k Bound n a f = rule_apart d xs Bound k n a.bounds f.3

pub refusals_unique : CodeRefusalsAreUnique
refusals_unique d xs k Time other m n h i = absurd h
refusals_unique d xs k Sort Time m n h i = absurd i
refusals_unique d xs k Sort Sort m n h i = (refl, rule_unique d xs Sort k m n h i)
refusals_unique d xs k Sort Scale m n h i = absurd (rule_apart d xs Sort k m i.0 h)
refusals_unique d xs k Sort Size m n h i = absurd (rule_apart d xs Sort k m i.0 h)
refusals_unique d xs k Sort Bound m n h i = absurd (rule_apart d xs Sort k m i.0 h)
refusals_unique d xs k Scale Time m n h i = absurd i
refusals_unique d xs k Scale Sort m n h i = absurd (rule_apart d xs Sort k n h.0 i)
refusals_unique d xs k Scale Scale m n h i = (refl, rule_unique d xs Scale k m n h.1 i.1)
refusals_unique d xs k Scale Size m n h i = absurd (rule_apart d xs Scale k m i.1 h.1)
refusals_unique d xs k Scale Bound m n h i = absurd (rule_apart d xs Scale k m i.1 h.1)
refusals_unique d xs k Size Time m n h i = absurd i
refusals_unique d xs k Size Sort m n h i = absurd (rule_apart d xs Sort k n h.0 i)
refusals_unique d xs k Size Scale m n h i = absurd (rule_apart d xs Scale k n h.1 i.1)
refusals_unique d xs k Size Size m n h i = (refl, rule_unique d xs Size k m n h.2 i.2)
refusals_unique d xs k Size Bound m n h i = absurd (rule_apart d xs Size k m i.2 h.2)
refusals_unique d xs k Bound Time m n h i = absurd i
refusals_unique d xs k Bound Sort m n h i = absurd (rule_apart d xs Sort k n h.0 i)
refusals_unique d xs k Bound Scale m n h i = absurd (rule_apart d xs Scale k n h.1 i.1)
refusals_unique d xs k Bound Size m n h i = absurd (rule_apart d xs Size k n h.2 i.2)
refusals_unique d xs k Bound Bound m n h i = (refl, rule_unique d xs Bound k m n h.3 i.3)

same_facts : (d : Declarations) (k : PayoffCode) (a b : CodeFacts) → AreCodeFacts d k a → AreCodeFacts d k b → a ≡ b
same_facts d k a b h i =
    let facts : ℕ → ℤ → CodeFacts = λ x y. record { scale = x; total = y } in
    ap₂ facts (h.right_scale ∙ sym i.right_scale) (h.right_total ∙ sym i.right_total)

pub answers_unique : CodeAnswersAreUnique
answers_unique d xs k (Err NoMemory) b h i = inr (inl refl)
answers_unique d xs k (Ok a) (Err NoMemory) h i = inr (inr refl)
answers_unique d xs k (Err (Refused r m)) (Err NoMemory) h i = inr (inr refl)
answers_unique d xs k (Ok a) (Ok b) h i = inl (ap (λ (x : CodeFacts). Ok x) (same_facts d k a b h.1 i.1))
answers_unique d xs k (Ok a) (Err (Refused s n)) h i = absurd (accepted_not_refused d xs k s n h.0 i)
answers_unique d xs k (Err (Refused r m)) (Ok b) h i = absurd (accepted_not_refused d xs k r m i.0 h)
answers_unique d xs k (Err (Refused r m)) (Err (Refused s n)) h i =
    let both = refusals_unique d xs k r s m n h i in
    inl (ap₂ (λ (x : Rule) (y : ℕ). Err (Refused x y)) both.0 both.1)
