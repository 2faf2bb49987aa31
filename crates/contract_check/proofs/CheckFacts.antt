-- A contract has one answer.
use Rattle.std.proofs.Common.{ℕ, ℤ, pos, ◌+ℤ◌, ◌≤ℤ◌, unsigned_abs, ◌≡◌, inl, inr, Option, Some, None, Ok, Err, refl, sym, ap, ap₂, ◌∙◌, arith}
use Rattle.std.proofs.lemmas.Int.{ints}
use Rattle.term_model.specs.declared.rules.Rule.{Rule}
use Rattle.term_model.specs.declared.rules.CheckErr.TheVariants.{Refused, NoMemory}
use Rattle.term_model.specs.Terms.{Contract}
use Rattle.term_model.specs.Times.{IsStart}
use Rattle.term_model.specs.Acceptance.{Facts}
use Rattle.term_model.proofs.RefusalFacts.{refusals_unique, accepted_not_refused}
use Rattle.time_types.specs.declared.starts.Start.{Start}
use Rattle.time_types.specs.declared.starts.Start.TheVariants.{Day, Always}
use Rattle.time_types.specs.Starts.{start_day}
use Rattle.contract_check.specs.declared.checks.Facts.{Facts as Answer}
use Rattle.contract_check.specs.Checks.{told}
use Rattle.contract_check.specs.CheckLaws.{FactsAreUnique, AnswersAreUnique}

start_unique : (c : Contract) (a b : Option ℤ) → IsStart c a → IsStart c b → a ≡ b
start_unique c None None h k = refl
start_unique c None (Some t) h k =
    let below : (t +ℤ pos 1) ≤ℤ t = k.1 (t +ℤ pos 1) (h (t +ℤ pos 1)) in
    absurd (omega (arith, ints))
start_unique c (Some t) None h k =
    let below : (t +ℤ pos 1) ≤ℤ t = h.1 (t +ℤ pos 1) (k (t +ℤ pos 1)) in
    absurd (omega (arith, ints))
start_unique c (Some t) (Some u) h k =
    let below : t ≤ℤ u = k.1 t h.0 in
    let above : u ≤ℤ t = h.1 u k.0 in
    let same : t ≡ u = omega (arith, ints) in
    ap (λ (x : ℤ). Some x) same

pub facts_unique : FactsAreUnique
facts_unique d c a b h k =
    let start : a.start ≡ b.start = start_unique c a.start b.start h.right_start k.right_start in
    let scale : a.scale ≡ b.scale = h.right_scale ∙ sym k.right_scale in
    let total : a.total ≡ b.total = h.right_total ∙ sym k.right_total in
    let horizon : a.horizon ≡ b.horizon = h.right_horizon ∙ sym k.right_horizon in
    let facts : Option ℤ → ℕ → ℕ → ℕ → Facts = λ x y z w. record { start = x; scale = y; total = z; horizon = w } in
    ap₂ (λ (x : Option ℤ) (y : ℕ). facts x y a.total a.horizon) start scale ∙ ap₂ (facts b.start b.scale) total horizon

same_start : (a b : Start) → start_day a ≡ start_day b → a ≡ b
same_start (Day x) (Day y) h =
    let same : x ≡ y = cc in
    ap (λ (z : ℤ). Day z) same
same_start (Day x) Always h = absurd (cc)
same_start Always (Day y) h = absurd (cc)
same_start Always Always h = refl

same_answer : (a b : Answer) → a.total ≡ pos (unsigned_abs a.total) → b.total ≡ pos (unsigned_abs b.total) → told a ≡ told b → a ≡ b
same_answer a b h k same =
    let start : a.start ≡ b.start = same_start a.start b.start (ap (λ (x : Facts). x.start) same) in
    let scale : a.scale ≡ b.scale = ap (λ (x : Facts). x.scale) same in
    let total : a.total ≡ b.total = h ∙ ap (λ (x : Facts). pos x.total) same ∙ sym k in
    let horizon : a.horizon ≡ b.horizon = ap (λ (x : Facts). x.horizon) same in
    let answer : Start → ℕ → ℤ → ℕ → Answer = λ x y z w. record { start = x; scale = y; total = z; horizon = w } in
    ap₂ (λ (x : Start) (y : ℕ). answer x y a.total a.horizon) start scale ∙ ap₂ (answer b.start b.scale) total horizon

pub answers_unique : AnswersAreUnique
answers_unique d c (Err NoMemory) b h k = inr (inl refl)
answers_unique d c (Ok a) (Err NoMemory) h k = inr (inr refl)
answers_unique d c (Err (Refused r i)) (Err NoMemory) h k = inr (inr refl)
answers_unique d c (Ok a) (Ok b) h k =
    inl (ap (λ (x : Answer). Ok x) (same_answer a b h.positive k.positive (facts_unique d c (told a) (told b) h.right k.right)))
answers_unique d c (Ok a) (Err (Refused s j)) h k = absurd (accepted_not_refused d c s j h.accepted k)
answers_unique d c (Err (Refused r i)) (Ok b) h k = absurd (accepted_not_refused d c r i k.accepted h)
answers_unique d c (Err (Refused r i)) (Err (Refused s j)) h k =
    let both = refusals_unique d c r s i j h k in
    inl (ap₂ (λ (x : Rule) (n : ℕ). Err (Refused x n)) both.0 both.1)
