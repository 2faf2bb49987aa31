-- The order of slots.
use Rattle.std.proofs.Common.{◌≡◌, ℕ, ◌<◌, ℤ, ◌<ℤ◌, false, ◌&&◌, ◌==◌, ◌⊎◌, inl, inr, Ordering, refl, ap, sym, ◌∙◌, subst, arith}
use Rattle.std.specs.Bool.{Decides}
use Rattle.std.specs.Cmp.{IsTotalOrder}
use Rattle.std.specs.Ordering.{MatchOrdering, int_cmp, nat_cmp, int_eq, is_lt, ordering_then}
use Rattle.std.specs.declared.cmp.Ordering.TheVariants.{Less, Equal, Greater}
use Rattle.std.proofs.lemmas.Int.{ints}
use Rattle.std.proofs.lemmas.Cmp.{ranked, int_ranked, then_total, on_total, nat_cmp_total, int_cmp_total}
use Rattle.std.proofs.lemmas.Bool.Decides.{Decides-and, Decides-eqb, Decides-int_eq, Decides-like}
use Rattle.flow_eval.specs.declared.flow_table.Slot.{Slot}
use Rattle.flow_eval.specs.Netting.{same_slot}
use Rattle.flow_eval.specs.Tables.{Precedes}

-- a slot, or one before it
abbrev pub IsUpTo : Slot → Slot → Type 0
IsUpTo a b = (a ≡ b) ⊎ Precedes a b

pub same_from_parts : (a b : Slot) → a.day ≡ b.day → a.asset ≡ b.asset → a.lower ≡ b.lower → a.higher ≡ b.higher → a ≡ b
same_from_parts a b d e f g =
    ap (λ (x : ℤ). let s : Slot = record { day = x; asset = a.asset; lower = a.lower; higher = a.higher } in s) d ∙ ap (λ (x : ℕ). let s : Slot = record { day = b.day; asset = x; lower = a.lower; higher = a.higher } in s) e ∙ ap (λ (x : ℕ). let s : Slot = record { day = b.day; asset = b.asset; lower = x; higher = a.higher } in s) f ∙ ap (λ (x : ℕ). let s : Slot = record { day = b.day; asset = b.asset; lower = b.lower; higher = x } in s) g

pub same_slot_decides : (a b : Slot) → Decides (same_slot a b) (a ≡ b)
same_slot_decides a b =
    Decides-like (same_slot a b) (λ (h : (a.day ≡ b.day) × ((a.asset ≡ b.asset) × ((a.lower ≡ b.lower) × (a.higher ≡ b.higher)))). same_from_parts a b h.0 h.1.0 h.1.1.0 h.1.1.1)
    (λ (e : a ≡ b). (ap (λ (s : Slot). s.day) e, (ap (λ (s : Slot). s.asset) e, (ap (λ (s : Slot). s.lower) e, ap (λ (s : Slot). s.higher) e))))
    (Decides-and (int_eq a.day b.day) (a.asset == b.asset && (a.lower == b.lower && a.higher == b.higher)) (Decides-int_eq a.day b.day)
    (Decides-and (a.asset == b.asset) (a.lower == b.lower && a.higher == b.higher) (Decides-eqb a.asset b.asset)
    (Decides-and (a.lower == b.lower) (a.higher == b.higher) (Decides-eqb a.lower b.lower) (Decides-eqb a.higher b.higher))))

pub precedes_trans : (a b c : Slot) → Precedes a b → Precedes b c → Precedes a c
precedes_trans a b c h k = grind (arith, ints)

pub not_itself : (a : Slot) → Precedes a a → ⊥
not_itself a h = grind (arith, ints)

pub not_both : (a b : Slot) → Precedes a b → Precedes b a → ⊥
not_both a b h k = not_itself a (precedes_trans a b a h k)

pub then_upto : (a b c : Slot) → Precedes a b → IsUpTo b c → Precedes a c
then_upto a b c h (inl e) = subst (λ (s : Slot). Precedes a s) e h
then_upto a b c h (inr k) = precedes_trans a b c h k

-- one comparison and then another
then_tells : (o r : Ordering) (P E F Q P' E' Q' : Type 0) → (E → F) → MatchOrdering o P E Q → MatchOrdering r P' E' Q' → MatchOrdering (ordering_then o r) (P ⊎ (E × P')) (E × E') (Q ⊎ (F × Q'))
then_tells Less r P E F Q P' E' Q' back h k = inl h
then_tells Equal Less P E F Q P' E' Q' back h k = inr (h, k)
then_tells Equal Equal P E F Q P' E' Q' back h k = (h, k)
then_tells Equal Greater P E F Q P' E' Q' back h k = inr (back h, k)
then_tells Greater r P E F Q P' E' Q' back h k = inl h

abbrev pub slot_cmp : Slot → Slot → Ordering
slot_cmp a b = ordering_then (int_cmp a.day b.day) (ordering_then (nat_cmp a.asset b.asset) (ordering_then (nat_cmp a.lower b.lower) (nat_cmp a.higher b.higher)))

-- what a comparison of slots says
slots_ranked : (a b : Slot)
    → MatchOrdering (slot_cmp a b) (Precedes a b) ((a.day ≡ b.day) × ((a.asset ≡ b.asset) × ((a.lower ≡ b.lower) × (a.higher ≡ b.higher)))) (Precedes b a)
slots_ranked a b =
    then_tells (int_cmp a.day b.day) (ordering_then (nat_cmp a.asset b.asset) (ordering_then (nat_cmp a.lower b.lower) (nat_cmp a.higher b.higher))) (a.day <ℤ b.day) (a.day ≡ b.day) (b.day ≡ a.day) (b.day <ℤ a.day) _ _ _ (λ e. sym e) (int_ranked a.day b.day _ refl)
    (then_tells (nat_cmp a.asset b.asset) (ordering_then (nat_cmp a.lower b.lower) (nat_cmp a.higher b.higher)) (a.asset < b.asset) (a.asset ≡ b.asset) (b.asset ≡ a.asset) (b.asset < a.asset) _ _ _ (λ e. sym e) (ranked a.asset b.asset _ refl)
    (then_tells (nat_cmp a.lower b.lower) (nat_cmp a.higher b.higher) (a.lower < b.lower) (a.lower ≡ b.lower) (b.lower ≡ a.lower) (b.lower < a.lower) (a.higher < b.higher) (a.higher ≡ b.higher) (b.higher < a.higher) (λ e. sym e) (ranked a.lower b.lower _ refl) (ranked a.higher b.higher _ refl)))

upto_ranked : (o : Ordering) (a b : Slot) → MatchOrdering o (Precedes b a) ((b.day ≡ a.day) × ((b.asset ≡ a.asset) × ((b.lower ≡ a.lower) × (b.higher ≡ a.higher)))) (Precedes a b) → is_lt o ≡ false → IsUpTo a b
upto_ranked Less a b h k = absurd (cc)
upto_ranked Equal a b h k = inl (sym (same_from_parts b a h.0 h.1.0 h.1.1.0 h.1.1.1))
upto_ranked Greater a b h k = inr h

-- what does not compare as less comes no sooner
pub upto_from_cmp : (a b : Slot) → is_lt (slot_cmp b a) ≡ false → IsUpTo a b
upto_from_cmp a b h = upto_ranked (slot_cmp b a) a b (slots_ranked b a) h

pub slot_cmp_total : IsTotalOrder slot_cmp
slot_cmp_total = then_total (on_total (λ (s : Slot). s.day) int_cmp_total) (then_total (on_total (λ (s : Slot). s.asset) nat_cmp_total) (then_total (on_total (λ (s : Slot). s.lower) nat_cmp_total) (on_total (λ (s : Slot). s.higher) nat_cmp_total)))
