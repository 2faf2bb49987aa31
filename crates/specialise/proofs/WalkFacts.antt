-- What may be specialised can be walked over.
use Rattle.std.proofs.Common.{◌≡◌, ◌≤◌, ◌+◌, ◌^◌, ℕ, ℤ, pos, ◌+ℤ◌, ◌-ℤ◌, ◌≤ℤ◌, max, unsigned_abs, IsTrue, [], sym, subst₂, arith}
use Rattle.std.proofs.lemmas.Bool.Decides.{nat_tests}
use Rattle.std.proofs.lemmas.Int.{ints}
use Rattle.term_model.specs.Declarations.{Declarations}
use Rattle.term_model.specs.Terms.{Contract}
use Rattle.term_model.specs.Terms.{Expression, Lit, Yes, Var, Obs, Neg, Num, Cmp, Not, Logic, Cond, Widen, Round, Div, Acc}
use Rattle.term_core.specs.declared.shared.SharedContr.{SharedContr}
use Rattle.term_core.specs.declared.shared.SharedContr.TheVariants.{Zero as Zero', Pay as Pay', Both', Scale', After', Let', Within'}
use Rattle.term_core.specs.SharedTerms.{shared, StoresOffsets, HasOffsets}
use Rattle.term_model.specs.Sizes.{past, reach, height_of_contract, nodes_of_contract, past_of_contract, work_of_contract}
use Rattle.term_model.specs.Smallness.{is_small, within_limits, days_of_contract}
use Rattle.term_model.specs.Acceptance.{IsAccepted}
use Rattle.term_model.specs.Limits.{last_start, most_days}
use Rattle.term_model.proofs.TimeFacts.{whole_passes}
use Rattle.specialise.specs.Specialisable.{IsPartOfAccepted, MaySpecialise, MaySpecialiseIn, CanTell, CanTellLater, CanTellIn}
use Rattle.specialise.proofs.PartFacts.{parts_may_be_specialised, parts_inside, whole_inside, stored_may_be_specialised, standing_may_be_specialised}
use Rattle.specialise.proofs.SpecialSizes.{nothing_told}
use Rattle.specialise.proofs.StoredFacts.{is_near}

left_days : (f : ℤ) (a b : ℕ) → unsigned_abs f + max a b ≤ 10 ^ 12 → unsigned_abs f + a ≤ 10 ^ 12
left_days f a b h = omega arith

right_days : (f : ℤ) (a b : ℕ) → unsigned_abs f + max a b ≤ 10 ^ 12 → unsigned_abs f + b ≤ 10 ^ 12
right_days f a b h = omega arith

start_days : (f : ℤ) (a b n : ℕ) → unsigned_abs f + max (a + n) b ≤ 10 ^ 12 → unsigned_abs (f -ℤ pos n) + a ≤ 10 ^ 12
start_days f a b n h = omega (arith, ints)

this_day : (f : ℤ) (a : ℕ) → unsigned_abs f + a ≤ 10 ^ 12 → unsigned_abs f ≤ 10 ^ 12
this_day f a h = omega arith

pub can_tell : (d : Declarations) (e : Expression) (f : ℤ) → MaySpecialise d e → unsigned_abs f + past e ≤ 10 ^ 12 → CanTell d e f
can_tell d (Lit m s) f h k = tt
can_tell d (Yes b) f h k = tt
can_tell d (Var back) f h k = tt
can_tell d (Obs l t) f h k = this_day f _ k
can_tell d (Neg e) f h k = can_tell d e f (parts_may_be_specialised d (Neg e) h) k
can_tell d (Num op a b) f h k =
    let p = parts_may_be_specialised d (Num op a b) h in
    (can_tell d a f p.0 (left_days f (past a) (past b) k), can_tell d b f p.1 (right_days f (past a) (past b) k))
can_tell d (Cmp op a b) f h k =
    let p = parts_may_be_specialised d (Cmp op a b) h in
    (can_tell d a f p.0 (left_days f (past a) (past b) k), can_tell d b f p.1 (right_days f (past a) (past b) k))
can_tell d (Not e) f h k = can_tell d e f (parts_may_be_specialised d (Not e) h) k
can_tell d (Logic op a b) f h k =
    let p = parts_may_be_specialised d (Logic op a b) h in
    (can_tell d a f p.0 (left_days f (past a) (past b) k), can_tell d b f p.1 (right_days f (past a) (past b) k))
can_tell d (Cond t a b) f h k =
    let p = parts_may_be_specialised d (Cond t a b) h in
    let rest = right_days f (past t) (max (past a) (past b)) k in
    (can_tell d t f p.0 (left_days f (past t) (max (past a) (past b)) k), can_tell d a f p.1 (left_days f (past a) (past b) rest), can_tell d b f p.2 (right_days f (past a) (past b) rest))
can_tell d (Widen s e) f h k = can_tell d e f (parts_may_be_specialised d (Widen s e) h) k
can_tell d (Round mode s e) f h k = can_tell d e f (parts_may_be_specialised d (Round mode s e) h) k
can_tell d (Div mode s a b) f h k =
    let p = parts_may_be_specialised d (Div mode s a b) h in
    (can_tell d a f p.0 (left_days f (past a) (past b) k), can_tell d b f p.1 (right_days f (past a) (past b) k))
can_tell d (Acc body n first) f h k =
    (h, this_day f _ k, can_tell d first (f -ℤ pos n) (parts_may_be_specialised d (Acc body n first) h) (start_days f (past first) _ n k))

near_days : (f : ℤ) (a : ℕ) → unsigned_abs f ≤ 10 ^ 11 → a ≤ 2_000_000 → unsigned_abs f + a ≤ 10 ^ 12
near_days f a h k = omega arith

-- on a day that is near
pub can_tell_near : (d : Declarations) (e : Expression) (f : ℤ) → IsPartOfAccepted d e → HasOffsets e → unsigned_abs f ≤ 10 ^ 11 → CanTell d e f
can_tell_near d e f p o k =
    let h = standing_may_be_specialised d e p o in
    can_tell d e f h (near_days f (past e) k (is_near d e h))

later_days : (f g : ℤ) (a : ℕ) → unsigned_abs f ≤ 10 ^ 11 → unsigned_abs g ≤ unsigned_abs f + 2 ^ 32 → a ≤ 2_000_000
    → unsigned_abs g + a ≤ 10 ^ 12
later_days f g a near h j = omega (arith, near, h, j)

-- where it is read some days later
pub can_tell_later : (d : Declarations) (e x : Expression) (k f g h : ℤ) → CanTellLater d e k f → x ≡ e → g ≡ f +ℤ k → h ≡ g
    → unsigned_abs g ≤ unsigned_abs f + 2 ^ 32 → CanTell d x h
can_tell_later d e x k f g h c i j l n =
    let may = stored_may_be_specialised d k e c.part c.offsets in
    subst₂ (λ (y : Expression) (z : ℤ). CanTell d y z) (sym i) (sym l) (can_tell d e g may (later_days f g (past e) c.day n (is_near d e may)))

one_reach : (f : ℤ) (a b : ℕ) → unsigned_abs f + max a b ≤ 10 ^ 11 → unsigned_abs f + a ≤ 10 ^ 11
one_reach f a b h = omega arith

other_reach : (f : ℤ) (a b : ℕ) → unsigned_abs f + max a b ≤ 10 ^ 11 → unsigned_abs f + b ≤ 10 ^ 11
other_reach f a b h = omega arith

own_day : (f : ℤ) (a : ℕ) → unsigned_abs f + a ≤ 10 ^ 11 → unsigned_abs f ≤ 10 ^ 11
own_day f a h = omega arith

after_reach : (f : ℤ) (n a : ℕ) → unsigned_abs f + (n + a) ≤ 10 ^ 11 → unsigned_abs (f +ℤ pos n) + a ≤ 10 ^ 11
after_reach f n a h = omega (arith, ints)

within_reach : (f : ℤ) (n a b : ℕ) → unsigned_abs f + (n + max a b) ≤ 10 ^ 11 → unsigned_abs (f +ℤ pos n) + b ≤ 10 ^ 11
within_reach f n a b h = omega (arith, ints)

pub can_tell_in : (d : Declarations) (s : SharedContr) (f : ℤ) → MaySpecialiseIn d (shared s) → StoresOffsets s → unsigned_abs f + reach (shared s) ≤ 10 ^ 11 → CanTellIn d s f
can_tell_in d Zero' f h o k = tt
can_tell_in d (Pay' x p q) f h o k = tt
can_tell_in d (Both' p a q b) f h o k =
    let i = parts_inside d (shared (Both' p a q b)) h in
    (can_tell_in d a f i.0 o.0 (one_reach f (reach (shared a)) (reach (shared b)) k), can_tell_in d b f i.1 o.1 (other_reach f (reach (shared a)) (reach (shared b)) k))
can_tell_in d (Scale' e m q c) f h o k =
    let i = parts_inside d (shared (Scale' e m q c)) h in
    (record { part = i.0; offsets = o.0; day = own_day f _ k }, can_tell_in d c f i.1 o.1 k)
can_tell_in d (After' n p c) f h o k =
    (own_day f _ k, can_tell_in d c (f +ℤ pos n) (parts_inside d (shared (After' n p c)) h) o (after_reach f n (reach (shared c)) k))
can_tell_in d (Let' e m q c) f h o k =
    let i = parts_inside d (shared (Let' e m q c)) h in
    (record { part = i.0; offsets = o.0; day = own_day f _ k }, can_tell_in d c f i.1 o.1 k)
can_tell_in d (Within' e n q a r b) f h o k =
    let i = parts_inside d (shared (Within' e n q a r b)) h in
    (own_day f _ k, can_tell_in d b (f +ℤ pos n) i.2 o.2 (within_reach f n (reach (shared a)) (reach (shared b)) k))

far_within : (h n days far back steps : ℕ) → IsTrue (within_limits h n days far back steps) → far ≤ most_days
far_within h n days far back steps p = grind (arith, nat_tests)

reach_limited : (d : Declarations) (c : Contract) → IsAccepted d c → reach c ≤ most_days
reach_limited d c h =
    far_within (height_of_contract c) (nodes_of_contract c) (days_of_contract c) (reach c) (past_of_contract c) (work_of_contract c) (whole_passes (λ s. IsTrue (is_small s)) c [] 0 h.sizes)

whole_days : (f : ℤ) (a : ℕ) → pos 0 ≤ℤ f → f ≤ℤ pos (last_start + most_days) → a ≤ most_days → unsigned_abs f + a ≤ 10 ^ 11
whole_days f a l h k = omega (arith, ints)

-- an accepted contract on a day of a residual
pub accepted_can_tell : (d : Declarations) (s : SharedContr) (f : ℤ) → IsAccepted d (shared s) → StoresOffsets s → pos 0 ≤ℤ f
    → f ≤ℤ pos (last_start + most_days) → CanTellIn d s f
accepted_can_tell d s f a o l h =
    can_tell_in d s f (whole_inside d (shared s) a) o (whole_days f (reach (shared s)) l h (reach_limited d (shared s) a))

-- what is asked on a frame that is known, and follows on one that is not
pub ruleset for_frames = (can_tell_near, nothing_told)
