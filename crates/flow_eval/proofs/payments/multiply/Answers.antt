use Rattle.std.proofs.Common.{◌≡◌, ℕ, ◌+◌, ◌-◌, ◌<◌, ◌≤◌, ◌^◌, ℤ, ◌*ℤ◌, to_z, of_z, List, ◌++◌, take, drop, map, set, get_or, length, ap, sym, ◌∙◌, subst, arith, unsigned_abs, length-take}
use Rattle.std.specs.Int.{w128}
use Rattle.std.specs.List.{All}
use Rattle.std.proofs.lemmas.Int.{to_z-of_z}
use Rattle.std.proofs.lemmas.List.{get_or-append_right, get_or-drop, get_or_default, append-nil, length-map, take_all, drop_all}
use Rattle.std.proofs.lemmas.List.Edits.{map_over_more}
use Rattle.flow_eval.specs.declared.payments.Payment.{Payment}
use Rattle.flow_eval.specs.Payments.{multiplied, times}
use Rattle.flow_eval.proofs.payments.multiply.Goals as goal

-- the payment that is next is as it was
next_is : (v : ℤ) (xs ys : List Payment) (i : ℕ) (d : Payment) → i < length xs → ys ≡ map (times v) (take i xs) ++ drop i xs → get_or ys i d ≡ get_or xs i d
next_is v xs ys i d h e =
    let taken : length (map (times v) (take i xs)) ≡ i = length-map (take i xs) (times v) ∙ length-take-below xs i h in
    let none : i - i ≡ 0 = omega arith in
    ap (λ (zs : List Payment). get_or zs i d) e ∙ get_or-append_right (map (times v) (take i xs)) (drop i xs) i i d taken (omega arith) ∙ ap (λ (n : ℕ). get_or (drop i xs) n d) none ∙ at_front xs i d
  where
    length-take-below : (xs : List Payment) (i : ℕ) → i < length xs → length (take i xs) ≡ i
    length-take-below xs i h = let e = length-take i xs in omega arith

    at_front : (xs : List Payment) (i : ℕ) (d : Payment) → get_or (drop i xs) 0 d ≡ get_or xs i d
    at_front xs i d = get_or-drop i xs 0 d ∙ ap (λ (n : ℕ). get_or xs n d) (omega arith)

next_small : (v w : ℤ) (xs ys : List Payment) (i : ℕ) (d : Payment) → w ≡ v → i < length xs → ys ≡ map (times w) (take i xs) ++ drop i xs → All (λ (p : Payment). unsigned_abs (p.amount *ℤ v) ≤ 10 ^ 30) xs
    → unsigned_abs ((get_or ys i d).amount *ℤ w) ≤ 10 ^ 30
next_small v w xs ys i d same h e small =
    subst (λ (z : ℤ). unsigned_abs ((get_or ys i d).amount *ℤ z) ≤ 10 ^ 30) (sym same) (subst (λ (p : Payment). unsigned_abs (p.amount *ℤ v) ≤ 10 ^ 30) (sym (next_is w xs ys i d h e)) (small i d h))

kept : (v : ℤ) (xs ys : List Payment) (i : ℕ) (d r : Payment) → i < length xs → length ys ≡ length xs → ys ≡ map (times v) (take i xs) ++ drop i xs → r ≡ times v (get_or ys i d)
    → set ys i r ≡ map (times v) (take (i + 1) xs) ++ drop (i + 1) xs
kept v xs ys i d r h len e is =
    ap (λ (p : Payment). set ys i p) is ∙ map_over_more (times v) xs ys i (get_or ys i d) h e (get_or_default ys i d (get_or ys i d) (omega arith))

whole : (v w : ℤ) (xs ys : List Payment) (i : ℕ) → w ≡ v → length xs ≤ i → ys ≡ map (times w) (take i xs) ++ drop i xs → ys ≡ multiplied v xs
whole v w xs ys i same h e =
    e ∙ ap (λ (zs : List Payment). map (times w) zs ++ drop i xs) (take_all i xs h) ∙ ap (λ (zs : List Payment). map (times w) xs ++ zs) (drop_all i xs h) ∙ append-nil (map (times w) xs) ∙ ap (λ (z : ℤ). multiplied z xs) same

pub times-requires : goal.times-requires
times-requires c =
    next_small c.args.factor (to_z w128 (of_z w128 c.args.factor)) c.args.payments.now c.loop-payment.payments c.loop-payment.payment-index _ (to_z-of_z w128 c.args.factor c.ranges.factor) c.loop-payment-test.true c.loop-payment.invariant c.requires

pub loop-payment-preserved : goal.loop-payment-preserved
loop-payment-preserved c =
    kept (to_z w128 (of_z w128 c.args.factor)) c.args.payments.now c.loop-payment.payments c.loop-payment.payment-index _ c.times.result c.loop-payment-test.true c.loop-payment.auto.payments c.loop-payment.invariant c.times.ensures

pub returns : goal.returns
returns c =
    whole c.args.factor (to_z w128 (of_z w128 c.args.factor)) c.args.payments.now c.loop-payment.payments c.loop-payment.payment-index (to_z-of_z w128 c.args.factor c.ranges.factor) c.loop-payment-test.false c.loop-payment.invariant
