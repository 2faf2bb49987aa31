use Rattle.std.proofs.Common.{◌≡◌, ℤ, ◌-ℤ◌, ◌*ℤ◌, pos, Option, Some, None, SomeIff, IfSome, ◌∙◌, ap, arith}
use Rattle.std.proofs.lemmas.Int.{ints}
use mir.Syntax.{w128}
use mir.Val.{of_z, to_z}
use Rattle.interval_check.proofs.steady.moved.Goals as goal

some_is : {T : Type 0} (o : Option T) (P : Type 0) (v w : T) → SomeIff o P v → v ≡ w → IfSome o (λ m. m ≡ w)
some_is None P v w h e = tt
some_is (Some x) P v w h e = h.1 ∙ e

product_is : (p a b x y : ℤ) → p ≡ a *ℤ b → a ≡ x → b ≡ y → p ≡ x *ℤ y
product_is p a b x y e f g = e ∙ ap (λ (t : ℤ). t *ℤ b) f ∙ ap (λ (t : ℤ). x *ℤ t) g

-- a number as the machine holds it
abbrev held : ℤ → ℤ
held m = to_z w128 (of_z w128 m)

pub returns : goal.returns
returns c =
    let far : c.in_ok-checked_mul.field-0 ≡ (c.args.next -ℤ c.args.start) *ℤ pos c.args.days =
    product_is c.in_ok-checked_mul.field-0 (held (held c.args.next -ℤ held c.args.start)) (to_z w128 c.args.days) (c.args.next -ℤ c.args.start) (pos c.args.days) c.in_ok-checked_mul.ensures.1 (omega (arith, ints)) (omega (arith, ints)) in
    some_is c.checked_add.result _ _ _ c.checked_add.ensures (omega (arith, ints))
