use Rattle.std.proofs.Common.{rules, arith, ◌≡◌, ◌-◌, ℕ, ℤ, max, refl, ap₂, sym, subst, ◌∙◌, FitsSigned, to_z, of_z}
use Rattle.std.specs.Int.{w128}
use Rattle.std.proofs.lemmas.Int.{to_z-of_z}
use Rattle.decimal.specs.Rounding.{raised}
use Rattle.term_model.specs.declared.terms.NumOp.{NumOp}
use Rattle.term_model.specs.declared.terms.NumOp.TheVariants.{Plus, Minus, Times, Min, Max}
use Rattle.term_model.specs.Values.{num_op, of_num}
use Rattle.interval_check.specs.Safety.{AlignSafely, IsSmall, OperateSafely}
use Rattle.expr_eval.proofs.operations.operate.Goals as goal

-- a product aligns none

products_fit : (op : NumOp) (i : ℕ) (x : ℤ) (j : ℕ) (y : ℤ) → op ≡ Times → OperateSafely op i x j y → IsSmall x × IsSmall y × IsSmall (num_op op x y)
products_fit Times i x j y e h = h
products_fit Plus i x j y e h = absurd (cc)
products_fit Minus i x j y e h = absurd (cc)
products_fit Min i x j y e h = absurd (cc)
products_fit Max i x j y e h = absurd (cc)

product_is : (op : NumOp) (i : ℕ) (x : ℤ) (j : ℕ) (y : ℤ) → op ≡ Times → num_op op x y ≡ of_num op i x j y
product_is Times i x j y e = refl
product_is Plus i x j y e = absurd (cc)
product_is Minus i x j y e = absurd (cc)
product_is Min i x j y e = absurd (cc)
product_is Max i x j y e = absurd (cc)

-- every other operator aligns both

abbrev on_raised : NumOp → ℕ → ℤ → ℕ → ℤ → ℤ
on_raised op i x j y = num_op op (raised x (max i j - i)) (raised y (max i j - j))

others_fit : (op : NumOp) (i : ℕ) (x : ℤ) (j : ℕ) (y : ℤ) → (op ≡ Times → ⊥) → OperateSafely op i x j y → AlignSafely i x j y × IsSmall (on_raised op i x j y)
others_fit Times i x j y other h = absurd (other refl)
others_fit Plus i x j y other h = h
others_fit Minus i x j y other h = h
others_fit Min i x j y other h = h
others_fit Max i x j y other h = h

other_is : (op : NumOp) (i : ℕ) (x : ℤ) (j : ℕ) (y : ℤ) → (op ≡ Times → ⊥) → on_raised op i x j y ≡ of_num op i x j y
other_is Times i x j y other = absurd (other refl)
other_is Plus i x j y other = refl
other_is Minus i x j y other = refl
other_is Min i x j y other = refl
other_is Max i x j y other = refl

raised_small : (i m k : ℕ) (x z : ℤ) → z ≡ x → m ≡ k → IsSmall (raised x (k - i)) → IsSmall (raised z (m - i))
raised_small i m k x z e f h = subst (λ (u : ℤ). IsSmall (raised u (m - i))) (sym e) (subst (λ (n : ℕ). IsSmall (raised x (n - i))) (sym f) h)

pub on_aligned-requires-clause-x : goal.on_aligned-requires-clause-x
on_aligned-requires-clause-x c =
    subst (λ (z : ℤ). IsSmall z) (sym (to_z-of_z w128 c.args.x c.ranges.x)) (products_fit c.args.op c.args.i c.args.x c.args.j c.args.y c.in-Times.is c.requires.fits).0

pub on_aligned-requires-clause-y : goal.on_aligned-requires-clause-y
on_aligned-requires-clause-y c =
    subst (λ (z : ℤ). IsSmall z) (sym (to_z-of_z w128 c.args.y c.ranges.y)) (products_fit c.args.op c.args.i c.args.x c.args.j c.args.y c.in-Times.is c.requires.fits).1

pub on_aligned-requires-clause-outcome : goal.on_aligned-requires-clause-outcome
on_aligned-requires-clause-outcome c =
    subst (λ (z : ℤ). IsSmall z) (sym (ap₂ (num_op c.args.op) (to_z-of_z w128 c.args.x c.ranges.x) (to_z-of_z w128 c.args.y c.ranges.y))) (products_fit c.args.op c.args.i c.args.x c.args.j c.args.y c.in-Times.is c.requires.fits).2

pub returns-in-Times : goal.returns-in-Times
returns-in-Times c =
    let fits : FitsSigned w128 c.on_aligned.result = search rules in
    to_z-of_z w128 c.on_aligned.result fits
    ∙ c.on_aligned.ensures
    ∙ ap₂ (num_op c.args.op) (to_z-of_z w128 c.args.x c.ranges.x) (to_z-of_z w128 c.args.y c.ranges.y)
    ∙ product_is c.args.op c.args.i c.args.x c.args.j c.args.y c.in-Times.is

pub align-requires : goal.align-requires
align-requires c = record {
  order = omega arith;
  near = omega arith;
  small = raised_small c.args.i _ _ c.args.x _ (to_z-of_z w128 c.args.x c.ranges.x) c.max.ensures (others_fit c.args.op c.args.i c.args.x c.args.j c.args.y c.in_default.not-Times c.requires.fits).0.left;
}

pub align-requires-in_default : goal.align-requires-in_default
align-requires-in_default c = record {
  order = omega arith;
  near = omega arith;
  small = raised_small c.args.j _ _ c.args.y _ (to_z-of_z w128 c.args.y c.ranges.y) c.max-in_default.ensures (others_fit c.args.op c.args.i c.args.x c.args.j c.args.y c.in_default.not-Times c.requires.fits).0.right;
}

pub on_aligned-requires-in_default : goal.on_aligned-requires-in_default
on_aligned-requires-in_default c =
    let fits = others_fit c.args.op c.args.i c.args.x c.args.j c.args.y c.in_default.not-Times c.requires.fits in
    let of_left : FitsSigned w128 c.align.result = search rules in
    let of_right : FitsSigned w128 c.align-in_default.result = search rules in
    let left : to_z w128 (of_z w128 c.align.result) ≡ raised c.args.x (max c.args.i c.args.j - c.args.i) =
    to_z-of_z w128 c.align.result of_left ∙ c.align.ensures ∙ ap₂ (λ (z : ℤ) (m : ℕ). raised z (m - c.args.i)) (to_z-of_z w128 c.args.x c.ranges.x) c.max.ensures in
    let right : to_z w128 (of_z w128 c.align-in_default.result) ≡ raised c.args.y (max c.args.i c.args.j - c.args.j) =
    to_z-of_z w128 c.align-in_default.result of_right ∙ c.align-in_default.ensures ∙ ap₂ (λ (z : ℤ) (m : ℕ). raised z (m - c.args.j)) (to_z-of_z w128 c.args.y c.ranges.y) c.max-in_default.ensures in
    record {
      x = subst (λ (z : ℤ). IsSmall z) (sym left) fits.0.left;
      y = subst (λ (z : ℤ). IsSmall z) (sym right) fits.0.right;
      outcome = subst (λ (z : ℤ). IsSmall z) (sym (ap₂ (num_op c.args.op) left right)) fits.1;
    }

pub returns-in_default : goal.returns-in_default
returns-in_default c =
    let of_left : FitsSigned w128 c.align.result = search rules in
    let of_right : FitsSigned w128 c.align-in_default.result = search rules in
    let left : to_z w128 (of_z w128 c.align.result) ≡ raised c.args.x (max c.args.i c.args.j - c.args.i) =
    to_z-of_z w128 c.align.result of_left ∙ c.align.ensures ∙ ap₂ (λ (z : ℤ) (m : ℕ). raised z (m - c.args.i)) (to_z-of_z w128 c.args.x c.ranges.x) c.max.ensures in
    let right : to_z w128 (of_z w128 c.align-in_default.result) ≡ raised c.args.y (max c.args.i c.args.j - c.args.j) =
    to_z-of_z w128 c.align-in_default.result of_right ∙ c.align-in_default.ensures ∙ ap₂ (λ (z : ℤ) (m : ℕ). raised z (m - c.args.j)) (to_z-of_z w128 c.args.y c.ranges.y) c.max-in_default.ensures in
    let fits : FitsSigned w128 c.on_aligned-in_default.result = search rules in
    to_z-of_z w128 c.on_aligned-in_default.result fits
    ∙ c.on_aligned-in_default.ensures
    ∙ ap₂ (num_op c.args.op) left right
    ∙ other_is c.args.op c.args.i c.args.x c.args.j c.args.y c.in_default.not-Times
