-- A number that is added to one side of a comparison, or taken from it, goes over to the other side.
use Rattle.std.proofs.Common.{◌≡◌, ℕ, ◌-◌, ◌≤◌, max, ℤ, neg_ℤ, ◌+ℤ◌, ◌-ℤ◌, ◌*ℤ◌, Bool, true, not, Ok, Err, refl, ap, ap₂, sym, ◌∙◌, inl, inr, int_lt, arith}
use Rattle.std.specs.Ordering.{int_eq}
use Rattle.std.proofs.lemmas.Bool.{cases_Bool}
use Rattle.std.proofs.lemmas.Bool.Decides.{Decides-int_eq}
use Rattle.std.proofs.lemmas.Int.{ints, by_lt_z}
use Rattle.decimal.specs.Rounding.{raised}
use Rattle.term_model.specs.Declarations.{declarations}
use Rattle.term_model.specs.declared.decls.Decls.{Decls}
use Rattle.term_model.specs.declared.terms.CmpOp.{CmpOp}
use Rattle.term_model.specs.declared.terms.CmpOp.TheVariants.{Less, LessEq, Greater, GreaterEq, Equal, Unequal}
use Rattle.term_model.specs.declared.terms.NumOp.{NumOp}
use Rattle.term_model.specs.declared.terms.NumOp.TheVariants.{Plus, Minus}
use Rattle.term_model.specs.Terms.{Expression, Num}
use Rattle.term_model.specs.Values.{cmp_op, of_cmp}
use Rattle.term_model.proofs.FlowFacts.{raised-neg}
use Rattle.term_model.proofs.Products.{parts_raised}
use Rattle.expr_eval.specs.declared.operations.Typed.{Typed}
use Rattle.expr_eval.specs.declared.bindings.Bindings.{Bindings}
use Rattle.expr_eval.specs.declared.watches.Watch.{Watch}
use Rattle.expr_eval.specs.Operations.{combined, compared, number, number_in, scale_in, verdict}
use Rattle.expr_eval.specs.Bindings.{bindings}
use Rattle.expr_eval.specs.Runs.{Answer, both_of, on_both, run_of}
use Rattle.expr_eval.specs.declared.comparisons.Factors.{Factors}
use Rattle.expr_eval.specs.Comparing.{factors, truth_found}
use Rattle.expr_eval.specs.Stops.{wanted_of}
use Rattle.expr_eval.specs.Evaluations.{answer_in}
use Rattle.expr_eval.specs.Watching.{IsAgainst, Stands}

-- two pairs of numbers that are as far apart compare alike

apart_alike : (x y u v : ℤ) → x -ℤ y ≡ u -ℤ v → int_lt x y ≡ int_lt u v
apart_alike x y u v h = elim (by_lt_z x y (λ p. inl p) (λ p. inr p)) [
  | inl p ↦ grind (arith, ints)
  | inr p ↦ grind (arith, ints)
]

same_alike : (x y u v : ℤ) → x -ℤ y ≡ u -ℤ v → int_eq x y ≡ int_eq u v
same_alike x y u v h = elim (cases_Bool (int_eq u v)) [
  | inl same ↦
      let there : u ≡ v = (Decides-int_eq u v).0 same in
      let here : x ≡ y = omega (arith, ints) in
      (Decides-int_eq x y).1 here ∙ sym same
  | inr other ↦
      elim (cases_Bool (int_eq x y)) [
        | inl same ↦
            let here : x ≡ y = (Decides-int_eq x y).0 same in
            let there : u ≡ v = omega (arith, ints) in
            let back : int_eq u v ≡ true = (Decides-int_eq u v).1 there in
            absurd (cc)
        | inr apart ↦ apart ∙ sym other
      ]
]

back_alike : (x y u v : ℤ) → x -ℤ y ≡ u -ℤ v → y -ℤ x ≡ v -ℤ u
back_alike x y u v h = omega (arith, ints)

compared_alike : (op : CmpOp) (x y u v : ℤ) → x -ℤ y ≡ u -ℤ v → cmp_op op x y ≡ cmp_op op u v
compared_alike Less x y u v h = apart_alike x y u v h
compared_alike LessEq x y u v h = ap not (apart_alike y x v u (back_alike x y u v h))
compared_alike Greater x y u v h = apart_alike y x v u (back_alike x y u v h)
compared_alike GreaterEq x y u v h = ap not (apart_alike x y u v h)
compared_alike Equal x y u v h = same_alike x y u v h
compared_alike Unequal x y u v h = ap not (same_alike x y u v h)

-- numbers of any scales

parts_lowered : (x y : ℤ) (m i j : ℕ) → i ≤ m → j ≤ m → raised x (m - i) -ℤ raised y (m - j) ≡ raised (raised x (max i j - i) -ℤ raised y (max i j - j)) (m - max i j)
parts_lowered x y m i j h k =
    ap (λ (z : ℤ). raised x (m - i) +ℤ z) (sym (raised-neg y (m - j))) ∙ parts_raised x (neg_ℤ y) m i j h k
    ∙ ap (λ (z : ℤ). raised (raised x (max i j - i) +ℤ z) (m - max i j)) (raised-neg y (max i j - j))

sum_over : (x y b : ℤ) → (x +ℤ y) -ℤ b ≡ x -ℤ (b -ℤ y)
sum_over x y b = omega (arith, ints)

difference_over : (x y b : ℤ) → (x -ℤ y) -ℤ b ≡ x -ℤ (b +ℤ y)
difference_over x y b = omega (arith, ints)

plus_over : (op : CmpOp) (i j k : ℕ) (x y b : ℤ)
    → of_cmp op (max i k) (raised x (max i k - i) +ℤ raised y (max i k - k)) j b ≡ of_cmp op i x (max j k) (raised b (max j k - j) -ℤ raised y (max j k - k))
plus_over op i j k x y b =
    let m = max (max i k) j in
    let e : m ≡ max i (max j k) = omega arith in
    ap (λ (z : ℤ). cmp_op op z (raised b (m - j))) (sym (parts_raised x y m i k (omega arith) (omega arith)))
    ∙ compared_alike op (raised x (m - i) +ℤ raised y (m - k)) (raised b (m - j)) (raised x (m - i)) (raised b (m - j) -ℤ raised y (m - k)) (sum_over (raised x (m - i)) (raised y (m - k)) (raised b (m - j)))
    ∙ ap (λ (z : ℤ). cmp_op op (raised x (m - i)) z) (parts_lowered b y m j k (omega arith) (omega arith))
    ∙ ap (λ (n : ℕ). cmp_op op (raised x (n - i)) (raised (raised b (max j k - j) -ℤ raised y (max j k - k)) (n - max j k))) e

minus_over : (op : CmpOp) (i j k : ℕ) (x y b : ℤ)
    → of_cmp op (max i k) (raised x (max i k - i) -ℤ raised y (max i k - k)) j b ≡ of_cmp op i x (max j k) (raised b (max j k - j) +ℤ raised y (max j k - k))
minus_over op i j k x y b =
    let m = max (max i k) j in
    let e : m ≡ max i (max j k) = omega arith in
    ap (λ (z : ℤ). cmp_op op z (raised b (m - j))) (sym (parts_lowered x y m i k (omega arith) (omega arith)))
    ∙ compared_alike op (raised x (m - i) -ℤ raised y (m - k)) (raised b (m - j)) (raised x (m - i)) (raised b (m - j) +ℤ raised y (m - k)) (difference_over (raised x (m - i)) (raised y (m - k)) (raised b (m - j)))
    ∙ ap (λ (z : ℤ). cmp_op op (raised x (m - i)) z) (parts_raised b y m j k (omega arith) (omega arith))
    ∙ ap (λ (n : ℕ). cmp_op op (raised x (n - i)) (raised (raised b (max j k - j) +ℤ raised y (max j k - k)) (n - max j k))) e

-- one operator undoes the other

abbrev pub GoesOver : NumOp → NumOp → Type 0
GoesOver there back = (op : CmpOp) (x y b : Typed) → compared op (combined there x y) b ≡ compared op x (combined back b y)

pub plus_goes_over : GoesOver Plus Minus
plus_goes_over op x y b = ap (λ (t : Bool). verdict t) (plus_over op (scale_in x) (scale_in b) (scale_in y) (number_in x) (number_in y) (number_in b))

pub minus_goes_over : GoesOver Minus Plus
minus_goes_over op x y b = ap (λ (t : Bool). verdict t) (minus_over op (scale_in x) (scale_in b) (scale_in y) (number_in x) (number_in y) (number_in b))

-- what is made of a bound and a number that goes over to it

factors_are : (b y : Typed) (i j : ℕ) (by : Factors) → i ≡ scale_in b → j ≡ scale_in y → by ≡ factors i j → by ≡ factors (scale_in b) (scale_in y)
factors_are b y i j by i_is j_is is = is ∙ ap₂ factors i_is j_is

module _ (op : NumOp) (b y r : Typed) (i j n : ℕ) (by : Factors) (x z w : ℤ) (i_is : i ≡ scale_in b) (j_is : j ≡ scale_in y) (by_is : by ≡ factors i j)
    (x_is : x ≡ number_in b *ℤ by.left) (z_is : z ≡ number_in y *ℤ by.right) (n_is : n ≡ max i j) (r_is : r ≡ number n w) where
  left_is : x ≡ number_in b *ℤ (factors (scale_in b) (scale_in y)).left
  left_is = x_is ∙ ap (λ (c : Factors). number_in b *ℤ c.left) (factors_are b y i j by i_is j_is by_is)

  right_is : z ≡ number_in y *ℤ (factors (scale_in b) (scale_in y)).right
  right_is = z_is ∙ ap (λ (c : Factors). number_in y *ℤ c.right) (factors_are b y i j by i_is j_is by_is)

  scale_is : n ≡ max (scale_in b) (scale_in y)
  scale_is = n_is ∙ ap₂ max i_is j_is

  pub plus_made : op ≡ Plus → w ≡ x +ℤ z → r ≡ combined op b y
  plus_made op_is w_is =
      r_is ∙ ap₂ number scale_is (w_is ∙ ap₂ (λ (u v : ℤ). u +ℤ v) left_is right_is) ∙ ap (λ (o : NumOp). combined o b y) (sym op_is)

  pub minus_made : op ≡ Minus → w ≡ x -ℤ z → r ≡ combined op b y
  minus_made op_is w_is =
      r_is ∙ ap₂ number scale_is (w_is ∙ ap₂ (λ (u v : ℤ). u -ℤ v) left_is right_is) ∙ ap (λ (o : NumOp). combined o b y) (sym op_is)

-- so it is on each day with what stays the same

over_on : (op : CmpOp) (there back : NumOp) (y b : Typed) → GoesOver there back → (a : Answer)
    → truth_found (on_both (both_of (on_both (both_of a (Ok y)) (combined there)) (Ok b)) (compared op)) ≡ truth_found (on_both (both_of a (Ok (combined back b y))) (compared op))
over_on op there back y b over (Err m) = refl
over_on op there back y b over (Ok x) = ap (λ (v : Typed). truth_found (Ok v)) (over op x y b)

pub right_over : (decls : Decls) (op : CmpOp) (there back : NumOp) (e a k : Expression) (names : Bindings) (y b c : Typed) (wanted : Bool) (w : Watch) → GoesOver there back
    → e ≡ Num there a k → Stands k (bindings names) y → c ≡ combined back b y → IsAgainst op (answer_in decls a names) c wanted w → IsAgainst op (answer_in decls e names) b wanted w
right_over decls op there back e a k names y b c wanted w over form stands moved is env f =
    let g = bindings names in
    let d = declarations decls in
    ap (λ (x : Expression). wanted_of wanted (truth_found (on_both (both_of (run_of d x g env f) (Ok b)) (compared op)))) form
    ∙ ap (λ (r : Answer). wanted_of wanted (truth_found (on_both (both_of (on_both (both_of (run_of d a g env f) r) (combined there)) (Ok b)) (compared op)))) (stands decls env f)
    ∙ ap (wanted_of wanted) (over_on op there back y b over (run_of d a g env f))
    ∙ ap (λ (v : Typed). wanted_of wanted (truth_found (on_both (both_of (run_of d a g env f) (Ok v)) (compared op)))) (sym moved)
    ∙ is env f

-- a sum in the other order

swapped : (x y : ℤ) → x +ℤ y ≡ y +ℤ x
swapped x y = omega (arith, ints)

either_order : (x y : Typed) → combined Plus y x ≡ combined Plus x y
either_order x y =
    let i = scale_in x in
    let j = scale_in y in
    let e : max j i ≡ max i j = omega arith in
    ap (λ (n : ℕ). number n (raised (number_in y) (n - j) +ℤ raised (number_in x) (n - i))) e
    ∙ ap (λ (z : ℤ). number (max i j) z) (swapped (raised (number_in y) (max i j - j)) (raised (number_in x) (max i j - i)))

turned_on : (y : Typed) (a : Answer) → on_both (both_of (Ok y) a) (combined Plus) ≡ on_both (both_of a (Ok y)) (combined Plus)
turned_on y (Err m) = refl
turned_on y (Ok x) = ap (λ (v : Typed). Ok v) (either_order x y)

pub left_over : (decls : Decls) (op : CmpOp) (e a k : Expression) (names : Bindings) (y b c : Typed) (wanted : Bool) (w : Watch)
    → e ≡ Num Plus k a → Stands k (bindings names) y → c ≡ combined Minus b y → IsAgainst op (answer_in decls a names) c wanted w → IsAgainst op (answer_in decls e names) b wanted w
left_over decls op e a k names y b c wanted w form stands moved is env f =
    let g = bindings names in
    let d = declarations decls in
    ap (λ (x : Expression). wanted_of wanted (truth_found (on_both (both_of (run_of d x g env f) (Ok b)) (compared op)))) form
    ∙ ap (λ (r : Answer). wanted_of wanted (truth_found (on_both (both_of (on_both (both_of r (run_of d a g env f)) (combined Plus)) (Ok b)) (compared op)))) (stands decls env f)
    ∙ ap (λ (r : Answer). wanted_of wanted (truth_found (on_both (both_of r (Ok b)) (compared op)))) (turned_on y (run_of d a g env f))
    ∙ ap (wanted_of wanted) (over_on op Plus Minus y b plus_goes_over (run_of d a g env f))
    ∙ ap (λ (v : Typed). wanted_of wanted (truth_found (on_both (both_of (run_of d a g env f) (Ok v)) (compared op)))) (sym moved)
    ∙ is env f
