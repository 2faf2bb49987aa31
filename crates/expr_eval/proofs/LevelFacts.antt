-- Level expressions: their values have the kind of their scale, and their numbers are combined as they are.
use Rattle.std.proofs.Common.{◌≡◌, ℕ, ◌-◌, max, ℤ, ◌+ℤ◌, Bool, true, false, Option, Some, None, List, ◌∷◌, Ok, Err, if◌then◌else◌, refl, ap, ap₂, sym, subst, ◌∙◌, arith}
use Rattle.std.specs.Prelude.{◌==◌, ◌&&◌, option_map, slice_get}
use Rattle.std.proofs.lemmas.Bool.Decides.{nat_tests}
use Rattle.std.proofs.lemmas.Option.{slice_get-map}
use Rattle.decimal.proofs.RoundedFacts.{raised_none}
use Rattle.term_model.specs.Declarations.{Declarations}
use Rattle.term_model.specs.declared.terms.NumOp.{NumOp}
use Rattle.term_model.specs.declared.terms.NumOp.TheVariants.{Plus, Minus, Times, Min, Max}
use Rattle.term_model.specs.declared.values.Kind.{Kind}
use Rattle.term_model.specs.declared.values.Kind.TheVariants.{Truth as TruthKind, Number}
use Rattle.term_model.specs.declared.values.Value.{Value}
use Rattle.term_model.specs.declared.values.Value.TheVariants.{Num as Amount, Truth}
use Rattle.term_model.specs.Terms.{Expression, Lit, Yes, Var, Obs, Neg, Num, Cmp, Not, Logic, Cond, Widen, Round, Div, Acc}
use Rattle.term_model.specs.Environments.{Environment}
use Rattle.term_model.specs.Kinds.{scale_of_kind, scale_of_op}
use Rattle.term_model.specs.Values.{kind_or, num, num_op, of_num, widened}
use Rattle.interval_check.specs.RangeTrials.{kind_found, kind_of_either}
use Rattle.interval_check.specs.Safety.{AlignSafely, IsSmall, OperateSafely}
use Rattle.expr_eval.specs.declared.scratch.Held.{Held}
use Rattle.expr_eval.specs.declared.scratch.Held.TheVariants.{Known, Lacking}
use Rattle.expr_eval.specs.declared.scratch.Binding.{Binding}
use Rattle.expr_eval.specs.declared.operations.Typed.{Typed}
use Rattle.expr_eval.specs.Rooms.{kinds_of}
use Rattle.expr_eval.specs.Operations.{Combines, at_kind, combined, number_in, quotient, rounded, scale_in, truth_in}
use Rattle.expr_eval.specs.Runs.{Answer, bound_to, both_of, day_run, of_binding, of_branches, of_first, of_held, of_place, of_second, on_both, run_of, then_do}
use Rattle.expr_eval.specs.Fits.{Fits, OnValue, OnValues}
use Rattle.expr_eval.specs.Comparing.{number_found}
use Rattle.expr_eval.specs.Levels.{has_scale, is_amount, is_level, is_numeric, keeps_scale, stays_level}

pub both_true : (a b : Bool) → (a && b) ≡ true → (a ≡ true) × (b ≡ true)
both_true true b h = (refl, h)
both_true false b h = absurd (cc)

pub same_scale : (i s : ℕ) → (i == s) ≡ true → i ≡ s
same_scale i s h = grind (arith, nat_tests)

of_scale : (k : Kind) (s : ℕ) → has_scale k s ≡ true → k ≡ Number s
of_scale TruthKind s h = absurd (cc)
of_scale (Number i) s h = ap (λ (j : ℕ). Number j) (same_scale i s h)

kept_scale : (op : NumOp) (s : ℕ) → keeps_scale op ≡ true → scale_of_op op s s ≡ s
kept_scale Times s h = absurd (cc)
kept_scale Plus s h = omega arith
kept_scale Minus s h = omega arith
kept_scale Min s h = omega arith
kept_scale Max s h = omega arith

-- the kind by its form

level_found : (d : Declarations) (e : Expression) (ks : List Kind) (s : ℕ) → is_level d e ks s ≡ true → kind_found d e ks ≡ Number s
level_found d (Lit m i) ks s h = ap (λ (j : ℕ). Number j) (same_scale i s h)
level_found d (Yes b) ks s h = absurd (cc)
level_found d (Var n) ks s h = of_scale _ s h
level_found d (Obs l t) ks s h = of_scale _ s h
level_found d (Neg a) ks s h = absurd (cc)
level_found d (Num op a b) ks s h =
    let p = both_true _ _ h in
    let q = both_true _ _ p.1 in
    ap₂ (λ (i j : Kind). Number (scale_of_op op (scale_of_kind i) (scale_of_kind j))) (level_found d a ks s q.0) (level_found d b ks s q.1)
    ∙ ap (λ (j : ℕ). Number j) (kept_scale op s p.0)
level_found d (Cmp op a b) ks s h = absurd (cc)
level_found d (Not a) ks s h = absurd (cc)
level_found d (Logic op a b) ks s h = absurd (cc)
level_found d (Cond t a b) ks s h =
    let q = both_true _ _ h in
    ap₂ kind_of_either (level_found d a ks s q.0) (level_found d b ks s q.1) ∙ ap (λ (j : ℕ). Number j) (kept_scale Max s refl)
level_found d (Widen i a) ks s h = ap (λ (j : ℕ). Number j) (same_scale i s h)
level_found d (Round mode i a) ks s h = ap (λ (j : ℕ). Number j) (same_scale i s h)
level_found d (Div mode i a b) ks s h = ap (λ (j : ℕ). Number j) (same_scale i s h)
level_found d (Acc body n first) ks s h = absurd (cc)

-- the kind of each value

held_kind : (o : Option Binding) (k : Kind) → kind_or (option_map (λ b. b.kind) o) ≡ k → OnValue (of_binding o) (λ v. v.kind ≡ k)
held_kind None k h = h
held_kind (Some b) k h = entry_kind b.kind b.held k h
  where
    entry_kind : (j : Kind) (x : Held) (i : Kind) → j ≡ i → OnValue (of_held j x) (λ v. v.kind ≡ i)
    entry_kind j (Known v) i e = e
    entry_kind j (Lacking m) i e = tt

place_kind : (j : Kind) (o : Option Value) (l : ℕ) (t : ℤ) (k : Kind) → j ≡ k → OnValue (of_place j o l t) (λ v. v.kind ≡ k)
place_kind j None l t k h = tt
place_kind j (Some v) l t k h = h

pair_kind : (op : NumOp) (a b : Answer) (s : ℕ) → keeps_scale op ≡ true → OnValue a (λ v. v.kind ≡ Number s) → OnValue b (λ v. v.kind ≡ Number s) → OnValue (on_both (both_of a b) (combined op)) (λ v. v.kind ≡ Number s)
pair_kind op (Ok x) (Ok y) s k p q =
    ap₂ (λ (i j : Kind). Number (scale_of_op op (scale_of_kind i) (scale_of_kind j))) p q ∙ ap (λ (j : ℕ). Number j) (kept_scale op s k)
pair_kind op (Ok x) (Err m) s k p q = tt
pair_kind op (Err m) b s k p q = tt

one_kind : (a : Answer) (go : Typed → Typed) (k : Kind) → ((v : Typed) → (go v).kind ≡ k) → OnValue (then_do a (λ v. Ok (go v))) (λ v. v.kind ≡ k)
one_kind (Ok v) go k h = h v
one_kind (Err m) go k h = tt

two_kind : (a b : Answer) (go : Typed → Typed → Typed) (k : Kind) → ((x y : Typed) → (go x y).kind ≡ k) → OnValue (on_both (both_of a b) go) (λ v. v.kind ≡ k)
two_kind (Ok x) (Ok y) go k h = h x y
two_kind (Ok x) (Err m) go k h = tt
two_kind (Err m) b go k h = tt

either_level : (i j : Kind) (s : ℕ) → i ≡ Number s → j ≡ Number s → kind_of_either i j ≡ Number s
either_level i j s p q = ap₂ kind_of_either p q ∙ ap (λ (n : ℕ). Number n) (kept_scale Max s refl)

first_kind : (a : Answer) (j : Kind) (s : ℕ) → j ≡ Number s → OnValue a (λ v. v.kind ≡ Number s) → OnValue (of_first j a) (λ v. v.kind ≡ Number s)
first_kind (Ok v) j s q p = either_level v.kind j s p q
first_kind (Err m) j s q p = tt

second_kind : (b : Answer) (i : Kind) (s : ℕ) → i ≡ Number s → OnValue b (λ v. v.kind ≡ Number s) → OnValue (of_second i b) (λ v. v.kind ≡ Number s)
second_kind (Ok v) i s q p = either_level i v.kind s q p
second_kind (Err m) i s q p = tt

branch_kind : (c : Bool) (a b : Answer) (k : Kind) → OnValue a (λ v. v.kind ≡ k) → OnValue b (λ v. v.kind ≡ k) → OnValue (if c then a else b) (λ v. v.kind ≡ k)
branch_kind true a b k p q = p
branch_kind false a b k p q = q

branches_kind : (i j : Kind) (t a b : Answer) (s : ℕ) → i ≡ Number s → j ≡ Number s → OnValue a (λ v. v.kind ≡ Number s) → OnValue b (λ v. v.kind ≡ Number s) → OnValue (of_branches i j t a b) (λ v. v.kind ≡ Number s)
branches_kind i j (Ok x) a b s p q u w = branch_kind (truth_in x) (of_first j a) (of_second i b) (Number s) (first_kind a j s q u) (second_kind b i s p w)
branches_kind i j (Err m) a b s p q u w = tt

level_kind : (d : Declarations) (e : Expression) (g : List Binding) (F : Environment) (f : ℤ) (s : ℕ) → is_level d e (kinds_of g) s ≡ true → OnValue (run_of d e g F f) (λ v. v.kind ≡ Number s)
level_kind d (Lit m i) g F f s h = ap (λ (j : ℕ). Number j) (same_scale i s h)
level_kind d (Yes b) g F f s h = absurd (cc)
level_kind d (Var n) g F f s h = held_kind (slice_get g n) (Number s) (ap kind_or (sym (slice_get-map (λ (b : Binding). b.kind) g n)) ∙ of_scale _ s h)
level_kind d (Obs l t) g F f s h = place_kind _ _ l (f +ℤ t) (Number s) (of_scale _ s h)
level_kind d (Neg a) g F f s h = absurd (cc)
level_kind d (Num op a b) g F f s h =
    let p = both_true _ _ h in
    let q = both_true _ _ p.1 in
    pair_kind op (run_of d a g F f) (run_of d b g F f) s p.0 (level_kind d a g F f s q.0) (level_kind d b g F f s q.1)
level_kind d (Cmp op a b) g F f s h = absurd (cc)
level_kind d (Not a) g F f s h = absurd (cc)
level_kind d (Logic op a b) g F f s h = absurd (cc)
level_kind d (Cond t a b) g F f s h =
    let q = both_true _ _ h in
    branches_kind (kind_found d a (kinds_of g)) (kind_found d b (kinds_of g)) (run_of d t g F f) (run_of d a g F f) (run_of d b g F f) s (level_found d a (kinds_of g) s q.0) (level_found d b (kinds_of g) s q.1) (level_kind d a g F f s q.0) (level_kind d b g F f s q.1)
level_kind d (Widen i a) g F f s h = one_kind (run_of d a g F f) (at_kind (Number i)) (Number s) (λ v. ap (λ (j : ℕ). Number j) (same_scale i s h))
level_kind d (Round mode i a) g F f s h = one_kind (run_of d a g F f) (rounded mode i) (Number s) (λ v. ap (λ (j : ℕ). Number j) (same_scale i s h))
level_kind d (Div mode i a b) g F f s h = two_kind (run_of d a g F f) (run_of d b g F f) (quotient mode i) (Number s) (λ x y. ap (λ (j : ℕ). Number j) (same_scale i s h))
level_kind d (Acc body n first) g F f s h = absurd (cc)

-- an operator on two numbers of one scale

aligned_once : (op : NumOp) (s : ℕ) (x y : ℤ) → keeps_scale op ≡ true → of_num op s x s y ≡ num_op op x y
aligned_once Times s x y h = absurd (cc)
aligned_once Plus s x y h = ap₂ (num_op Plus) (raised_none x (max s s - s) (omega arith)) (raised_none y (max s s - s) (omega arith))
aligned_once Minus s x y h = ap₂ (num_op Minus) (raised_none x (max s s - s) (omega arith)) (raised_none y (max s s - s) (omega arith))
aligned_once Min s x y h = ap₂ (num_op Min) (raised_none x (max s s - s) (omega arith)) (raised_none y (max s s - s) (omega arith))
aligned_once Max s x y h = ap₂ (num_op Max) (raised_none x (max s s - s) (omega arith)) (raised_none y (max s s - s) (omega arith))

pub record AreSmall (op : NumOp) (x y : ℤ) : Type 0 where
  pub left : IsSmall x
  pub right : IsSmall y
  pub outcome : IsSmall (num_op op x y)

small_of : (op : NumOp) (s : ℕ) (x y : ℤ) → AlignSafely s x s y → IsSmall (num_op op x y) → AreSmall op x y
small_of op s x y a o =
    record {
      left = subst IsSmall (raised_none x (max s s - s) (omega arith)) a.left;
      right = subst IsSmall (raised_none y (max s s - s) (omega arith)) a.right;
      outcome = o;
    }

aligned_small : (op : NumOp) (s : ℕ) (x y : ℤ) → keeps_scale op ≡ true → OperateSafely op s x s y → AreSmall op x y
aligned_small Times s x y k h = absurd (cc)
aligned_small Plus s x y k h = small_of Plus s x y h.0 (subst IsSmall (aligned_once Plus s x y k) h.1)
aligned_small Minus s x y k h = small_of Minus s x y h.0 (subst IsSmall (aligned_once Minus s x y k) h.1)
aligned_small Min s x y k h = small_of Min s x y h.0 (subst IsSmall (aligned_once Min s x y k) h.1)
aligned_small Max s x y k h = small_of Max s x y h.0 (subst IsSmall (aligned_once Max s x y k) h.1)

module _ (op : NumOp) (s : ℕ) (x y : ℤ) (keeps : keeps_scale op ≡ true) where
  small_at : (i j : ℕ) (u w : ℤ) → i ≡ s → j ≡ s → u ≡ x → w ≡ y → OperateSafely op i u j w → AreSmall op x y
  small_at i j u w p q r t h =
      aligned_small op s x y keeps
      (subst (λ (z : ℤ). OperateSafely op s x s z) t
      (subst (λ (z : ℤ). OperateSafely op s z s w) r
      (subst (λ (k : ℕ). OperateSafely op s u k w) q
      (subst (λ (k : ℕ). OperateSafely op k u j w) p h))))

  pair_small : (a b : Answer) → OnValue a (λ v. v.kind ≡ Number s) → OnValue b (λ v. v.kind ≡ Number s) → OnValues a b (Combines op) → number_found a ≡ Ok x → number_found b ≡ Ok y → AreSmall op x y
  pair_small (Ok v) (Ok w) p q h r t =
      let u : number_in v ≡ x = cc in
      let z : number_in w ≡ y = cc in
      small_at (scale_in v) (scale_in w) (number_in v) (number_in w) (ap scale_of_kind p) (ap scale_of_kind q) u z h.fits
  pair_small (Ok v) (Err m) p q h r t = absurd (cc)
  pair_small (Err m) b p q h r t = absurd (cc)

  pair_number : (a b : Answer) → OnValue a (λ v. v.kind ≡ Number s) → OnValue b (λ v. v.kind ≡ Number s) → number_found a ≡ Ok x → number_found b ≡ Ok y → Ok (num_op op x y) ≡ number_found (on_both (both_of a b) (combined op))
  pair_number (Ok v) (Ok w) p q r t =
      let u : number_in v ≡ x = cc in
      let z : number_in w ≡ y = cc in
      let i : scale_in v ≡ s = ap scale_of_kind p in
      let j : scale_in w ≡ s = ap scale_of_kind q in
      let e : of_num op s x s y ≡ of_num op (scale_in v) (number_in v) (scale_in w) (number_in w) = cc in
      ap (λ (n : ℤ). Ok n) (sym (aligned_once op s x y keeps) ∙ e)
  pair_number (Ok v) (Err m) p q r t = absurd (cc)
  pair_number (Err m) b p q r t = absurd (cc)

-- what a level expression over an operator needs of its operands, and what its number is

level_parts : (d : Declarations) (op : NumOp) (a b : Expression) (ks : List Kind) (s : ℕ) → is_level d (Num op a b) ks s ≡ true → (keeps_scale op ≡ true) × ((is_level d a ks s ≡ true) × (is_level d b ks s ≡ true))
level_parts d op a b ks s h = let p = both_true _ _ h in (p.0, both_true _ _ p.1)

module _ (d : Declarations) (op : NumOp) (a b : Expression) (g : List Binding) (F : Environment) (f : ℤ) (s : ℕ) (level : is_level d (Num op a b) (kinds_of g) s ≡ true) where
  pub operands_small : (x y : ℤ) → Fits d (Num op a b) g F f → number_found (run_of d a g F f) ≡ Ok x → number_found (run_of d b g F f) ≡ Ok y → AreSmall op x y
  operands_small x y fits p q =
      let parts = level_parts d op a b (kinds_of g) s level in
      pair_small op s x y parts.0 (run_of d a g F f) (run_of d b g F f) (level_kind d a g F f s parts.1.0) (level_kind d b g F f s parts.1.1) fits.2 p q

  pub operands_combined : (x y : ℤ) → number_found (run_of d a g F f) ≡ Ok x → number_found (run_of d b g F f) ≡ Ok y → Ok (num_op op x y) ≡ number_found (run_of d (Num op a b) g F f)
  operands_combined x y p q =
      let parts = level_parts d op a b (kinds_of g) s level in
      pair_number op s x y parts.0 (run_of d a g F f) (run_of d b g F f) (level_kind d a g F f s parts.1.0) (level_kind d b g F f s parts.1.1) p q

-- the branch that is taken

once_raised : (v : Value) (i j : ℕ) → i ≡ j → num (widened i j v) ≡ num v
once_raised (Amount m) i j e = raised_none m (j - i) (omega arith)
once_raised (Truth b) i j e = refl

taken_first : (a : Answer) (j : Kind) (s : ℕ) → j ≡ Number s → OnValue a (λ v. v.kind ≡ Number s) → number_found (of_first j a) ≡ number_found a
taken_first (Ok v) j s q p =
    let k : kind_of_either v.kind j ≡ v.kind = either_level v.kind j s p q ∙ sym p in
    ap (λ (n : ℤ). Ok n) (once_raised v.value (scale_in v) (scale_of_kind (kind_of_either v.kind j)) (ap scale_of_kind (sym k)))
taken_first (Err m) j s q p = refl

taken_second : (b : Answer) (i : Kind) (s : ℕ) → i ≡ Number s → OnValue b (λ v. v.kind ≡ Number s) → number_found (of_second i b) ≡ number_found b
taken_second (Ok v) i s q p =
    let k : kind_of_either i v.kind ≡ v.kind = either_level i v.kind s q p ∙ sym p in
    ap (λ (n : ℤ). Ok n) (once_raised v.value (scale_in v) (scale_of_kind (kind_of_either i v.kind)) (ap scale_of_kind (sym k)))
taken_second (Err m) i s q p = refl

module _ (d : Declarations) (t a b : Expression) (g : List Binding) (F : Environment) (f : ℤ) (s : ℕ) (level : is_level d (Cond t a b) (kinds_of g) s ≡ true) (x : Typed) (is : run_of d t g F f ≡ Ok x) where
  sides : (is_level d a (kinds_of g) s ≡ true) × (is_level d b (kinds_of g) s ≡ true)
  sides = both_true _ _ level

  chosen : (c : Bool) → truth_in x ≡ c → run_of d (Cond t a b) g F f ≡ (if c then of_first (kind_found d b (kinds_of g)) (run_of d a g F f) else of_second (kind_found d a (kinds_of g)) (run_of d b g F f))
  chosen c e =
      ap (λ (r : Answer). of_branches (kind_found d a (kinds_of g)) (kind_found d b (kinds_of g)) r (run_of d a g F f) (run_of d b g F f)) is
      ∙ ap (λ (k : Bool). if k then of_first (kind_found d b (kinds_of g)) (run_of d a g F f) else of_second (kind_found d a (kinds_of g)) (run_of d b g F f)) e

  pub first_chosen : truth_in x ≡ true → number_found (run_of d a g F f) ≡ number_found (run_of d (Cond t a b) g F f)
  first_chosen e =
      sym (ap number_found (chosen true e) ∙ taken_first (run_of d a g F f) (kind_found d b (kinds_of g)) s (level_found d b (kinds_of g) s sides.1) (level_kind d a g F f s sides.0))

  pub second_chosen : truth_in x ≡ false → number_found (run_of d b g F f) ≡ number_found (run_of d (Cond t a b) g F f)
  second_chosen e =
      sym (ap number_found (chosen false e) ∙ taken_second (run_of d b g F f) (kind_found d a (kinds_of g)) s (level_found d a (kinds_of g) s sides.0) (level_kind d b g F f s sides.1))

-- numbers by their form

numbers_two : (a b : Answer) (go : Typed → Typed → Typed) → ((x y : Typed) → is_amount (go x y).value ≡ true) → OnValue (on_both (both_of a b) go) (λ w. is_amount w.value ≡ true)
numbers_two (Ok x) (Ok y) go h = h x y
numbers_two (Ok x) (Err m) go h = tt
numbers_two (Err m) b go h = tt

numbers_one : (a : Answer) (go : Typed → Typed) → ((x : Typed) → is_amount (go x).value ≡ true) → OnValue (then_do a (λ v. Ok (go v))) (λ w. is_amount w.value ≡ true)
numbers_one (Ok x) go h = h x
numbers_one (Err m) go h = tt

amount_widened : (v : Value) (i j : ℕ) → is_amount v ≡ true → is_amount (widened i j v) ≡ true
amount_widened (Amount m) i j h = refl
amount_widened (Truth b) i j h = h

amount_first : (a : Answer) (j : Kind) → OnValue a (λ w. is_amount w.value ≡ true) → OnValue (of_first j a) (λ w. is_amount w.value ≡ true)
amount_first (Ok v) j h = amount_widened v.value (scale_in v) (scale_of_kind (kind_of_either v.kind j)) h
amount_first (Err m) j h = tt

amount_second : (b : Answer) (i : Kind) → OnValue b (λ w. is_amount w.value ≡ true) → OnValue (of_second i b) (λ w. is_amount w.value ≡ true)
amount_second (Ok v) i h = amount_widened v.value (scale_in v) (scale_of_kind (kind_of_either i v.kind)) h
amount_second (Err m) i h = tt

amount_branch : (c : Bool) (a b : Answer) → OnValue a (λ w. is_amount w.value ≡ true) → OnValue b (λ w. is_amount w.value ≡ true) → OnValue (if c then a else b) (λ w. is_amount w.value ≡ true)
amount_branch true a b p q = p
amount_branch false a b p q = q

amount_branches : (i j : Kind) (t a b : Answer) → OnValue a (λ w. is_amount w.value ≡ true) → OnValue b (λ w. is_amount w.value ≡ true) → OnValue (of_branches i j t a b) (λ w. is_amount w.value ≡ true)
amount_branches i j (Ok x) a b p q = amount_branch (truth_in x) (of_first j a) (of_second i b) (amount_first a j p) (amount_second b i q)
amount_branches i j (Err m) a b p q = tt

numeric_is : (d : Declarations) (e : Expression) (v : Typed) (g : List Binding) (F : Environment) (f : ℤ) → is_numeric e ≡ true → is_amount v.value ≡ true → OnValue (run_of d e (bound_to v ∷ g) F f) (λ w. is_amount w.value ≡ true)
numeric_is d (Lit m i) v g F f h is = refl
numeric_is d (Yes b) v g F f h is = absurd (cc)
numeric_is d (Var n) v g F f h is =
    subst (λ (k : ℕ). OnValue (of_binding (slice_get (bound_to v ∷ g) k)) (λ w. is_amount w.value ≡ true)) (sym (same_scale n 0 h)) is
numeric_is d (Obs l t) v g F f h is = absurd (cc)
numeric_is d (Neg a) v g F f h is = absurd (cc)
numeric_is d (Num op a b) v g F f h is = numbers_two (run_of d a (bound_to v ∷ g) F f) (run_of d b (bound_to v ∷ g) F f) (combined op) (λ x y. refl)
numeric_is d (Cmp op a b) v g F f h is = absurd (cc)
numeric_is d (Not a) v g F f h is = absurd (cc)
numeric_is d (Logic op a b) v g F f h is = absurd (cc)
numeric_is d (Cond t a b) v g F f h is =
    let q = both_true _ _ h in
    amount_branches (kind_found d a (kinds_of (bound_to v ∷ g))) (kind_found d b (kinds_of (bound_to v ∷ g))) (run_of d t (bound_to v ∷ g) F f) (run_of d a (bound_to v ∷ g) F f) (run_of d b (bound_to v ∷ g) F f) (numeric_is d a v g F f q.0 is) (numeric_is d b v g F f q.1 is)
numeric_is d (Widen i a) v g F f h is = absurd (cc)
numeric_is d (Round mode i a) v g F f h is = numbers_one (run_of d a (bound_to v ∷ g) F f) (rounded mode i) (λ x. refl)
numeric_is d (Div mode i a b) v g F f h is = numbers_two (run_of d a (bound_to v ∷ g) F f) (run_of d b (bound_to v ∷ g) F f) (quotient mode i) (λ x y. refl)
numeric_is d (Acc body n first) v g F f h is = absurd (cc)

-- a day of an accumulator that stays level

both_hold : (a b : Bool) → a ≡ true → b ≡ true → (a && b) ≡ true
both_hold a b p q = ap₂ (λ (x y : Bool). x && y) p q

amount_once : (x : Value) (i j : ℕ) (m : ℤ) → is_amount x ≡ true → num x ≡ m → i ≡ j → widened i j x ≡ Amount m
amount_once (Amount n) i j m h e s = ap (λ (z : ℤ). Amount z) (raised_none n (j - i) (omega arith) ∙ e)
amount_once (Truth b) i j m h e s = absurd (cc)

next_number : (r : Answer) (k : Kind) (s : ℕ) (m : ℤ) → k ≡ Number s → OnValue r (λ w. w.kind ≡ Number s) → OnValue r (λ w. is_amount w.value ≡ true) → number_found r ≡ Ok m → then_do r (λ w. Ok (at_kind k w)) ≡ Ok (record { kind = k; value = Amount m })
next_number (Ok w) k s m e p q h =
    let n : number_in w ≡ m = cc in
    ap (λ (x : Value). Ok (record { kind = k; value = x })) (amount_once w.value (scale_in w) (scale_of_kind k) m q n (ap scale_of_kind (p ∙ sym e)))
next_number (Err n) k s m e p q h = absurd (cc)

record Kept (k : Kind) (w : Typed) : Type 0 where
  pub kind : w.kind ≡ k
  pub amount : is_amount w.value ≡ true

next_kept : (r : Answer) (k : Kind) (w : Typed) → OnValue r (λ u. is_amount u.value ≡ true) → then_do r (λ u. Ok (at_kind k u)) ≡ Ok w → Kept k w
next_kept (Ok u) k w q h =
    let e : at_kind k u ≡ w = cc in
    subst (λ (x : Typed). Kept k x) e (record { kind = refl; amount = amount_widened u.value (scale_in u) (scale_of_kind k) q })
next_kept (Err m) k w q h = absurd (cc)

module _ (d : Declarations) (body : Expression) (g : List Binding) (v : Typed) (h : stays_level d body g v ≡ true) where
  amount : is_amount v.value ≡ true
  amount = (both_true _ _ h).0

  rest : (has_scale v.kind (scale_in v) && (is_numeric body && is_level d body (v.kind ∷ kinds_of g) (scale_in v))) ≡ true
  rest = (both_true _ _ h).1

  forms : (is_numeric body ≡ true) × (is_level d body (v.kind ∷ kinds_of g) (scale_in v) ≡ true)
  forms = both_true _ _ (both_true _ _ rest).1

  pub body_level : is_level d body (kinds_of (bound_to v ∷ g)) (scale_in v) ≡ true
  body_level = forms.1

  pub level_day : (F : Environment) (t : ℤ) (m : ℤ) → number_found (run_of d body (bound_to v ∷ g) F t) ≡ Ok m → day_run d body g F t v ≡ Ok (record { kind = v.kind; value = Amount m })
  level_day F t m is =
      next_number (run_of d body (bound_to v ∷ g) F t) v.kind (scale_in v) m (of_scale v.kind (scale_in v) (both_true _ _ rest).0) (level_kind d body (bound_to v ∷ g) F t (scale_in v) body_level) (numeric_is d body v g F t forms.0 amount) is

  pub stays_so : (F : Environment) (t : ℤ) (w : Typed) → day_run d body g F t v ≡ Ok w → stays_level d body g w ≡ true
  stays_so F t w is =
      let kept = next_kept (run_of d body (bound_to v ∷ g) F t) v.kind w (numeric_is d body v g F t forms.0 amount) is in
      both_hold _ _ kept.amount
      (subst (λ (k : Kind). (has_scale k (scale_of_kind k) && (is_numeric body && is_level d body (k ∷ kinds_of g) (scale_of_kind k))) ≡ true) (sym kept.kind) rest)
