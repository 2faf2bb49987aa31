-- What an expression is asks only of the names that it uses: where k of them agree, and every name is among the k nearest,
-- its kind and its value are the same.
use Rattle.std.proofs.Common.{◌≡◌, ℕ, zero, suc, ℤ, pos, ◌+ℤ◌, ◌-ℤ◌, neg_ℤ, ◌+◌, ◌<◌, ◌≤◌, max, not, Bool, true, ◌&&◌, if◌then◌else◌, nat_lt, Option, Some, List, ◌∷◌, slice_get, refl, ap, ap₂, ◌∙◌, arith}
use Rattle.std.proofs.lemmas.Bool.Decides.{nat_tests}
use Rattle.decimal.specs.Rounding.{at_scale, divided}
use Rattle.term_model.specs.Declarations.{Declarations}
use Rattle.term_model.specs.declared.values.Kind.{Kind}
use Rattle.term_model.specs.declared.values.Kind.TheVariants.{Truth as TruthKind, Number}
use Rattle.term_model.specs.declared.values.Value.{Value}
use Rattle.term_model.specs.declared.values.Value.TheVariants.{Num as Amount, Truth}
use Rattle.term_model.specs.Terms.{Expression, Lit, Yes, Var, Obs, Neg, Num, Cmp, Not, Logic, Cond, Widen, Round, Div, Acc}
use Rattle.term_model.specs.Environments.{Environment}
use Rattle.term_model.specs.Kinds.{kind_of, scale_of, scale_of_kind, scale_or_zero, on_number, on_numbers, on_truth, joined, scale_of_op}
use Rattle.term_model.specs.Values.{Entry, kinds, num, truth, of_num, of_cmp, logic_op, widened, kind_or, value_of, value_of_entry, days_run}
use Rattle.term_model.specs.Redexes.{names_within}
use Rattle.term_model.proofs.AlikeFacts.{and_left, and_right}
use Rattle.term_model.proofs.ShiftFacts.{same_acc, same_days, of_two}
use Rattle.rewriting.proofs.NameLists.{where_lt}

-- the first k names are the same
abbrev pub Agree : {A : Type 0} → ℕ → List A → List A → Type 0
Agree k xs ys = (i : ℕ) → i < k → slice_get xs i ≡ slice_get ys i

pub agree_more : {A : Type 0} (k : ℕ) (x : A) (xs ys : List A) → Agree k xs ys → Agree (k + 1) (x ∷ xs) (x ∷ ys)
agree_more k x xs ys h zero lt = refl
agree_more k x xs ys h (suc i) lt = h i (omega arith)

pub agree_none : {A : Type 0} (xs ys : List A) → Agree 0 xs ys
agree_none xs ys i lt = absurd (omega arith)

is_below : (a b : ℕ) → a < b → nat_lt a b ≡ true
is_below a b h = grind (arith, nat_tests)

pub kind_among : (d : Declarations) (e : Expression) (k : ℕ) (ks js : List Kind) → names_within k e ≡ true → Agree k ks js → kind_of d e ks ≡ kind_of d e js
kind_among d (Lit m s) k ks js n h = refl
kind_among d (Yes b) k ks js n h = refl
kind_among d (Var back) k ks js n h = h back (where_lt back k n)
kind_among d (Obs l t) k ks js n h = refl
kind_among d (Neg e) k ks js n h = ap (on_number (λ s. Some (Number s))) (kind_among d e k ks js n h)
kind_among d (Num op a b) k ks js n h = ap₂ (on_numbers (λ s t. Some (Number (scale_of_op op s t)))) (kind_among d a k ks js (and_left _ _ n) h) (kind_among d b k ks js (and_right _ _ n) h)
kind_among d (Cmp op a b) k ks js n h = ap₂ (on_numbers (λ s t. Some TruthKind)) (kind_among d a k ks js (and_left _ _ n) h) (kind_among d b k ks js (and_right _ _ n) h)
kind_among d (Not e) k ks js n h = ap (λ (o : Option Kind). on_truth o (Some TruthKind)) (kind_among d e k ks js n h)
kind_among d (Logic op a b) k ks js n h = ap₂ (λ (o u : Option Kind). on_truth o (on_truth u (Some TruthKind))) (kind_among d a k ks js (and_left _ _ n) h) (kind_among d b k ks js (and_right _ _ n) h)
kind_among d (Cond t a b) k ks js n h =
    let r = and_right (names_within k t) _ n in
    ap₂ on_truth (kind_among d t k ks js (and_left _ _ n) h) (ap₂ joined (kind_among d a k ks js (and_left _ _ r) h) (kind_among d b k ks js (and_right _ _ r) h))
kind_among d (Widen s e) k ks js n h = ap (on_number (λ _. Some (Number s))) (kind_among d e k ks js n h)
kind_among d (Round mode s e) k ks js n h = ap (on_number (λ _. Some (Number s))) (kind_among d e k ks js n h)
kind_among d (Div mode s a b) k ks js n h = ap₂ (on_numbers (λ _ _. Some (Number s))) (kind_among d a k ks js (and_left _ _ n) h) (kind_among d b k ks js (and_right _ _ n) h)
kind_among d (Acc body m first) k ks js n h =
    same_acc (kind_of d first ks) (kind_of d first js) (λ j. kind_of d body (j ∷ ks)) (λ j. kind_of d body (j ∷ js)) (kind_among d first k ks js (and_right _ _ n) h) (λ j. kind_among d body (k + 1) (j ∷ ks) (j ∷ js) (and_left _ _ n) (agree_more k j ks js h))

scale_among : (d : Declarations) (e : Expression) (k : ℕ) (ks js : List Kind) → names_within k e ≡ true → Agree k ks js → scale_of d e ks ≡ scale_of d e js
scale_among d e k ks js n h = ap scale_or_zero (kind_among d e k ks js n h)

-- names of the same kinds and entries
pub record AgreeBoth (k : ℕ) (g h : List Entry) : Type 0 where
  pub same_kinds : Agree k (kinds g) (kinds h)
  pub entries : Agree k g h

both_more : (k : ℕ) (x : Entry) (g h : List Entry) → AgreeBoth k g h → AgreeBoth (k + 1) (x ∷ g) (x ∷ h)
both_more k x g h a = record { same_kinds = agree_more k x.kind (kinds g) (kinds h) a.same_kinds; entries = agree_more k x g h a.entries }

pub both_none : (g h : List Entry) → AgreeBoth 0 g h
both_none g h = record { same_kinds = agree_none (kinds g) (kinds h); entries = agree_none g h }

pub value_among : (d : Declarations) (e : Expression) (k : ℕ) (g h : List Entry) (env : Environment) (f : ℤ) → names_within k e ≡ true → AgreeBoth k g h → value_of d e g env f ≡ value_of d e h env f
value_among d (Lit m s) k g h env f n a = refl
value_among d (Yes b) k g h env f n a = refl
value_among d (Var back) k g h env f n a = ap value_of_entry (a.entries back (where_lt back k n))
value_among d (Obs l t) k g h env f n a = refl
value_among d (Neg e) k g h env f n a = ap (λ (v : Value). Amount (neg_ℤ (num v))) (value_among d e k g h env f n a)
value_among d (Num op x y) k g h env f n a =
    let l = and_left (names_within k x) _ n in
    let r = and_right (names_within k x) _ n in
    of_two (λ i v j w. Amount (of_num op i (num v) j (num w))) _ _ _ _ _ _ _ _ (scale_among d x k _ _ l a.same_kinds) (value_among d x k g h env f l a) (scale_among d y k _ _ r a.same_kinds) (value_among d y k g h env f r a)
value_among d (Cmp op x y) k g h env f n a =
    let l = and_left (names_within k x) _ n in
    let r = and_right (names_within k x) _ n in
    of_two (λ i v j w. Truth (of_cmp op i (num v) j (num w))) _ _ _ _ _ _ _ _ (scale_among d x k _ _ l a.same_kinds) (value_among d x k g h env f l a) (scale_among d y k _ _ r a.same_kinds) (value_among d y k g h env f r a)
value_among d (Not e) k g h env f n a = ap (λ (v : Value). Truth (not (truth v))) (value_among d e k g h env f n a)
value_among d (Logic op x y) k g h env f n a =
    ap₂ (λ (v w : Value). Truth (logic_op op (truth v) (truth w))) (value_among d x k g h env f (and_left _ _ n) a) (value_among d y k g h env f (and_right _ _ n) a)
value_among d (Cond t x y) k g h env f n a =
    let o = and_left (names_within k t) _ n in
    let p = and_right (names_within k t) _ n in
    let l = and_left (names_within k x) _ p in
    let r = and_right (names_within k x) _ p in
    let i = scale_of d x (kinds g) in
    let j = scale_of d y (kinds g) in
    ap (λ (u : Value). if truth u then widened i (max i j) (value_of d x g env f) else widened j (max i j) (value_of d y g env f)) (value_among d t k g h env f o a)
    ∙ of_two (λ i v j w. if truth (value_of d t h env f) then widened i (max i j) v else widened j (max i j) w) _ _ _ _ _ _ _ _ (scale_among d x k _ _ l a.same_kinds) (value_among d x k g h env f l a) (scale_among d y k _ _ r a.same_kinds) (value_among d y k g h env f r a)
value_among d (Widen s e) k g h env f n a = ap₂ (λ (i : ℕ) (v : Value). widened i s v) (scale_among d e k _ _ n a.same_kinds) (value_among d e k g h env f n a)
value_among d (Round mode s e) k g h env f n a =
    ap₂ (λ (i : ℕ) (v : Value). Amount (at_scale mode (num v) i s)) (scale_among d e k _ _ n a.same_kinds) (value_among d e k g h env f n a)
value_among d (Div mode s x y) k g h env f n a =
    let l = and_left (names_within k x) _ n in
    let r = and_right (names_within k x) _ n in
    of_two (λ i v j w. Amount (divided mode (num v) i (num w) j s)) _ _ _ _ _ _ _ _ (scale_among d x k _ _ l a.same_kinds) (value_among d x k g h env f l a) (scale_among d y k _ _ r a.same_kinds) (value_among d y k g h env f r a)
value_among d (Acc body m first) k g h env f n a =
    let l = and_left (names_within (k + 1) body) _ n in
    let r = and_right (names_within (k + 1) body) _ n in
    let run : Option Kind → Value = λ o. days_run m (λ i v. widened (scale_of d body (kind_or o ∷ kinds g)) (scale_of_kind (kind_or o)) (value_of d body (record { value = v; kind = kind_or o } ∷ g) env (f -ℤ pos m +ℤ pos i))) (value_of d first g env (f -ℤ pos m)) in
    ap run (kind_among d first k (kinds g) (kinds h) r a.same_kinds)
    ∙ same_days m _ _ _ _ (value_among d first k g h env (f -ℤ pos m) r a) (λ i v.
    let kind = kind_or (kind_of d first (kinds h)) in
    let entry : Entry = record { value = v; kind = kind } in
    ap₂ (λ (s : ℕ) (u : Value). widened s (scale_of_kind kind) u) (scale_among d body (k + 1) (kind ∷ kinds g) (kind ∷ kinds h) l (agree_more k kind (kinds g) (kinds h) a.same_kinds)) (value_among d body (k + 1) (entry ∷ g) (entry ∷ h) env (f -ℤ pos m +ℤ pos i) l (both_more k entry g h a)))

-- names within some binders are within more
pub names_more : (e : Expression) (j k : ℕ) → j ≤ k → names_within j e ≡ true → names_within k e ≡ true
names_more (Lit m s) j k le n = refl
names_more (Yes b) j k le n = refl
names_more (Var back) j k le n = is_below back k (omega (arith, le, where_lt back j n))
names_more (Obs l t) j k le n = refl
names_more (Neg e) j k le n = names_more e j k le n
names_more (Num op a b) j k le n = both (names_more a j k le (and_left _ _ n)) (names_more b j k le (and_right _ _ n))
  where
    both : {x y : Bool} → x ≡ true → y ≡ true → (x && y) ≡ true
    both h i = rw h i
names_more (Cmp op a b) j k le n = rw (names_more a j k le (and_left _ _ n)) (names_more b j k le (and_right _ _ n))
names_more (Not e) j k le n = names_more e j k le n
names_more (Logic op a b) j k le n = rw (names_more a j k le (and_left _ _ n)) (names_more b j k le (and_right _ _ n))
names_more (Cond t a b) j k le n =
    let r = and_right (names_within j t) _ n in
    rw (names_more t j k le (and_left _ _ n)) (rw (names_more a j k le (and_left _ _ r)) (names_more b j k le (and_right _ _ r)))
names_more (Widen s e) j k le n = names_more e j k le n
names_more (Round mode s e) j k le n = names_more e j k le n
names_more (Div mode s a b) j k le n = rw (names_more a j k le (and_left _ _ n)) (names_more b j k le (and_right _ _ n))
names_more (Acc body m first) j k le n = rw (names_more body (j + 1) (k + 1) (omega (arith, le)) (and_left _ _ n)) (names_more first j k le (and_right _ _ n))
