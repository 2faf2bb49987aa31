-- What a shifted expression reads: what the expression reads so many days later.
use Rattle.std.proofs.Common.{◌≡◌, ℕ, zero, suc, ℤ, pos, ◌+ℤ◌, ◌-ℤ◌, if◌then◌else◌, Bool, List, [], ◌∷◌, ◌++◌, Option, refl, ap, ap₂, ◌∙◌, arith}
use Rattle.std.proofs.lemmas.Int.{ints}
use Rattle.term_model.specs.declared.values.Kind.{Kind}
use Rattle.term_model.specs.declared.values.Value.{Value}
use Rattle.term_model.specs.Terms.{Lit, Yes, Var, Obs, Neg, Num, Cmp, Not, Logic, Cond, Widen, Round, Div, Acc}
use Rattle.term_model.specs.Environments.{Place}
use Rattle.term_model.specs.Kinds.{kind_of, scale_of, scale_of_kind, scale_or_zero}
use Rattle.term_model.specs.Values.{Entry, kinds, truth, widened, kind_or, value_of, days_run}
use Rattle.term_model.specs.Reads.{reads_of, steps_before, decides}
use Rattle.term_model.specs.Shifts.{shifted}
use Rattle.term_model.specs.LawsShifts.{ReadsMoveTheDay}
use Rattle.term_model.proofs.ShiftFacts.{kind-shifted, same_days, value-shifted}

pub same_steps : (n : ℕ) (f g : ℕ → List Place) → ((i : ℕ) → f i ≡ g i) → steps_before n f ≡ steps_before n g
same_steps zero f g h = refl
same_steps (suc n) f g h = ap₂ (λ (xs ys : List Place). xs ++ ys) (same_steps n f g h) (h n)

pub appended : (xs xs' ys ys' : List Place) → xs ≡ xs' → ys ≡ ys' → xs ++ ys ≡ xs' ++ ys'
appended xs xs' ys ys' h k = ap₂ (λ (us vs : List Place). us ++ vs) h k

pub chosen : (b c : Bool) (xs xs' ys ys' : List Place) → b ≡ c → xs ≡ xs' → ys ≡ ys' → (if b then xs else ys) ≡ (if c then xs' else ys')
chosen b c xs xs' ys ys' e h k = ap₂ (λ (us vs : List Place). if b then us else vs) h k ∙ ap (λ (t : Bool). if t then xs' else ys') e

pub reads-shifted : ReadsMoveTheDay
reads-shifted d (Lit m s) k g bs env f = refl
reads-shifted d (Yes b) k g bs env f = refl
reads-shifted d (Var back) k g bs env f = refl
reads-shifted d (Obs l t) k g bs env f = ap (λ (day : ℤ). let q : Place = record { label = l; day = day } in q ∷ []) (omega (arith, ints))
reads-shifted d (Neg e) k g bs env f = reads-shifted d e k g bs env f
reads-shifted d (Num op a b) k g bs env f = appended _ _ _ _ (reads-shifted d a k g bs env f) (reads-shifted d b k g bs env f)
reads-shifted d (Cmp op a b) k g bs env f = appended _ _ _ _ (reads-shifted d a k g bs env f) (reads-shifted d b k g bs env f)
reads-shifted d (Not e) k g bs env f = reads-shifted d e k g bs env f
reads-shifted d (Logic op a b) k g bs env f =
    appended _ _ _ _ (reads-shifted d a k g bs env f) (chosen _ _ [] [] _ _ (ap (λ (v : Value). decides op (truth v)) (value-shifted d a k g env f)) refl (reads-shifted d b k g bs env f))
reads-shifted d (Cond t a b) k g bs env f =
    appended _ _ _ _ (reads-shifted d t k g bs env f) (chosen _ _ _ _ _ _ (ap truth (value-shifted d t k g env f)) (reads-shifted d a k g bs env f) (reads-shifted d b k g bs env f))
reads-shifted d (Widen s e) k g bs env f = reads-shifted d e k g bs env f
reads-shifted d (Round mode s e) k g bs env f = reads-shifted d e k g bs env f
reads-shifted d (Div mode s a b) k g bs env f = appended _ _ _ _ (reads-shifted d a k g bs env f) (reads-shifted d b k g bs env f)
reads-shifted d (Acc body n first) k g bs env f =
    let ks = kinds g in
    let from : (f -ℤ pos n) +ℤ k ≡ (f +ℤ k) -ℤ pos n = omega (arith, ints) in
    let before : Kind → ℕ → Value = λ kind i. days_run i (λ i v. widened (scale_of d (shifted k body) (kind ∷ ks)) (scale_of_kind kind) (value_of d (shifted k body) (record { value = v; kind = kind } ∷ g) env ((f -ℤ pos n) +ℤ pos i))) (value_of d (shifted k first) g env (f -ℤ pos n)) in
    let run : Option Kind → List Place = λ o. reads_of d (shifted k first) g bs env (f -ℤ pos n) ++ steps_before n (λ i. reads_of d (shifted k body) (record { value = before (kind_or o) i; kind = kind_or o } ∷ g) ([] ∷ bs) env ((f -ℤ pos n) +ℤ pos (suc i))) in
    ap run (kind-shifted d first k ks)
    ∙ appended _ _ _ _ (reads-shifted d first k g bs env (f -ℤ pos n) ∙ ap (reads_of d first g bs env) from) (same_steps n _ _ (λ i.
    let kind = kind_or (kind_of d first ks) in
    reads-shifted d body k (record { value = before kind i; kind = kind } ∷ g) ([] ∷ bs) env ((f -ℤ pos n) +ℤ pos (suc i))
    ∙ ap₂ (λ (v : Value) (h : ℤ). let entry : Entry = record { value = v; kind = kind } in reads_of d body (entry ∷ g) ([] ∷ bs) env h)
    (same_days i _ _ _ _ (value-shifted d first k g env (f -ℤ pos n) ∙ ap (value_of d first g env) from) (λ i' v.
    let es : List Entry = record { value = v; kind = kind } ∷ g in
    ap₂ (λ (s : ℕ) (u : Value). widened s (scale_of_kind kind) u) (ap scale_or_zero (kind-shifted d body k (kind ∷ ks))) (value-shifted d body k es env (f -ℤ pos n +ℤ pos i') ∙ ap (value_of d body es env) (omega (arith, ints)))))
    (omega (arith, ints))))
