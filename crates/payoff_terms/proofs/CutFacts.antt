-- Cut code has the value that the code has where days gone by count nothing, and the same scale.
use Rattle.std.proofs.Common.{◌≡◌, ℕ, ℤ, pos, ◌+ℤ◌, ◌-ℤ◌, ◌*ℤ◌, ◌<ℤ◌, ◌≤ℤ◌, ◌-◌, max, Bool, true, false, if◌then◌else◌, int_lt, List, [], ◌∷◌, Option, Some, None, refl, ap, ap₂, sym, ◌∙◌, arith}
use Rattle.std.proofs.Math.IntN.{zero-*ℤ}
use Rattle.std.proofs.lemmas.Int.{ints, by_lt_z}
use Rattle.decimal.specs.Rounding.{raised}
use Rattle.term_model.specs.Declarations.{Declarations}
use Rattle.term_model.specs.declared.values.Kind.{Kind}
use Rattle.term_model.specs.Environments.{Environment}
use Rattle.term_model.specs.Values.{Entry, kinds, num}
use Rattle.term_model.specs.Factors.{CurveRow, IsCurve, last_factor, discount_factor}
use Rattle.term_model.specs.Flows.{Flow, unit_flow}
use Rattle.payoff_terms.specs.TemplateDates.{day_of}
use Rattle.payoff_terms.specs.Code.{PayoffCode, Nothing, PayOn, Add, ScaleBy, LetBe, Loop, Cut}
use Rattle.payoff_terms.specs.CodeValues.{Asked, scale_of_code, value_at, kind_at, entry_at, first_true_at, code_value}
use Rattle.payoff_terms.specs.Compiled.{cut_code}

pub is_below : (a b : ℤ) → a <ℤ b → int_lt a b ≡ true
is_below a b h = grind (arith, ints)

pub not_below : (a b : ℤ) → b ≤ℤ a → int_lt a b ≡ false
not_below a b h = grind (arith, ints)

pub cut_scale : (d : Declarations) (k : PayoffCode) (ks : List Kind) → scale_of_code d (cut_code k) ks ≡ scale_of_code d k ks
cut_scale d Nothing ks = refl
cut_scale d (PayOn x a p q) ks = refl
cut_scale d (Add k l) ks = ap₂ max (cut_scale d k ks) (cut_scale d l ks)
cut_scale d (ScaleBy v k) ks = omega (arith, cut_scale d k ks)
cut_scale d (LetBe v k) ks = cut_scale d k (kind_at d v ks ∷ ks)
cut_scale d (Loop v x k l) ks = ap₂ max (cut_scale d k ks) (cut_scale d l ks)
cut_scale d (Cut x k) ks = cut_scale d k ks

-- on days to come what counts for days gone by has no part
factor_ahead : (curve : List CurveRow) (v w o : ℤ) → IsCurve curve → pos 0 ≤ℤ o → last_factor curve v o ≡ last_factor curve w o
factor_ahead [] v w o h le = absurd h
factor_ahead (row ∷ rest) v w o h le =
    let first : int_lt o (pos row.offset) ≡ false = not_below o (pos row.offset) (omega (arith, ints, h.0)) in
    rw first refl

cut_payment : (curve : List CurveRow) (day now w unit : ℤ) → IsCurve curve → (if int_lt day now then pos 0 else discount_factor curve w (day -ℤ now) *ℤ unit) ≡ discount_factor curve (pos 0) (day -ℤ now) *ℤ unit
cut_payment curve day now w unit h =
    by_lt_z day now
    (λ lt. rw (is_below day now lt, is_below (day -ℤ now) (pos 0) (omega (arith, ints))) (sym (zero-*ℤ unit)))
    (λ ge. rw (not_below day now ge, not_below (day -ℤ now) (pos 0) (omega (arith, ints))) (ap (λ (z : ℤ). z *ℤ unit) (factor_ahead curve w (pos 0) (day -ℤ now) h (omega (arith, ints)))))

two_parts : (v v' w w' : ℤ) (i i' j j' : ℕ) → v ≡ v' → w ≡ w' → i ≡ i' → j ≡ j' → raised v (max i j - i) +ℤ raised w (max i j - j) ≡ raised v' (max i' j' - i') +ℤ raised w' (max i' j' - j')
two_parts v v' w w' i i' j j' a b c e =
    ap₂ (λ (s t : ℤ). raised s (max i j - i) +ℤ raised t (max i j - j)) a b
    ∙ ap₂ (λ (s t : ℕ). raised v' (max s t - s) +ℤ raised w' (max s t - t)) c e

-- the branch that is entered
abbrev chosen : Option ℕ → (ℕ → ℤ) → ℤ → ℕ → ℕ → ℤ
chosen o v w i j = elim o [ Some n ↦ raised (v n) (max i j - i) | None ↦ raised w (max i j - j) ]

two_branches : (o : Option ℕ) (v v' : ℕ → ℤ) (w w' : ℤ) (i i' j j' : ℕ) → ((n : ℕ) → v n ≡ v' n) → w ≡ w' → i ≡ i' → j ≡ j' → chosen o v w i j ≡ chosen o v' w' i' j'
two_branches (Some n) v v' w w' i i' j j' a b c e = ap₂ (λ (s t : ℕ). raised (v n) (max s t - s)) c e ∙ ap (λ (z : ℤ). raised z (max i' j' - i')) (a n)
two_branches None v v' w w' i i' j j' a b c e = ap₂ (λ (s t : ℕ). raised w (max s t - t)) c e ∙ ap (λ (z : ℤ). raised z (max i' j' - j')) b

cut_or : (b : Bool) (v w : ℤ) → v ≡ w → (if b then pos 0 else v) ≡ (if b then pos 0 else w)
cut_or true v w h = refl
cut_or false v w h = h

abbrev pub asked : ℤ → List CurveRow → ℤ → Flow → Asked
asked now curve gone w = record { now = now; curve = curve; gone = gone; flow = w }

pub cut_value : (d : Declarations) (k : PayoffCode) (g : List Entry) (env : Environment) (xs : List ℕ) (now : ℤ) (curve : List CurveRow) (gone : ℤ) (w : Flow) (b : ℤ) → IsCurve curve → code_value d (cut_code k) g env xs (asked now curve gone w) b ≡ code_value d k g env xs (asked now curve (pos 0) w) b
cut_value d Nothing g env xs now curve gone w b h = refl
cut_value d (PayOn x a p q) g env xs now curve gone w b h =
    cut_payment curve (b +ℤ day_of xs x) now gone (unit_flow a p q w) h
cut_value d (Add k l) g env xs now curve gone w b h =
    two_parts _ _ _ _ _ _ _ _ (cut_value d k g env xs now curve gone w b h) (cut_value d l g env xs now curve gone w b h) (cut_scale d k (kinds g)) (cut_scale d l (kinds g))
cut_value d (ScaleBy v k) g env xs now curve gone w b h =
    ap (λ (z : ℤ). num (value_at d v g env xs b) *ℤ z) (cut_value d k g env xs now curve gone w b h)
cut_value d (LetBe v k) g env xs now curve gone w b h =
    cut_value d k (entry_at d v g env xs b ∷ g) env xs now curve gone w b h
cut_value d (Loop v x k l) g env xs now curve gone w b h =
    two_branches (first_true_at d v g env xs b (day_of xs x)) _ _ _ _ _ _ _ _ (λ n. cut_value d k g env xs now curve gone w (b +ℤ pos n) h) (cut_value d l g env xs now curve gone w b h) (cut_scale d k (kinds g)) (cut_scale d l (kinds g))
cut_value d (Cut x k) g env xs now curve gone w b h =
    cut_or (int_lt (b +ℤ day_of xs x) now) _ _ (cut_value d k g env xs now curve gone w b h)
