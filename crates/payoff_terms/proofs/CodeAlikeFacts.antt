-- Code in two environments that read equally at every place that passes a test: it reads the same up to the first place
-- that fails it, and where none fails it has the same value. And code that reaches no payment is worth nothing.
use Rattle.std.proofs.Common.{◌≡◌, ℕ, ℤ, pos, negsuc, ◌+ℤ◌, ◌*ℤ◌, ◌≤◌, ◌-◌, min, max, Bool, true, false, ◌&&◌, ◌||◌, not, ◌==◌, if◌then◌else◌, int_lt, List, [], ◌∷◌, ◌++◌, Option, Some, None, refl, ap, subst, sym, ◌∙◌, arith}
use Rattle.std.proofs.Math.IntN.{*ℤ-zero}
use Rattle.decimal.specs.Rounding.{raised}
use Rattle.term_model.specs.Declarations.{Declarations}
use Rattle.term_model.specs.declared.values.Kind.{Kind}
use Rattle.term_model.specs.declared.values.Value.{Value}
use Rattle.term_model.specs.Environments.{Environment, Place}
use Rattle.term_model.specs.Values.{Entry, kinds, num, truth, first_of}
use Rattle.term_model.specs.Flows.{Flow, unit_flow}
use Rattle.term_model.specs.Reads.{is_fixed, upto, tested}
use Rattle.term_model.proofs.FlowFacts.{one_zero, first_within}
use Rattle.term_model.proofs.AlikeFacts.{Alike, then_alike, same_alike, one_alike, two_alike, moved_alike}
use Rattle.term_model.proofs.ReadFacts.{SameWhere, SameNames, one_more, reads_alike}
use Rattle.term_model.proofs.ReadLawFacts.{all_fixed, extension_reads, no_names}
use Rattle.term_model.proofs.FirstFacts.{scan, scanned, scan_alike}
use Rattle.payoff_terms.specs.TemplateDates.{day_of}
use Rattle.payoff_terms.specs.Dating.{at_setting}
use Rattle.payoff_terms.specs.Code.{ValueExpression, PayoffCode, Nothing, PayOn, Add, ScaleBy, LetBe, Loop, Cut}
use Rattle.payoff_terms.specs.CodeValues.{Asked, factor_on, value_at, kind_at, entry_at, scale_of_code, first_true_at, code_value}
use Rattle.payoff_terms.specs.CodeReads.{value_reads, concerns, reaches_payment, upto_first, reads_of_code}
use Rattle.payoff_terms.specs.LawsCode.{CodeValuesAreFixed}
use Rattle.term_model.proofs.ContractReadFacts.{or_false, sum_zero}

-- ---- no payment, no value

-- where neither way is the one that is asked for, no unit flows
no_unit : (on same there back : Bool) → (on && not same && (there || back)) ≡ false → (if on && not same then (if there then pos 1 else (if back then negsuc 0 else pos 0)) else pos 0) ≡ pos 0
no_unit false same there back h = refl
no_unit true true there back h = refl
no_unit true false true back h = absurd (cc)
no_unit true false false true h = absurd (cc)
no_unit true false false false h = refl

unit_none : (u p q : ℕ) (w : Flow) → concerns u p q w ≡ false → unit_flow u p q w ≡ pos 0
unit_none u p q w h = no_unit (u == w.asset) (p == q) ((p == w.from) && (q == w.to)) ((p == w.to) && (q == w.from)) h

abbrev pub either : {A : Type 0} → Option ℕ → (ℕ → A) → A → A
either o x y = elim o [ Some k ↦ x k | None ↦ y ]

branch_none : (o : Option ℕ) (r : ℕ → Bool) (s : Bool) (x : ℕ → ℤ) (y : ℤ) (k l : ℕ) → either o r s ≡ false → ((i : ℕ) → r i ≡ false → x i ≡ pos 0) → (s ≡ false → y ≡ pos 0) → either o (λ i. raised (x i) k) (raised y l) ≡ pos 0
branch_none (Some i) r s x y k l h hx hy = one_zero (x i) k (hx i h)
branch_none None r s x y k l h hx hy = one_zero y l (hy h)

cut_none : (b r : Bool) (x : ℤ) → (if b then false else r) ≡ false → (r ≡ false → x ≡ pos 0) → (if b then pos 0 else x) ≡ pos 0
cut_none true r x h k = refl
cut_none false r x h k = k h

pub unreached : (d : Declarations) (k : PayoffCode) (g : List Entry) (env : Environment) (xs : List ℕ) (a : Asked) (b : ℤ) → reaches_payment d k g env xs a b ≡ false → code_value d k g env xs a b ≡ pos 0
unreached d Nothing g env xs a b h = refl
unreached d (PayOn x u p q) g env xs a b h =
    ap (λ (z : ℤ). factor_on a (b +ℤ day_of xs x) *ℤ z) (unit_none u p q a.flow h) ∙ *ℤ-zero (factor_on a (b +ℤ day_of xs x))
unreached d (Add k l) g env xs a b h =
    let none = or_false (reaches_payment d k g env xs a b) (reaches_payment d l g env xs a b) h in
    sum_zero _ _ _ _ (unreached d k g env xs a b none.0) (unreached d l g env xs a b none.1)
unreached d (ScaleBy v k) g env xs a b h =
    ap (λ (z : ℤ). num (value_at d v g env xs b) *ℤ z) (unreached d k g env xs a b h) ∙ *ℤ-zero (num (value_at d v g env xs b))
unreached d (LetBe v k) g env xs a b h = unreached d k (entry_at d v g env xs b ∷ g) env xs a b h
unreached d (Loop v x k l) g env xs a b h =
    branch_none (first_true_at d v g env xs b (day_of xs x)) (λ n. reaches_payment d k g env xs a (b +ℤ pos n)) (reaches_payment d l g env xs a b) (λ n. code_value d k g env xs a (b +ℤ pos n)) (code_value d l g env xs a b) _ _ h
    (λ n r. unreached d k g env xs a (b +ℤ pos n) r) (λ r. unreached d l g env xs a b r)
unreached d (Cut x k) g env xs a b h =
    cut_none (int_lt (b +ℤ day_of xs x) a.now) (reaches_payment d k g env xs a b) (code_value d k g env xs a b) h (unreached d k g env xs a b)

-- ---- two environments

-- what code is worth, and whether it reaches a payment
abbrev pub Worth : Type 0
Worth = ℤ × Bool

abbrev pub worth : Declarations → PayoffCode → List Entry → Environment → List ℕ → Asked → ℤ → Worth
worth d k g env xs a b = (code_value d k g env xs a b, reaches_payment d k g env xs a b)

scaled_of : {ok : Place → Bool} {us vs : List Place} {v w : Value} (x : ℤ) (r : Bool) → (r ≡ false → x ≡ pos 0) → Alike Value ok us v vs w → Alike Worth ok (if r then us else []) (num v *ℤ x, r) (if r then vs else []) (num w *ℤ x, r)
scaled_of x true h a = one_alike (λ ks z. (num z *ℤ x, true)) [] [] refl a
scaled_of {ok} {us} {vs} {v} {w} x false h a =
    record {
      lists = refl;
      values = λ p. ap (λ (z : ℤ). (z, false)) (ap (λ (z : ℤ). num v *ℤ z) (h refl) ∙ *ℤ-zero (num v) ∙ sym (ap (λ (z : ℤ). num w *ℤ z) (h refl) ∙ *ℤ-zero (num w)));
    }

scaled_alike : {ok : Place → Bool} {us vs : List Place} {v w : Value} (p q : Worth) → p ≡ q → (p.1 ≡ false → p.0 ≡ pos 0) → Alike Value ok us v vs w → Alike Worth ok (if p.1 then us else []) (num v *ℤ p.0, p.1) (if q.1 then vs else []) (num w *ℤ q.0, q.1)
scaled_alike {ok} {us} {vs} {v} {w} p q e h a =
    subst (λ (z : Worth). Alike Worth ok (if p.1 then us else []) (num v *ℤ p.0, p.1) (if z.1 then vs else []) (num w *ℤ z.0, z.1)) e (scaled_of p.0 p.1 h a)

branch_of : {ok : Place → Bool} (o : Option ℕ) (rx sx : ℕ → List Place) (ry sy : List Place) (x w : ℕ → Worth) (y z : Worth) → ((n : ℕ) → Alike Worth ok (rx n) (x n) (sx n) (w n)) → Alike Worth ok ry y sy z → Alike Worth ok (either o rx ry) (either o x y) (either o sx sy) (either o w z)
branch_of (Some n) rx sx ry sy x w y z h k = h n
branch_of None rx sx ry sy x w y z h k = k

branch_alike : {ok : Place → Bool} (o u : Option ℕ) (rx sx : ℕ → List Place) (ry sy : List Place) (x w : ℕ → Worth) (y z : Worth) → o ≡ u → ((n : ℕ) → Alike Worth ok (rx n) (x n) (sx n) (w n)) → Alike Worth ok ry y sy z → Alike Worth ok (either o rx ry) (either o x y) (either u sx sy) (either u w z)
branch_alike {ok} o u rx sx ry sy x w y z e h k =
    subst (λ (r : Option ℕ). Alike Worth ok (either o rx ry) (either o x y) (either r sx sy) (either r w z)) e (branch_of o rx sx ry sy x w y z h k)

-- the worth of a loop, by the branch that it enters
abbrev both_of : ℤ → Bool → Worth
both_of v r = (v, r)

loop_worth : (o : Option ℕ) (x : ℕ → Worth) (y : Worth) (i j : ℕ) → both_of (either o (λ n. raised (x n).0 i) (raised y.0 j)) (either o (λ n. (x n).1) y.1) ≡ either o (λ n. both_of (raised (x n).0 i) (x n).1) (both_of (raised y.0 j) y.1)
loop_worth (Some n) x y i j = refl
loop_worth None x y i j = refl

cut_alike : {ok : Place → Bool} {us vs : List Place} (b : Bool) (p q : Worth) → Alike Worth ok us p vs q → Alike Worth ok (if b then [] else us) (if b then pos 0 else p.0, if b then false else p.1) (if b then [] else vs) (if b then pos 0 else q.0, if b then false else q.1)
cut_alike true p q h = same_alike [] (pos 0, false)
cut_alike false p q h = h

-- the days of a test
tests_read : (m : ℕ) (p : ℕ → Bool) (f : ℕ → List Place) → upto_first (first_of m p) (pos m) f ≡ scan m p f
tests_read m p f = last (first_of m p) (first_within m p) ∙ scanned m m p f ∙ ap (λ (i : ℕ). scan i p f) least
  where
    least : min m m ≡ m
    least = omega arith

    last : (o : Option ℕ) → ((k : ℕ) → o ≡ Some k → k ≤ m) → upto_first o (pos m) f ≡ upto (tested o m (pos m)) f
    last (Some k) h =
        let e : k ≡ min k m = omega (arith, h k refl) in
        ap (λ (i : ℕ). upto i f) e
    last None h =
        let e : m ≡ min m m = omega arith in
        ap (λ (i : ℕ). upto i f) e

abbrev pub CodeAlike : Declarations → (Place → Bool) → Environment → Environment → PayoffCode → Type 0
CodeAlike d ok one other k =
    (g h : List Entry) (bs cs : List (List Place)) → SameNames ok g bs h cs → (xs : List ℕ) (a : Asked) (b : ℤ)
    → Alike Worth ok (reads_of_code d k g bs one xs a b) (worth d k g one xs a b) (reads_of_code d k h cs other xs a b) (worth d k h other xs a b)

-- a test of a loop
test_alike : (d : Declarations) (ok : Place → Bool) (one other : Environment) → SameWhere d ok one other → (v : ValueExpression) (g h : List Entry) (bs cs : List (List Place)) → SameNames ok g bs h cs → (xs : List ℕ) (b n : ℤ) → Alike (Option ℕ) ok (upto_first (first_true_at d v g one xs b n) n (λ i. value_reads d v g bs one xs (b +ℤ pos i))) (first_true_at d v g one xs b n) (upto_first (first_true_at d v h other xs b n) n (λ i. value_reads d v h cs other xs (b +ℤ pos i))) (first_true_at d v h other xs b n)
test_alike d ok one other same v g h bs cs s xs b (negsuc n) = same_alike [] None
test_alike d ok one other same v g h bs cs s xs b (pos n) =
    moved_alike _ _ (sym (tests_read n (λ i. truth (value_at d v g one xs (b +ℤ pos i))) (λ i. value_reads d v g bs one xs (b +ℤ pos i)))) (sym (tests_read n (λ i. truth (value_at d v h other xs (b +ℤ pos i))) (λ i. value_reads d v h cs other xs (b +ℤ pos i))))
    (scan_alike n _ _ _ _ (λ i. one_alike (λ ks z. truth z) [] [] refl (reads_alike d ok one other same (at_setting xs v) g h bs cs s (b +ℤ pos i))))

pub code_alike : (d : Declarations) (ok : Place → Bool) (one other : Environment) → SameWhere d ok one other → (k : PayoffCode) → CodeAlike d ok one other k
code_alike d ok one other same Nothing g h bs cs s xs a b = same_alike [] (pos 0, false)
code_alike d ok one other same (PayOn x u p q) g h bs cs s xs a b = same_alike [] (worth d (PayOn x u p q) g one xs a b)
code_alike d ok one other same (Add k l) g h bs cs s xs a b =
    two_alike (λ ks p q. (raised p.0 (max (scale_of_code d k ks) (scale_of_code d l ks) - scale_of_code d k ks) +ℤ raised q.0 (max (scale_of_code d k ks) (scale_of_code d l ks) - scale_of_code d l ks), p.1 || q.1)) (kinds g) (kinds h) s.same_kinds
    (code_alike d ok one other same k g h bs cs s xs a b) (code_alike d ok one other same l g h bs cs s xs a b)
code_alike d ok one other same (ScaleBy v k) g h bs cs s xs a b =
    then_alike (code_alike d ok one other same k g h bs cs s xs a b) (λ known.
    scaled_alike (worth d k g one xs a b) (worth d k h other xs a b) known (unreached d k g one xs a b) (reads_alike d ok one other same (at_setting xs v) g h bs cs s b))
code_alike d ok one other same (LetBe v k) g h bs cs s xs a b =
    let x = value_at d v g one xs b in
    let y = value_at d v h other xs b in
    let kind = kind_at d v (kinds g) in
    let names = one_more ok g bs h cs x y kind (value_reads d v g bs one xs b) (value_reads d v h cs other xs b) s (reads_alike d ok one other same (at_setting xs v) g h bs cs s b) in
    subst (λ (ks : List Kind). Alike Worth ok (reads_of_code d k (record { value = x; kind = kind } ∷ g) (value_reads d v g bs one xs b ∷ bs) one xs a b) (worth d k (record { value = x; kind = kind } ∷ g) one xs a b) (reads_of_code d k (record { value = y; kind = kind_at d v ks } ∷ h) (value_reads d v h cs other xs b ∷ cs) other xs a b) (worth d k (record { value = y; kind = kind_at d v ks } ∷ h) other xs a b)) s.same_kinds
    (code_alike d ok one other same k (record { value = x; kind = kind } ∷ g) (record { value = y; kind = kind } ∷ h) (value_reads d v g bs one xs b ∷ bs) (value_reads d v h cs other xs b ∷ cs) names xs a b)
code_alike d ok one other same (Loop v x k l) g h bs cs s xs a b =
    let n = day_of xs x in
    let o = first_true_at d v g one xs b n in
    let u = first_true_at d v h other xs b n in
    let up : List Kind → ℕ = λ ks. max (scale_of_code d k ks) (scale_of_code d l ks) - scale_of_code d k ks in
    let up' : List Kind → ℕ = λ ks. max (scale_of_code d k ks) (scale_of_code d l ks) - scale_of_code d l ks in
    let all = upto_first o n (λ i. value_reads d v g bs one xs (b +ℤ pos i)) ++ either o (λ i. reads_of_code d k g bs one xs a (b +ℤ pos i)) (reads_of_code d l g bs one xs a b) in
    let all' = upto_first u n (λ i. value_reads d v h cs other xs (b +ℤ pos i)) ++ either u (λ i. reads_of_code d k h cs other xs a (b +ℤ pos i)) (reads_of_code d l h cs other xs a b) in
    let there : Alike Worth ok all (either o (λ i. (raised (code_value d k g one xs a (b +ℤ pos i)) (up (kinds g)), reaches_payment d k g one xs a (b +ℤ pos i))) (raised (code_value d l g one xs a b) (up' (kinds g)), reaches_payment d l g one xs a b)) all' (either u (λ i. (raised (code_value d k h other xs a (b +ℤ pos i)) (up (kinds h)), reaches_payment d k h other xs a (b +ℤ pos i))) (raised (code_value d l h other xs a b) (up' (kinds h)), reaches_payment d l h other xs a b)) =
    then_alike (test_alike d ok one other same v g h bs cs s xs b n) (λ first.
    branch_alike o u _ _ _ _ _ _ _ _ first
    (λ i. one_alike (λ ks p. (raised p.0 (up ks), p.1)) (kinds g) (kinds h) s.same_kinds (code_alike d ok one other same k g h bs cs s xs a (b +ℤ pos i)))
    (one_alike (λ ks p. (raised p.0 (up' ks), p.1)) (kinds g) (kinds h) s.same_kinds (code_alike d ok one other same l g h bs cs s xs a b))) in
    subst (λ (p : Worth). Alike Worth ok all p all' (worth d (Loop v x k l) h other xs a b)) (sym (loop_worth o (λ i. worth d k g one xs a (b +ℤ pos i)) (worth d l g one xs a b) (up (kinds g)) (up' (kinds g))))
    (subst (λ (p : Worth). Alike Worth ok all (either o (λ i. (raised (code_value d k g one xs a (b +ℤ pos i)) (up (kinds g)), reaches_payment d k g one xs a (b +ℤ pos i))) (raised (code_value d l g one xs a b) (up' (kinds g)), reaches_payment d l g one xs a b)) all' p) (sym (loop_worth u (λ i. worth d k h other xs a (b +ℤ pos i)) (worth d l h other xs a b) (up (kinds h)) (up' (kinds h)))) there)
code_alike d ok one other same (Cut x k) g h bs cs s xs a b =
    cut_alike (int_lt (b +ℤ day_of xs x) a.now) (worth d k g one xs a b) (worth d k h other xs a b) (code_alike d ok one other same k g h bs cs s xs a b)

-- where each place that code reads is fixed, its value stays in every environment that extends the fixings
pub code_stays : CodeValuesAreFixed
code_stays d k fixings env xs a b x none =
    sym (ap (λ (p : Worth). p.0) ((code_alike d (is_fixed fixings) fixings env (λ q fixed. sym (extension_reads d fixings env x q fixed)) k [] [] [] [] (no_names (is_fixed fixings)) xs a b).values (all_fixed fixings (reads_of_code d k [] [] fixings xs a b) none)))
