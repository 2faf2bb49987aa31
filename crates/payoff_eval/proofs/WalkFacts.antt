-- What a walk over code answers, by the model.
use Rattle.std.proofs.Common.{◌≡◌, ℕ, zero, suc, ℤ, pos, negsuc, ◌+ℤ◌, ◌*ℤ◌, ◌≤◌, ◌+◌, ◌-◌, ◌^◌, max, Bool, true, false, ◌||◌, if◌then◌else◌, int_lt, List, [], ◌∷◌, ◌++◌, Option, Some, None, Ok, Result, refl, ap, ap₂, sym, ◌∙◌, arith}
use Rattle.std.proofs.Math.IntN.{*ℤ-zero}
use Rattle.decimal.specs.Rounding.{raised}
use Rattle.term_model.specs.Declarations.{Declarations}
use Rattle.term_model.specs.declared.values.Value.{Value}
use Rattle.term_model.specs.declared.values.Missing.{Missing}
use Rattle.term_model.specs.Environments.{Environment, Place}
use Rattle.term_model.specs.Kinds.{scale_of}
use Rattle.term_model.specs.Values.{Entry, kinds, num, truth, first_of}
use Rattle.term_model.specs.Reads.{first_unfixed, is_fixed, steps_before}
use Rattle.term_model.proofs.FlowFacts.{one_zero, raised-zero}
use Rattle.expr_eval.specs.Trials.{or_next, first_tried}
use Rattle.payoff_terms.specs.TemplateDates.{day_of}
use Rattle.payoff_terms.specs.Dating.{undated}
use Rattle.payoff_terms.specs.Code.{PayoffCode, Nothing, PayOn, Add, ScaleBy, LetBe, Loop, Cut}
use Rattle.payoff_terms.specs.CodeValues.{Asked, value_at, entry_at, first_upto, first_true_at, code_value, scale_of_code}
use Rattle.payoff_terms.specs.CodeReads.{value_reads, upto_first, reaches_payment, reads_of_code}
use Rattle.term_model.proofs.Products.{mul-assoc, parts_raised}
use Rattle.payoff_terms.proofs.CodeAlikeFacts.{unreached, either}
use Rattle.payoff_eval.specs.declared.walk.Worth.{Worth}
use Rattle.payoff_eval.specs.Walks.{nothing_reached, unless, answer_at, tries, then_added, then_scaled, then_branch, walk_of}
use Rattle.payoff_terms.proofs.ValueFacts.{raised_up}

-- ---- the first place that is not fixed, of two lists

abbrev or_else : Option Place → Option Place → Option Place
or_else (Some q) o = Some q
or_else None o = o

first-by : (F : Environment) (fixed : Bool) (q : Place) (o u w : Option Place) → o ≡ or_else u w → (if fixed then o else Some q) ≡ or_else (if fixed then u else Some q) w
first-by F true q o u w h = h
first-by F false q o u w h = refl

first-append : (F : Environment) (ps qs : List Place) → first_unfixed F (ps ++ qs) ≡ or_else (first_unfixed F ps) (first_unfixed F qs)
first-append F [] qs = refl
first-append F (q ∷ ps) qs = first-by F (is_fixed F q) q (first_unfixed F (ps ++ qs)) (first_unfixed F ps) (first_unfixed F qs) (first-append F ps qs)

-- ---- one step after another

abbrev pub worth : ℤ → Bool → Worth
worth v r = record { amount = v; reached = r }

added_unless : (o u : Option Place) (v w : ℤ) (r s : Bool) → then_added (unless o (worth v r)) (unless u (worth w s)) ≡ unless (or_else o u) (worth (v +ℤ w) (r || s))
added_unless (Some q) u v w r s = refl
added_unless None (Some q) v w r s = refl
added_unless None None v w r s = refl

scaled_unless : (F : Environment) (o : Option Place) (rs : List Place) (r : Bool) (v : ℤ) (x : Value) → (r ≡ false → v ≡ pos 0) → then_scaled (unless o (worth v r)) (unless (first_unfixed F rs) x) ≡ unless (or_else o (first_unfixed F (if r then rs else []))) (worth (num x *ℤ v) r)
scaled_unless F (Some q) rs r v x h = refl
scaled_unless F None rs true v x h = by_factor (first_unfixed F rs)
  where
    by_factor : (u : Option Place) → then_scaled (Ok (worth v true)) (unless u x) ≡ unless u (worth (num x *ℤ v) true)
    by_factor (Some q) = refl
    by_factor None = refl
scaled_unless F None rs false v x h =
    let zero_it : num x *ℤ v ≡ pos 0 = ap (λ (z : ℤ). num x *ℤ z) (h refl) ∙ *ℤ-zero (num x) in
    ap (λ (z : ℤ). unless None (worth z false)) (sym zero_it)

-- ---- the days of a test

-- the first of the days below n
abbrev first_below : ℕ → (ℕ → Bool) → Option ℕ
first_below zero p = None
first_below (suc n) p = elim (first_below n p) [ Some i ↦ Some i | None ↦ if p n then Some n else None ]

-- how many days are tried
abbrev days_tried : Option ℕ → ℕ → ℕ
days_tried (Some k) n = suc k
days_tried None n = n

all_tried : (n : ℕ) (b : Bool) → days_tried (if b then Some n else None) (suc n) ≡ suc n
all_tried n true = refl
all_tried n false = refl

stays : (u : Option Place) (k n : ℕ) (a : Result Value Missing) → or_next (unless u (Some k)) n a ≡ unless u (Some k)
stays (Some q) k n a = refl
stays None k n a = refl

goes_on : (o u : Option Place) (n : ℕ) (v : Value) → or_next (unless o None) n (unless u v) ≡ unless (or_else o u) (if truth v then Some n else None)
goes_on (Some q) u n v = refl
goes_on None (Some q) n v = refl
goes_on None None n v = refl

next_day : (F : Environment) (r : ℕ → List Place) (n : ℕ) (o : Option ℕ) (v : Value) → or_next (unless (first_unfixed F (steps_before (days_tried o n) r)) o) n (unless (first_unfixed F (r n)) v) ≡ unless (first_unfixed F (steps_before (days_tried (elim o [ Some i ↦ Some i | None ↦ if truth v then Some n else None ]) (suc n)) r)) (elim o [ Some i ↦ Some i | None ↦ if truth v then Some n else None ])
next_day F r n (Some k) v = stays (first_unfixed F (steps_before (suc k) r)) k n (unless (first_unfixed F (r n)) v)
next_day F r n None v =
    goes_on (first_unfixed F (steps_before n r)) (first_unfixed F (r n)) n v
    ∙ ap (λ (u : Option Place). unless u (if truth v then Some n else None)) (sym (first-append F (steps_before n r) (r n)) ∙ ap (λ (m : ℕ). first_unfixed F (steps_before m r)) (sym (all_tried n (truth v))))

tried_is : (F : Environment) (r : ℕ → List Place) (v : ℕ → Value) (n : ℕ) → first_tried n (λ i. unless (first_unfixed F (r i)) (v i)) ≡ unless (first_unfixed F (steps_before (days_tried (first_below n (λ i. truth (v i))) n) r)) (first_below n (λ i. truth (v i)))
tried_is F r v zero = refl
tried_is F r v (suc n) =
    ap (λ (a : Result (Option ℕ) Missing). or_next a n (unless (first_unfixed F (r n)) (v n))) (tried_is F r v n)
    ∙ next_day F r n (first_below n (λ i. truth (v i))) (v n)

below_is : (n : ℕ) (p : ℕ → Bool) → first_below (suc n) p ≡ first_of n p
below_is zero p = refl
below_is (suc n) p = ap (λ (o : Option ℕ). elim o [ Some i ↦ Some i | None ↦ if p (suc n) then Some (suc n) else None ]) (below_is n p)

days_read : (o : Option ℕ) (n : ℕ) (r : ℕ → List Place) → steps_before (days_tried o (suc n)) r ≡ upto_first o (pos n) r
days_read (Some k) n r = refl
days_read None n r = refl

-- a test of a loop: the first true day, or the first place that is not fixed
tests_are : (F : Environment) (r : ℕ → List Place) (v : ℕ → Value) (n : ℤ) → first_tried (tries n) (λ i. unless (first_unfixed F (r i)) (v i)) ≡ unless (first_unfixed F (upto_first (first_upto n (λ i. truth (v i))) n r)) (first_upto n (λ i. truth (v i)))
tests_are F r v (pos n) =
    tried_is F r v (suc n)
    ∙ ap (λ (o : Option ℕ). unless (first_unfixed F (steps_before (days_tried o (suc n)) r)) o) (below_is n (λ i. truth (v i)))
    ∙ ap (λ (qs : List Place). unless (first_unfixed F qs) (first_of n (λ i. truth (v i)))) (days_read (first_of n (λ i. truth (v i))) n r)
tests_are F r v (negsuc n) = refl

-- ---- the branch that is entered

branch_unless : (F : Environment) (decimals i j : ℕ) (o : Option ℕ) (ts : List Place) (rx : ℕ → List Place) (ry : List Place) (v : ℕ → ℤ) (w : ℤ) (r : ℕ → Bool) (s : Bool) (hit : ℕ → Result Worth Missing) (miss : Result Worth Missing)
    → max i j ≤ decimals → ((n : ℕ) → hit n ≡ unless (first_unfixed F (rx n)) (worth (raised (v n) (decimals - i)) (r n))) → miss ≡ unless (first_unfixed F ry) (worth (raised w (decimals - j)) s)
    → then_branch (unless (first_unfixed F ts) o) hit miss ≡ unless (first_unfixed F (ts ++ either o rx ry)) (worth (raised (either o (λ n. raised (v n) (max i j - i)) (raised w (max i j - j))) (decimals - max i j)) (either o r s))
branch_unless F decimals i j (Some n) ts rx ry v w r s hit miss le h k =
    entered (first_unfixed F ts)
    ∙ ap₂ (λ (u : Option Place) (z : ℤ). unless u (worth z (r n))) (sym (first-append F ts (rx n))) (sym (raised_up (v n) i (max i j) decimals (omega arith) le))
  where
    entered : (u : Option Place) → then_branch (unless u (Some n)) hit miss ≡ unless (or_else u (first_unfixed F (rx n))) (worth (raised (v n) (decimals - i)) (r n))
    entered (Some q) = refl
    entered None = h n
branch_unless F decimals i j None ts rx ry v w r s hit miss le h k =
    entered (first_unfixed F ts)
    ∙ ap₂ (λ (u : Option Place) (z : ℤ). unless u (worth z s)) (sym (first-append F ts ry)) (sym (raised_up w j (max i j) decimals (omega arith) le))
  where
    entered : (u : Option Place) → then_branch (unless u None) hit miss ≡ unless (or_else u (first_unfixed F ry)) (worth (raised w (decimals - j)) s)
    entered (Some q) = refl
    entered None = k

cut_unless : (F : Environment) (b : Bool) (rs : List Place) (v : ℤ) (r : Bool) (decimals i : ℕ) (a : Result Worth Missing) → a ≡ unless (first_unfixed F rs) (worth (raised v (decimals - i)) r) → (if b then Ok nothing_reached else a) ≡ unless (first_unfixed F (if b then [] else rs)) (worth (raised (if b then pos 0 else v) (decimals - i)) (if b then false else r))
cut_unless F true rs v r decimals i a h = ap (λ (z : ℤ). unless None (worth z false)) (sym (raised-zero (decimals - i)))
cut_unless F false rs v r decimals i a h = h

-- ---- the whole

-- a walk at some decimals, no fewer than the code's scale, answers the first place that the code reads and that is not
-- fixed, exactly where there is one; else what the code is worth at these decimals
pub walk_is : (d : Declarations) (k : PayoffCode) (decimals : ℕ) (g : List Entry) (bs : List (List Place)) (F : Environment) (xs : List ℕ) (a : Asked) (b : ℤ) → scale_of_code d k (kinds g) ≤ decimals → walk_of d decimals k g bs F xs a b ≡ unless (first_unfixed F (reads_of_code d k g bs F xs a b)) (worth (raised (code_value d k g F xs a b) (decimals - scale_of_code d k (kinds g))) (reaches_payment d k g F xs a b))
walk_is d Nothing decimals g bs F xs a b le = ap (λ (z : ℤ). unless None (worth z false)) (sym (raised-zero (decimals - 0)))
walk_is d (PayOn x u p q) decimals g bs F xs a b le = refl
walk_is d (Add k l) decimals g bs F xs a b le =
    let i = scale_of_code d k (kinds g) in
    let j = scale_of_code d l (kinds g) in
    let v = code_value d k g F xs a b in
    let w = code_value d l g F xs a b in
    let r = reaches_payment d k g F xs a b in
    let s = reaches_payment d l g F xs a b in
    ap₂ then_added (walk_is d k decimals g bs F xs a b (omega arith)) (walk_is d l decimals g bs F xs a b (omega arith))
    ∙ added_unless (first_unfixed F (reads_of_code d k g bs F xs a b)) (first_unfixed F (reads_of_code d l g bs F xs a b)) (raised v (decimals - i)) (raised w (decimals - j)) r s
    ∙ ap₂ (λ (o : Option Place) (z : ℤ). unless o (worth z (r || s))) (sym (first-append F (reads_of_code d k g bs F xs a b) (reads_of_code d l g bs F xs a b))) (parts_raised v w decimals i j (omega arith) (omega arith))
walk_is d (ScaleBy e k) decimals g bs F xs a b le =
    let s = scale_of d (undated e) (kinds g) in
    let i = scale_of_code d k (kinds g) in
    let v = code_value d k g F xs a b in
    let r = reaches_payment d k g F xs a b in
    let x = value_at d e g F xs b in
    let down : decimals - s - i ≡ decimals - (s + i) = omega arith in
    ap (λ (t : Result Worth Missing). then_scaled t (answer_at d e g bs F xs b)) (walk_is d k (decimals - s) g bs F xs a b (omega arith))
    ∙ scaled_unless F (first_unfixed F (reads_of_code d k g bs F xs a b)) (value_reads d e g bs F xs b) r (raised v (decimals - s - i)) x (λ none. one_zero v (decimals - s - i) (unreached d k g F xs a b none))
    ∙ ap₂ (λ (o : Option Place) (z : ℤ). unless o (worth z r)) (sym (first-append F (reads_of_code d k g bs F xs a b) (if r then value_reads d e g bs F xs b else []))) (sym (mul-assoc (num x) v (pos (10 ^ (decimals - s - i)))) ∙ ap (λ (n : ℕ). raised (num x *ℤ v) n) down)
walk_is d (LetBe e k) decimals g bs F xs a b le =
    walk_is d k decimals (entry_at d e g F xs b ∷ g) (value_reads d e g bs F xs b ∷ bs) F xs a b le
walk_is d (Loop e x k l) decimals g bs F xs a b le =
    let i = scale_of_code d k (kinds g) in
    let j = scale_of_code d l (kinds g) in
    let n = day_of xs x in
    ap (λ (t : Result (Option ℕ) Missing). then_branch t (λ n. walk_of d decimals k g bs F xs a (b +ℤ pos n)) (walk_of d decimals l g bs F xs a b)) (tests_are F (λ i. value_reads d e g bs F xs (b +ℤ pos i)) (λ i. value_at d e g F xs (b +ℤ pos i)) n)
    ∙ branch_unless F decimals i j (first_true_at d e g F xs b n) (upto_first (first_true_at d e g F xs b n) n (λ i. value_reads d e g bs F xs (b +ℤ pos i))) (λ m. reads_of_code d k g bs F xs a (b +ℤ pos m)) (reads_of_code d l g bs F xs a b) (λ m. code_value d k g F xs a (b +ℤ pos m)) (code_value d l g F xs a b) (λ m. reaches_payment d k g F xs a (b +ℤ pos m)) (reaches_payment d l g F xs a b)
    (λ m. walk_of d decimals k g bs F xs a (b +ℤ pos m)) (walk_of d decimals l g bs F xs a b) le
    (λ m. walk_is d k decimals g bs F xs a (b +ℤ pos m) (omega arith)) (walk_is d l decimals g bs F xs a b (omega arith))
walk_is d (Cut x k) decimals g bs F xs a b le =
    cut_unless F (int_lt (b +ℤ day_of xs x) a.now) (reads_of_code d k g bs F xs a b) (code_value d k g F xs a b) (reaches_payment d k g F xs a b) decimals (scale_of_code d k (kinds g)) (walk_of d decimals k g bs F xs a b) (walk_is d k decimals g bs F xs a b le)
