-- Contracts in two environments that read equally at every place that passes a test: they read the same up to the first
-- place that fails it, and where none fails before a day they pay the same up to it.
use Rattle.std.proofs.Common.{◌≡◌, ℕ, zero, suc, ℤ, pos, negsuc, ◌+ℤ◌, ◌-ℤ◌, ◌*ℤ◌, ◌<ℤ◌, ◌≤ℤ◌, ◌<◌, ◌-◌, min, max, Bool, true, false, ◌&&◌, ◌||◌, not, ◌==◌, if◌then◌else◌, int_lt, refl, ap, ap₂, sym, subst, ◌∙◌, Some, None, Option, List, [], ◌∷◌, ◌++◌, inl, inr, ◌⊎◌, arith}
use Rattle.std.proofs.Math.IntN.{*ℤ-zero}
use Rattle.std.proofs.lemmas.Int.{ints}
use Rattle.std.proofs.lemmas.Bool.{cases_lt}
use Rattle.std.specs.List.{list_all}
use Rattle.decimal.specs.Rounding.{raised}
use Rattle.term_model.specs.Declarations.{Declarations}
use Rattle.term_model.specs.DayCounts.{Days}
use Rattle.term_model.specs.declared.values.Kind.{Kind}
use Rattle.term_model.specs.declared.values.Value.{Value}
use Rattle.term_model.specs.Terms.{Expression, Contract, Zero, Pay, Both, Scale, After, Let, Within}
use Rattle.term_model.specs.Environments.{Environment, Place}
use Rattle.term_model.specs.Kinds.{kind_of}
use Rattle.term_model.specs.Values.{Entry, kinds, num, truth, kind_or, value_of, entry_of, first_of, first_true}
use Rattle.term_model.specs.Flows.{Flow, flow_of, count_of, unit_flow, on_day_zero, scale_of_contract}
use Rattle.term_model.specs.Reads.{reads_of, reads_of_contract, live, upto, tested, up_to_first}
use Rattle.term_model.proofs.FlowFacts.{flow_idle, differs, one_zero}
use Rattle.term_model.proofs.AlikeFacts.{Alike, all_left, all_right, then_alike, same_alike, one_alike, two_alike, other_alike, moved_alike}
use Rattle.term_model.proofs.ReadFacts.{SameWhere, SameNames, one_more, reads_alike}
use Rattle.term_model.proofs.FirstFacts.{scan, scanned, scan_alike, agree, IsAfter}

is_below : (a b : ℤ) → a <ℤ b → int_lt a b ≡ true
is_below a b h = grind (arith, ints)

not_below : (a b : ℤ) → b ≤ℤ a → int_lt a b ≡ false
not_below a b h = grind (arith, ints)

and_false : (x y : Bool) → y ≡ false → (x && y) ≡ false
and_false true y h = h
and_false false y h = refl

pub or_false : (x y : Bool) → (x || y) ≡ false → (x ≡ false) × (y ≡ false)
or_false true y h = absurd (cc)
or_false false y h = (refl, h)

both_false : (x y : Bool) → x ≡ false → y ≡ false → (x || y) ≡ false
both_false x y h k = rw h k

branch_false : (o : Option ℕ) (x : ℕ → Bool) (y : Bool) → ((k : ℕ) → x k ≡ false) → y ≡ false → elim o [ Some k ↦ x k | None ↦ y ] ≡ false
branch_false (Some k) x y h h' = h k
branch_false None x y h h' = h'

-- nothing is transferred on days below 0
pub dead_before : (d : Declarations) (c : Contract) (g : List Entry) (env : Environment) (f a b : ℤ) → b <ℤ pos 0 → live d c g env f a b ≡ false
dead_before d Zero g env f a b h = refl
dead_before d (Pay x p q) g env f a b h =
    and_false (not (p == q) && not (int_lt (pos 0) a)) (not (int_lt b (pos 0))) (ap not (is_below b (pos 0) h))
dead_before d (Both x y) g env f a b h =
    both_false (live d x g env f a b) (live d y g env f a b) (dead_before d x g env f a b h) (dead_before d y g env f a b h)
dead_before d (Scale e c) g env f a b h = dead_before d c g env f a b h
dead_before d (After m c) g env f a b h =
    dead_before d c g env (f +ℤ pos (count_of m)) (a -ℤ pos (count_of m)) (b -ℤ pos (count_of m)) (omega (arith, ints))
dead_before d (Let e c) g env f a b h =
    dead_before d c (entry_of d e g env f ∷ g) env f a b h
dead_before d (Within e m x y) g env f a b h =
    branch_false (first_true d e g env f (count_of m)) (λ k. live d x g env (f +ℤ pos k) (a -ℤ pos k) (b -ℤ pos k)) (live d y g env (f +ℤ pos (count_of m)) (a -ℤ pos (count_of m)) (b -ℤ pos (count_of m)))
    (λ k. dead_before d x g env (f +ℤ pos k) (a -ℤ pos k) (b -ℤ pos k) (omega (arith, ints)))
    (dead_before d y g env (f +ℤ pos (count_of m)) (a -ℤ pos (count_of m)) (b -ℤ pos (count_of m)) (omega (arith, ints)))

same_party : (s x y : Bool) → (not s && not x && not y) ≡ false → x ≡ false → y ≡ false → s ≡ true
same_party true x y h i j = refl
same_party false true y h i j = absurd (cc)
same_party false false true h i j = absurd (cc)
same_party false false false h i j = absurd (cc)

paid_to_oneself : (on s : Bool) (v : ℤ) → s ≡ true → (if on && not s then v else pos 0) ≡ pos 0
paid_to_oneself on s v h = rw (and_false on (not s) (ap not h)) refl

dead_pay : (n a b : ℤ) (x p q : ℕ) (w : Flow) → (not (p == q) && not (int_lt (pos 0) a) && not (int_lt b (pos 0))) ≡ false → a ≤ℤ n → n ≤ℤ b → on_day_zero n (unit_flow x p q w) ≡ pos 0
dead_pay (pos zero) a b x p q w h low high =
    paid_to_oneself (x == w.asset) (p == q) _ (same_party (p == q) (int_lt (pos 0) a) (int_lt b (pos 0)) h (not_below (pos 0) a low) (not_below b (pos 0) high))
dead_pay (pos (suc n)) a b x p q w h low high = rw (differs (suc n) (omega arith)) refl
dead_pay (negsuc n) a b x p q w h low high = refl

pub sum_zero : (x y : ℤ) (k l : ℕ) → x ≡ pos 0 → y ≡ pos 0 → raised x k +ℤ raised y l ≡ pos 0
sum_zero x y k l h h' = ap₂ (λ (s t : ℤ). s +ℤ t) (one_zero x k h) (one_zero y l h')

branch_dead : (o : Option ℕ) (lx : ℕ → Bool) (ly : Bool) (x : ℕ → ℤ) (y : ℤ) (k l : ℕ) → elim o [ Some i ↦ lx i | None ↦ ly ] ≡ false → ((i : ℕ) → lx i ≡ false → x i ≡ pos 0) → (ly ≡ false → y ≡ pos 0) → elim o [ Some i ↦ raised (x i) k | None ↦ raised y l ] ≡ pos 0
branch_dead (Some i) lx ly x y k l h hx hy = one_zero (x i) k (hx i h)
branch_dead None lx ly x y k l h hx hy = one_zero y l (hy h)

-- where nothing is transferred on some days, nothing is paid on them
pub flow_dead : (d : Declarations) (c : Contract) (g : List Entry) (env : Environment) (f a b n : ℤ) (w : Flow) → live d c g env f a b ≡ false → a ≤ℤ n → n ≤ℤ b → flow_of d c g env f n w ≡ pos 0
flow_dead d Zero g env f a b n w h low high = refl
flow_dead d (Pay x p q) g env f a b n w h low high = dead_pay n a b x p q w h low high
flow_dead d (Both x y) g env f a b n w h low high =
    let dead = or_false (live d x g env f a b) (live d y g env f a b) h in
    sum_zero _ _ _ _ (flow_dead d x g env f a b n w dead.0 low high) (flow_dead d y g env f a b n w dead.1 low high)
flow_dead d (Scale e c) g env f a b n w h low high =
    ap (λ (x : ℤ). num (value_of d e g env f) *ℤ x) (flow_dead d c g env f a b n w h low high) ∙ *ℤ-zero (num (value_of d e g env f))
flow_dead d (After m c) g env f a b n w h low high =
    flow_dead d c g env (f +ℤ pos (count_of m)) (a -ℤ pos (count_of m)) (b -ℤ pos (count_of m)) (n -ℤ pos (count_of m)) w h (omega (arith, ints)) (omega (arith, ints))
flow_dead d (Let e c) g env f a b n w h low high =
    flow_dead d c (entry_of d e g env f ∷ g) env f a b n w h low high
flow_dead d (Within e m x y) g env f a b n w h low high =
    branch_dead (first_true d e g env f (count_of m)) (λ k. live d x g env (f +ℤ pos k) (a -ℤ pos k) (b -ℤ pos k)) (live d y g env (f +ℤ pos (count_of m)) (a -ℤ pos (count_of m)) (b -ℤ pos (count_of m))) _ _ _ _ h
    (λ k e. flow_dead d x g env (f +ℤ pos k) (a -ℤ pos k) (b -ℤ pos k) (n -ℤ pos k) w e (omega (arith, ints)) (omega (arith, ints)))
    (λ e. flow_dead d y g env (f +ℤ pos (count_of m)) (a -ℤ pos (count_of m)) (b -ℤ pos (count_of m)) (n -ℤ pos (count_of m)) w e (omega (arith, ints)) (omega (arith, ints)))

-- ---- what is read, and whether anything is transferred

factor_of : {ok : Place → Bool} {xs ys : List Place} {v w : Value} (t : Bool) → Alike Value ok xs v ys w → Alike Bool ok (if t then xs else []) t (if t then ys else []) t
factor_of true h = other_alike true true (λ _. refl) h
factor_of false h = same_alike [] false

factor_alike : {ok : Place → Bool} {xs ys : List Place} {v w : Value} (t u : Bool) → t ≡ u → Alike Value ok xs v ys w → Alike Bool ok (if t then xs else []) t (if u then ys else []) u
factor_alike {ok} {xs} {ys} {v} {w} t u e h =
    subst (λ (r : Bool). Alike Bool ok (if t then xs else []) t (if r then ys else []) r) e (factor_of t h)

-- a branch that is entered on day k reads nothing where no day up to b is as late
abbrev entered : ℕ → ℕ → List Place → List Place
entered b k xs = if int_lt (pos b) (pos k) then [] else xs

abbrev branch_reads : Option ℕ → ℕ → ℕ → (ℕ → List Place) → List Place → List Place
branch_reads o m b rx ry = elim o [ Some k ↦ entered b k (rx k) | None ↦ entered b m ry ]

entered_alike : {ok : Place → Bool} {xs ys : List Place} (b k : ℕ) (v w : Bool) → (b < k → (v ≡ false) × (w ≡ false)) → Alike Bool ok xs v ys w → Alike Bool ok (entered b k xs) v (entered b k ys) w
entered_alike {ok} {xs} {ys} b k v w dead h =
    elim (cases_lt b k) [
      | inl lt ↦ rw (is_below (pos b) (pos k) (omega (arith, ints))) (record { lists = refl; values = λ _. (dead lt).0 ∙ sym (dead lt).1 })
      | inr le ↦ rw (not_below (pos b) (pos k) (omega (arith, ints))) h
    ]

late_reads : (o : Option ℕ) (m b : ℕ) (rx : ℕ → List Place) (ry : List Place) → IsAfter m b o → branch_reads o m b rx ry ≡ []
late_reads (Some k) m b rx ry h = rw (is_below (pos b) (pos k) (omega (arith, ints))) refl
late_reads None m b rx ry h = rw (is_below (pos b) (pos m) (omega (arith, ints))) refl

late_live : (o : Option ℕ) (m b : ℕ) (lx : ℕ → Bool) (ly : Bool) → IsAfter m b o → ((k : ℕ) → b < k → lx k ≡ false) → (b < m → ly ≡ false) → elim o [ Some k ↦ lx k | None ↦ ly ] ≡ false
late_live (Some k) m b lx ly h hx hy = hx k h
late_live None m b lx ly h hx hy = hy h

branch_of : {ok : Place → Bool} (o : Option ℕ) (m b : ℕ) (rx sx : ℕ → List Place) (ry sy : List Place) (lx kx : ℕ → Bool) (ly ky : Bool) → ((k : ℕ) → Alike Bool ok (entered b k (rx k)) (lx k) (entered b k (sx k)) (kx k)) → Alike Bool ok (entered b m ry) ly (entered b m sy) ky → Alike Bool ok (branch_reads o m b rx ry) (elim o [ Some k ↦ lx k | None ↦ ly ]) (branch_reads o m b sx sy) (elim o [ Some k ↦ kx k | None ↦ ky ])
branch_of (Some k) m b rx sx ry sy lx kx ly ky hx hy = hx k
branch_of None m b rx sx ry sy lx kx ly ky hx hy = hy

branch_alike : {ok : Place → Bool} (o u : Option ℕ) (m b : ℕ) (rx sx : ℕ → List Place) (ry sy : List Place) (lx kx : ℕ → Bool) (ly ky : Bool) → (o ≡ u) ⊎ (IsAfter m b o × IsAfter m b u) → ((k : ℕ) → b < k → (lx k ≡ false) × (kx k ≡ false)) → (b < m → (ly ≡ false) × (ky ≡ false)) → ((k : ℕ) → Alike Bool ok (rx k) (lx k) (sx k) (kx k)) → Alike Bool ok ry ly sy ky → Alike Bool ok (branch_reads o m b rx ry) (elim o [ Some k ↦ lx k | None ↦ ly ]) (branch_reads u m b sx sy) (elim u [ Some k ↦ kx k | None ↦ ky ])
branch_alike {ok} o u m b rx sx ry sy lx kx ly ky (inl e) dx dy hx hy =
    subst (λ (r : Option ℕ). Alike Bool ok (branch_reads o m b rx ry) (elim o [ Some k ↦ lx k | None ↦ ly ]) (branch_reads r m b sx sy) (elim r [ Some k ↦ kx k | None ↦ ky ])) e
    (branch_of o m b rx sx ry sy lx kx ly ky (λ k. entered_alike b k (lx k) (kx k) (dx k) (hx k)) (entered_alike b m ly ky dy hy))
branch_alike {ok} o u m b rx sx ry sy lx kx ly ky (inr late) dx dy hx hy =
    record {
      lists = ap (λ (xs : List Place). up_to_first ok xs) (late_reads o m b rx ry late.0 ∙ sym (late_reads u m b sx sy late.1));
      values = λ _. late_live o m b lx ly late.0 (λ k p. (dx k p).0) (λ p. (dy p).0) ∙ sym (late_live u m b kx ky late.1 (λ k p. (dx k p).1) (λ p. (dy p).1));
    }

-- the reads of an `if .. within` up to day b: the days that are tried, and then the branch
tried_reads : (t : Bool) (xs ys zs : List Place) → t ≡ false → xs ≡ ys → (if t then [] else (xs ++ zs)) ≡ ys ++ zs
tried_reads t xs ys zs h e = rw h (ap (λ (us : List Place). us ++ zs) e)

abbrev pub test_reads : Declarations → Expression → List Entry → List (List Place) → Environment → ℤ → ℕ → List Place
test_reads d e g bs env f i = reads_of d e g bs env (f +ℤ pos i)

abbrev pub test_at : Declarations → Expression → List Entry → Environment → ℤ → ℕ → Bool
test_at d e g env f i = truth (value_of d e g env (f +ℤ pos i))

abbrev hit_reads : Declarations → Contract → List Entry → List (List Place) → Environment → ℤ → ℤ → ℕ → ℕ → List Place
hit_reads d x g bs env f a b k = reads_of_contract d x g bs env (f +ℤ pos k) (a -ℤ pos k) (pos b -ℤ pos k)

pub within_reads : (d : Declarations) (e : Expression) (m : Days) (x y : Contract) (g : List Entry) (bs : List (List Place)) (env : Environment) (f a : ℤ) (b : ℕ) → reads_of_contract d (Within e m x y) g bs env f a (pos b) ≡ scan (min (count_of m) b) (test_at d e g env f) (test_reads d e g bs env f) ++ branch_reads (first_of (count_of m) (test_at d e g env f)) (count_of m) b (hit_reads d x g bs env f a b) (hit_reads d y g bs env f a b (count_of m))
within_reads d e m x y g bs env f a b =
    tried_reads (int_lt (pos b) (pos 0)) (upto (tested (first_of (count_of m) (test_at d e g env f)) (count_of m) (pos b)) (test_reads d e g bs env f)) (scan (min (count_of m) b) (test_at d e g env f) (test_reads d e g bs env f)) _ (not_below (pos b) (pos 0) (omega (arith, ints))) (scanned (count_of m) b (test_at d e g env f) (test_reads d e g bs env f))

abbrev hit_live : Declarations → Contract → List Entry → Environment → ℤ → ℤ → ℕ → ℕ → Bool
hit_live d x g env f a b k = live d x g env (f +ℤ pos k) (a -ℤ pos k) (pos b -ℤ pos k)

hit_dead : (d : Declarations) (x : Contract) (g : List Entry) (env : Environment) (f a : ℤ) (b k : ℕ) → b < k → hit_live d x g env f a b k ≡ false
hit_dead d x g env f a b k h = dead_before d x g env (f +ℤ pos k) (a -ℤ pos k) (pos b -ℤ pos k) (omega (arith, ints))

abbrev pub LiveAlike : Declarations → (Place → Bool) → Environment → Environment → Contract → Type 0
LiveAlike d ok one other c =
    (g h : List Entry) (bs cs : List (List Place)) → SameNames ok g bs h cs → (f a b : ℤ)
    → Alike Bool ok (reads_of_contract d c g bs one f a b) (live d c g one f a b) (reads_of_contract d c h cs other f a b) (live d c h other f a b)

test_alike : (d : Declarations) (ok : Place → Bool) (one other : Environment) → SameWhere d ok one other → (e : Expression) (g h : List Entry) (bs cs : List (List Place)) → SameNames ok g bs h cs → (f : ℤ) (n : ℕ) → Alike (Option ℕ) ok (scan n (test_at d e g one f) (test_reads d e g bs one f)) (first_of n (test_at d e g one f)) (scan n (test_at d e h other f) (test_reads d e h cs other f)) (first_of n (test_at d e h other f))
test_alike d ok one other same e g h bs cs s f n =
    scan_alike n (test_at d e g one f) (test_at d e h other f) (test_reads d e g bs one f) (test_reads d e h cs other f)
    (λ i. one_alike (λ ks v. truth v) [] [] refl (reads_alike d ok one other same e g h bs cs s (f +ℤ pos i)))

within_alike : (d : Declarations) (ok : Place → Bool) (one other : Environment) → SameWhere d ok one other → (e : Expression) (m : Days) (x y : Contract) → LiveAlike d ok one other x → LiveAlike d ok one other y → (g h : List Entry) (bs cs : List (List Place)) → SameNames ok g bs h cs → (f a b : ℤ) → Alike Bool ok (reads_of_contract d (Within e m x y) g bs one f a b) (live d (Within e m x y) g one f a b) (reads_of_contract d (Within e m x y) h cs other f a b) (live d (Within e m x y) h other f a b)
within_alike d ok one other same e m x y hx hy g h bs cs s f a (negsuc b) =
    record {
      lists = refl;
      values = λ _. dead_before d (Within e m x y) g one f a (negsuc b) (omega (arith, ints)) ∙ sym (dead_before d (Within e m x y) h other f a (negsuc b) (omega (arith, ints)));
    }
within_alike d ok one other same e m x y hx hy g h bs cs s f a (pos b) =
    let n = count_of m in
    moved_alike (reads_of_contract d (Within e m x y) g bs one f a (pos b)) (reads_of_contract d (Within e m x y) h cs other f a (pos b)) (sym (within_reads d e m x y g bs one f a b)) (sym (within_reads d e m x y h cs other f a b))
    (then_alike (test_alike d ok one other same e g h bs cs s f (min n b)) (λ first.
    branch_alike (first_of n (test_at d e g one f)) (first_of n (test_at d e h other f)) n b (hit_reads d x g bs one f a b) (hit_reads d x h cs other f a b) (hit_reads d y g bs one f a b n) (hit_reads d y h cs other f a b n) (hit_live d x g one f a b) (hit_live d x h other f a b) (hit_live d y g one f a b n) (hit_live d y h other f a b n)
    (agree n b (test_at d e g one f) (test_at d e h other f) first)
    (λ k late. (hit_dead d x g one f a b k late, hit_dead d x h other f a b k late))
    (λ late. (hit_dead d y g one f a b n late, hit_dead d y h other f a b n late))
    (λ k. hx g h bs cs s (f +ℤ pos k) (a -ℤ pos k) (pos b -ℤ pos k))
    (hy g h bs cs s (f +ℤ pos n) (a -ℤ pos n) (pos b -ℤ pos n))))

pub live_alike : (d : Declarations) (ok : Place → Bool) (one other : Environment) → SameWhere d ok one other → (c : Contract) → LiveAlike d ok one other c
live_alike d ok one other same Zero g h bs cs s f a b = same_alike [] false
live_alike d ok one other same (Pay x p q) g h bs cs s f a b = same_alike [] (live d (Pay x p q) g one f a b)
live_alike d ok one other same (Both x y) g h bs cs s f a b =
    two_alike (λ ks v w. v || w) [] [] refl (live_alike d ok one other same x g h bs cs s f a b) (live_alike d ok one other same y g h bs cs s f a b)
live_alike d ok one other same (Scale e c) g h bs cs s f a b =
    then_alike (live_alike d ok one other same c g h bs cs s f a b) (λ known.
    factor_alike (live d c g one f a b) (live d c h other f a b) known (reads_alike d ok one other same e g h bs cs s f))
live_alike d ok one other same (After m c) g h bs cs s f a b =
    live_alike d ok one other same c g h bs cs s (f +ℤ pos (count_of m)) (a -ℤ pos (count_of m)) (b -ℤ pos (count_of m))
live_alike d ok one other same (Let e c) g h bs cs s f a b =
    let v = value_of d e g one f in
    let w = value_of d e h other f in
    let kind = kind_or (kind_of d e (kinds g)) in
    let names = one_more ok g bs h cs v w kind (reads_of d e g bs one f) (reads_of d e h cs other f) s (reads_alike d ok one other same e g h bs cs s f) in
    subst (λ (ks : List Kind). Alike Bool ok (reads_of_contract d c (record { value = v; kind = kind } ∷ g) (reads_of d e g bs one f ∷ bs) one f a b) (live d c (record { value = v; kind = kind } ∷ g) one f a b) (reads_of_contract d c (record { value = w; kind = kind_or (kind_of d e ks) } ∷ h) (reads_of d e h cs other f ∷ cs) other f a b) (live d c (record { value = w; kind = kind_or (kind_of d e ks) } ∷ h) other f a b)) s.same_kinds
    (live_alike d ok one other same c (record { value = v; kind = kind } ∷ g) (record { value = w; kind = kind } ∷ h) (reads_of d e g bs one f ∷ bs) (reads_of d e h cs other f ∷ cs) names f a b)
live_alike d ok one other same (Within e m x y) g h bs cs s f a b =
    within_alike d ok one other same e m x y (live_alike d ok one other same x) (live_alike d ok one other same y) g h bs cs s f a b

-- ---- what is paid

abbrev pub FlowSame : Declarations → (Place → Bool) → Environment → Environment → Contract → Type 0
FlowSame d ok one other c =
    (g h : List Entry) (bs cs : List (List Place)) → SameNames ok g bs h cs → (f a b n : ℤ) (w : Flow) → a ≤ℤ n → n ≤ℤ b
    → list_all ok (reads_of_contract d c g bs one f a b) ≡ true → flow_of d c g one f n w ≡ flow_of d c h other f n w

-- the factor is known where anything is transferred, and else it does not matter
scaled_same : {ok : Place → Bool} {xs ys : List Place} {v w : Value} (t : Bool) (x y : ℤ) → Alike Value ok xs v ys w → x ≡ y → (t ≡ false → x ≡ pos 0) → list_all ok (if t then xs else []) ≡ true → (num v *ℤ x) ≡ (num w *ℤ y)
scaled_same {ok} {xs} {ys} {v} {w} true x y h e dead p = ap₂ (λ (i j : ℤ). i *ℤ j) (ap num (h.values p)) e
scaled_same {ok} {xs} {ys} {v} {w} false x y h e dead p =
    ap (λ (i : ℤ). num v *ℤ i) (dead refl) ∙ *ℤ-zero (num v) ∙ sym (*ℤ-zero (num w)) ∙ ap (λ (i : ℤ). num w *ℤ i) (sym (dead refl) ∙ e)

abbrev pub branch_flow : Option ℕ → (ℕ → ℤ) → ℤ → ℕ → ℕ → ℤ
branch_flow o x y k l = elim o [ Some i ↦ raised (x i) k | None ↦ raised y l ]

late_flow : (o : Option ℕ) (m b : ℕ) (x : ℕ → ℤ) (y : ℤ) (k l : ℕ) → IsAfter m b o → ((i : ℕ) → b < i → x i ≡ pos 0) → (b < m → y ≡ pos 0) → branch_flow o x y k l ≡ pos 0
late_flow (Some i) m b x y k l h hx hy = one_zero (x i) k (hx i h)
late_flow None m b x y k l h hx hy = one_zero y l (hy h)

flow_of_branch : (ok : Place → Bool) (o : Option ℕ) (m b : ℕ) (rx : ℕ → List Place) (ry : List Place) (x x' : ℕ → ℤ) (y y' : ℤ) (k l : ℕ) → list_all ok (branch_reads o m b rx ry) ≡ true → ((i : ℕ) → list_all ok (entered b i (rx i)) ≡ true → x i ≡ x' i) → (list_all ok (entered b m ry) ≡ true → y ≡ y') → branch_flow o x y k l ≡ branch_flow o x' y' k l
flow_of_branch ok (Some i) m b rx ry x x' y y' k l p hx hy = ap (λ (z : ℤ). raised z k) (hx i p)
flow_of_branch ok None m b rx ry x x' y y' k l p hx hy = ap (λ (z : ℤ). raised z l) (hy p)

branch_same : (ok : Place → Bool) (o u : Option ℕ) (m b : ℕ) (rx : ℕ → List Place) (ry : List Place) (x x' : ℕ → ℤ) (y y' : ℤ) (k l : ℕ) → (o ≡ u) ⊎ (IsAfter m b o × IsAfter m b u) → ((i : ℕ) → b < i → (x i ≡ pos 0) × (x' i ≡ pos 0)) → (b < m → (y ≡ pos 0) × (y' ≡ pos 0)) → list_all ok (branch_reads o m b rx ry) ≡ true → ((i : ℕ) → list_all ok (entered b i (rx i)) ≡ true → x i ≡ x' i) → (list_all ok (entered b m ry) ≡ true → y ≡ y') → branch_flow o x y k l ≡ branch_flow u x' y' k l
branch_same ok o u m b rx ry x x' y y' k l (inl e) dx dy p hx hy =
    subst (λ (r : Option ℕ). branch_flow o x y k l ≡ branch_flow r x' y' k l) e (flow_of_branch ok o m b rx ry x x' y y' k l p hx hy)
branch_same ok o u m b rx ry x x' y y' k l (inr late) dx dy p hx hy =
    late_flow o m b x y k l late.0 (λ i q. (dx i q).0) (λ q. (dy q).0) ∙ sym (late_flow u m b x' y' k l late.1 (λ i q. (dx i q).1) (λ q. (dy q).1))

-- a branch on day k: none where the day is too late, and else that of its own reads
hit_same : (ok : Place → Bool) (b k : ℕ) (n x y : ℤ) (xs : List Place) → n ≤ℤ pos b → ((n -ℤ pos k) <ℤ pos 0 → (x ≡ pos 0) × (y ≡ pos 0)) → (list_all ok xs ≡ true → x ≡ y) → list_all ok (entered b k xs) ≡ true → x ≡ y
hit_same ok b k n x y xs high dead same p =
    elim (cases_lt b k) [
      | inl lt ↦ (dead (omega (arith, ints))).0 ∙ sym (dead (omega (arith, ints))).1
      | inr le ↦ same (rw (not_below (pos b) (pos k) (omega (arith, ints))) at p)
    ]

within_same : (d : Declarations) (ok : Place → Bool) (one other : Environment) → SameWhere d ok one other → (e : Expression) (m : Days) (x y : Contract) → FlowSame d ok one other x → FlowSame d ok one other y → FlowSame d ok one other (Within e m x y)
within_same d ok one other same e m x y hx hy g h bs cs s f a (negsuc b) n w low high p =
    flow_idle d (Within e m x y) g one f n w (inl (omega (arith, ints))) ∙ sym (flow_idle d (Within e m x y) h other f n w (inl (omega (arith, ints))))
within_same d ok one other same e m x y hx hy g h bs cs s f a (pos b) n w low high p =
    let c = count_of m in
    let read : list_all ok (scan (min c b) (test_at d e g one f) (test_reads d e g bs one f) ++ branch_reads (first_of c (test_at d e g one f)) c b (hit_reads d x g bs one f a b) (hit_reads d y g bs one f a b c)) ≡ true = subst (λ (xs : List Place). list_all ok xs ≡ true) (within_reads d e m x y g bs one f a b) p in
    let first = (test_alike d ok one other same e g h bs cs s f (min c b)).values (all_left ok (scan (min c b) (test_at d e g one f) (test_reads d e g bs one f)) (branch_reads (first_of c (test_at d e g one f)) c b (hit_reads d x g bs one f a b) (hit_reads d y g bs one f a b c)) read) in
    let rest = all_right ok (scan (min c b) (test_at d e g one f) (test_reads d e g bs one f)) (branch_reads (first_of c (test_at d e g one f)) c b (hit_reads d x g bs one f a b) (hit_reads d y g bs one f a b c)) read in
    let hit : ℕ → ℤ = λ k. flow_of d x g one (f +ℤ pos k) (n -ℤ pos k) w in
    let hit' : ℕ → ℤ = λ k. flow_of d x h other (f +ℤ pos k) (n -ℤ pos k) w in
    let miss = flow_of d y g one (f +ℤ pos c) (n -ℤ pos c) w in
    let miss' = flow_of d y h other (f +ℤ pos c) (n -ℤ pos c) w in
    let scales : List Kind → ℕ × ℕ = λ ks. (scale_of_contract d x ks, scale_of_contract d y ks) in
    let most : List Kind → ℕ = λ ks. max (scale_of_contract d x ks) (scale_of_contract d y ks) in
    let dead_hit : (k : ℕ) → (n -ℤ pos k) <ℤ pos 0 → (hit k ≡ pos 0) × (hit' k ≡ pos 0) = λ k q. (flow_idle d x g one (f +ℤ pos k) (n -ℤ pos k) w (inl q), flow_idle d x h other (f +ℤ pos k) (n -ℤ pos k) w (inl q)) in
    let dead_miss : (n -ℤ pos c) <ℤ pos 0 → (miss ≡ pos 0) × (miss' ≡ pos 0) = λ q. (flow_idle d y g one (f +ℤ pos c) (n -ℤ pos c) w (inl q), flow_idle d y h other (f +ℤ pos c) (n -ℤ pos c) w (inl q)) in
    subst (λ (ks : List Kind). branch_flow (first_of c (test_at d e g one f)) hit miss (most (kinds g) - scale_of_contract d x (kinds g)) (most (kinds g) - scale_of_contract d y (kinds g)) ≡ branch_flow (first_of c (test_at d e h other f)) hit' miss' (most ks - scale_of_contract d x ks) (most ks - scale_of_contract d y ks)) s.same_kinds
    (branch_same ok (first_of c (test_at d e g one f)) (first_of c (test_at d e h other f)) c b (hit_reads d x g bs one f a b) (hit_reads d y g bs one f a b c) hit hit' miss miss' _ _ (agree c b (test_at d e g one f) (test_at d e h other f) first)
    (λ k q. dead_hit k (omega (arith, ints))) (λ q. dead_miss (omega (arith, ints))) rest
    (λ k q. hit_same ok b k n (hit k) (hit' k) (hit_reads d x g bs one f a b k) high (dead_hit k) (hx g h bs cs s (f +ℤ pos k) (a -ℤ pos k) (pos b -ℤ pos k) (n -ℤ pos k) w (omega (arith, ints)) (omega (arith, ints))) q)
    (λ q. hit_same ok b c n miss miss' (hit_reads d y g bs one f a b c) high dead_miss (hy g h bs cs s (f +ℤ pos c) (a -ℤ pos c) (pos b -ℤ pos c) (n -ℤ pos c) w (omega (arith, ints)) (omega (arith, ints))) q))

pub flow_same : (d : Declarations) (ok : Place → Bool) (one other : Environment) → SameWhere d ok one other → (c : Contract) → FlowSame d ok one other c
flow_same d ok one other same Zero g h bs cs s f a b n w low high p = refl
flow_same d ok one other same (Pay x p q) g h bs cs s f a b n w low high r = refl
flow_same d ok one other same (Both x y) g h bs cs s f a b n w low high p =
    let ux = reads_of_contract d x g bs one f a b in
    let uy = reads_of_contract d y g bs one f a b in
    let fx = flow_same d ok one other same x g h bs cs s f a b n w low high (all_left ok ux uy p) in
    let fy = flow_same d ok one other same y g h bs cs s f a b n w low high (all_right ok ux uy p) in
    let sum : List Kind → ℤ → ℤ → ℤ = λ ks i j. raised i (max (scale_of_contract d x ks) (scale_of_contract d y ks) - scale_of_contract d x ks) +ℤ raised j (max (scale_of_contract d x ks) (scale_of_contract d y ks) - scale_of_contract d y ks) in
    ap₂ (sum (kinds g)) fx fy ∙ ap (λ (ks : List Kind). sum ks (flow_of d x h other f n w) (flow_of d y h other f n w)) s.same_kinds
flow_same d ok one other same (Scale e c) g h bs cs s f a b n w low high p =
    let uc = reads_of_contract d c g bs one f a b in
    let ue = if live d c g one f a b then reads_of d e g bs one f else [] in
    scaled_same (live d c g one f a b) (flow_of d c g one f n w) (flow_of d c h other f n w) (reads_alike d ok one other same e g h bs cs s f) (flow_same d ok one other same c g h bs cs s f a b n w low high (all_left ok uc ue p)) (λ dead. flow_dead d c g one f a b n w dead low high) (all_right ok uc ue p)
flow_same d ok one other same (After m c) g h bs cs s f a b n w low high p =
    flow_same d ok one other same c g h bs cs s (f +ℤ pos (count_of m)) (a -ℤ pos (count_of m)) (b -ℤ pos (count_of m)) (n -ℤ pos (count_of m)) w (omega (arith, ints)) (omega (arith, ints)) p
flow_same d ok one other same (Let e c) g h bs cs s f a b n w low high p =
    let v = value_of d e g one f in
    let u = value_of d e h other f in
    let kind = kind_or (kind_of d e (kinds g)) in
    let names = one_more ok g bs h cs v u kind (reads_of d e g bs one f) (reads_of d e h cs other f) s (reads_alike d ok one other same e g h bs cs s f) in
    subst (λ (ks : List Kind). flow_of d c (record { value = v; kind = kind } ∷ g) one f n w ≡ flow_of d c (record { value = u; kind = kind_or (kind_of d e ks) } ∷ h) other f n w) s.same_kinds
    (flow_same d ok one other same c (record { value = v; kind = kind } ∷ g) (record { value = u; kind = kind } ∷ h) (reads_of d e g bs one f ∷ bs) (reads_of d e h cs other f ∷ cs) names f a b n w low high p)
flow_same d ok one other same (Within e m x y) g h bs cs s f a b n w low high p =
    within_same d ok one other same e m x y (flow_same d ok one other same x) (flow_same d ok one other same y) g h bs cs s f a b n w low high p
