-- Expressions in two environments that read equally at every place that passes a test: they read the same up to the
-- first place that fails it, and have equal values where none does.
use Rattle.std.proofs.Common.{◌≡◌, ℕ, zero, suc, ℤ, pos, ◌+ℤ◌, ◌-ℤ◌, neg_ℤ, max, Bool, true, not, List, [], ◌∷◌, ◌++◌, refl, ap, subst, slice_get}
use Rattle.decimal.specs.Rounding.{at_scale, divided}
use Rattle.term_model.specs.Declarations.{Declarations}
use Rattle.term_model.specs.declared.values.Kind.{Kind}
use Rattle.term_model.specs.declared.values.Value.{Value}
use Rattle.term_model.specs.declared.values.Value.TheVariants.{Num as Amount, Truth}
use Rattle.term_model.specs.Terms.{Expression, Lit, Yes, Var, Obs, Neg, Num, Cmp, Not, Logic, Cond, Widen, Round, Div, Acc}
use Rattle.term_model.specs.Environments.{Environment, Place, observed}
use Rattle.term_model.specs.Kinds.{kind_of, scale_of, scale_of_kind}
use Rattle.term_model.specs.Values.{Entry, kinds, num, truth, value_of_entry, of_num, of_cmp, widened, kind_or, value_of, days_run}
use Rattle.term_model.specs.Reads.{reads_of, places_or, steps_before}
use Rattle.term_model.proofs.AlikeFacts.{Alike, and_left, then_alike, same_alike, one_alike, two_alike, choice_alike, side_alike, days_alike}

-- two environments read equally at every place that passes
abbrev pub SameWhere : Declarations → (Place → Bool) → Environment → Environment → Type 0
SameWhere d ok one other = (q : Place) → ok q ≡ true → observed d one q.label q.day ≡ observed d other q.label q.day

-- names of the same kinds, each alike in the two
pub record SameNames (ok : Place → Bool) (g : List Entry) (bs : List (List Place)) (h : List Entry) (cs : List (List Place)) : Type 0 where
  pub same_kinds : kinds g ≡ kinds h
  pub alike : (k : ℕ) → Alike Value ok (places_or (slice_get bs k)) (value_of_entry (slice_get g k)) (places_or (slice_get cs k)) (value_of_entry (slice_get h k))

-- with one more name
more : (ok : Place → Bool) (g : List Entry) (bs : List (List Place)) (h : List Entry) (cs : List (List Place)) (v w : Value) (kind : Kind) (xs ys : List Place) → SameNames ok g bs h cs → Alike Value ok xs v ys w → (k : ℕ) → Alike Value ok (places_or (slice_get (xs ∷ bs) k)) (value_of_entry (slice_get (record { value = v; kind = kind } ∷ g) k)) (places_or (slice_get (ys ∷ cs) k)) (value_of_entry (slice_get (record { value = w; kind = kind } ∷ h) k))
more ok g bs h cs v w kind xs ys s a zero = a
more ok g bs h cs v w kind xs ys s a (suc k) = s.alike k

pub one_more : (ok : Place → Bool) (g : List Entry) (bs : List (List Place)) (h : List Entry) (cs : List (List Place)) (v w : Value) (kind : Kind) (xs ys : List Place) → SameNames ok g bs h cs → Alike Value ok xs v ys w → SameNames ok (record { value = v; kind = kind } ∷ g) (xs ∷ bs) (record { value = w; kind = kind } ∷ h) (ys ∷ cs)
one_more ok g bs h cs v w kind xs ys s a =
    record { same_kinds = ap (λ (ks : List Kind). kind ∷ ks) s.same_kinds; alike = more ok g bs h cs v w kind xs ys s a }

abbrev pub ReadsAlike : Declarations → (Place → Bool) → Environment → Environment → Expression → Type 0
ReadsAlike d ok one other e =
    (g h : List Entry) (bs cs : List (List Place)) → SameNames ok g bs h cs → (f : ℤ)
    → Alike Value ok (reads_of d e g bs one f) (value_of d e g one f) (reads_of d e h cs other f) (value_of d e h other f)

pub reads_alike : (d : Declarations) (ok : Place → Bool) (one other : Environment) → SameWhere d ok one other → (e : Expression) → ReadsAlike d ok one other e
reads_alike d ok one other same (Lit m s) g h bs cs n f = same_alike [] (Amount m)
reads_alike d ok one other same (Yes b) g h bs cs n f = same_alike [] (Truth b)
reads_alike d ok one other same (Var back) g h bs cs n f = n.alike back
reads_alike d ok one other same (Obs l t) g h bs cs n f =
    let q : Place = record { label = l; day = f +ℤ t } in
    record { lists = refl; values = λ p. same q (and_left (ok q) true p) }
reads_alike d ok one other same (Neg e) g h bs cs n f =
    one_alike (λ ks x. Amount (neg_ℤ (num x))) [] [] refl (reads_alike d ok one other same e g h bs cs n f)
reads_alike d ok one other same (Num op a b) g h bs cs n f =
    two_alike (λ ks x y. Amount (of_num op (scale_of d a ks) (num x) (scale_of d b ks) (num y))) (kinds g) (kinds h) n.same_kinds (reads_alike d ok one other same a g h bs cs n f) (reads_alike d ok one other same b g h bs cs n f)
reads_alike d ok one other same (Cmp op a b) g h bs cs n f =
    two_alike (λ ks x y. Truth (of_cmp op (scale_of d a ks) (num x) (scale_of d b ks) (num y))) (kinds g) (kinds h) n.same_kinds (reads_alike d ok one other same a g h bs cs n f) (reads_alike d ok one other same b g h bs cs n f)
reads_alike d ok one other same (Not e) g h bs cs n f =
    one_alike (λ ks x. Truth (not (truth x))) [] [] refl (reads_alike d ok one other same e g h bs cs n f)
reads_alike d ok one other same (Logic op a b) g h bs cs n f =
    then_alike (reads_alike d ok one other same a g h bs cs n f) (λ e.
    one_alike (λ ks x. Truth x) [] [] refl
    (side_alike op (truth (value_of d a g one f)) (truth (value_of d a h other f)) (ap truth e)
    (one_alike (λ ks x. truth x) [] [] refl (reads_alike d ok one other same b g h bs cs n f))))
reads_alike d ok one other same (Cond t a b) g h bs cs n f =
    then_alike (reads_alike d ok one other same t g h bs cs n f) (λ e.
    choice_alike (truth (value_of d t g one f)) (truth (value_of d t h other f)) (ap truth e)
    (one_alike (λ ks x. widened (scale_of d a ks) (max (scale_of d a ks) (scale_of d b ks)) x) (kinds g) (kinds h) n.same_kinds (reads_alike d ok one other same a g h bs cs n f))
    (one_alike (λ ks x. widened (scale_of d b ks) (max (scale_of d a ks) (scale_of d b ks)) x) (kinds g) (kinds h) n.same_kinds (reads_alike d ok one other same b g h bs cs n f)))
reads_alike d ok one other same (Widen s e) g h bs cs n f =
    one_alike (λ ks x. widened (scale_of d e ks) s x) (kinds g) (kinds h) n.same_kinds (reads_alike d ok one other same e g h bs cs n f)
reads_alike d ok one other same (Round mode s e) g h bs cs n f =
    one_alike (λ ks x. Amount (at_scale mode (num x) (scale_of d e ks) s)) (kinds g) (kinds h) n.same_kinds (reads_alike d ok one other same e g h bs cs n f)
reads_alike d ok one other same (Div mode s a b) g h bs cs n f =
    two_alike (λ ks x y. Amount (divided mode (num x) (scale_of d a ks) (num y) (scale_of d b ks) s)) (kinds g) (kinds h) n.same_kinds (reads_alike d ok one other same a g h bs cs n f) (reads_alike d ok one other same b g h bs cs n f)
reads_alike d ok one other same (Acc body m first) g h bs cs n f =
    let from = f -ℤ pos m in
    let kind : List Kind → Kind = λ ks. kind_or (kind_of d first ks) in
    let step : List Entry → List Kind → Environment → ℕ → Value → Value = λ es ks env i v. widened (scale_of d body (kind ks ∷ ks)) (scale_of_kind (kind ks)) (value_of d body (record { value = v; kind = kind ks } ∷ es) env (from +ℤ pos i)) in
    let run : List Entry → List Kind → Environment → ℕ → Value = λ es ks env i. days_run i (step es ks env) (value_of d first es env from) in
    let read : List Entry → List (List Place) → List Kind → Environment → ℕ → List Place = λ es ps ks env i. reads_of d body (record { value = run es ks env i; kind = kind ks } ∷ es) ([] ∷ ps) env (from +ℤ pos (suc i)) in
    subst (λ (ks : List Kind). Alike Value ok (reads_of d first g bs one from ++ steps_before m (read g bs (kinds g) one)) (run g (kinds g) one m) (reads_of d first h cs other from ++ steps_before m (read h cs ks other)) (run h ks other m)) n.same_kinds
    (days_alike m (run g (kinds g) one) (run h (kinds g) other) (read g bs (kinds g) one) (read h cs (kinds g) other) (reads_alike d ok one other same first g h bs cs n from) (λ i e.
    one_alike (λ ks x. widened (scale_of d body (kind (kinds g) ∷ kinds g)) (scale_of_kind (kind (kinds g))) x) [] [] refl
    (reads_alike d ok one other same body (record { value = run g (kinds g) one i; kind = kind (kinds g) } ∷ g) (record { value = run h (kinds g) other i; kind = kind (kinds g) } ∷ h) ([] ∷ bs) ([] ∷ cs)
    (one_more ok g bs h cs (run g (kinds g) one i) (run h (kinds g) other i) (kind (kinds g)) [] [] n (record { lists = refl; values = λ _. e })) (from +ℤ pos (suc i)))))
