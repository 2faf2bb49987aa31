-- Two computations that read places are alike if they read the same up to the first place that fails a test, and have
-- equal results where none fails. One step for each shape of a definition; the definitions are taken apart by them.
use Rattle.std.proofs.Common.{◌≡◌, ℕ, zero, suc, Bool, true, false, ◌&&◌, if◌then◌else◌, List, [], ◌∷◌, ◌++◌, refl, ap, ap₂, sym, subst, ◌∙◌, append_assoc, append-nil}
use Rattle.std.specs.List.{list_all}
use Rattle.term_model.specs.declared.terms.LogicOp.{LogicOp}
use Rattle.term_model.specs.declared.terms.LogicOp.TheVariants.{And, Or}
use Rattle.term_model.specs.declared.values.Kind.{Kind}
use Rattle.term_model.specs.Environments.{Place}
use Rattle.term_model.specs.Values.{logic_op}
use Rattle.term_model.specs.Reads.{up_to_first, decides, steps_before}

pub record Alike (A : Type 0) (ok : Place → Bool) (xs : List Place) (v : A) (ys : List Place) (w : A) : Type 0 where
  pub lists : up_to_first ok xs ≡ up_to_first ok ys
  pub values : list_all ok xs ≡ true → v ≡ w

pub and_left : (a b : Bool) → (a && b) ≡ true → a ≡ true
and_left true b h = refl
and_left false b h = h

pub and_right : (a b : Bool) → (a && b) ≡ true → b ≡ true
and_right true b h = h
and_right false b h = absurd (cc)

all_step : (ok : Place → Bool) (x : Place) (b : Bool) (xs zs : List Place) → ok x ≡ b → list_all ok zs ≡ list_all ok xs → list_all ok (x ∷ (if b then zs else [])) ≡ (ok x && list_all ok xs)
all_step ok x true xs zs h e = ap (λ (r : Bool). ok x && r) e
all_step ok x false xs zs h e = rw h refl

all-up_to_first : (ok : Place → Bool) (xs : List Place) → list_all ok (up_to_first ok xs) ≡ list_all ok xs
all-up_to_first ok [] = refl
all-up_to_first ok (x ∷ xs) = all_step ok x (ok x) xs (up_to_first ok xs) refl (all-up_to_first ok xs)

pub all_same : (ok : Place → Bool) (xs ys : List Place) → up_to_first ok xs ≡ up_to_first ok ys → list_all ok xs ≡ list_all ok ys
all_same ok xs ys h = sym (all-up_to_first ok xs) ∙ ap (list_all ok) h ∙ all-up_to_first ok ys

and_assoc : (a b c : Bool) → (a && (b && c)) ≡ ((a && b) && c)
and_assoc true b c = refl
and_assoc false b c = refl

pub all-append : (ok : Place → Bool) (xs ys : List Place) → list_all ok (xs ++ ys) ≡ (list_all ok xs && list_all ok ys)
all-append ok [] ys = refl
all-append ok (x ∷ xs) ys = ap (λ (r : Bool). ok x && r) (all-append ok xs ys) ∙ and_assoc (ok x) (list_all ok xs) (list_all ok ys)

pub all_left : (ok : Place → Bool) (xs ys : List Place) → list_all ok (xs ++ ys) ≡ true → list_all ok xs ≡ true
all_left ok xs ys h = and_left (list_all ok xs) (list_all ok ys) (sym (all-append ok xs ys) ∙ h)

pub all_right : (ok : Place → Bool) (xs ys : List Place) → list_all ok (xs ++ ys) ≡ true → list_all ok ys ≡ true
all_right ok xs ys h = and_right (list_all ok xs) (list_all ok ys) (sym (all-append ok xs ys) ∙ h)

-- what stands before a list that may be read
abbrev after_all : Bool → List Place → List Place → List Place
after_all b xs ys = if b then xs ++ ys else xs

first_step : (b c : Bool) (x : Place) (us zs : List Place) → (x ∷ (if b then after_all c us zs else [])) ≡ after_all (b && c) (x ∷ (if b then us else [])) zs
first_step true true x us zs = refl
first_step true false x us zs = refl
first_step false c x us zs = refl

up_to_first-append : (ok : Place → Bool) (xs zs : List Place) → up_to_first ok (xs ++ zs) ≡ after_all (list_all ok xs) (up_to_first ok xs) (up_to_first ok zs)
up_to_first-append ok [] zs = refl
up_to_first-append ok (x ∷ xs) zs =
    ap (λ (us : List Place). x ∷ (if ok x then us else [])) (up_to_first-append ok xs zs)
    ∙ first_step (ok x) (list_all ok xs) x (up_to_first ok xs) (up_to_first ok zs)

lists_join : (b : Bool) (us vs zs ws : List Place) → us ≡ vs → (b ≡ true → zs ≡ ws) → after_all b us zs ≡ after_all b vs ws
lists_join true us vs zs ws h k = ap₂ (λ (x y : List Place). x ++ y) h (k refl)
lists_join false us vs zs ws h k = h

-- one computation, and then another that may depend on its result
pub then_alike : {A B : Type 0} {ok : Place → Bool} {xs ys zs ws : List Place} {v w : A} {a b : B} → Alike A ok xs v ys w → (v ≡ w → Alike B ok zs a ws b) → Alike B ok (xs ++ zs) a (ys ++ ws) b
then_alike {A} {B} {ok} {xs} {ys} {zs} {ws} {v} {w} {a} {b} h next =
    record {
      lists =
          up_to_first-append ok xs zs
          ∙ lists_join (list_all ok xs) (up_to_first ok xs) (up_to_first ok ys) (up_to_first ok zs) (up_to_first ok ws) h.lists (λ p. (next (h.values p)).lists)
          ∙ ap (λ (r : Bool). after_all r (up_to_first ok ys) (up_to_first ok ws)) (all_same ok xs ys h.lists)
          ∙ sym (up_to_first-append ok ys ws);
      values = λ p. (next (h.values (all_left ok xs zs p))).values (all_right ok xs zs p);
    }

pub same_alike : {A : Type 0} {ok : Place → Bool} (xs : List Place) (v : A) → Alike A ok xs v xs v
same_alike xs v = record { lists = refl; values = λ _. refl }

-- a result made from the result
pub one_alike : {A B : Type 0} {ok : Place → Bool} {xs ys : List Place} {v w : A} (F : List Kind → A → B) (ks js : List Kind) → ks ≡ js → Alike A ok xs v ys w → Alike B ok xs (F ks v) ys (F js w)
one_alike F ks js e h = record { lists = h.lists; values = λ p. ap₂ F e (h.values p) }

-- a result made from two
pub two_alike : {A B C : Type 0} {ok : Place → Bool} {xs ys zs ws : List Place} {v w : A} {a b : B} (F : List Kind → A → B → C) (ks js : List Kind) → ks ≡ js → Alike A ok xs v ys w → Alike B ok zs a ws b → Alike C ok (xs ++ zs) (F ks v a) (ys ++ ws) (F js w b)
two_alike {A} {B} {C} {ok} {xs} {ys} {zs} {ws} {v} {w} {a} {b} F ks js e h k =
    then_alike h (λ q. record { lists = k.lists; values = λ p. ap₂ (λ (x : List Kind) (y : A). F x y a) e q ∙ ap (F js w) (k.values p) })

-- another result that follows from the first
pub other_alike : {A B : Type 0} {ok : Place → Bool} {xs ys : List Place} {v w : A} (a b : B) → (v ≡ w → a ≡ b) → Alike A ok xs v ys w → Alike B ok xs a ys b
other_alike a b e h = record { lists = h.lists; values = λ p. e (h.values p) }

pub moved_alike : {A : Type 0} {ok : Place → Bool} {xs ys : List Place} {v w : A} (us vs : List Place) → xs ≡ us → ys ≡ vs → Alike A ok xs v ys w → Alike A ok us v vs w
moved_alike {A} {ok} {xs} {ys} {v} {w} us vs h k a =
    subst (λ (zs : List Place). Alike A ok us v zs w) k (subst (λ (zs : List Place). Alike A ok zs v ys w) h a)

chosen : {A : Type 0} {ok : Place → Bool} {xs ys zs ws : List Place} {v w a b : A} (t : Bool) → Alike A ok xs v ys w → Alike A ok zs a ws b → Alike A ok (if t then xs else zs) (if t then v else a) (if t then ys else ws) (if t then w else b)
chosen true h k = h
chosen false h k = k

-- one of two, by a test
pub choice_alike : {A : Type 0} {ok : Place → Bool} {xs ys zs ws : List Place} {v w a b : A} (t u : Bool) → t ≡ u → Alike A ok xs v ys w → Alike A ok zs a ws b → Alike A ok (if t then xs else zs) (if t then v else a) (if u then ys else ws) (if u then w else b)
choice_alike {A} {ok} {xs} {ys} {zs} {ws} {v} {w} {a} {b} t u e h k =
    subst (λ (r : Bool). Alike A ok (if t then xs else zs) (if t then v else a) (if r then ys else ws) (if r then w else b)) e (chosen t h k)

side : {ok : Place → Bool} {zs ws : List Place} {a b : Bool} (op : LogicOp) (t : Bool) → Alike Bool ok zs a ws b → Alike Bool ok (if decides op t then [] else zs) (logic_op op t a) (if decides op t then [] else ws) (logic_op op t b)
side And true h = h
side And false h = same_alike [] false
side Or true h = same_alike [] true
side Or false h = h

-- the right side of `&` or `|`, where the left does not decide
pub side_alike : {ok : Place → Bool} {zs ws : List Place} {a b : Bool} (op : LogicOp) (t u : Bool) → t ≡ u → Alike Bool ok zs a ws b → Alike Bool ok (if decides op t then [] else zs) (logic_op op t a) (if decides op u then [] else ws) (logic_op op u b)
side_alike {ok} {zs} {ws} {a} {b} op t u e h =
    subst (λ (r : Bool). Alike Bool ok (if decides op t then [] else zs) (logic_op op t a) (if decides op r then [] else ws) (logic_op op r b)) e (side op t h)

-- the days of an accumulator, after its start
pub days_alike : {A : Type 0} {ok : Place → Bool} {xs ys : List Place} (n : ℕ) (run go : ℕ → A) (fs gs : ℕ → List Place) → Alike A ok xs (run zero) ys (go zero) → ((i : ℕ) → run i ≡ go i → Alike A ok (fs i) (run (suc i)) (gs i) (go (suc i))) → Alike A ok (xs ++ steps_before n fs) (run n) (ys ++ steps_before n gs) (go n)
days_alike {A} {ok} {xs} {ys} zero run go fs gs h step = moved_alike (xs ++ []) (ys ++ []) (sym (append-nil xs)) (sym (append-nil ys)) h
days_alike {A} {ok} {xs} {ys} (suc n) run go fs gs h step =
    moved_alike (xs ++ (steps_before n fs ++ fs n)) (ys ++ (steps_before n gs ++ gs n)) (append_assoc xs (steps_before n fs) (fs n)) (append_assoc ys (steps_before n gs) (gs n))
    (then_alike (days_alike n run go fs gs h step) (step n))
