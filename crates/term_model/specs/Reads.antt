-- The places that are read, in order. What is chosen decides what is read: of an `if` the chosen branch, of `&` and `|`
-- the right side where the left does not decide, of an accumulator its start and then its body on each day. A name has
-- the reads of its expression, which stand beside its value; the name of an accumulator has none.
use Rattle.std.specs.Prelude.{ℕ, zero, suc, ℤ, pos, ◌+ℤ◌, ◌-ℤ◌, int_lt, ◌==◌, ◌&&◌, ◌||◌, not, Bool, false, List, [], ◌∷◌, ◌++◌, Option, Some, None, if◌then◌else◌, slice_get, unsigned_abs, min, is_some}
use Rattle.term_model.specs.Declarations.{Declarations}
use Rattle.term_model.specs.declared.terms.LogicOp.{LogicOp}
use Rattle.term_model.specs.declared.terms.LogicOp.TheVariants.{And, Or}
use Rattle.term_model.specs.Terms.{Expression, Lit, Yes, Var, Obs, Neg, Num, Cmp, Not, Logic, Cond, Widen, Round, Div, Acc}
use Rattle.term_model.specs.Terms.{Contract, Zero, Pay, Both, Scale, After, Let, Within}
use Rattle.term_model.specs.Environments.{Environment, Place, held}
use Rattle.term_model.specs.Kinds.{kind_of}
use Rattle.term_model.specs.Values.{Entry, kinds, truth, kind_or, value_of, entry_of, entry_after, first_true}
use Rattle.term_model.specs.Flows.{count_of}

abbrev pub places_or : Option (List Place) → List Place
places_or None = []
places_or (Some ps) = ps

-- the fixings hold the place
abbrev pub is_fixed : Environment → Place → Bool
is_fixed fixings q = is_some (held fixings q)

-- the first place that they do not hold
abbrev pub first_unfixed : Environment → List Place → Option Place
first_unfixed fixings [] = None
first_unfixed fixings (q ∷ qs) = if is_fixed fixings q then first_unfixed fixings qs else Some q

-- the places up to and with the first that fails a test
abbrev pub up_to_first : (Place → Bool) → List Place → List Place
up_to_first passes [] = []
up_to_first passes (q ∷ qs) = q ∷ (if passes q then up_to_first passes qs else [])

-- the left side decides
abbrev pub decides : LogicOp → Bool → Bool
decides And a = not a
decides Or a = a

-- the lists of the steps before n, one after another
abbrev pub steps_before : ℕ → (ℕ → List Place) → List Place
steps_before zero f = []
steps_before (suc n) f = steps_before n f ++ f n

-- the lists of the days 0 to n
abbrev pub upto : ℕ → (ℕ → List Place) → List Place
upto n f = steps_before (suc n) f

-- the places that e reads on day f, where each name has an entry and a list of places
abbrev pub reads_of : Declarations → Expression → List Entry → List (List Place) → Environment → ℤ → List Place
reads_of d (Lit m s) g bs env f = []
reads_of d (Yes b) g bs env f = []
reads_of d (Var back) g bs env f = places_or (slice_get bs back)
reads_of d (Obs l t) g bs env f = record { label = l; day = f +ℤ t } ∷ []
reads_of d (Neg e) g bs env f = reads_of d e g bs env f
reads_of d (Num op a b) g bs env f = reads_of d a g bs env f ++ reads_of d b g bs env f
reads_of d (Cmp op a b) g bs env f = reads_of d a g bs env f ++ reads_of d b g bs env f
reads_of d (Not e) g bs env f = reads_of d e g bs env f
reads_of d (Logic op a b) g bs env f =
    reads_of d a g bs env f ++ (if decides op (truth (value_of d a g env f)) then [] else reads_of d b g bs env f)
reads_of d (Cond t a b) g bs env f =
    reads_of d t g bs env f ++ (if truth (value_of d t g env f) then reads_of d a g bs env f else reads_of d b g bs env f)
reads_of d (Widen s e) g bs env f = reads_of d e g bs env f
reads_of d (Round mode s e) g bs env f = reads_of d e g bs env f
reads_of d (Div mode s a b) g bs env f = reads_of d a g bs env f ++ reads_of d b g bs env f
reads_of d (Acc body n first) g bs env f =
    let k = kind_or (kind_of d first (kinds g)) in
    let from = f -ℤ pos n in
    reads_of d first g bs env from
    ++ steps_before n (λ i. reads_of d body (entry_after d body first k g env from i ∷ g) ([] ∷ bs) env (from +ℤ pos (suc i)))

-- a transfer stands on an own day from a to b on the path taken
abbrev pub live : Declarations → Contract → List Entry → Environment → ℤ → ℤ → ℤ → Bool
live d Zero g env f a b = false
live d (Pay x p q) g env f a b = not (p == q) && not (int_lt (pos 0) a) && not (int_lt b (pos 0))
live d (Both x y) g env f a b = live d x g env f a b || live d y g env f a b
live d (Scale e c) g env f a b = live d c g env f a b
live d (After m c) g env f a b = live d c g env (f +ℤ pos (count_of m)) (a -ℤ pos (count_of m)) (b -ℤ pos (count_of m))
live d (Let e c) g env f a b = live d c (entry_of d e g env f ∷ g) env f a b
live d (Within e m x y) g env f a b =
    elim (first_true d e g env f (count_of m)) [
      | Some k ↦ live d x g env (f +ℤ pos k) (a -ℤ pos k) (b -ℤ pos k)
      | None ↦ live d y g env (f +ℤ pos (count_of m)) (a -ℤ pos (count_of m)) (b -ℤ pos (count_of m))
    ]

-- the last day that is tested: the day of the first true test or n, and none after b
abbrev pub tested : Option ℕ → ℕ → ℤ → ℕ
tested None n b = min n (unsigned_abs b)
tested (Some k) n b = min k (unsigned_abs b)

-- the places that a contract on frame f reads for its own days a to b: of a `scale` those of the body and then, where
-- something is transferred in it on these days, those of the factor; of an `if .. within` those of its test on each day
-- until it is true, and then those of the branch that is entered
abbrev pub reads_of_contract : Declarations → Contract → List Entry → List (List Place) → Environment → ℤ → ℤ → ℤ → List Place
reads_of_contract d Zero g bs env f a b = []
reads_of_contract d (Pay x p q) g bs env f a b = []
reads_of_contract d (Both x y) g bs env f a b = reads_of_contract d x g bs env f a b ++ reads_of_contract d y g bs env f a b
reads_of_contract d (Scale e c) g bs env f a b =
    reads_of_contract d c g bs env f a b ++ (if live d c g env f a b then reads_of d e g bs env f else [])
reads_of_contract d (After m c) g bs env f a b =
    reads_of_contract d c g bs env (f +ℤ pos (count_of m)) (a -ℤ pos (count_of m)) (b -ℤ pos (count_of m))
reads_of_contract d (Let e c) g bs env f a b =
    reads_of_contract d c (entry_of d e g env f ∷ g) (reads_of d e g bs env f ∷ bs) env f a b
reads_of_contract d (Within e m x y) g bs env f a b =
    let n = count_of m in
    if int_lt b (pos 0) then [] else
    (upto (tested (first_true d e g env f n) n b) (λ i. reads_of d e g bs env (f +ℤ pos i))
    ++ (elim (first_true d e g env f n) [
      | Some k ↦ if int_lt b (pos k) then [] else reads_of_contract d x g bs env (f +ℤ pos k) (a -ℤ pos k) (b -ℤ pos k)
      | None ↦ if int_lt b (pos n) then [] else reads_of_contract d y g bs env (f +ℤ pos n) (a -ℤ pos n) (b -ℤ pos n)
    ]))
