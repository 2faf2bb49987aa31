-- The trial of sorts by structure finds the first node that breaks the rule on sorts.
use Rattle.std.proofs.Common.{◌≡◌, ℕ, ◌+◌, Bool, true, false, if◌then◌else◌, List, [], ◌∷◌, ◌++◌, map, Option, Some, None, Ok, Err, is_some, refl, ap, sym, subst, ◌∙◌, arith, slice_get, zero, suc, zero-add}
use Rattle.term_model.specs.Declarations.{Declarations}
use Rattle.term_model.specs.declared.values.Kind.{Kind}
use Rattle.term_model.specs.declared.values.Kind.TheVariants.{Truth as TruthKind, Number as NumberKind}
use Rattle.term_model.specs.declared.rules.Rule.TheVariants.{Sort as SortRule}
use Rattle.term_model.specs.Terms.{Expression, Lit, Yes, Var, Obs, Neg, Num, Cmp, Not, Logic, Cond, Widen, Round, Div, Acc}
use Rattle.term_model.specs.Terms.{Contract, Zero, Pay, Both, Scale, After, Let, Within}
use Rattle.term_model.specs.Environments.{label_of}
use Rattle.term_model.specs.Flows.{count_of}
use Rattle.term_model.specs.Kinds.{kind_of, kind_of_label, scale_of_op, on_number, on_numbers, on_truth, joined, of_acc}
use Rattle.term_model.specs.Values.{kind_or}
use Rattle.term_model.specs.Sizes.{nodes, nodes_of_contract}
use Rattle.term_model.specs.Sites.{Site, Layer, Naming, Counting, Later, Earlier, Undated, Once, sites_of, sites_of_contract, sites, expression_at, contract_at, kinds_round}
use Rattle.term_model.specs.Sorts.{is_sorted, is_number, is_truth}
use Rattle.term_model.specs.Acceptance.{Meets, FailsAt}
use Rattle.term_model.proofs.Trials.{or_else, first_failing, first_failing-append, first_failing-is, FaultIs}
use Rattle.time_types.specs.declared.observed_sorts.Sort.{Sort}
use Rattle.time_types.specs.declared.observed_sorts.Sort.TheVariants.{Truth, Number}
use Rattle.term_core.specs.Trying.{then_do, moved, or_here}
use Rattle.time_types.specs.SortKinds.{sort_of_kind, sort_of}
use Rattle.time_types.specs.SortTrials.{Answer, expected, one_tried, two_tried, sort_tried, Sorted, required, sorts_tried}

-- What a trial of the nodes from number k on answers: the sort of a kind, where all pass, or else the first that does
-- not.
abbrev pub Finds : (Site → Bool) → List Site → ℕ → Answer → Option Kind → Type 0
Finds p xs k (Ok s) w = (first_failing p xs ≡ None) × (sort_of w ≡ Some s)
Finds p xs k (Err j) w = first_failing p xs ≡ Some (k + j)

-- at the node itself
abbrev pub HereIs : Answer → Option Kind → Type 0
HereIs (Ok s) w = sort_of w ≡ Some s
HereIs (Err j) w = (w ≡ None) × (j ≡ 0)

abbrev pub Passed : (Site → Bool) → List Site → ℕ → Sorted → Type 0
Passed p xs k (Ok u) = first_failing p xs ≡ None
Passed p xs k (Err j) = first_failing p xs ≡ Some (k + j)

leaf : (p : Site → Bool) (s : Site) (k : ℕ) (a : Answer) (w : Option Kind) → s.number ≡ k → p s ≡ is_some w → HereIs a w → Finds p (s ∷ []) k a w
leaf p s k (Ok x) None n e h = absurd (cc)
leaf p s k (Ok x) (Some y) n e h = (ap (λ (b : Bool). if b then None else Some s.number) e, h)
leaf p s k (Err j) w n e h =
    let f : p s ≡ false = e ∙ ap (λ (o : Option Kind). is_some o) h.0 in
    let m : s.number ≡ k + j = omega (arith, n, h.1) in
    ap (λ (b : Bool). if b then None else Some s.number) f ∙ ap (λ (i : ℕ). Some i) m

shift : (p : Site → Bool) (xs : List Site) (k m n : ℕ) (a : Answer) (w : Option Kind) → m ≡ k + n → Finds p xs m a w → Finds p xs k (moved n a) w
shift p xs k m n (Ok s) w e h = h
shift p xs k m n (Err j) w e h = let q : m + j ≡ k + (n + j) = omega (arith, e) in h ∙ ap (λ (i : ℕ). Some i) q

prefix : (p : Site → Bool) (xs ys : List Site) (k : ℕ) (a : Answer) (w : Option Kind) → first_failing p xs ≡ None → Finds p ys k a w → Finds p (xs ++ ys) k a w
prefix p xs ys k (Ok s) w e h =
    (first_failing-append p xs ys ∙ ap (λ (o : Option ℕ). or_else o (first_failing p ys)) e ∙ h.0, h.1)
prefix p xs ys k (Err j) w e h =
    first_failing-append p xs ys ∙ ap (λ (o : Option ℕ). or_else o (first_failing p ys)) e ∙ h

stops : (p : Site → Bool) (xs ys : List Site) (k : ℕ) → first_failing p xs ≡ Some k → first_failing p (xs ++ ys) ≡ Some k
stops p xs ys k e = first_failing-append p xs ys ∙ ap (λ (o : Option ℕ). or_else o (first_failing p ys)) e

passes : (p : Site → Bool) (xs ys : List Site) → first_failing p xs ≡ None → first_failing p (xs ++ ys) ≡ first_failing p ys
passes p xs ys e = first_failing-append p xs ys ∙ ap (λ (o : Option ℕ). or_else o (first_failing p ys)) e

-- a part, and what comes after it where the part has a kind
seq : (p : Site → Bool) (xs ys : List Site) (k : ℕ) (a : Answer) (v w : Option Kind) (go : Sort → Answer) → Finds p xs k a v → ((x : Kind) → v ≡ Some x → Finds p ys k (go (sort_of_kind x)) w) → Finds p (xs ++ ys) k (then_do a go) w
seq p xs ys k (Err j) v w go h f = stops p xs ys (k + j) h
seq p xs ys k (Ok s) None w go h f = let q : None ≡ Some s = h.1 in absurd (cc)
seq p xs ys k (Ok s) (Some x) w go h f =
    let q : sort_of_kind x ≡ s = let q' : Some (sort_of_kind x) ≡ Some s = h.1 in cc in
    prefix p xs ys k (go s) w h.0 (subst (λ (t : Sort). Finds p ys k (go t) w) q (f x refl))

one : (p : Site → Bool) (xs : List Site) (s : Site) (k : ℕ) (wanted answer : Sort) (a : Answer) (v : Option Kind) (F : Option Kind → Option Kind) → s.number ≡ k → p s ≡ is_some (F v) → Finds p xs (k + 1) a v → ((x : Kind) → HereIs (expected wanted (sort_of_kind x) answer) (F (Some x))) → Finds p (xs ++ s ∷ []) k (one_tried wanted answer a) (F v)
one p xs s k wanted answer a v F n e h here =
    seq p xs (s ∷ []) k (moved 1 a) v (F v) (λ t. expected wanted t answer) (shift p xs k (k + 1) 1 a v refl h)
    (λ x q. leaf p s k (expected wanted (sort_of_kind x) answer) (F v) n e (subst (λ (o : Option Kind). HereIs (expected wanted (sort_of_kind x) answer) (F o)) (sym q) (here x)))

abbrev pub pair_expected : Sort → Sort → Sort → Sort → Answer
pair_expected wanted answer s t = then_do (expected wanted s answer) (λ _. expected wanted t answer)

two : (p : Site → Bool) (xs ys : List Site) (s : Site) (k n : ℕ) (wanted answer : Sort) (a b : Answer) (v w : Option Kind) (F : Option Kind → Option Kind → Option Kind) → s.number ≡ k → p s ≡ is_some (F v w) → Finds p xs (k + 1) a v → Finds p ys (k + 1 + n) b w → ((x y : Kind) → HereIs (pair_expected wanted answer (sort_of_kind x) (sort_of_kind y)) (F (Some x) (Some y))) → Finds p (xs ++ (ys ++ s ∷ [])) k (two_tried wanted answer n a b) (F v w)
two p xs ys s k n wanted answer a b v w F m e h i here =
    seq p xs (ys ++ s ∷ []) k (moved 1 a) v (F v w) (λ t. then_do (moved (1 + n) b) (λ u. pair_expected wanted answer t u)) (shift p xs k (k + 1) 1 a v refl h)
    (λ x q. seq p ys (s ∷ []) k (moved (1 + n) b) w (F v w) (λ u. pair_expected wanted answer (sort_of_kind x) u) (shift p ys k (k + 1 + n) (1 + n) b w (omega arith) i)
    (λ y r. leaf p s k (pair_expected wanted answer (sort_of_kind x) (sort_of_kind y)) (F v w) m e
    (subst (λ (o : Option Kind). HereIs (pair_expected wanted answer (sort_of_kind x) (sort_of_kind y)) (F o w)) (sym q)
    (subst (λ (o : Option Kind). HereIs (pair_expected wanted answer (sort_of_kind x) (sort_of_kind y)) (F (Some x) o)) (sym r) (here x y)))))

-- The operators.

found_here : (w : Option Kind) → HereIs (or_here (sort_of w)) w
found_here None = (refl, refl)
found_here (Some k) = refl

name_here : (ks : List Kind) (back : ℕ) → HereIs (or_here (slice_get (map sort_of_kind ks) back)) (slice_get ks back)
name_here [] back = (refl, refl)
name_here (k ∷ ks) zero = refl
name_here (k ∷ ks) (suc back) = name_here ks back

number_here : (f : ℕ → ℕ) (x : Kind) → HereIs (expected Number (sort_of_kind x) Number) (on_number (λ s. Some (NumberKind (f s))) (Some x))
number_here f TruthKind = (refl, refl)
number_here f (NumberKind s) = refl

truth_here : (x : Kind) → HereIs (expected Truth (sort_of_kind x) Truth) (on_truth (Some x) (Some TruthKind))
truth_here TruthKind = refl
truth_here (NumberKind s) = (refl, refl)

numbers_here : (f : ℕ → ℕ → ℕ) (x y : Kind) → HereIs (pair_expected Number Number (sort_of_kind x) (sort_of_kind y)) (on_numbers (λ s t. Some (NumberKind (f s t))) (Some x) (Some y))
numbers_here f TruthKind y = (refl, refl)
numbers_here f (NumberKind s) TruthKind = (refl, refl)
numbers_here f (NumberKind s) (NumberKind t) = refl

compared_here : (x y : Kind) → HereIs (pair_expected Number Truth (sort_of_kind x) (sort_of_kind y)) (on_numbers (λ s t. Some TruthKind) (Some x) (Some y))
compared_here TruthKind y = (refl, refl)
compared_here (NumberKind s) TruthKind = (refl, refl)
compared_here (NumberKind s) (NumberKind t) = refl

truths_here : (x y : Kind) → HereIs (pair_expected Truth Truth (sort_of_kind x) (sort_of_kind y)) (on_truth (Some x) (on_truth (Some y) (Some TruthKind)))
truths_here TruthKind TruthKind = refl
truths_here TruthKind (NumberKind s) = (refl, refl)
truths_here (NumberKind s) y = (refl, refl)

abbrev pub choice_expected : Sort → Sort → Sort → Answer
choice_expected s x y = then_do (expected Truth s Truth) (λ _. expected x y x)

choice_here : (x y z : Kind) → HereIs (choice_expected (sort_of_kind x) (sort_of_kind y) (sort_of_kind z)) (on_truth (Some x) (joined (Some y) (Some z)))
choice_here (NumberKind s) y z = (refl, refl)
choice_here TruthKind TruthKind TruthKind = refl
choice_here TruthKind TruthKind (NumberKind t) = (refl, refl)
choice_here TruthKind (NumberKind s) TruthKind = (refl, refl)
choice_here TruthKind (NumberKind s) (NumberKind t) = refl

acc_cases : (x y : Kind) → HereIs (expected (sort_of_kind x) (sort_of_kind y) (sort_of_kind x)) (of_acc (Some x) (λ _. Some y))
acc_cases TruthKind TruthKind = refl
acc_cases TruthKind (NumberKind t) = (refl, refl)
acc_cases (NumberKind s) TruthKind = (refl, refl)
acc_cases (NumberKind s) (NumberKind t) = refl

acc_at : (x : Kind) (f : Kind → Option Kind) → of_acc (Some x) f ≡ of_acc (Some x) (λ _. f x)
acc_at TruthKind f = refl
acc_at (NumberKind s) f = refl

acc_here : (x y : Kind) (f : Kind → Option Kind) → f x ≡ Some y → HereIs (expected (sort_of_kind x) (sort_of_kind y) (sort_of_kind x)) (of_acc (Some x) f)
acc_here x y f e =
    subst (λ (o : Option Kind). HereIs (expected (sort_of_kind x) (sort_of_kind y) (sort_of_kind x)) o)
    (sym (acc_at x f ∙ ap (λ (o : Option Kind). of_acc (Some x) (λ _. o)) e)) (acc_cases x y)

abbrev pub names : Declarations → List Layer → List Sort
names d r = map sort_of_kind (kinds_round d r)

abbrev pub SortFinds : Declarations → Expression → Type 0
SortFinds d e =
    (r : List Layer) (k : ℕ) → Finds (is_sorted d) (sites_of Once e r k) k (sort_tried d e (names d r)) (kind_of d e (kinds_round d r))

cond_finds : (d : Declarations) (t a b : Expression) → SortFinds d t → SortFinds d a → SortFinds d b → SortFinds d (Cond t a b)
cond_finds d t a b ht ha hb r k =
    let p : Site → Bool = is_sorted d in
    let ks : List Kind = kinds_round d r in
    let ss : List Sort = names d r in
    let s : Site = expression_at k r (Cond t a b) in
    let w : Option Kind = kind_of d (Cond t a b) ks in
    let ta = sort_tried d a ss in
    let tb = sort_tried d b ss in
    let xs = sites_of Once t r (k + 1) in
    let ys = sites_of Once a r (k + 1 + nodes t) in
    let zs = sites_of Once b r (k + 1 + nodes t + nodes a) in
    seq p xs (ys ++ (zs ++ s ∷ [])) k (moved 1 (sort_tried d t ss)) (kind_of d t ks) w
    (λ u. then_do (moved (1 + nodes t) ta) (λ v. then_do (moved (nodes t) (moved (1 + nodes a) tb)) (λ z. choice_expected u v z)))
    (shift p xs k (k + 1) 1 (sort_tried d t ss) (kind_of d t ks) refl (ht r (k + 1)))
    (λ x ex. seq p ys (zs ++ s ∷ []) k (moved (1 + nodes t) ta) (kind_of d a ks) w (λ v. then_do (moved (nodes t) (moved (1 + nodes a) tb)) (λ z. choice_expected (sort_of_kind x) v z))
    (shift p ys k (k + 1 + nodes t) (1 + nodes t) ta (kind_of d a ks) (omega arith) (ha r (k + 1 + nodes t)))
    (λ y ey. seq p zs (s ∷ []) k (moved (nodes t) (moved (1 + nodes a) tb)) (kind_of d b ks) w (λ z. choice_expected (sort_of_kind x) (sort_of_kind y) z)
    (shift p zs k (k + nodes t) (nodes t) (moved (1 + nodes a) tb) (kind_of d b ks) refl
    (shift p zs (k + nodes t) (k + 1 + nodes t + nodes a) (1 + nodes a) tb (kind_of d b ks) (omega arith) (hb r (k + 1 + nodes t + nodes a))))
    (λ z ez. leaf p s k (choice_expected (sort_of_kind x) (sort_of_kind y) (sort_of_kind z)) w refl refl
    (let A : Answer = choice_expected (sort_of_kind x) (sort_of_kind y) (sort_of_kind z) in
    subst (λ (o : Option Kind). HereIs A (on_truth o (joined (kind_of d a ks) (kind_of d b ks)))) (sym ex)
    (subst (λ (o : Option Kind). HereIs A (on_truth (Some x) (joined o (kind_of d b ks)))) (sym ey)
    (subst (λ (o : Option Kind). HereIs A (on_truth (Some x) (joined (Some y) o))) (sym ez) (choice_here x y z)))))))

acc_finds : (d : Declarations) (body : Expression) (n : ℕ) (first : Expression) → SortFinds d body → SortFinds d first → SortFinds d (Acc body n first)
acc_finds d body n first hb hf r k =
    let p : Site → Bool = is_sorted d in
    let ks : List Kind = kinds_round d r in
    let ss : List Sort = names d r in
    let s : Site = expression_at k r (Acc body n first) in
    let w : Option Kind = kind_of d (Acc body n first) ks in
    let xs = sites_of Once first (Earlier n ∷ r) (k + 1 + nodes body) in
    let ys = sites_of Once body (Counting body zero first ∷ r) (k + 1) in
    seq p xs (ys ++ s ∷ []) k (moved (1 + nodes body) (sort_tried d first ss)) (kind_of d first ks) w
    (λ u. then_do (moved 1 (sort_tried d body (u ∷ ss))) (λ t. expected u t u))
    (shift p xs k (k + 1 + nodes body) (1 + nodes body) (sort_tried d first ss) (kind_of d first ks) (omega arith) (hf (Earlier n ∷ r) (k + 1 + nodes body)))
    (λ x ex.
    let h : Finds p ys (k + 1) (sort_tried d body (sort_of_kind x ∷ ss)) (kind_of d body (x ∷ ks)) =
    subst (λ (o : Option Kind). Finds p ys (k + 1) (sort_tried d body (sort_of_kind (kind_or o) ∷ ss)) (kind_of d body (kind_or o ∷ ks))) ex (hb (Counting body zero first ∷ r) (k + 1)) in
    seq p ys (s ∷ []) k (moved 1 (sort_tried d body (sort_of_kind x ∷ ss))) (kind_of d body (x ∷ ks)) w (λ t. expected (sort_of_kind x) t (sort_of_kind x))
    (shift p ys k (k + 1) 1 (sort_tried d body (sort_of_kind x ∷ ss)) (kind_of d body (x ∷ ks)) refl h)
    (λ y ey. leaf p s k (expected (sort_of_kind x) (sort_of_kind y) (sort_of_kind x)) w refl refl
    (subst (λ (o : Option Kind). HereIs (expected (sort_of_kind x) (sort_of_kind y) (sort_of_kind x)) (of_acc o (λ u. kind_of d body (u ∷ ks)))) (sym ex)
    (acc_here x y (λ u. kind_of d body (u ∷ ks)) ey))))

pub sort_finds : (d : Declarations) (e : Expression) → SortFinds d e
sort_finds d (Lit m s) r k = leaf (is_sorted d) (expression_at k r (Lit m s)) k (Ok Number) (Some (NumberKind s)) refl refl refl
sort_finds d (Yes b) r k = leaf (is_sorted d) (expression_at k r (Yes b)) k (Ok Truth) (Some TruthKind) refl refl refl
sort_finds d (Var back) r k =
    leaf (is_sorted d) (expression_at k r (Var back)) k (or_here (slice_get (names d r) back)) (slice_get (kinds_round d r) back) refl refl
    (name_here (kinds_round d r) back)
sort_finds d (Obs l t) r k =
    leaf (is_sorted d) (expression_at k r (Obs l t)) k (or_here (sort_of (kind_of_label (label_of d l)))) (kind_of_label (label_of d l)) refl refl
    (found_here (kind_of_label (label_of d l)))
sort_finds d (Neg e) r k =
    one (is_sorted d) (sites_of Once e r (k + 1)) (expression_at k r (Neg e)) k Number Number (sort_tried d e (names d r)) (kind_of d e (kinds_round d r)) (λ o. on_number (λ s. Some (NumberKind s)) o) refl refl (sort_finds d e r (k + 1))
    (number_here (λ s. s))
sort_finds d (Not e) r k =
    one (is_sorted d) (sites_of Once e r (k + 1)) (expression_at k r (Not e)) k Truth Truth (sort_tried d e (names d r)) (kind_of d e (kinds_round d r)) (λ o. on_truth o (Some TruthKind)) refl refl (sort_finds d e r (k + 1))
    truth_here
sort_finds d (Widen s e) r k =
    one (is_sorted d) (sites_of Once e r (k + 1)) (expression_at k r (Widen s e)) k Number Number (sort_tried d e (names d r)) (kind_of d e (kinds_round d r)) (λ o. on_number (λ _. Some (NumberKind s)) o) refl refl (sort_finds d e r (k + 1))
    (number_here (λ _. s))
sort_finds d (Round mode s e) r k =
    one (is_sorted d) (sites_of Once e r (k + 1)) (expression_at k r (Round mode s e)) k Number Number (sort_tried d e (names d r)) (kind_of d e (kinds_round d r)) (λ o. on_number (λ _. Some (NumberKind s)) o) refl refl (sort_finds d e r (k + 1))
    (number_here (λ _. s))
sort_finds d (Num op a b) r k =
    two (is_sorted d) (sites_of Once a r (k + 1)) (sites_of Once b r (k + 1 + nodes a)) (expression_at k r (Num op a b)) k (nodes a) Number Number (sort_tried d a (names d r)) (sort_tried d b (names d r)) (kind_of d a (kinds_round d r)) (kind_of d b (kinds_round d r)) (λ o v. on_numbers (λ s t. Some (NumberKind (scale_of_op op s t))) o v) refl refl (sort_finds d a r (k + 1)) (sort_finds d b r (k + 1 + nodes a))
    (numbers_here (scale_of_op op))
sort_finds d (Cmp op a b) r k =
    two (is_sorted d) (sites_of Once a r (k + 1)) (sites_of Once b r (k + 1 + nodes a)) (expression_at k r (Cmp op a b)) k (nodes a) Number Truth (sort_tried d a (names d r)) (sort_tried d b (names d r)) (kind_of d a (kinds_round d r)) (kind_of d b (kinds_round d r)) (λ o v. on_numbers (λ s t. Some TruthKind) o v) refl refl (sort_finds d a r (k + 1)) (sort_finds d b r (k + 1 + nodes a))
    compared_here
sort_finds d (Logic op a b) r k =
    two (is_sorted d) (sites_of Once a r (k + 1)) (sites_of Once b r (k + 1 + nodes a)) (expression_at k r (Logic op a b)) k (nodes a) Truth Truth (sort_tried d a (names d r)) (sort_tried d b (names d r)) (kind_of d a (kinds_round d r)) (kind_of d b (kinds_round d r)) (λ o v. on_truth o (on_truth v (Some TruthKind))) refl refl (sort_finds d a r (k + 1)) (sort_finds d b r (k + 1 + nodes a))
    truths_here
sort_finds d (Div mode s a b) r k =
    two (is_sorted d) (sites_of Once a r (k + 1)) (sites_of Once b r (k + 1 + nodes a)) (expression_at k r (Div mode s a b)) k (nodes a) Number Number (sort_tried d a (names d r)) (sort_tried d b (names d r)) (kind_of d a (kinds_round d r)) (kind_of d b (kinds_round d r)) (λ o v. on_numbers (λ _ _. Some (NumberKind s)) o v) refl refl (sort_finds d a r (k + 1)) (sort_finds d b r (k + 1 + nodes a))
    (numbers_here (λ _ _. s))
sort_finds d (Cond t a b) r k = cond_finds d t a b (sort_finds d t) (sort_finds d a) (sort_finds d b) r k
sort_finds d (Acc body n first) r k = acc_finds d body n first (sort_finds d body) (sort_finds d first) r k

-- Contracts.

here : (p : Site → Bool) (s : Site) (k : ℕ) → s.number ≡ k → p s ≡ false → Passed p (s ∷ []) k (Err 0)
here p s k n e =
    let m : s.number ≡ k + 0 = omega (arith, n) in
    ap (λ (b : Bool). if b then None else Some s.number) e ∙ ap (λ (i : ℕ). Some i) m

fine : (p : Site → Bool) (s : Site) → p s ≡ true → first_failing p (s ∷ []) ≡ None
fine p s e = ap (λ (b : Bool). if b then None else Some s.number) e

shifted : (p : Site → Bool) (xs : List Site) (k m n : ℕ) (a : Sorted) → m ≡ k + n → Passed p xs m a → Passed p xs k (moved n a)
shifted p xs k m n (Ok u) e h = h
shifted p xs k m n (Err j) e h = let q : m + j ≡ k + (n + j) = omega (arith, e) in h ∙ ap (λ (i : ℕ). Some i) q

-- a part, and then the node itself, which passes
ended : (p : Site → Bool) (xs : List Site) (s : Site) (k : ℕ) (a : Sorted) → p s ≡ true → Passed p xs k a → Passed p (xs ++ s ∷ []) k a
ended p xs s k (Ok u) e h = passes p xs (s ∷ []) h ∙ fine p s e
ended p xs s k (Err j) e h = stops p xs (s ∷ []) (k + j) h

prefixed : (p : Site → Bool) (xs ys : List Site) (k : ℕ) (a : Sorted) → first_failing p xs ≡ None → Passed p ys k a → Passed p (xs ++ ys) k a
prefixed p xs ys k (Ok u) e h = passes p xs ys e ∙ h
prefixed p xs ys k (Err j) e h = passes p xs ys e ∙ h

-- an expression, and what comes after it where it has a kind
after_sort : (p : Site → Bool) (xs ys : List Site) (k : ℕ) (a : Answer) (v : Option Kind) (go : Sort → Sorted) → Finds p xs k a v → ((x : Kind) → v ≡ Some x → Passed p ys k (go (sort_of_kind x))) → Passed p (xs ++ ys) k (then_do a go)
after_sort p xs ys k (Err j) v go h f = stops p xs ys (k + j) h
after_sort p xs ys k (Ok s) None go h f = let q : None ≡ Some s = h.1 in absurd (cc)
after_sort p xs ys k (Ok s) (Some x) go h f =
    let q : sort_of_kind x ≡ s = let q' : Some (sort_of_kind x) ≡ Some s = h.1 in cc in
    prefixed p xs ys k (go s) h.0 (subst (λ (t : Sort). Passed p ys k (go t)) q (f x refl))

-- a contract, and what comes after it
after_sorted : (p : Site → Bool) (xs ys : List Site) (k : ℕ) (a b : Sorted) → Passed p xs k a → Passed p ys k b → Passed p (xs ++ ys) k (then_do a (λ _. b))
after_sorted p xs ys k (Err j) b h f = stops p xs ys (k + j) h
after_sorted p xs ys k (Ok u) b h f = prefixed p xs ys k b h f

factor : (p : Site → Bool) (s : Site) (k : ℕ) (v : Option Kind) (x : Kind) → s.number ≡ k → p s ≡ is_number v → v ≡ Some x → Passed p (s ∷ []) k (required Number (sort_of_kind x))
factor p s k v (NumberKind i) n e q = fine p s (e ∙ ap (λ (o : Option Kind). is_number o) q)
factor p s k v TruthKind n e q = here p s k n (e ∙ ap (λ (o : Option Kind). is_number o) q)

test : (p : Site → Bool) (s : Site) (k : ℕ) (v : Option Kind) (x : Kind) → s.number ≡ k → p s ≡ is_truth v → v ≡ Some x → Passed p (s ∷ []) k (required Truth (sort_of_kind x))
test p s k v (NumberKind i) n e q = here p s k n (e ∙ ap (λ (o : Option Kind). is_truth o) q)
test p s k v TruthKind n e q = fine p s (e ∙ ap (λ (o : Option Kind). is_truth o) q)

abbrev pub SortsFind : Declarations → Contract → Type 0
SortsFind d c = (r : List Layer) (k : ℕ) → Passed (is_sorted d) (sites_of_contract Once c r k) k (sorts_tried d c (names d r))

first_part : (d : Declarations) (e : Expression) (r : List Layer) (k : ℕ) → Finds (is_sorted d) (sites_of Once e r (k + 1)) k (moved 1 (sort_tried d e (names d r))) (kind_of d e (kinds_round d r))
first_part d e r k =
    shift (is_sorted d) (sites_of Once e r (k + 1)) k (k + 1) 1 (sort_tried d e (names d r)) (kind_of d e (kinds_round d r)) refl (sort_finds d e r (k + 1))

scale_finds : (d : Declarations) (e : Expression) (c : Contract) → SortsFind d c → SortsFind d (Scale e c)
scale_finds d e c h r k =
    let p : Site → Bool = is_sorted d in
    let s : Site = contract_at k r (Scale e c) in
    let tc = moved (1 + nodes e) (sorts_tried d c (names d r)) in
    let ys = sites_of_contract Once c r (k + 1 + nodes e) in
    after_sort p (sites_of Once e r (k + 1)) (ys ++ s ∷ []) k (moved 1 (sort_tried d e (names d r))) (kind_of d e (kinds_round d r)) (λ t. then_do tc (λ _. required Number t)) (first_part d e r k)
    (λ x ex. after_sorted p ys (s ∷ []) k tc (required Number (sort_of_kind x))
    (shifted p ys k (k + 1 + nodes e) (1 + nodes e) (sorts_tried d c (names d r)) (omega arith) (h r (k + 1 + nodes e)))
    (factor p s k (kind_of d e (kinds_round d r)) x refl refl ex))

let_finds : (d : Declarations) (e : Expression) (c : Contract) → SortsFind d c → SortsFind d (Let e c)
let_finds d e c h r k =
    let p : Site → Bool = is_sorted d in
    let s : Site = contract_at k r (Let e c) in
    let ss : List Sort = names d r in
    let ys = sites_of_contract Once c (Naming e ∷ r) (k + 1 + nodes e) in
    after_sort p (sites_of Once e r (k + 1)) (ys ++ s ∷ []) k (moved 1 (sort_tried d e ss)) (kind_of d e (kinds_round d r)) (λ t. moved (1 + nodes e) (sorts_tried d c (t ∷ ss))) (first_part d e r k)
    (λ x ex.
    let i : Passed p ys (k + 1 + nodes e) (sorts_tried d c (sort_of_kind x ∷ ss)) =
    subst (λ (o : Option Kind). Passed p ys (k + 1 + nodes e) (sorts_tried d c (sort_of_kind (kind_or o) ∷ ss))) ex (h (Naming e ∷ r) (k + 1 + nodes e)) in
    ended p ys s k (moved (1 + nodes e) (sorts_tried d c (sort_of_kind x ∷ ss))) refl
    (shifted p ys k (k + 1 + nodes e) (1 + nodes e) (sorts_tried d c (sort_of_kind x ∷ ss)) (omega arith) i))

pub sorts_find : (d : Declarations) (c : Contract) → SortsFind d c
sorts_find d Zero r k = refl
sorts_find d (Pay a x y) r k = refl
sorts_find d (Both a b) r k =
    let p : Site → Bool = is_sorted d in
    let s : Site = contract_at k r (Both a b) in
    let ta = sorts_tried d a (names d r) in
    let tb = sorts_tried d b (names d r) in
    let xs = sites_of_contract Once a r (k + 1) in
    let ys = sites_of_contract Once b r (k + 1 + nodes_of_contract a) in
    after_sorted p xs (ys ++ s ∷ []) k (moved 1 ta) (moved (1 + nodes_of_contract a) tb) (shifted p xs k (k + 1) 1 ta refl (sorts_find d a r (k + 1)))
    (ended p ys s k (moved (1 + nodes_of_contract a) tb) refl
    (shifted p ys k (k + 1 + nodes_of_contract a) (1 + nodes_of_contract a) tb (omega arith) (sorts_find d b r (k + 1 + nodes_of_contract a))))
sorts_find d (Scale e c) r k = scale_finds d e c (sorts_find d c) r k
sorts_find d (After n c) r k =
    let p : Site → Bool = is_sorted d in
    let s : Site = contract_at k r (After n c) in
    let tc = sorts_tried d c (names d r) in
    let xs = sites_of_contract Once c (Later (count_of n) ∷ r) (k + 1) in
    ended p xs s k (moved 1 tc) refl (shifted p xs k (k + 1) 1 tc refl (sorts_find d c (Later (count_of n) ∷ r) (k + 1)))
sorts_find d (Let e c) r k = let_finds d e c (sorts_find d c) r k
sorts_find d (Within e n a b) r k =
    let p : Site → Bool = is_sorted d in
    let s : Site = contract_at k r (Within e n a b) in
    let ta = sorts_tried d a (names d r) in
    let tb = sorts_tried d b (names d r) in
    let ys = sites_of_contract Once a (Undated ∷ r) (k + 1 + nodes e) in
    let zs = sites_of_contract Once b (Later (count_of n) ∷ r) (k + 1 + nodes e + nodes_of_contract a) in
    after_sort p (sites_of Once e (Undated ∷ r) (k + 1)) (ys ++ (zs ++ s ∷ [])) k (moved 1 (sort_tried d e (names d r))) (kind_of d e (kinds_round d r))
    (λ t. then_do (moved (1 + nodes e) ta) (λ _. then_do (moved (nodes e) (moved (1 + nodes_of_contract a) tb)) (λ _. required Truth t)))
    (first_part d e (Undated ∷ r) k)
    (λ x ex. after_sorted p ys (zs ++ s ∷ []) k (moved (1 + nodes e) ta) (then_do (moved (nodes e) (moved (1 + nodes_of_contract a) tb)) (λ _. required Truth (sort_of_kind x)))
    (shifted p ys k (k + 1 + nodes e) (1 + nodes e) ta (omega arith) (sorts_find d a (Undated ∷ r) (k + 1 + nodes e)))
    (after_sorted p zs (s ∷ []) k (moved (nodes e) (moved (1 + nodes_of_contract a) tb)) (required Truth (sort_of_kind x))
    (shifted p zs k (k + nodes e) (nodes e) (moved (1 + nodes_of_contract a) tb) refl
    (shifted p zs (k + nodes e) (k + 1 + nodes e + nodes_of_contract a) (1 + nodes_of_contract a) tb (omega arith) (sorts_find d b (Later (count_of n) ∷ r) (k + 1 + nodes e + nodes_of_contract a))))
    (test p s k (kind_of d e (kinds_round d r)) x refl refl ex)))

-- The rule.

pub sorts_meet : (d : Declarations) (c : Contract) → sorts_tried d c [] ≡ Ok tt → Meets d SortRule c
sorts_meet d c e =
    let h : Passed (is_sorted d) (sites Once c) 0 (Ok tt) = subst (λ (a : Sorted). Passed (is_sorted d) (sites Once c) 0 a) e (sorts_find d c [] 0) in
    subst (λ (o : Option ℕ). FaultIs (is_sorted d) (sites Once c) o) h (first_failing-is (is_sorted d) (sites Once c))

pub sorts_fail : (d : Declarations) (c : Contract) (j : ℕ) → sorts_tried d c [] ≡ Err j → FailsAt d SortRule c j
sorts_fail d c j e =
    let h : Passed (is_sorted d) (sites Once c) 0 (Err j) = subst (λ (a : Sorted). Passed (is_sorted d) (sites Once c) 0 a) e (sorts_find d c [] 0) in
    subst (λ (o : Option ℕ). FaultIs (is_sorted d) (sites Once c) o) (h ∙ ap (λ (i : ℕ). Some i) (zero-add j)) (first_failing-is (is_sorted d) (sites Once c))
