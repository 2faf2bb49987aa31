-- What a trial by structure answers, against the order in which the rules of acceptance try nodes: step by step, where
-- a node passes by a test that computes.
use Rattle.std.proofs.Common.{◌≡◌, ℕ, ◌+◌, Bool, true, false, ◌&&◌, if◌then◌else◌, List, [], ◌∷◌, ◌++◌, Option, Some, None, Result, Ok, Err, refl, ap, ◌∙◌, arith}
use Rattle.term_model.specs.Sites.{Site}
use Rattle.term_core.specs.Trying.{then_do, moved}
use Rattle.term_model.proofs.Trials.{or_else, first_failing, first_failing-append}

-- A trial of the nodes from number k on finds what something is said of, where all pass, or else the first that does
-- not.
abbrev pub Finds : {A : Type 0} → (Site → Bool) → List Site → ℕ → (A → Type 0) → Result A ℕ → Type 0
Finds p xs k S (Ok x) = (first_failing p xs ≡ None) × S x
Finds p xs k S (Err j) = first_failing p xs ≡ Some (k + j)

-- a part, counted from the node before
pub shift : {A : Type 0} (p : Site → Bool) (xs : List Site) (k m n : ℕ) (S : A → Type 0) (a : Result A ℕ) → m ≡ k + n → Finds p xs m S a → Finds p xs k S (moved n a)
shift p xs k m n S (Ok x) e h = h
shift p xs k m n S (Err j) e h = let q : m + j ≡ k + (n + j) = omega (arith, e) in h ∙ ap (λ (i : ℕ). Some i) q

passes : (p : Site → Bool) (xs ys : List Site) → first_failing p xs ≡ None → first_failing p (xs ++ ys) ≡ first_failing p ys
passes p xs ys e = first_failing-append p xs ys ∙ ap (λ (o : Option ℕ). or_else o (first_failing p ys)) e

stops : (p : Site → Bool) (xs ys : List Site) (k : ℕ) → first_failing p xs ≡ Some k → first_failing p (xs ++ ys) ≡ Some k
stops p xs ys k e = first_failing-append p xs ys ∙ ap (λ (o : Option ℕ). or_else o (first_failing p ys)) e

prefix : {B : Type 0} (p : Site → Bool) (xs ys : List Site) (k : ℕ) (T : B → Type 0) (b : Result B ℕ) → first_failing p xs ≡ None → Finds p ys k T b → Finds p (xs ++ ys) k T b
prefix p xs ys k T (Ok y) e h = (passes p xs ys e ∙ h.0, h.1)
prefix p xs ys k T (Err j) e h = passes p xs ys e ∙ h

-- a part, and what comes after it
pub seq : {A B : Type 0} (p : Site → Bool) (xs ys : List Site) (k : ℕ) (S : A → Type 0) (T : B → Type 0) (a : Result A ℕ) (go : A → Result B ℕ) → Finds p xs k S a → ((x : A) → S x → Finds p ys k T (go x)) → Finds p (xs ++ ys) k T (then_do a go)
seq p xs ys k S T (Err j) go h f = stops p xs ys (k + j) h
seq p xs ys k S T (Ok x) go h f = prefix p xs ys k T (go x) h.0 (f x h.1)

-- a node that passes
pub fine : {A : Type 0} (p : Site → Bool) (s : Site) (k : ℕ) (S : A → Type 0) (x : A) → p s ≡ true → S x → Finds p (s ∷ []) k S (Ok x)
fine p s k S x e h = (ap (λ (b : Bool). if b then None else Some s.number) e, h)

-- a part, and then the node itself, which passes where the part does
pub ends : {A : Type 0} (p : Site → Bool) (xs : List Site) (s : Site) (k : ℕ) (S T : A → Type 0) (a : Result A ℕ) → Finds p xs k S a → ((x : A) → S x → (p s ≡ true) × T x) → Finds p (xs ++ s ∷ []) k T a
ends p xs s k S T (Err j) h f = stops p xs (s ∷ []) (k + j) h
ends p xs s k S T (Ok x) h f = let q = f x h.1 in prefix p xs (s ∷ []) k T (Ok x) h.0 (fine p s k T x q.0 q.1)

-- a node that passes by a test
pub here : {A : Type 0} (p : Site → Bool) (s : Site) (k : ℕ) (S : A → Type 0) (b : Bool) (x : A) → s.number ≡ k → p s ≡ b → (b ≡ true → S x) → Finds p (s ∷ []) k S (if b then Ok x else Err 0)
here p s k S true x n e f = fine p s k S x e (f refl)
here p s k S false x n e f =
    let m : s.number ≡ k + 0 = omega (arith, n) in
    ap (λ (c : Bool). if c then None else Some s.number) e ∙ ap (λ (i : ℕ). Some i) m

-- a node that passes by two tests
pub here_twice : {A : Type 0} (p : Site → Bool) (s : Site) (k : ℕ) (S : A → Type 0) (b c : Bool) (x : A) → s.number ≡ k → p s ≡ (c && b) → (c ≡ true → S x) → Finds p (s ∷ []) k S (if b then (if c then Ok x else Err 0) else Err 0)
here_twice p s k S true true x n e f = here p s k S true x n e f
here_twice p s k S true false x n e f = here p s k S false x n e f
here_twice p s k S false true x n e f = here p s k S false x n e (λ h. f refl)
here_twice p s k S false false x n e f = here p s k S false x n e (λ h. f (let q : false ≡ true = h in cc))
