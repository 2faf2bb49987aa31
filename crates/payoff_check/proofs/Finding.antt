-- What the trial of payoff code answers, against the order in which the rules of acceptance try nodes. Whatever the rule,
-- a trial finds the first fault where its steps do: this goes by structure once for all rules.
use Rattle.std.proofs.Common.{◌≡◌, ℕ, ℤ, ◌+◌, Bool, true, false, if◌then◌else◌, List, [], ◌∷◌, ◌++◌, map, Option, Some, None, Result, Ok, Err, IsTrue, refl, ap, sym, subst, ◌∙◌, inl, inr}
use Rattle.term_model.specs.Sizes.{nodes}
use Rattle.term_model.specs.Sites.{Trial, Layer, Naming, Site}
use Rattle.term_core.specs.Trying.{then_do}
use Rattle.term_model.proofs.Trials.{or_else}
use Rattle.term_model.proofs.Trials as expressions
use Rattle.payoff_terms.specs.TemplateDates.{Date}
use Rattle.payoff_terms.specs.Dating.{dated_by, undated}
use Rattle.payoff_terms.specs.Code.{ValueExpression, PayoffCode, Nothing, PayOn, Add, ScaleBy, LetBe, Loop, Cut}
use Rattle.payoff_terms.specs.CodeSizes.{nodes_of_code}
use Rattle.payoff_terms.specs.CodeSites.{CodeSite, InValue, AtCode, number_of, value_sites, sites_of_code, AllPassInCode, FirstFaultInCode}
use Rattle.payoff_check.specs.Trials.{Steps, code_tried}

-- the number of the first site that fails a test
abbrev pub first_failing : (CodeSite → Bool) → List CodeSite → Option ℕ
first_failing p [] = None
first_failing p (s ∷ rest) = if p s then first_failing p rest else Some (number_of s)

choice : (b : Bool) (x y : Option ℕ) (k : ℕ) → or_else (if b then x else Some k) y ≡ (if b then or_else x y else Some k)
choice true x y k = refl
choice false x y k = refl

pub first_failing-append : (p : CodeSite → Bool) (xs ys : List CodeSite) → first_failing p (xs ++ ys) ≡ or_else (first_failing p xs) (first_failing p ys)
first_failing-append p [] ys = refl
first_failing-append p (s ∷ xs) ys =
    ap (λ (o : Option ℕ). if p s then o else Some (number_of s)) (first_failing-append p xs ys)
    ∙ sym (choice (p s) (first_failing p xs) (first_failing p ys) (number_of s))

-- the sites of a value expression
pub first_failing-map : (p : CodeSite → Bool) (xs : List Site) → first_failing p (map (λ s. InValue s) xs) ≡ expressions.first_failing (λ s. p (InValue s)) xs
first_failing-map p [] = refl
first_failing-map p (s ∷ xs) = ap (λ (o : Option ℕ). if p (InValue s) then o else Some s.number) (first_failing-map p xs)

abbrev pub FaultIs : (CodeSite → Bool) → List CodeSite → Option ℕ → Type 0
FaultIs p xs (Some k) = FirstFaultInCode (λ s. IsTrue (p s)) xs k
FaultIs p xs None = AllPassInCode (λ s. IsTrue (p s)) xs

step : (p : CodeSite → Bool) (s : CodeSite) (xs : List CodeSite) (b : Bool) (o : Option ℕ) → p s ≡ b → FaultIs p xs o → FaultIs p (s ∷ xs) (if b then o else Some (number_of s))
step p s xs true (Some k) e h = inr (e, h)
step p s xs true None e h = (e, h)
step p s xs false o e h = inl ((λ t. cc), refl)

pub first_failing-is : (p : CodeSite → Bool) (xs : List CodeSite) → FaultIs p xs (first_failing p xs)
first_failing-is p [] = tt
first_failing-is p (s ∷ xs) = step p s xs (p s) (first_failing p xs) refl (first_failing-is p xs)

-- A trial finds what something is said of, where all pass, or else the first node that does not.
abbrev pub Finds : {A : Type 0} → (CodeSite → Bool) → List CodeSite → (A → Type 0) → Result A ℕ → Type 0
Finds p xs S (Ok x) = (first_failing p xs ≡ None) × S x
Finds p xs S (Err j) = first_failing p xs ≡ Some j

passes : (p : CodeSite → Bool) (xs ys : List CodeSite) → first_failing p xs ≡ None → first_failing p (xs ++ ys) ≡ first_failing p ys
passes p xs ys e = first_failing-append p xs ys ∙ ap (λ (o : Option ℕ). or_else o (first_failing p ys)) e

stops : (p : CodeSite → Bool) (xs ys : List CodeSite) (k : ℕ) → first_failing p xs ≡ Some k → first_failing p (xs ++ ys) ≡ Some k
stops p xs ys k e = first_failing-append p xs ys ∙ ap (λ (o : Option ℕ). or_else o (first_failing p ys)) e

prefix : {B : Type 0} (p : CodeSite → Bool) (xs ys : List CodeSite) (T : B → Type 0) (b : Result B ℕ) → first_failing p xs ≡ None → Finds p ys T b → Finds p (xs ++ ys) T b
prefix p xs ys T (Ok y) e h = (passes p xs ys e ∙ h.0, h.1)
prefix p xs ys T (Err j) e h = passes p xs ys e ∙ h

-- a part, and what comes after it
pub seq : {A B : Type 0} (p : CodeSite → Bool) (xs ys : List CodeSite) (S : A → Type 0) (T : B → Type 0) (a : Result A ℕ) (go : A → Result B ℕ) → Finds p xs S a → ((x : A) → S x → Finds p ys T (go x)) → Finds p (xs ++ ys) T (then_do a go)
seq p xs ys S T (Err j) go h f = stops p xs ys j h
seq p xs ys S T (Ok x) go h f = prefix p xs ys T (go x) h.0 (f x h.1)

-- a node that passes
pub fine : {A : Type 0} (p : CodeSite → Bool) (s : CodeSite) (S : A → Type 0) (x : A) → p s ≡ true → S x → Finds p (s ∷ []) S (Ok x)
fine p s S x e h = (ap (λ (b : Bool). if b then None else Some (number_of s)) e, h)

-- a node that does not
pub faulty : {A : Type 0} (p : CodeSite → Bool) (s : CodeSite) (S : A → Type 0) → p s ≡ false → Finds {A = A} p (s ∷ []) S (Err (number_of s))
faulty p s S e = ap (λ (b : Bool). if b then None else Some (number_of s)) e

-- a node that passes by a test
pub here : {A : Type 0} (p : CodeSite → Bool) (s : CodeSite) (S : A → Type 0) (b : Bool) (x : A) → p s ≡ b → (b ≡ true → S x) → Finds p (s ∷ []) S (if b then Ok x else Err (number_of s))
here p s S true x e f = fine p s S x e (f refl)
here p s S false x e f = faulty p s S e

-- what holds at each value expression and at each node of code, with its number
abbrev pub EachNode : (ValueExpression → List Layer → ℕ → Type 0) → (PayoffCode → List Layer → ℕ → Type 0) → PayoffCode → List Layer → ℕ → Type 0
EachNode P Q Nothing r n = Q Nothing r n
EachNode P Q (PayOn x a p q) r n = Q (PayOn x a p q) r n
EachNode P Q (Add k l) r n = EachNode P Q k r (n + 1) × EachNode P Q l r (n + 1 + nodes_of_code k) × Q (Add k l) r n
EachNode P Q (ScaleBy v k) r n = P v r (n + 1) × EachNode P Q k r (n + 1 + nodes (undated v)) × Q (ScaleBy v k) r n
EachNode P Q (LetBe v k) r n =
    P v r (n + 1) × EachNode P Q k (Naming (undated v) ∷ r) (n + 1 + nodes (undated v)) × Q (LetBe v k) r n
EachNode P Q (Loop v x k l) r n =
    P v r (n + 1) × EachNode P Q k r (n + 1 + nodes (undated v)) × EachNode P Q l r (n + 1 + nodes (undated v) + nodes_of_code k) × Q (Loop v x k l) r n
EachNode P Q (Cut x k) r n = EachNode P Q k r (n + 1) × Q (Cut x k) r n

-- each step of a rule finds its fault: V is said of what is found of values, S of what is found of code
pub record Follows {U A G : Type 0} (w : Steps U A G) (t : Trial) (day : Date → ℤ) (p : CodeSite → Bool) (env : List Layer → G) (V : ValueExpression → List Layer → U → Type 0) (S : PayoffCode → List Layer → A → Type 0) (P : ValueExpression → List Layer → ℕ → Type 0) (Q : PayoffCode → List Layer → ℕ → Type 0) : Type 0 where
  pub values : (v : ValueExpression) (r : List Layer) (n : ℕ) → P v r n → Finds p (value_sites t r n (dated_by day v)) (V v r) (w.value v (env r) n)
  pub enters : (v : ValueExpression) (r : List Layer) (u : U) → V v r u → w.enter u (env r) ≡ env (Naming (undated v) ∷ r)
  pub nothings : (r : List Layer) (n : ℕ) → Q Nothing r n → Finds p (AtCode n Nothing r ∷ []) (S Nothing r) (w.nothing n)
  pub payments : (x : Date) (a b c : ℕ) (r : List Layer) (n : ℕ) → Q (PayOn x a b c) r n → Finds p (AtCode n (PayOn x a b c) r ∷ []) (S (PayOn x a b c) r) (w.payment x n)
  pub sums : (k l : PayoffCode) (r : List Layer) (n : ℕ) (a b : A) → S k r a → S l r b → Q (Add k l) r n → Finds p (AtCode n (Add k l) r ∷ []) (S (Add k l) r) (w.sum a b n)
  pub factors : (v : ValueExpression) (k : PayoffCode) (r : List Layer) (n : ℕ) (u : U) (a : A) → V v r u → S k r a → Q (ScaleBy v k) r n → Finds p (AtCode n (ScaleBy v k) r ∷ []) (S (ScaleBy v k) r) (w.scaled u a n)
  pub binders : (v : ValueExpression) (k : PayoffCode) (r : List Layer) (n : ℕ) (u : U) (a : A) → V v r u → S k (Naming (undated v) ∷ r) a → Q (LetBe v k) r n → Finds p (AtCode n (LetBe v k) r ∷ []) (S (LetBe v k) r) (w.bound u a n)
  pub loops : (v : ValueExpression) (x : Date) (k l : PayoffCode) (r : List Layer) (n : ℕ) (u : U) (a b : A) → V v r u → S k r a → S l r b → Q (Loop v x k l) r n → Finds p (AtCode n (Loop v x k l) r ∷ []) (S (Loop v x k l) r) (w.looped u x a b n)
  pub cuts : (x : Date) (k : PayoffCode) (r : List Layer) (n : ℕ) (a : A) → S k r a → Q (Cut x k) r n → Finds p (AtCode n (Cut x k) r ∷ []) (S (Cut x k) r) (w.cut x a n)

pub code_finds : {U A G : Type 0} (w : Steps U A G) (t : Trial) (day : Date → ℤ) (p : CodeSite → Bool) (env : List Layer → G) (V : ValueExpression → List Layer → U → Type 0) (S : PayoffCode → List Layer → A → Type 0) (P : ValueExpression → List Layer → ℕ → Type 0) (Q : PayoffCode → List Layer → ℕ → Type 0) → Follows w t day p env V S P Q → (k : PayoffCode) (r : List Layer) (n : ℕ) → EachNode P Q k r n → Finds p (sites_of_code t day k r n) (S k r) (code_tried w k (env r) n)
code_finds w t day p env V S P Q f Nothing r n h = f.nothings r n h
code_finds w t day p env V S P Q f (PayOn x a b c) r n h = f.payments x a b c r n h
code_finds w t day p env V S P Q f (Add k l) r n h =
    let g = env r in
    let s = AtCode n (Add k l) r in
    let ys = sites_of_code t day l r (n + 1 + nodes_of_code k) in
    seq p (sites_of_code t day k r (n + 1)) (ys ++ s ∷ []) (S k r) (S (Add k l) r) (code_tried w k g (n + 1)) (λ a. then_do (code_tried w l g (n + 1 + nodes_of_code k)) (λ b. w.sum a b n)) (code_finds w t day p env V S P Q f k r (n + 1) h.0)
    (λ a ha. seq p ys (s ∷ []) (S l r) (S (Add k l) r) (code_tried w l g (n + 1 + nodes_of_code k)) (λ b. w.sum a b n) (code_finds w t day p env V S P Q f l r (n + 1 + nodes_of_code k) h.1)
    (λ b hb. f.sums k l r n a b ha hb h.2))
code_finds w t day p env V S P Q f (ScaleBy v k) r n h =
    let g = env r in
    let s = AtCode n (ScaleBy v k) r in
    let m = n + 1 + nodes (undated v) in
    let ys = sites_of_code t day k r m in
    seq p (value_sites t r (n + 1) (dated_by day v)) (ys ++ s ∷ []) (V v r) (S (ScaleBy v k) r) (w.value v g (n + 1)) (λ u. then_do (code_tried w k g m) (λ a. w.scaled u a n)) (f.values v r (n + 1) h.0)
    (λ u hu. seq p ys (s ∷ []) (S k r) (S (ScaleBy v k) r) (code_tried w k g m) (λ a. w.scaled u a n) (code_finds w t day p env V S P Q f k r m h.1)
    (λ a ha. f.factors v k r n u a hu ha h.2))
code_finds w t day p env V S P Q f (LetBe v k) r n h =
    let g = env r in
    let l = Naming (undated v) ∷ r in
    let s = AtCode n (LetBe v k) r in
    let m = n + 1 + nodes (undated v) in
    let ys = sites_of_code t day k l m in
    seq p (value_sites t r (n + 1) (dated_by day v)) (ys ++ s ∷ []) (V v r) (S (LetBe v k) r) (w.value v g (n + 1)) (λ u. then_do (code_tried w k (w.enter u g) m) (λ a. w.bound u a n)) (f.values v r (n + 1) h.0)
    (λ u hu. seq p ys (s ∷ []) (S k l) (S (LetBe v k) r) (code_tried w k (w.enter u g) m) (λ a. w.bound u a n)
    (rw (f.enters v r u hu) (code_finds w t day p env V S P Q f k l m h.1))
    (λ a ha. f.binders v k r n u a hu ha h.2))
code_finds w t day p env V S P Q f (Loop v x k l) r n h =
    let g = env r in
    let s = AtCode n (Loop v x k l) r in
    let i = n + 1 + nodes (undated v) in
    let j = n + 1 + nodes (undated v) + nodes_of_code k in
    let ys = sites_of_code t day k r i in
    let zs = sites_of_code t day l r j in
    let T = S (Loop v x k l) r in
    seq p (value_sites t r (n + 1) (dated_by day v)) (ys ++ (zs ++ s ∷ [])) (V v r) T (w.value v g (n + 1)) (λ u. then_do (code_tried w k g i) (λ a. then_do (code_tried w l g j) (λ b. w.looped u x a b n))) (f.values v r (n + 1) h.0)
    (λ u hu. seq p ys (zs ++ s ∷ []) (S k r) T (code_tried w k g i) (λ a. then_do (code_tried w l g j) (λ b. w.looped u x a b n)) (code_finds w t day p env V S P Q f k r i h.1)
    (λ a ha. seq p zs (s ∷ []) (S l r) T (code_tried w l g j) (λ b. w.looped u x a b n) (code_finds w t day p env V S P Q f l r j h.2)
    (λ b hb. f.loops v x k l r n u a b hu ha hb h.3)))
code_finds w t day p env V S P Q f (Cut x k) r n h =
    seq p (sites_of_code t day k r (n + 1)) (AtCode n (Cut x k) r ∷ []) (S k r) (S (Cut x k) r) (code_tried w k (env r) (n + 1)) (λ a. w.cut x a n) (code_finds w t day p env V S P Q f k r (n + 1) h.0)
    (λ a ha. f.cuts x k r n a ha h.1)

-- nothing more is known of any node
pub each_any : (k : PayoffCode) (r : List Layer) (n : ℕ) → EachNode (λ _ _ _. Unit {0}) (λ _ _ _. Unit {0}) k r n
each_any Nothing r n = tt
each_any (PayOn x a p q) r n = tt
each_any (Add k l) r n = (each_any k r (n + 1), each_any l r (n + 1 + nodes_of_code k), tt)
each_any (ScaleBy v k) r n = (tt, each_any k r (n + 1 + nodes (undated v)), tt)
each_any (LetBe v k) r n = (tt, each_any k (Naming (undated v) ∷ r) (n + 1 + nodes (undated v)), tt)
each_any (Loop v x k l) r n =
    (tt, each_any k r (n + 1 + nodes (undated v)), each_any l r (n + 1 + nodes (undated v) + nodes_of_code k), tt)
each_any (Cut x k) r n = (each_any k r (n + 1), tt)

-- From what is found to the rule.

pub meets : {A : Type 0} (p : CodeSite → Bool) (xs : List CodeSite) (S : A → Type 0) (t : Result A ℕ) (a : A) → Finds p xs S t → t ≡ Ok a → AllPassInCode (λ s. IsTrue (p s)) xs × S a
meets p xs S (Ok b) a h e =
    let same : b ≡ a = cc in
    (subst (λ (o : Option ℕ). FaultIs p xs o) h.0 (first_failing-is p xs), subst S same h.1)
meets p xs S (Err j) a h e = absurd (cc)

pub fails : {A : Type 0} (p : CodeSite → Bool) (xs : List CodeSite) (S : A → Type 0) (t : Result A ℕ) (j : ℕ) → Finds p xs S t → t ≡ Err j → FirstFaultInCode (λ s. IsTrue (p s)) xs j
fails p xs S (Ok b) j h e = absurd (cc)
fails p xs S (Err i) j h e =
    let same : i ≡ j = cc in
    subst (λ (o : Option ℕ). FaultIs p xs o) (h ∙ ap (λ (m : ℕ). Some m) same) (first_failing-is p xs)
