-- From a rule that holds at all nodes of code to each node by structure.
use Rattle.std.proofs.Common.{ℕ, ℤ, ◌+◌, List, [], ◌∷◌, ◌++◌, map}
use Rattle.term_model.specs.Sizes.{nodes}
use Rattle.term_model.specs.Sites.{Trial, Layer, Naming, Site, sites_of, AllPass}
use Rattle.payoff_terms.specs.TemplateDates.{Date}
use Rattle.payoff_terms.specs.Dating.{dated_by, undated}
use Rattle.payoff_terms.specs.Code.{ValueExpression, PayoffCode, Nothing, PayOn, Add, ScaleBy, LetBe, Loop, Cut}
use Rattle.payoff_terms.specs.CodeSizes.{nodes_of_code}
use Rattle.payoff_terms.specs.CodeSites.{CodeSite, InValue, AtCode, value_sites, sites_of_code, AllPassInCode}
use Rattle.payoff_check.proofs.Finding.{EachNode}

left : (P : CodeSite → Type 0) (xs ys : List CodeSite) → AllPassInCode P (xs ++ ys) → AllPassInCode P xs
left P [] ys h = tt
left P (s ∷ xs) ys h = (h.0, left P xs ys h.1)

right : (P : CodeSite → Type 0) (xs ys : List CodeSite) → AllPassInCode P (xs ++ ys) → AllPassInCode P ys
right P [] ys h = h
right P (s ∷ xs) ys h = right P xs ys h.1

last : (P : CodeSite → Type 0) (xs : List CodeSite) (s : CodeSite) → AllPassInCode P (xs ++ s ∷ []) → P s
last P xs s h = let q = right P xs (s ∷ []) h in q.0

of_value : (P : CodeSite → Type 0) (xs : List Site) → AllPassInCode P (map (λ s. InValue s) xs) → AllPass (λ s. P (InValue s)) xs
of_value P [] h = tt
of_value P (s ∷ xs) h = (h.0, of_value P xs h.1)

-- a rule at each node of a value expression
abbrev pub PassesInValue : (CodeSite → Type 0) → Trial → (Date → ℤ) → ValueExpression → List Layer → ℕ → Type 0
PassesInValue P w day v r n = AllPass (λ s. P (InValue s)) (sites_of w (dated_by day v) r n)

value_first : (P : CodeSite → Type 0) (w : Trial) (day : Date → ℤ) (v : ValueExpression) (r : List Layer) (n : ℕ) (ys : List CodeSite) → AllPassInCode P (value_sites w r n (dated_by day v) ++ ys) → PassesInValue P w day v r n × AllPassInCode P ys
value_first P w day v r n ys h =
    let xs = value_sites w r n (dated_by day v) in
    (of_value P (sites_of w (dated_by day v) r n) (left P xs ys h), right P xs ys h)

pub each_passes : (P : CodeSite → Type 0) (w : Trial) (day : Date → ℤ) (k : PayoffCode) (r : List Layer) (n : ℕ) → AllPassInCode P (sites_of_code w day k r n) → EachNode (λ v l m. PassesInValue P w day v l m) (λ c l m. P (AtCode m c l)) k r n
each_passes P w day Nothing r n h = h.0
each_passes P w day (PayOn x a p q) r n h = h.0
each_passes P w day (Add k l) r n h =
    let s = AtCode n (Add k l) r in
    let xs = sites_of_code w day k r (n + 1) in
    let ys = sites_of_code w day l r (n + 1 + nodes_of_code k) in
    let rest = right P xs (ys ++ s ∷ []) h in
    (each_passes P w day k r (n + 1) (left P xs (ys ++ s ∷ []) h), each_passes P w day l r (n + 1 + nodes_of_code k) (left P ys (s ∷ []) rest), last P ys s rest)
each_passes P w day (ScaleBy v k) r n h =
    let s = AtCode n (ScaleBy v k) r in
    let m = n + 1 + nodes (undated v) in
    let ys = sites_of_code w day k r m in
    let q = value_first P w day v r (n + 1) (ys ++ s ∷ []) h in
    (q.0, each_passes P w day k r m (left P ys (s ∷ []) q.1), last P ys s q.1)
each_passes P w day (LetBe v k) r n h =
    let s = AtCode n (LetBe v k) r in
    let m = n + 1 + nodes (undated v) in
    let l = Naming (undated v) ∷ r in
    let ys = sites_of_code w day k l m in
    let q = value_first P w day v r (n + 1) (ys ++ s ∷ []) h in
    (q.0, each_passes P w day k l m (left P ys (s ∷ []) q.1), last P ys s q.1)
each_passes P w day (Loop v x k l) r n h =
    let s = AtCode n (Loop v x k l) r in
    let i = n + 1 + nodes (undated v) in
    let j = n + 1 + nodes (undated v) + nodes_of_code k in
    let ys = sites_of_code w day k r i in
    let zs = sites_of_code w day l r j in
    let q = value_first P w day v r (n + 1) (ys ++ (zs ++ s ∷ [])) h in
    let rest = right P ys (zs ++ s ∷ []) q.1 in
    (q.0, each_passes P w day k r i (left P ys (zs ++ s ∷ []) q.1), each_passes P w day l r j (left P zs (s ∷ []) rest), last P zs s rest)
each_passes P w day (Cut x k) r n h =
    let s = AtCode n (Cut x k) r in
    let xs = sites_of_code w day k r (n + 1) in
    (each_passes P w day k r (n + 1) (left P xs (s ∷ []) h), last P xs s h)

-- what holds of values by one rule, and of nodes by another
pub each_of_two : (P P' : ValueExpression → List Layer → ℕ → Type 0) (Q Q' : PayoffCode → List Layer → ℕ → Type 0) (k : PayoffCode) (r : List Layer) (n : ℕ) → EachNode P Q k r n → EachNode P' Q' k r n → EachNode P Q' k r n
each_of_two P P' Q Q' Nothing r n h i = i
each_of_two P P' Q Q' (PayOn x a p q) r n h i = i
each_of_two P P' Q Q' (Add k l) r n h i =
    (each_of_two P P' Q Q' k r (n + 1) h.0 i.0, each_of_two P P' Q Q' l r (n + 1 + nodes_of_code k) h.1 i.1, i.2)
each_of_two P P' Q Q' (ScaleBy v k) r n h i = (h.0, each_of_two P P' Q Q' k r (n + 1 + nodes (undated v)) h.1 i.1, i.2)
each_of_two P P' Q Q' (LetBe v k) r n h i =
    (h.0, each_of_two P P' Q Q' k (Naming (undated v) ∷ r) (n + 1 + nodes (undated v)) h.1 i.1, i.2)
each_of_two P P' Q Q' (Loop v x k l) r n h i =
    (h.0, each_of_two P P' Q Q' k r (n + 1 + nodes (undated v)) h.1 i.1, each_of_two P P' Q Q' l r (n + 1 + nodes (undated v) + nodes_of_code k) h.2 i.2, i.3)
each_of_two P P' Q Q' (Cut x k) r n h i = (each_of_two P P' Q Q' k r (n + 1) h.0 i.0, i.1)
