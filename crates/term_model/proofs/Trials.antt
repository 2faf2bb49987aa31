-- The order of trial against code that goes by structure: the first fault of one list after another, and the first
-- fault by a test that computes.
use Rattle.std.proofs.Common.{◌≡◌, ℕ, Bool, true, false, List, [], ◌∷◌, ◌++◌, Option, Some, None, if◌then◌else◌, IsTrue, refl, ap, sym, ◌∙◌, inl, inr}
use Rattle.term_model.specs.Sites.{Site, AllPass, FirstFault}

-- the number of the first site that fails a test that computes
abbrev pub first_failing : (Site → Bool) → List Site → Option ℕ
first_failing p [] = None
first_failing p (s ∷ rest) = if p s then first_failing p rest else Some s.number

-- what is found first, or else the other
abbrev pub or_else : {A : Type 0} → Option A → Option A → Option A
or_else None o = o
or_else (Some k) o = Some k

choice : (b : Bool) (x y : Option ℕ) (k : ℕ) → or_else (if b then x else Some k) y ≡ (if b then or_else x y else Some k)
choice true x y k = refl
choice false x y k = refl

pub first_failing-append : (p : Site → Bool) (xs ys : List Site) → first_failing p (xs ++ ys) ≡ or_else (first_failing p xs) (first_failing p ys)
first_failing-append p [] ys = refl
first_failing-append p (s ∷ xs) ys =
    ap (λ (o : Option ℕ). if p s then o else Some s.number) (first_failing-append p xs ys)
    ∙ sym (choice (p s) (first_failing p xs) (first_failing p ys) s.number)

-- the first site at which a test that computes fails, and where it fails at none
abbrev pub FaultIs : (Site → Bool) → List Site → Option ℕ → Type 0
FaultIs p xs (Some k) = FirstFault (λ s. IsTrue (p s)) xs k
FaultIs p xs None = AllPass (λ s. IsTrue (p s)) xs

step : (p : Site → Bool) (s : Site) (xs : List Site) (b : Bool) (o : Option ℕ) → p s ≡ b → FaultIs p xs o → FaultIs p (s ∷ xs) (if b then o else Some s.number)
step p s xs true (Some k) e h = inr (e, h)
step p s xs true None e h = (e, h)
step p s xs false o e h = inl ((λ t. cc), refl)

pub first_failing-is : (p : Site → Bool) (xs : List Site) → FaultIs p xs (first_failing p xs)
first_failing-is p [] = tt
first_failing-is p (s ∷ xs) = step p s xs (p s) (first_failing p xs) refl (first_failing-is p xs)

-- the same of a rule that does not compute
pub AllPass-append : (P : Site → Type 0) (xs ys : List Site) → AllPass P xs → AllPass P ys → AllPass P (xs ++ ys)
AllPass-append P [] ys h k = k
AllPass-append P (s ∷ xs) ys h k = (h.0, AllPass-append P xs ys h.1 k)

pub AllPass-left : (P : Site → Type 0) (xs ys : List Site) → AllPass P (xs ++ ys) → AllPass P xs
AllPass-left P [] ys h = tt
AllPass-left P (s ∷ xs) ys h = (h.0, AllPass-left P xs ys h.1)

pub AllPass-right : (P : Site → Type 0) (xs ys : List Site) → AllPass P (xs ++ ys) → AllPass P ys
AllPass-right P [] ys h = h
AllPass-right P (s ∷ xs) ys h = AllPass-right P xs ys h.1

pub FirstFault-left : (P : Site → Type 0) (xs ys : List Site) (k : ℕ) → FirstFault P xs k → FirstFault P (xs ++ ys) k
FirstFault-left P [] ys k h = absurd h
FirstFault-left P (s ∷ xs) ys k (inl h) = inl h
FirstFault-left P (s ∷ xs) ys k (inr h) = inr (h.0, FirstFault-left P xs ys k h.1)

pub FirstFault-right : (P : Site → Type 0) (xs ys : List Site) (k : ℕ) → AllPass P xs → FirstFault P ys k → FirstFault P (xs ++ ys) k
FirstFault-right P [] ys k h f = f
FirstFault-right P (s ∷ xs) ys k h f = inr (h.0, FirstFault-right P xs ys k h.1 f)

pub FirstFault-unique : (P : Site → Type 0) (xs : List Site) (j k : ℕ) → FirstFault P xs j → FirstFault P xs k → j ≡ k
FirstFault-unique P [] j k h i = absurd h
FirstFault-unique P (s ∷ xs) j k (inl h) (inl i) = sym h.1 ∙ i.1
FirstFault-unique P (s ∷ xs) j k (inl h) (inr i) = absurd (h.0 i.0)
FirstFault-unique P (s ∷ xs) j k (inr h) (inl i) = absurd (i.0 h.0)
FirstFault-unique P (s ∷ xs) j k (inr h) (inr i) = FirstFault-unique P xs j k h.1 i.1

pub FirstFault-fails : (P : Site → Type 0) (xs : List Site) (k : ℕ) → AllPass P xs → FirstFault P xs k → ⊥
FirstFault-fails P [] k h f = f
FirstFault-fails P (s ∷ xs) k h (inl f) = f.0 h.0
FirstFault-fails P (s ∷ xs) k h (inr f) = FirstFault-fails P xs k h.1 f.1
