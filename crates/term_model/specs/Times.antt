-- The rule on times: an expression has type t if it is known on day t and later, and a contract of type t makes no
-- transfer before day t (the time-indexed types of Bahr, Berthold and Elsman, ICFP 2015). A relation in which the times
-- are free whole numbers; a context has a time for each name, innermost first.
use Rattle.std.specs.Prelude.{ℤ, pos, ◌+ℤ◌, ◌-ℤ◌, ◌≤ℤ◌, ◌≡◌, ℕ, List, [], ◌∷◌, map, Option, Some, None, slice_get}
use Rattle.term_model.specs.Terms.{Expression, Lit, Yes, Var, Obs, Neg, Num, Cmp, Not, Logic, Cond, Widen, Round, Div, Acc}
use Rattle.term_model.specs.Terms.{Contract, Zero, Pay, Both, Scale, After, Let, Within}
use Rattle.term_model.specs.Flows.{count_of}
use Rattle.term_model.specs.Sites.{Layer, Naming, Later, Site, Part, OfExpression, OfContract}

abbrev pub AtMost : Option ℤ → ℤ → Type 0
AtMost None t = ⊥
AtMost (Some s) t = s ≤ℤ t

-- all times of a context n days later, and n days earlier
abbrev pub raised_by : ℕ → List ℤ → List ℤ
raised_by n g = map (λ s. s +ℤ pos n) g

abbrev pub lowered_by : ℕ → List ℤ → List ℤ
lowered_by n g = map (λ s. s -ℤ pos n) g

-- an expression is known on day t and later, where each name is known on its day
abbrev pub Typed : List ℤ → Expression → ℤ → Type 0
Typed g (Lit m s) t = Unit {0}
Typed g (Yes b) t = Unit {0}
Typed g (Var back) t = AtMost (slice_get g back) t
Typed g (Obs l u) t = u ≤ℤ t
Typed g (Neg e) t = Typed g e t
Typed g (Num op a b) t = Typed g a t × Typed g b t
Typed g (Cmp op a b) t = Typed g a t × Typed g b t
Typed g (Not e) t = Typed g e t
Typed g (Logic op a b) t = Typed g a t × Typed g b t
Typed g (Cond c a b) t = Typed g c t × Typed g a t × Typed g b t
Typed g (Widen s e) t = Typed g e t
Typed g (Round mode s e) t = Typed g e t
Typed g (Div mode s a b) t = Typed g a t × Typed g b t
Typed g (Acc body n first) t = Typed (t ∷ g) body t × Typed (raised_by n g) first (t +ℤ pos n)

-- a contract makes no transfer before day t
abbrev pub TypedContract : List ℤ → Contract → ℤ → Type 0
TypedContract g Zero t = Unit {0}
TypedContract g (Pay a p q) t = t ≤ℤ pos 0
TypedContract g (Both a b) t = TypedContract g a t × TypedContract g b t
TypedContract g (Scale e c) t = (s : ℤ) × (t ≤ℤ s) × Typed g e s × TypedContract g c s
TypedContract g (After n c) t = TypedContract (lowered_by (count_of n) g) c (t -ℤ pos (count_of n))
TypedContract g (Let e c) t = (s : ℤ) × Typed g e s × TypedContract (s ∷ g) c t
TypedContract g (Within e n a b) t =
    Typed g e (pos 0) × TypedContract g a t × TypedContract (lowered_by (count_of n) g) b (t -ℤ pos (count_of n))

-- a context that is allowed at a node, by what stands round it: none at the root, one grown by a time of the bound
-- expression in the body of a `let`, one lowered by the days by which a part stands later, and else the same
abbrev pub IsAllowed : List Layer → List ℤ → Type 0
IsAllowed [] g = g ≡ []
IsAllowed (Naming e ∷ r) g = (s : ℤ) × (h : List ℤ) × (g ≡ s ∷ h) × Typed h e s × IsAllowed r h
IsAllowed (Later n ∷ r) g = (h : List ℤ) × (g ≡ lowered_by n h) × IsAllowed r h
IsAllowed (_ ∷ r) g = IsAllowed r g

-- a contract node has some type in some allowed context; an expression has one wherever its names have times
abbrev pub PartIsTimed : List Layer → Part → Type 0
PartIsTimed r (OfExpression e) = Unit {0}
PartIsTimed r (OfContract c) = (g : List ℤ) × (t : ℤ) × IsAllowed r g × TypedContract g c t

abbrev pub IsTimed : Site → Type 0
IsTimed s = PartIsTimed s.layers s.part

-- the start of a closed contract: the greatest of its types, or none where every time is one
abbrev pub IsStart : Contract → Option ℤ → Type 0
IsStart c None = (t : ℤ) → TypedContract [] c t
IsStart c (Some t) = TypedContract [] c t × ((u : ℤ) → TypedContract [] c u → u ≤ℤ t)
