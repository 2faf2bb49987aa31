-- The day from which an expression is known is the least of its types, among names whose times are at least, or at
-- most, the days from which they are known.
use Rattle.std.proofs.Common.{ℕ, ℤ, pos, ◌+ℤ◌, ◌-ℤ◌, ◌≤ℤ◌, ◌<◌, List, [], ◌∷◌, length, Option, Some, None, arith, subst, add-one, slice_get, zero, suc}
use Rattle.std.specs.Int.{int_max}
use Rattle.std.proofs.lemmas.Int.{ints, clamps}
use Rattle.term_model.specs.Declarations.{Declarations}
use Rattle.term_model.specs.Terms.{Expression, Lit, Yes, Var, Obs, Neg, Num, Cmp, Not, Logic, Cond, Widen, Round, Div, Acc}
use Rattle.term_model.specs.WellFormed.{IsWellFormed}
use Rattle.term_model.specs.Times.{AtMost, Typed, raised_by, lowered_by}
use Rattle.time_types.specs.TimeTrials.{name_known, later, known_from}

-- A time t of a name is counted from the day on which the part stands, and is the day t + day of the whole contract.

-- known on day t
abbrev pub KnownBy : Option ℤ → ℤ → Type 0
KnownBy None t = Unit {0}
KnownBy (Some s) t = s ≤ℤ t

-- each name's time is at most the day from which it is known, or at most t where it is known on each day
abbrev pub Fits : ℤ → ℤ → List (Option ℤ) → List ℤ → Type 0
Fits t day [] [] = Unit {0}
Fits t day [] (x ∷ g) = ⊥
Fits t day (o ∷ names) [] = ⊥
Fits t day (None ∷ names) (x ∷ g) = ((x +ℤ day) ≤ℤ t) × Fits t day names g
Fits t day (Some s ∷ names) (x ∷ g) = ((x +ℤ day) ≤ℤ s) × Fits t day names g

-- each name's time is at least the day from which it is known
abbrev pub Above : ℤ → List (Option ℤ) → List ℤ → Type 0
Above day [] [] = Unit {0}
Above day [] (x ∷ g) = ⊥
Above day (o ∷ names) [] = ⊥
Above day (None ∷ names) (x ∷ g) = Above day names g
Above day (Some s ∷ names) (x ∷ g) = (s ≤ℤ (x +ℤ day)) × Above day names g

pub Fits-grows : (t u day : ℤ) (names : List (Option ℤ)) (g : List ℤ) → t ≤ℤ u → Fits t day names g → Fits u day names g
Fits-grows t u day [] [] h f = tt
Fits-grows t u day [] (x ∷ g) h f = f
Fits-grows t u day (o ∷ names) [] h f = f
Fits-grows t u day (None ∷ names) (x ∷ g) h f = let a : (x +ℤ day) ≤ℤ t = f.0 in (omega (arith, ints), Fits-grows t u day names g h f.1)
Fits-grows t u day (Some s ∷ names) (x ∷ g) h f = (f.0, Fits-grows t u day names g h f.1)

pub Fits-raised : (t day : ℤ) (n : ℕ) (names : List (Option ℤ)) (g : List ℤ) → Fits t day names g → Fits t (day -ℤ pos n) names (raised_by n g)
Fits-raised t day n [] [] f = tt
Fits-raised t day n [] (x ∷ g) f = f
Fits-raised t day n (o ∷ names) [] f = f
Fits-raised t day n (None ∷ names) (x ∷ g) f = let a : (x +ℤ day) ≤ℤ t = f.0 in (omega (arith, ints), Fits-raised t day n names g f.1)
Fits-raised t day n (Some s ∷ names) (x ∷ g) f = let a : (x +ℤ day) ≤ℤ s = f.0 in (omega (arith, ints), Fits-raised t day n names g f.1)

pub Fits-lowered : (t day : ℤ) (n : ℕ) (names : List (Option ℤ)) (g : List ℤ) → Fits t day names g → Fits t (day +ℤ pos n) names (lowered_by n g)
Fits-lowered t day n [] [] f = tt
Fits-lowered t day n [] (x ∷ g) f = f
Fits-lowered t day n (o ∷ names) [] f = f
Fits-lowered t day n (None ∷ names) (x ∷ g) f = let a : (x +ℤ day) ≤ℤ t = f.0 in (omega (arith, ints), Fits-lowered t day n names g f.1)
Fits-lowered t day n (Some s ∷ names) (x ∷ g) f = let a : (x +ℤ day) ≤ℤ s = f.0 in (omega (arith, ints), Fits-lowered t day n names g f.1)

pub Above-raised : (day : ℤ) (n : ℕ) (names : List (Option ℤ)) (g : List ℤ) → Above day names g → Above (day -ℤ pos n) names (raised_by n g)
Above-raised day n [] [] f = tt
Above-raised day n [] (x ∷ g) f = f
Above-raised day n (o ∷ names) [] f = f
Above-raised day n (None ∷ names) (x ∷ g) f = Above-raised day n names g f
Above-raised day n (Some s ∷ names) (x ∷ g) f = let a : s ≤ℤ (x +ℤ day) = f.0 in (omega (arith, ints), Above-raised day n names g f.1)

pub Above-lowered : (day : ℤ) (n : ℕ) (names : List (Option ℤ)) (g : List ℤ) → Above day names g → Above (day +ℤ pos n) names (lowered_by n g)
Above-lowered day n [] [] f = tt
Above-lowered day n [] (x ∷ g) f = f
Above-lowered day n (o ∷ names) [] f = f
Above-lowered day n (None ∷ names) (x ∷ g) f = Above-lowered day n names g f
Above-lowered day n (Some s ∷ names) (x ∷ g) f = let a : s ≤ℤ (x +ℤ day) = f.0 in (omega (arith, ints), Above-lowered day n names g f.1)

-- a name

pub name_typed : (names : List (Option ℤ)) (g : List ℤ) (back : ℕ) (day t u : ℤ) → back < length names → t ≤ℤ (u +ℤ day) → Fits t day names g → KnownBy (name_known (slice_get names back)) t → AtMost (slice_get g back) u
name_typed [] g back day t u b h f k = absurd (omega arith)
name_typed (o ∷ names) [] back day t u b h f k = absurd f
name_typed (None ∷ names) (x ∷ g) zero day t u b h f k = let a : (x +ℤ day) ≤ℤ t = f.0 in omega (arith, ints)
name_typed (Some s ∷ names) (x ∷ g) zero day t u b h f k =
    let a : (x +ℤ day) ≤ℤ s = f.0 in
    let i : s ≤ℤ t = k in
    omega (arith, ints)
name_typed (None ∷ names) (x ∷ g) (suc back) day t u b h f k = name_typed names g back day t u (omega arith) h f.1 k
name_typed (Some s ∷ names) (x ∷ g) (suc back) day t u b h f k = name_typed names g back day t u (omega arith) h f.1 k

pub name_bounded : (names : List (Option ℤ)) (g : List ℤ) (back : ℕ) (day t u : ℤ) → (u +ℤ day) ≤ℤ t → Above day names g → AtMost (slice_get g back) u → KnownBy (name_known (slice_get names back)) t
name_bounded [] g back day t u h f k = tt
name_bounded (o ∷ names) [] back day t u h f k = absurd f
name_bounded (None ∷ names) (x ∷ g) zero day t u h f k = tt
name_bounded (Some s ∷ names) (x ∷ g) zero day t u h f k =
    let a : s ≤ℤ (x +ℤ day) = f.0 in
    let i : x ≤ℤ u = k in
    omega (arith, ints)
name_bounded (None ∷ names) (x ∷ g) (suc back) day t u h f k = name_bounded names g back day t u h f k
name_bounded (Some s ∷ names) (x ∷ g) (suc back) day t u h f k = name_bounded names g back day t u h f.1 k

-- the later of two days

pub later-left : (a b : Option ℤ) (t : ℤ) → KnownBy (later a b) t → KnownBy a t
later-left None b t h = tt
later-left (Some x) None t h = h
later-left (Some x) (Some y) t h = let k : int_max x y ≤ℤ t = h in omega (arith, ints, clamps)

pub later-right : (a b : Option ℤ) (t : ℤ) → KnownBy (later a b) t → KnownBy b t
later-right None b t h = h
later-right (Some x) None t h = tt
later-right (Some x) (Some y) t h = let k : int_max x y ≤ℤ t = h in omega (arith, ints, clamps)

pub later-both : (a b : Option ℤ) (t : ℤ) → KnownBy a t → KnownBy b t → KnownBy (later a b) t
later-both None b t h k = k
later-both (Some x) None t h k = h
later-both (Some x) (Some y) t h k = let i : x ≤ℤ t = h in let j : y ≤ℤ t = k in omega (arith, ints, clamps)

pub KnownBy-grows : (a : Option ℤ) (t u : ℤ) → t ≤ℤ u → KnownBy a t → KnownBy a u
KnownBy-grows None t u h k = tt
KnownBy-grows (Some s) t u h k = let i : s ≤ℤ t = k in omega (arith, ints)

-- what is computed is a type
abbrev pub IsTyped : Declarations → Expression → Type 0
IsTyped d e =
    (day : ℤ) (names : List (Option ℤ)) (g : List ℤ) (t u : ℤ) → IsWellFormed d (length names) e → t ≤ℤ (u +ℤ day) → Fits t day names g → KnownBy (known_from day names e) t → Typed g e u

pub known_typed : (d : Declarations) (e : Expression) → IsTyped d e
known_typed d (Lit m s) day names g t u w h f k = tt
known_typed d (Yes b) day names g t u w h f k = tt
known_typed d (Var back) day names g t u w h f k = name_typed names g back day t u w h f k
known_typed d (Obs l v) day names g t u w h f k = let i : (day +ℤ v) ≤ℤ t = k in omega (arith, ints)
known_typed d (Neg e) day names g t u w h f k = known_typed d e day names g t u w h f k
known_typed d (Num op a b) day names g t u w h f k =
    let x = known_from day names a in
    let y = known_from day names b in
    (known_typed d a day names g t u w.0 h f (later-left x y t k), known_typed d b day names g t u w.1 h f (later-right x y t k))
known_typed d (Cmp op a b) day names g t u w h f k =
    let x = known_from day names a in
    let y = known_from day names b in
    (known_typed d a day names g t u w.0 h f (later-left x y t k), known_typed d b day names g t u w.1 h f (later-right x y t k))
known_typed d (Not e) day names g t u w h f k = known_typed d e day names g t u w h f k
known_typed d (Logic op a b) day names g t u w h f k =
    let x = known_from day names a in
    let y = known_from day names b in
    (known_typed d a day names g t u w.0 h f (later-left x y t k), known_typed d b day names g t u w.1 h f (later-right x y t k))
known_typed d (Cond c a b) day names g t u w h f k =
    let z = known_from day names c in
    let x = known_from day names a in
    let y = known_from day names b in
    let r = later-right z (later x y) t k in
    (known_typed d c day names g t u w.0 h f (later-left z (later x y) t k), known_typed d a day names g t u w.1 h f (later-left x y t r), known_typed d b day names g t u w.2 h f (later-right x y t r))
known_typed d (Widen s e) day names g t u w h f k = known_typed d e day names g t u w h f k
known_typed d (Round mode s e) day names g t u w h f k = known_typed d e day names g t u w h f k
known_typed d (Div mode s a b) day names g t u w h f k =
    let x = known_from day names a in
    let y = known_from day names b in
    (known_typed d a day names g t u w.0 h f (later-left x y t k), known_typed d b day names g t u w.1 h f (later-right x y t k))
known_typed d (Acc body n first) day names g t u w h f k =
    let x = known_from day (None ∷ names) body in
    let y = known_from (day -ℤ pos n) names first in
    let v : ℤ = u +ℤ day in
    let same : v ≤ℤ v = omega (arith, ints) in
    let wide : IsWellFormed d (length (None ∷ names)) body = subst (λ (i : ℕ). IsWellFormed d i body) (add-one (length names)) w.0 in
    (known_typed d body day (None ∷ names) (u ∷ g) v u wide same (same, Fits-grows t v day names g h f) (KnownBy-grows x t v h (later-left x y t k)), known_typed d first (day -ℤ pos n) names (raised_by n g) t (u +ℤ pos n) w.1 (omega (arith, ints)) (Fits-raised t day n names g f) (later-right x y t k))

-- each type is at least what is computed
abbrev pub IsBounded : Expression → Type 0
IsBounded e =
    (day : ℤ) (names : List (Option ℤ)) (g : List ℤ) (t u : ℤ) → (u +ℤ day) ≤ℤ t → Above day names g → Typed g e u → KnownBy (known_from day names e) t

pub known_bounded : (e : Expression) → IsBounded e
known_bounded (Lit m s) day names g t u h f k = tt
known_bounded (Yes b) day names g t u h f k = tt
known_bounded (Var back) day names g t u h f k = name_bounded names g back day t u h f k
known_bounded (Obs l v) day names g t u h f k = let i : v ≤ℤ u = k in omega (arith, ints)
known_bounded (Neg e) day names g t u h f k = known_bounded e day names g t u h f k
known_bounded (Num op a b) day names g t u h f k =
    later-both (known_from day names a) (known_from day names b) t (known_bounded a day names g t u h f k.0) (known_bounded b day names g t u h f k.1)
known_bounded (Cmp op a b) day names g t u h f k =
    later-both (known_from day names a) (known_from day names b) t (known_bounded a day names g t u h f k.0) (known_bounded b day names g t u h f k.1)
known_bounded (Not e) day names g t u h f k = known_bounded e day names g t u h f k
known_bounded (Logic op a b) day names g t u h f k =
    later-both (known_from day names a) (known_from day names b) t (known_bounded a day names g t u h f k.0) (known_bounded b day names g t u h f k.1)
known_bounded (Cond c a b) day names g t u h f k =
    later-both (known_from day names c) (later (known_from day names a) (known_from day names b)) t (known_bounded c day names g t u h f k.0)
    (later-both (known_from day names a) (known_from day names b) t (known_bounded a day names g t u h f k.1) (known_bounded b day names g t u h f k.2))
known_bounded (Widen s e) day names g t u h f k = known_bounded e day names g t u h f k
known_bounded (Round mode s e) day names g t u h f k = known_bounded e day names g t u h f k
known_bounded (Div mode s a b) day names g t u h f k =
    later-both (known_from day names a) (known_from day names b) t (known_bounded a day names g t u h f k.0) (known_bounded b day names g t u h f k.1)
known_bounded (Acc body n first) day names g t u h f k =
    later-both (known_from day (None ∷ names) body) (known_from (day -ℤ pos n) names first) t (known_bounded body day (None ∷ names) (u ∷ g) t u h f k.0)
    (known_bounded first (day -ℤ pos n) names (raised_by n g) t (u +ℤ pos n) (omega (arith, ints)) (Above-raised day n names g f) k.1)
