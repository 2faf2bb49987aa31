-- Types are kept as times of expressions rise, times of contracts fall, and times of names fall.
use Rattle.std.proofs.Common.{ℕ, zero, suc, ℤ, pos, ◌+ℤ◌, ◌-ℤ◌, ◌≤ℤ◌, List, [], ◌∷◌, arith, slice_get}
use Rattle.std.proofs.lemmas.Int.{ints}
use Rattle.term_model.specs.Terms.{Expression, Lit, Yes, Var, Obs, Neg, Num, Cmp, Not, Logic, Cond, Widen, Round, Div, Acc}
use Rattle.term_model.specs.Terms.{Contract, Zero, Pay, Both, Scale, After, Let, Within}
use Rattle.term_model.specs.Flows.{count_of}
use Rattle.term_model.specs.Times.{AtMost, Typed, TypedContract, raised_by, lowered_by}
use Rattle.time_types.specs.TypingLaws.{AreNoLater, TypesOfExpressionsRise, TypesOfContractsFall}

-- each name that is known on day t in the first context is known on day u in the second
abbrev pub StayKnown : ℤ → ℤ → List ℤ → List ℤ → Type 0
StayKnown t u [] [] = Unit {0}
StayKnown t u [] (y ∷ h) = ⊥
StayKnown t u (x ∷ g) [] = ⊥
StayKnown t u (x ∷ g) (y ∷ h) = (x ≤ℤ t → y ≤ℤ u) × StayKnown t u g h

stay : (g h : List ℤ) (t u : ℤ) → AreNoLater h g → t ≤ℤ u → StayKnown t u g h
stay [] [] t u l i = tt
stay [] (y ∷ h) t u l i = l
stay (x ∷ g) [] t u l i = l
stay (x ∷ g) (y ∷ h) t u l i = let j : y ≤ℤ x = l.0 in (λ k. omega (arith, ints), stay g h t u l.1 i)

stay_raised : (g h : List ℤ) (t u : ℤ) (n : ℕ) → StayKnown t u g h → StayKnown (t +ℤ pos n) (u +ℤ pos n) (raised_by n g) (raised_by n h)
stay_raised [] [] t u n s = tt
stay_raised [] (y ∷ h) t u n s = s
stay_raised (x ∷ g) [] t u n s = s
stay_raised (x ∷ g) (y ∷ h) t u n s =
    (λ k. let i : x ≤ℤ t = omega (arith, ints) in let j : y ≤ℤ u = s.0 i in omega (arith, ints), stay_raised g h t u n s.1)

no_later_lowered : (g h : List ℤ) (n : ℕ) → AreNoLater h g → AreNoLater (lowered_by n h) (lowered_by n g)
no_later_lowered [] [] n l = tt
no_later_lowered (x ∷ g) [] n l = l
no_later_lowered [] (y ∷ h) n l = l
no_later_lowered (x ∷ g) (y ∷ h) n l = let j : y ≤ℤ x = l.0 in (omega (arith, ints), no_later_lowered g h n l.1)

name_kept : (g h : List ℤ) (back : ℕ) (t u : ℤ) → StayKnown t u g h → AtMost (slice_get g back) t → AtMost (slice_get h back) u
name_kept [] h back t u s k = absurd k
name_kept (x ∷ g) [] back t u s k = absurd s
name_kept (x ∷ g) (y ∷ h) zero t u s k = s.0 k
name_kept (x ∷ g) (y ∷ h) (suc back) t u s k = name_kept g h back t u s.1 k

kept : (e : Expression) (g h : List ℤ) (t u : ℤ) → StayKnown t u g h → t ≤ℤ u → Typed g e t → Typed h e u
kept (Lit m s) g h t u l i p = tt
kept (Yes b) g h t u l i p = tt
kept (Var back) g h t u l i p = name_kept g h back t u l p
kept (Obs a v) g h t u l i p = let j : v ≤ℤ t = p in omega (arith, ints)
kept (Neg e) g h t u l i p = kept e g h t u l i p
kept (Num op a b) g h t u l i p = (kept a g h t u l i p.0, kept b g h t u l i p.1)
kept (Cmp op a b) g h t u l i p = (kept a g h t u l i p.0, kept b g h t u l i p.1)
kept (Not e) g h t u l i p = kept e g h t u l i p
kept (Logic op a b) g h t u l i p = (kept a g h t u l i p.0, kept b g h t u l i p.1)
kept (Cond c a b) g h t u l i p = (kept c g h t u l i p.0, kept a g h t u l i p.1, kept b g h t u l i p.2)
kept (Widen s e) g h t u l i p = kept e g h t u l i p
kept (Round mode s e) g h t u l i p = kept e g h t u l i p
kept (Div mode s a b) g h t u l i p = (kept a g h t u l i p.0, kept b g h t u l i p.1)
kept (Acc body n first) g h t u l i p =
    (kept body (t ∷ g) (u ∷ h) t u (λ k. omega (arith, ints), l) i p.0, kept first (raised_by n g) (raised_by n h) (t +ℤ pos n) (u +ℤ pos n) (stay_raised g h t u n l) (omega (arith, ints)) p.1)

pub expressions_rise : TypesOfExpressionsRise
expressions_rise e g h t u l i p = kept e g h t u (stay g h t u l i) i p

falls : (c : Contract) (g h : List ℤ) (t u : ℤ) → AreNoLater h g → u ≤ℤ t → TypedContract g c t → TypedContract h c u
falls Zero g h t u l i p = tt
falls (Pay a x y) g h t u l i p = let j : t ≤ℤ pos 0 = p in omega (arith, ints)
falls (Both a b) g h t u l i p = (falls a g h t u l i p.0, falls b g h t u l i p.1)
falls (Scale e c) g h t u l i p =
    let s : ℤ = p.0 in
    let j : t ≤ℤ s = p.1 in
    let k : s ≤ℤ s = omega (arith, ints) in
    (s, omega (arith, ints), expressions_rise e g h s s l k p.2, falls c g h s s l k p.3)
falls (After n c) g h t u l i p =
    let m : ℕ = count_of n in
    falls c (lowered_by m g) (lowered_by m h) (t -ℤ pos m) (u -ℤ pos m) (no_later_lowered g h m l) (omega (arith, ints)) p
falls (Let e c) g h t u l i p =
    let s : ℤ = p.0 in
    let k : s ≤ℤ s = omega (arith, ints) in
    (s, expressions_rise e g h s s l k p.1, falls c (s ∷ g) (s ∷ h) t u (k, l) i p.2)
falls (Within e n a b) g h t u l i p =
    let m : ℕ = count_of n in
    let k : pos 0 ≤ℤ pos 0 = omega (arith, ints) in
    (expressions_rise e g h (pos 0) (pos 0) l k p.0, falls a g h t u l i p.1, falls b (lowered_by m g) (lowered_by m h) (t -ℤ pos m) (u -ℤ pos m) (no_later_lowered g h m l) (omega (arith, ints)) p.2)

pub contracts_fall : TypesOfContractsFall
contracts_fall c g h t u l i p = falls c g h t u l i p
