-- What the trial of a size answers of a whole, where those of its parts find their sizes: whatever a size tells, however
-- the size of a whole is made from those of its parts, and whichever sizes fit.
use Rattle.std.proofs.Common.{◌≡◌, ℕ, ◌+◌, Bool, if◌then◌else◌, List, [], ◌∷◌, ◌++◌, Result, Ok, Err, refl, ap, ap₂, sym, ◌∙◌, arith}
use Rattle.term_model.specs.Sites.{Site}
use Rattle.term_core.specs.Trying.{then_do, moved}
use Rattle.scale_check.proofs.Finding.{Finds, shift, seq, here}

-- the size that was found is another
abbrev pub Is : {S : Type 0} → S → S → Type 0
Is w s = s ≡ w

-- a size that fits, else a fault here
abbrev pub fitting : {S : Type 0} → (S → Bool) → S → Result S ℕ
fitting fits x = if fits x then Ok x else Err 0

-- a node whose size was made from those of its parts
pub node : {S : Type 0} (p : Site → Bool) (fits : S → Bool) (s : Site) (k : ℕ) (x w : S) → s.number ≡ k → p s ≡ fits w → x ≡ w → Finds p (s ∷ []) k (Is w) (fitting fits x)
node p fits s k x w number passes whole =
    here p s k (Is w) (fits x) x number (passes ∙ ap fits (sym whole)) (λ t. whole)

-- a node and its part
pub one_finds : {S : Type 0} (p : Site → Bool) (fits : S → Bool) (over : S → S) (xs : List Site) (s : Site) (k : ℕ) (a w : S) (ta : Result S ℕ)
    → s.number ≡ k → p s ≡ fits w → over a ≡ w → Finds p xs (k + 1) (Is a) ta
    → Finds p (xs ++ s ∷ []) k (Is w) (then_do (moved 1 ta) (λ x. fitting fits (over x)))
one_finds p fits over xs s k a w ta number passes whole h =
    seq p xs (s ∷ []) k (Is a) (Is w) (moved 1 ta) (λ x. fitting fits (over x)) (shift p xs k (k + 1) 1 (Is a) ta refl h)
    (λ x hx. node p fits s k (over x) w number passes (ap over hx ∙ whole))

-- a node and two parts, in the order in which they are tried, whose first nodes have the numbers i and j
pub two_find : {S : Type 0} (p : Site → Bool) (fits : S → Bool) (over : S → S → S) (xs ys : List Site) (s : Site) (k i j m n : ℕ) (a b w : S) (ta tb : Result S ℕ)
    → s.number ≡ k → p s ≡ fits w → over a b ≡ w → i ≡ k + m → j ≡ k + n → Finds p xs i (Is a) ta → Finds p ys j (Is b) tb
    → Finds p (xs ++ (ys ++ s ∷ [])) k (Is w) (then_do (moved m ta) (λ x. then_do (moved n tb) (λ y. fitting fits (over x y))))
two_find p fits over xs ys s k i j m n a b w ta tb number passes whole ei ej ha hb =
    seq p xs (ys ++ s ∷ []) k (Is a) (Is w) (moved m ta) (λ x. then_do (moved n tb) (λ y. fitting fits (over x y))) (shift p xs k i m (Is a) ta ei ha)
    (λ x hx. seq p ys (s ∷ []) k (Is b) (Is w) (moved n tb) (λ y. fitting fits (over x y)) (shift p ys k j n (Is b) tb ej hb)
    (λ y hy. node p fits s k (over x y) w number passes (ap₂ over hx hy ∙ whole)))

-- a node and three parts, of which the first has m nodes and the second n
pub three_find : {S : Type 0} (p : Site → Bool) (fits : S → Bool) (over : S → S → S → S) (xs ys zs : List Site) (s : Site) (k m n : ℕ) (a b c w : S) (ta tb tc : Result S ℕ)
    → s.number ≡ k → p s ≡ fits w → over a b c ≡ w → Finds p xs (k + 1) (Is a) ta → Finds p ys (k + 1 + m) (Is b) tb → Finds p zs (k + 1 + m + n) (Is c) tc
    → Finds p (xs ++ (ys ++ (zs ++ s ∷ []))) k (Is w) (then_do (moved 1 ta) (λ x. then_do (moved (1 + m) tb) (λ y. then_do (moved m (moved (1 + n) tc)) (λ z. fitting fits (over x y z)))))
three_find {S} p fits over xs ys zs s k m n a b c w ta tb tc number passes whole ha hb hc =
    let second : Result S ℕ = moved (1 + m) tb in
    let third : Result S ℕ = moved m (moved (1 + n) tc) in
    seq p xs (ys ++ (zs ++ s ∷ [])) k (Is a) (Is w) (moved 1 ta) (λ x. then_do second (λ y. then_do third (λ z. fitting fits (over x y z)))) (shift p xs k (k + 1) 1 (Is a) ta refl ha)
    (λ x hx. seq p ys (zs ++ s ∷ []) k (Is b) (Is w) second (λ y. then_do third (λ z. fitting fits (over x y z))) (shift p ys k (k + 1 + m) (1 + m) (Is b) tb (omega arith) hb)
    (λ y hy. seq p zs (s ∷ []) k (Is c) (Is w) third (λ z. fitting fits (over x y z))
    (shift p zs k (k + m) m (Is c) (moved (1 + n) tc) refl (shift p zs (k + m) (k + 1 + m + n) (1 + n) (Is c) tc (omega arith) hc))
    (λ z hz. node p fits s k (over x y z) w number passes (ap (λ (v : S). over v y z) hx ∙ ap₂ (over a) hy hz ∙ whole))))
