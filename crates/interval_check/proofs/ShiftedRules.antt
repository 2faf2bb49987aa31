-- The rules do not see offsets.
use Rattle.std.proofs.Common.{ℤ, List, ◌∷◌, refl}
use Rattle.term_model.specs.Declarations.{Declarations}
use Rattle.term_model.specs.Terms.{Expression, Lit, Yes, Var, Obs, Neg, Num, Cmp, Not, Logic, Cond, Widen, Round, Div, Acc}
use Rattle.term_model.specs.Shifts.{shifted}
use Rattle.term_model.specs.Bounds.{Range}
use Rattle.interval_check.specs.Guarantees.{RulesDoNotSeeOffsets}
use Rattle.interval_check.proofs.LookFacts.{Alike, alike_leaf, alike_neg, alike_not, alike_num, alike_cmp, alike_logic, alike_cond, alike_widen, alike_round, alike_div, alike_acc}

pub shifted_alike : (d : Declarations) (e : Expression) (k : ℤ) (g : List Range) → Alike d (shifted k e) g e g
shifted_alike d (Lit m s) k g = alike_leaf d (Lit m s) g (Lit m s) g refl (λ p. p) (λ p. p) (λ p. p)
shifted_alike d (Yes b) k g = alike_leaf d (Yes b) g (Yes b) g refl (λ p. p) (λ p. p) (λ p. p)
shifted_alike d (Var back) k g = alike_leaf d (Var back) g (Var back) g refl (λ p. p) (λ p. p) (λ p. p)
shifted_alike d (Obs l t) k g = alike_leaf d (Obs l _) g (Obs l t) g refl (λ p. p) (λ p. p) (λ p. p)
shifted_alike d (Neg e) k g = alike_neg d _ g e g (shifted_alike d e k g)
shifted_alike d (Num op a b) k g = alike_num d op _ _ g a b g (shifted_alike d a k g) (shifted_alike d b k g)
shifted_alike d (Cmp op a b) k g = alike_cmp d op _ _ g a b g (shifted_alike d a k g) (shifted_alike d b k g)
shifted_alike d (Not e) k g = alike_not d _ g e g (shifted_alike d e k g)
shifted_alike d (Logic op a b) k g = alike_logic d op _ _ g a b g (shifted_alike d a k g) (shifted_alike d b k g)
shifted_alike d (Cond t a b) k g = alike_cond d _ _ _ g t a b g (shifted_alike d t k g) (shifted_alike d a k g) (shifted_alike d b k g)
shifted_alike d (Widen s e) k g = alike_widen d s _ g e g (shifted_alike d e k g)
shifted_alike d (Round mode s e) k g = alike_round d mode s _ g e g (shifted_alike d e k g)
shifted_alike d (Div mode s a b) k g = alike_div d mode s _ _ g a b g (shifted_alike d a k g) (shifted_alike d b k g)
shifted_alike d (Acc body n first) k g = alike_acc d _ n _ g body first g (λ r. shifted_alike d body k (r ∷ g)) (shifted_alike d first k g)

-- and the other way round
pub unshifted_alike : (d : Declarations) (e : Expression) (k : ℤ) (g : List Range) → Alike d e g (shifted k e) g
unshifted_alike d (Lit m s) k g = alike_leaf d (Lit m s) g (Lit m s) g refl (λ p. p) (λ p. p) (λ p. p)
unshifted_alike d (Yes b) k g = alike_leaf d (Yes b) g (Yes b) g refl (λ p. p) (λ p. p) (λ p. p)
unshifted_alike d (Var back) k g = alike_leaf d (Var back) g (Var back) g refl (λ p. p) (λ p. p) (λ p. p)
unshifted_alike d (Obs l t) k g = alike_leaf d (Obs l t) g (Obs l _) g refl (λ p. p) (λ p. p) (λ p. p)
unshifted_alike d (Neg e) k g = alike_neg d e g _ g (unshifted_alike d e k g)
unshifted_alike d (Num op a b) k g = alike_num d op a b g _ _ g (unshifted_alike d a k g) (unshifted_alike d b k g)
unshifted_alike d (Cmp op a b) k g = alike_cmp d op a b g _ _ g (unshifted_alike d a k g) (unshifted_alike d b k g)
unshifted_alike d (Not e) k g = alike_not d e g _ g (unshifted_alike d e k g)
unshifted_alike d (Logic op a b) k g = alike_logic d op a b g _ _ g (unshifted_alike d a k g) (unshifted_alike d b k g)
unshifted_alike d (Cond t a b) k g = alike_cond d t a b g _ _ _ g (unshifted_alike d t k g) (unshifted_alike d a k g) (unshifted_alike d b k g)
unshifted_alike d (Widen s e) k g = alike_widen d s e g _ g (unshifted_alike d e k g)
unshifted_alike d (Round mode s e) k g = alike_round d mode s e g _ g (unshifted_alike d e k g)
unshifted_alike d (Div mode s a b) k g = alike_div d mode s a b g _ _ g (unshifted_alike d a k g) (unshifted_alike d b k g)
unshifted_alike d (Acc body n first) k g = alike_acc d body n first g _ _ g (λ r. unshifted_alike d body k (r ∷ g)) (unshifted_alike d first k g)

pub rules_see_no_offsets : RulesDoNotSeeOffsets
rules_see_no_offsets d e k g =
    let there = shifted_alike d e k g in
    let back = unshifted_alike d e k g in
    (λ r. record { sorts = back.sorts r.sorts; scales = back.scales r.scales; bounds = back.bounds r.bounds }, λ r. record { sorts = there.sorts r.sorts; scales = there.scales r.scales; bounds = there.bounds r.bounds })
