-- Offsets that stay within their limit: of what is read later, of well-formed terms, and of terms whose parts are shared.
use Rattle.std.proofs.Common.{◌≡◌, ℕ, ℤ, pos, ◌+◌, ◌+ℤ◌, refl, ap, ap₂, arith, subst, inl, inr}
use Rattle.std.proofs.lemmas.Int.{ints}
use Rattle.term_model.specs.Declarations.{Declarations}
use Rattle.term_model.specs.declared.terms.Expr.{Expr}
use Rattle.term_model.specs.Terms.{expression}
use Rattle.term_model.specs.Terms.{Expression, Lit, Yes, Var, Obs, Neg, Num, Cmp, Not, Logic, Cond, Widen, Round, Div, Acc}
use Rattle.term_model.specs.Terms.{Contract, Zero, Pay, Both, Scale, After, Let, Within}
use Rattle.term_model.specs.WellFormed.{IsWellFormed, IsWellFormedContract}
use Rattle.term_model.specs.Shifts.{shifted, CanMove, CanShift}
use Rattle.term_core.specs.declared.shared.SharedContr.{SharedContr}
use Rattle.term_core.specs.declared.shared.SharedContr.TheVariants.{Zero as Zero', Pay as Pay', Both', Scale', After', Let', Within'}
use Rattle.term_core.specs.SharedTerms.{shared, MovesNothing, HasOffsets, HasOffsetsIn, StoresOffsets}
use Rattle.term_model.proofs.ShiftedFacts.{shifted_zero}

-- where the offsets of what is read later are within the limit, the expression may be shifted
pub offsets_shift : (k : ℤ) (e : Expression) → HasOffsets (shifted k e) → CanShift k e
offsets_shift k (Lit m s) h = tt
offsets_shift k (Yes b) h = tt
offsets_shift k (Var back) h = tt
offsets_shift k (Obs l t) h = h
offsets_shift k (Neg e) h = offsets_shift k e h
offsets_shift k (Num op a b) h = (offsets_shift k a h.0, offsets_shift k b h.1)
offsets_shift k (Cmp op a b) h = (offsets_shift k a h.0, offsets_shift k b h.1)
offsets_shift k (Not e) h = offsets_shift k e h
offsets_shift k (Logic op a b) h = (offsets_shift k a h.0, offsets_shift k b h.1)
offsets_shift k (Cond t a b) h = (offsets_shift k t h.0, offsets_shift k a h.1, offsets_shift k b h.2)
offsets_shift k (Widen s e) h = offsets_shift k e h
offsets_shift k (Round mode s e) h = offsets_shift k e h
offsets_shift k (Div mode s a b) h = (offsets_shift k a h.0, offsets_shift k b h.1)
offsets_shift k (Acc body n first) h = (offsets_shift k body h.0, offsets_shift k first h.1)

-- a well-formed expression has its offsets within the limit
pub formed_offsets : (d : Declarations) (k : ℕ) (e : Expression) → IsWellFormed d k e → HasOffsets e
formed_offsets d k (Lit m s) h = tt
formed_offsets d k (Yes b) h = tt
formed_offsets d k (Var back) h = tt
formed_offsets d k (Obs l t) h = h.1
formed_offsets d k (Neg e) h = formed_offsets d k e h
formed_offsets d k (Num op a b) h = (formed_offsets d k a h.0, formed_offsets d k b h.1)
formed_offsets d k (Cmp op a b) h = (formed_offsets d k a h.0, formed_offsets d k b h.1)
formed_offsets d k (Not e) h = formed_offsets d k e h
formed_offsets d k (Logic op a b) h = (formed_offsets d k a h.0, formed_offsets d k b h.1)
formed_offsets d k (Cond t a b) h = (formed_offsets d k t h.0, formed_offsets d k a h.1, formed_offsets d k b h.2)
formed_offsets d k (Widen s e) h = formed_offsets d k e h
formed_offsets d k (Round mode s e) h = formed_offsets d k e h
formed_offsets d k (Div mode s a b) h = (formed_offsets d k a h.0, formed_offsets d k b h.1)
formed_offsets d k (Acc body n first) h = (formed_offsets d (k + 1) body h.0, formed_offsets d k first h.1)

-- and so has a well-formed contract
pub formed_offsets_in : (d : Declarations) (k : ℕ) (c : Contract) → IsWellFormedContract d k c → HasOffsetsIn c
formed_offsets_in d k Zero h = tt
formed_offsets_in d k (Pay a p q) h = tt
formed_offsets_in d k (Both a b) h = (formed_offsets_in d k a h.0, formed_offsets_in d k b h.1)
formed_offsets_in d k (Scale e c) h = (formed_offsets d k e h.0, formed_offsets_in d k c h.1)
formed_offsets_in d k (After n c) h = formed_offsets_in d k c h.1
formed_offsets_in d k (Let e c) h = (formed_offsets d k e h.0, formed_offsets_in d (k + 1) c h.1)
formed_offsets_in d k (Within e n a b) h = (formed_offsets d k e h.0, formed_offsets_in d k a h.2, formed_offsets_in d k b h.3)

unmoved : (e : Expr) (k : ℤ) → k ≡ pos 0 → HasOffsets (shifted k (expression e)) → HasOffsets (expression e)
unmoved e k m h = subst (λ (x : Expression). HasOffsets x) (shifted_zero (expression e)) (subst (λ (j : ℤ). HasOffsets (shifted j (expression e))) m h)

-- what is read as it is stored stores the offsets that it reads
pub stores_offsets : (s : SharedContr) → MovesNothing s → HasOffsetsIn (shared s) → StoresOffsets s
stores_offsets Zero' m h = tt
stores_offsets (Pay' x p q) m h = tt
stores_offsets (Both' p a q b) m h = (stores_offsets a m.0 h.0, stores_offsets b m.1 h.1)
stores_offsets (Scale' e k q c) m h = (unmoved e.value k m.0 h.0, stores_offsets c m.1 h.1)
stores_offsets (After' n p c) m h = stores_offsets c m h
stores_offsets (Let' e k q c) m h = (unmoved e.value k m.0 h.0, stores_offsets c m.1 h.1)
stores_offsets (Within' e n q a r b) m h = (h.0, stores_offsets a m.0 h.1, stores_offsets b m.1 h.2)
