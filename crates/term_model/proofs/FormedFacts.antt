-- Whether a term is well formed follows from how much is declared, and so does not see decimals or versions.
use Rattle.std.proofs.Common.{ℕ, ◌+◌, ◌<◌, refl, sym, subst}
use Rattle.std.proofs.lemmas.List.{length-map}
use Rattle.term_model.specs.Declarations.{Declarations, at_one_scale}
use Rattle.term_model.specs.DayCounts.{Days}
use Rattle.term_model.specs.DayCounts.{Num as Count, Named, Sum}
use Rattle.term_model.specs.Terms.{Expression, Lit, Yes, Var, Obs, Neg, Num, Cmp, Not, Logic, Cond, Widen, Round, Div, Acc}
use Rattle.term_model.specs.Terms.{Contract, Zero, Pay, Both, Scale, After, Let, Within}
use Rattle.term_model.specs.WellFormed.{AreBelow, IsWellFormed, IsWellFormedContract, IsDeclared}
use Rattle.term_model.specs.LawsDeclarations.{DeclareAsMany, DeclarationsGiveForms, ClosedAtOneScale}

module _ (d o : Declarations) (same : DeclareAsMany d o) where
  formed : (k : ℕ) (e : Expression) → IsWellFormed d k e → IsWellFormed o k e
  formed k (Lit m s) h = tt
  formed k (Yes b) h = tt
  formed k (Var back) h = h
  formed k (Obs l t) h = (subst (λ (n : ℕ). l < n) same.labels h.0, h.1)
  formed k (Neg e) h = formed k e h
  formed k (Num op a b) h = (formed k a h.0, formed k b h.1)
  formed k (Cmp op a b) h = (formed k a h.0, formed k b h.1)
  formed k (Not e) h = formed k e h
  formed k (Logic op a b) h = (formed k a h.0, formed k b h.1)
  formed k (Cond t a b) h = (formed k t h.0, formed k a h.1, formed k b h.2)
  formed k (Widen s e) h = formed k e h
  formed k (Round mode s e) h = formed k e h
  formed k (Div mode s a b) h = (formed k a h.0, formed k b h.1)
  formed k (Acc body n first) h = (formed (k + 1) body h.0, formed k first h.1)

  days_declared : (n : Days) → IsDeclared d n → IsDeclared o n
  days_declared (Count n) h = tt
  days_declared (Named t) h = subst (λ (n : ℕ). t < n) same.templates h
  days_declared (Sum n ts) h = subst (λ (m : ℕ). AreBelow m ts) same.templates h

  contract_formed : (k : ℕ) (c : Contract) → IsWellFormedContract d k c → IsWellFormedContract o k c
  contract_formed k Zero h = tt
  contract_formed k (Pay a p q) h = (subst (λ (n : ℕ). a < n) same.assets h.0, subst (λ (n : ℕ). p < n) same.parties h.1, subst (λ (n : ℕ). q < n) same.parties h.2)
  contract_formed k (Both a b) h = (contract_formed k a h.0, contract_formed k b h.1)
  contract_formed k (Scale e c) h = (formed k e h.0, contract_formed k c h.1)
  contract_formed k (After n c) h = (days_declared n h.0, contract_formed k c h.1)
  contract_formed k (Let e c) h = (formed k e h.0, contract_formed (k + 1) c h.1)
  contract_formed k (Within e n a b) h = (formed k e h.0, days_declared n h.1, contract_formed k a h.2, contract_formed k b h.3)

pub one_form : DeclarationsGiveForms
one_form d o same k c h = contract_formed d o same k c h

pub closed_at_one_scale : ClosedAtOneScale
closed_at_one_scale d c h =
    contract_formed d (at_one_scale d) (record { parties = refl; assets = sym (length-map d.assets (λ entry. (entry.0, d.amounts))); labels = refl; templates = refl }) 0 c h
