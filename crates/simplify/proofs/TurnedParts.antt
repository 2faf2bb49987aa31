-- A turn of a contract whose factor is read later: what is stored is turned.
use Rattle.std.proofs.Common.{◌≡◌, ℤ, Option, Result, Ok, Err, IfOk, List, ap, ap₂, sym, ◌∙◌}
use Rattle.std.specs.declared.rc.Rc.{Rc}
use Rattle.std.specs.Global.{Global}
use Rattle.term_model.specs.Declarations.{Declarations}
use Rattle.term_core.specs.declared.shared.SharedContr.{SharedContr}
use Rattle.term_model.specs.declared.values.Kind.{Kind}
use Rattle.term_model.specs.Shifts.{shifted}
use Rattle.term_model.specs.Terms.{Expression, Contract, Scale}
use Rattle.rewriting.specs.RebuildingContracts.{after_in}
use Rattle.simplify.specs.Turning.{turned}
use Rattle.simplify.specs.TurningContracts.{rule_in, turned_in}
use Rattle.simplify.proofs.TurnShiftFacts.{turned_shifted}

module _ {E : Type 0} (d : Declarations) (ks : List Kind) (k k' : ℤ) (e y : Expression) (c z s : Contract) (o : Result (Option (Rc SharedContr Global)) E) where
  pub scale_turned : k' ≡ k → s ≡ Scale (shifted k e) c → y ≡ turned d ks e → z ≡ turned_in d ks c → IfOk o (λ r. after_in s r ≡ rule_in (Scale (shifted k' y) z)) → IfOk o (λ r. after_in s r ≡ turned_in d ks s)
  scale_turned far is p q h = at o h
    where
      same : rule_in (Scale (shifted k' y) z) ≡ turned_in d ks s
      same =
          ap rule_in (ap₂ Scale (ap₂ (λ (n : ℤ) (v : Expression). shifted n v) far p ∙ sym (turned_shifted d ks k e)) q)
          ∙ sym (ap (λ (w : Contract). turned_in d ks w) is)

      at : (a : Result (Option (Rc SharedContr Global)) E) → IfOk a (λ r. after_in s r ≡ rule_in (Scale (shifted k' y) z)) → IfOk a (λ r. after_in s r ≡ turned_in d ks s)
      at (Err m) g = tt
      at (Ok r) g = g ∙ same
