-- A literal for a name in a node whose expression is read later: it takes the name's place in what is stored.
use Rattle.std.proofs.Common.{◌≡◌, ℕ, ◌+◌, ℤ, true, Option, Result, Ok, Err, IfOk, ap, ap₂, sym, ◌∙◌, add-one}
use Rattle.std.specs.declared.rc.Rc.{Rc}
use Rattle.std.specs.Global.{Global}
use Rattle.term_core.specs.declared.shared.SharedContr.{SharedContr}
use Rattle.term_model.specs.Terms.{Expression, Contract, Scale, Let}
use Rattle.term_model.specs.Redexes.{is_literal}
use Rattle.term_model.specs.Shifts.{shifted}
use Rattle.rewriting.specs.RebuildingContracts.{after_in}
use Rattle.rewriting.specs.Substituting.{substituted, substituted_in}
use Rattle.rewriting.proofs.ShiftedSizes.{substituted_shifted}

pub scale_named : {E : Type 0} (k k' : ℤ) (j : ℕ) (x e y : Expression) (c z s : Contract) (o : Result (Option (Rc SharedContr Global)) E) → k' ≡ k → is_literal x ≡ true → s ≡ Scale (shifted k e) c → y ≡ substituted j x e → z ≡ substituted_in j x c → IfOk o (λ r. after_in s r ≡ Scale (shifted k' y) z) → IfOk o (λ r. after_in s r ≡ substituted_in j x s)
scale_named k k' j x e y c z s (Err m) far lit is p q h = tt
scale_named k k' j x e y c z s (Ok r) far lit is p q h =
    h ∙ ap₂ Scale (ap₂ (λ (n : ℤ) (v : Expression). shifted n v) far p ∙ sym (substituted_shifted k j x e lit)) q ∙ sym (ap (λ (w : Contract). substituted_in j x w) is)

pub let_named : {E : Type 0} (k k' : ℤ) (j : ℕ) (x e y : Expression) (c z s : Contract) (o : Result (Option (Rc SharedContr Global)) E) → k' ≡ k → is_literal x ≡ true → s ≡ Let (shifted k e) c → y ≡ substituted j x e → z ≡ substituted_in (j + 1) x c → IfOk o (λ r. after_in s r ≡ Let (shifted k' y) z) → IfOk o (λ r. after_in s r ≡ substituted_in j x s)
let_named k k' j x e y c z s (Err m) far lit is p q h = tt
let_named k k' j x e y c z s (Ok r) far lit is p q h =
    h ∙ ap₂ Let (ap₂ (λ (n : ℤ) (v : Expression). shifted n v) far p ∙ sym (substituted_shifted k j x e lit)) (q ∙ ap (λ (n : ℕ). substituted_in n x c) (add-one j)) ∙ sym (ap (λ (w : Contract). substituted_in j x w) is)
