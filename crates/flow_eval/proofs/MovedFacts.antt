-- What is answered for an expression that is read k days later than it is stored.
use Rattle.std.proofs.Common.{◌≡◌, ℤ, ◌+ℤ◌, List, Option, Some, ap, ap₂, sym, ◌∙◌}
use Rattle.term_model.specs.Declarations.{Declarations}
use Rattle.term_model.specs.declared.values.Kind.{Kind}
use Rattle.term_model.specs.declared.values.Value.{Value}
use Rattle.term_model.specs.Terms.{Expression}
use Rattle.term_model.specs.Environments.{Environment, Place}
use Rattle.term_model.specs.Kinds.{kind_of}
use Rattle.term_model.specs.Values.{Entry, kind_or}
use Rattle.term_model.specs.Reads.{first_unfixed}
use Rattle.term_model.specs.Shifts.{shifted}
use Rattle.term_model.proofs.ShiftFacts.{kind-shifted, value-shifted}
use Rattle.term_model.proofs.ReadShiftFacts.{reads-shifted}
use Rattle.expr_eval.specs.Trials.{ValueOrMissing, answer_of, value_unless}

-- it has the kind of the stored one
pub kind_moved : (d : Declarations) (e : Expression) (k : ℤ) (ks : List Kind) (kind : Kind) → kind_of d e ks ≡ Some kind → kind ≡ kind_or (kind_of d (shifted k e) ks)
kind_moved d e k ks kind is = sym (ap (λ (o : Option Kind). kind_or o) (kind-shifted d e k ks ∙ is))

-- and the answer of the stored one k days later
pub answer_moved : (d : Declarations) (e : Expression) (k : ℤ) (g : List Entry) (bs : List (List Place)) (F : Environment) (f : ℤ) → answer_of d (shifted k e) g bs F f ≡ answer_of d e g bs F (f +ℤ k)
answer_moved d e k g bs F f =
    ap₂ (λ (ps : List Place) (v : Value). value_unless (first_unfixed F ps) v) (reads-shifted d e k g bs F f) (value-shifted d e k g F f)

-- with another name for k
pub answer_by_days : (d : Declarations) (e : Expression) (j k : ℤ) (g : List Entry) (bs : List (List Place)) (F : Environment) (f : ℤ) (a : ValueOrMissing) → j ≡ k → a ≡ answer_of d (shifted j e) g bs F f → a ≡ answer_of d (shifted k e) g bs F f
answer_by_days d e j k g bs F f a same is = is ∙ ap (λ (i : ℤ). answer_of d (shifted i e) g bs F f) same
