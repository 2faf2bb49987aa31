-- What an operator on literals comes to: the literal of its value. And what that asks, so that the numbers fit 128 bits.
use Rattle.std.specs.Prelude.{Option, Some, None, not}
use Rattle.term_model.specs.declared.values.Kind.TheVariants.{Number}
use Rattle.term_model.specs.Terms.{Expression, Lit, Yes, Neg, Num, Cmp, Not, Widen, Round, Div}
use Rattle.rewriting.specs.Replacing.{literal_of}
use Rattle.expr_eval.specs.declared.operations.Typed.{Typed}
use Rattle.expr_eval.specs.declared.operations.Operands.{Operands}
use Rattle.expr_eval.specs.Operations.{number, verdict, truth_in, at_kind, negated, combined, compared, rounded, quotient}
use Rattle.expr_eval.specs.Operations.{FitsKind, Negates, Combines, Compares, RoundsTo, DividesTo}

-- the value of a literal, with its kind
abbrev pub literal_in : Expression → Option Typed
literal_in (Lit m s) = Some (number s m)
literal_in (Yes b) = Some (verdict b)
literal_in _ = None

abbrev pub plain : Typed → Expression
plain v = literal_of v.kind v.value

-- both values, where both are there
abbrev pub both : Option Typed → Option Typed → Option Operands
both (Some v) (Some w) = Some (record { left = v; right = w })
both (Some v) None = None
both None o = None

-- the literal of what an operator makes of a value, or the other where there is none
abbrev pub from_one : Option Typed → (Typed → Typed) → Expression → Expression
from_one None f other = other
from_one (Some v) f other = plain (f v)

abbrev pub from_two : Option Operands → (Typed → Typed → Typed) → Expression → Expression
from_two None f other = other
from_two (Some p) f other = plain (f p.left p.right)

abbrev pub folded : Expression → Expression
folded (Neg e) = from_one (literal_in e) negated (Neg e)
folded (Num op a b) = from_two (both (literal_in a) (literal_in b)) (combined op) (Num op a b)
folded (Cmp op a b) = from_two (both (literal_in a) (literal_in b)) (compared op) (Cmp op a b)
folded (Not e) = from_one (literal_in e) (λ v. verdict (not (truth_in v))) (Not e)
folded (Widen s e) = from_one (literal_in e) (at_kind (Number s)) (Widen s e)
folded (Round mode s e) = from_one (literal_in e) (rounded mode s) (Round mode s e)
folded (Div mode s a b) = from_two (both (literal_in a) (literal_in b)) (quotient mode s) (Div mode s a b)
folded e = e

-- of the value, where there is one
abbrev pub OnOne : Option Typed → (Typed → Type 0) → Type 0
OnOne None P = Unit {0}
OnOne (Some v) P = P v

abbrev pub OnTwo : Option Operands → (Typed → Typed → Type 0) → Type 0
OnTwo None P = Unit {0}
OnTwo (Some p) P = P p.left p.right

abbrev pub CanFold : Expression → Type 0
CanFold (Neg e) = OnOne (literal_in e) Negates
CanFold (Num op a b) = OnTwo (both (literal_in a) (literal_in b)) (Combines op)
CanFold (Cmp op a b) = OnTwo (both (literal_in a) (literal_in b)) Compares
CanFold (Widen s e) = OnOne (literal_in e) (FitsKind (Number s))
CanFold (Round mode s e) = OnOne (literal_in e) (RoundsTo s)
CanFold (Div mode s a b) = OnTwo (both (literal_in a) (literal_in b)) (DividesTo s)
CanFold _ = Unit {0}
