-- What an expression is: a truth value, a number with a scale, or nothing where sorts are mixed. A sum has the greater
-- scale of its parts and a product the sum of both; an accumulator has the kind of its start.
use Rattle.std.specs.Prelude.{ℕ, ◌+◌, max, List, ◌∷◌, Option, Some, None, slice_get}
use Rattle.term_model.specs.Declarations.{Declarations}
use Rattle.term_model.specs.declared.label.Label.{Label}
use Rattle.term_model.specs.declared.label.Label.TheVariants.{Number as NumberLabel, Flag}
use Rattle.term_model.specs.declared.terms.NumOp.{NumOp}
use Rattle.term_model.specs.declared.terms.NumOp.TheVariants.{Times}
use Rattle.term_model.specs.declared.values.Kind.{Kind}
use Rattle.term_model.specs.declared.values.Kind.TheVariants.{Truth, Number}
use Rattle.term_model.specs.Terms.{Expression, Lit, Yes, Var, Obs, Neg, Num, Cmp, Not, Logic, Cond, Widen, Round, Div, Acc}
use Rattle.term_model.specs.Environments.{label_of}

abbrev pub scale_of_kind : Kind → ℕ
scale_of_kind Truth = 0
scale_of_kind (Number s) = s

abbrev pub kind_of_label : Option Label → Option Kind
kind_of_label None = None
kind_of_label (Some Flag) = Some Truth
kind_of_label (Some (NumberLabel scale low high)) = Some (Number scale)

abbrev pub scale_of_op : NumOp → ℕ → ℕ → ℕ
scale_of_op Times a b = a + b
scale_of_op _ a b = max a b

-- with two numbers
abbrev pub on_numbers : (ℕ → ℕ → Option Kind) → Option Kind → Option Kind → Option Kind
on_numbers f (Some (Number a)) (Some (Number b)) = f a b
on_numbers f _ _ = None

abbrev pub on_number : (ℕ → Option Kind) → Option Kind → Option Kind
on_number f (Some (Number a)) = f a
on_number f _ = None

abbrev pub on_truth : Option Kind → Option Kind → Option Kind
on_truth (Some Truth) k = k
on_truth _ k = None

-- of two branches
abbrev pub joined : Option Kind → Option Kind → Option Kind
joined (Some Truth) (Some Truth) = Some Truth
joined (Some (Number a)) (Some (Number b)) = Some (Number (max a b))
joined _ _ = None

-- of an accumulator, from its start and its body
abbrev pub of_acc : Option Kind → (Kind → Option Kind) → Option Kind
of_acc None f = None
of_acc (Some Truth) f = on_truth (f Truth) (Some Truth)
of_acc (Some (Number s)) f = on_number (λ _. Some (Number s)) (f (Number s))

-- the kind, or none where the sorts are mixed
abbrev pub kind_of : Declarations → Expression → List Kind → Option Kind
kind_of d (Lit m s) ks = Some (Number s)
kind_of d (Yes b) ks = Some Truth
kind_of d (Var back) ks = slice_get ks back
kind_of d (Obs l t) ks = kind_of_label (label_of d l)
kind_of d (Neg e) ks = on_number (λ s. Some (Number s)) (kind_of d e ks)
kind_of d (Num op a b) ks = on_numbers (λ s t. Some (Number (scale_of_op op s t))) (kind_of d a ks) (kind_of d b ks)
kind_of d (Cmp op a b) ks = on_numbers (λ s t. Some Truth) (kind_of d a ks) (kind_of d b ks)
kind_of d (Not e) ks = on_truth (kind_of d e ks) (Some Truth)
kind_of d (Logic op a b) ks = on_truth (kind_of d a ks) (on_truth (kind_of d b ks) (Some Truth))
kind_of d (Cond t a b) ks = on_truth (kind_of d t ks) (joined (kind_of d a ks) (kind_of d b ks))
kind_of d (Widen s e) ks = on_number (λ _. Some (Number s)) (kind_of d e ks)
kind_of d (Round mode s e) ks = on_number (λ _. Some (Number s)) (kind_of d e ks)
kind_of d (Div mode s a b) ks = on_numbers (λ _ _. Some (Number s)) (kind_of d a ks) (kind_of d b ks)
kind_of d (Acc body n first) ks = of_acc (kind_of d first ks) (λ k. kind_of d body (k ∷ ks))

abbrev pub scale_or_zero : Option Kind → ℕ
scale_or_zero None = 0
scale_or_zero (Some k) = scale_of_kind k

-- the scale of a numeric expression
abbrev pub scale_of : Declarations → Expression → List Kind → ℕ
scale_of d e ks = scale_or_zero (kind_of d e ks)
