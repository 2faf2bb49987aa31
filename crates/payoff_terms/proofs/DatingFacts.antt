-- Compiled value expressions: at a setting, the expression that is read so many days later as their date has; and the
-- kinds of the expression, whatever the dates.
use Rattle.std.proofs.Common.{◌≡◌, ℕ, ℤ, pos, ◌+ℤ◌, List, ◌∷◌, Option, Some, refl, ap, ap₂, subst, sym, ◌∙◌}
use Rattle.term_model.specs.Declarations.{Declarations}
use Rattle.term_model.specs.declared.values.Kind.{Kind}
use Rattle.term_model.specs.declared.values.Kind.TheVariants.{Truth as TruthKind, Number}
use Rattle.term_model.specs.declared.values.Value.{Value}
use Rattle.term_model.specs.Terms.{Expression, Lit, Yes, Var, Obs, Neg, Num, Cmp, Not, Logic, Cond, Widen, Round, Div, Acc}
use Rattle.term_model.specs.Environments.{Environment}
use Rattle.term_model.specs.Kinds.{kind_of, scale_of, scale_or_zero, on_number, on_numbers, on_truth, joined, of_acc, scale_of_op}
use Rattle.term_model.specs.Values.{Entry, kinds, kind_or, value_of}
use Rattle.term_model.specs.Shifts.{shifted}
use Rattle.term_model.proofs.ShiftFacts.{value-shifted, acc_of}
use Rattle.payoff_terms.specs.TemplateDates.{Date, day_of}
use Rattle.payoff_terms.specs.Dating.{dated_by, at_setting, undated}
use Rattle.payoff_terms.specs.Compiled.{compiled_value}
use Rattle.payoff_terms.specs.CodeValues.{value_at, kind_at, entry_at}
use Rattle.payoff_terms.proofs.DateFacts.{day_plus_days}

-- at a setting, it is the expression, shifted
pub dated_shifted : (xs : List ℕ) (x : Date) (e : Expression) → at_setting xs (compiled_value x e) ≡ shifted (day_of xs x) e
dated_shifted xs x (Lit m s) = refl
dated_shifted xs x (Yes b) = refl
dated_shifted xs x (Var back) = refl
dated_shifted xs x (Obs l t) = ap (λ (i : ℤ). Obs l i) (day_plus_days xs x t)
dated_shifted xs x (Neg e) = ap Neg (dated_shifted xs x e)
dated_shifted xs x (Num op a b) = ap₂ (Num op) (dated_shifted xs x a) (dated_shifted xs x b)
dated_shifted xs x (Cmp op a b) = ap₂ (Cmp op) (dated_shifted xs x a) (dated_shifted xs x b)
dated_shifted xs x (Not e) = ap Not (dated_shifted xs x e)
dated_shifted xs x (Logic op a b) = ap₂ (Logic op) (dated_shifted xs x a) (dated_shifted xs x b)
dated_shifted xs x (Cond t a b) =
    ap (λ (e : Expression). Cond e (at_setting xs (compiled_value x a)) (at_setting xs (compiled_value x b))) (dated_shifted xs x t)
    ∙ ap₂ (Cond (shifted (day_of xs x) t)) (dated_shifted xs x a) (dated_shifted xs x b)
dated_shifted xs x (Widen s e) = ap (Widen s) (dated_shifted xs x e)
dated_shifted xs x (Round mode s e) = ap (Round mode s) (dated_shifted xs x e)
dated_shifted xs x (Div mode s a b) = ap₂ (Div mode s) (dated_shifted xs x a) (dated_shifted xs x b)
dated_shifted xs x (Acc body n first) = ap₂ (λ (e u : Expression). Acc e n u) (dated_shifted xs x body) (dated_shifted xs x first)

pub same_acc : (o u : Option Kind) (p q : Kind → Option Kind) → o ≡ u → ((k : Kind) → p k ≡ q k) → of_acc o p ≡ of_acc u q
same_acc o u p q e h = subst (λ (r : Option Kind). of_acc o p ≡ of_acc r q) e (acc_of o p q h)

-- its kind is that of the expression, whatever the dates
pub kind_dated : (d : Declarations) (day : Date → ℤ) (x : Date) (e : Expression) (ks : List Kind) → kind_of d (dated_by day (compiled_value x e)) ks ≡ kind_of d e ks
kind_dated d day x (Lit m s) ks = refl
kind_dated d day x (Yes b) ks = refl
kind_dated d day x (Var back) ks = refl
kind_dated d day x (Obs l t) ks = refl
kind_dated d day x (Neg e) ks = ap (on_number (λ s. Some (Number s))) (kind_dated d day x e ks)
kind_dated d day x (Num op a b) ks = ap₂ (on_numbers (λ s t. Some (Number (scale_of_op op s t)))) (kind_dated d day x a ks) (kind_dated d day x b ks)
kind_dated d day x (Cmp op a b) ks = ap₂ (on_numbers (λ s t. Some TruthKind)) (kind_dated d day x a ks) (kind_dated d day x b ks)
kind_dated d day x (Not e) ks = ap (λ (o : Option Kind). on_truth o (Some TruthKind)) (kind_dated d day x e ks)
kind_dated d day x (Logic op a b) ks = ap₂ (λ (o u : Option Kind). on_truth o (on_truth u (Some TruthKind))) (kind_dated d day x a ks) (kind_dated d day x b ks)
kind_dated d day x (Cond t a b) ks = ap₂ on_truth (kind_dated d day x t ks) (ap₂ joined (kind_dated d day x a ks) (kind_dated d day x b ks))
kind_dated d day x (Widen s e) ks = ap (on_number (λ _. Some (Number s))) (kind_dated d day x e ks)
kind_dated d day x (Round mode s e) ks = ap (on_number (λ _. Some (Number s))) (kind_dated d day x e ks)
kind_dated d day x (Div mode s a b) ks = ap₂ (on_numbers (λ _ _. Some (Number s))) (kind_dated d day x a ks) (kind_dated d day x b ks)
kind_dated d day x (Acc body n first) ks =
    same_acc (kind_of d (dated_by day (compiled_value x first)) ks) (kind_of d first ks) (λ j. kind_of d (dated_by day (compiled_value x body)) (j ∷ ks)) (λ j. kind_of d body (j ∷ ks)) (kind_dated d day x first ks) (λ j. kind_dated d day x body (j ∷ ks))

pub scale_compiled : (d : Declarations) (x : Date) (e : Expression) (ks : List Kind) → scale_of d (undated (compiled_value x e)) ks ≡ scale_of d e ks
scale_compiled d x e ks = ap scale_or_zero (kind_dated d (λ _. pos 0) x e ks)

pub kind_compiled : (d : Declarations) (x : Date) (e : Expression) (ks : List Kind) → kind_at d (compiled_value x e) ks ≡ kind_or (kind_of d e ks)
kind_compiled d x e ks = ap kind_or (kind_dated d (λ _. pos 0) x e ks)

-- its value at a base is that of the expression on the frame
pub value_compiled : (d : Declarations) (x : Date) (e : Expression) (g : List Entry) (env : Environment) (xs : List ℕ) (b f : ℤ) → f ≡ b +ℤ day_of xs x → value_at d (compiled_value x e) g env xs b ≡ value_of d e g env f
value_compiled d x e g env xs b f h =
    ap (λ (u : Expression). value_of d u g env b) (dated_shifted xs x e) ∙ value-shifted d e (day_of xs x) g env b ∙ ap (value_of d e g env) (sym h)

pub entry_compiled : (d : Declarations) (x : Date) (e : Expression) (g : List Entry) (env : Environment) (xs : List ℕ) (b f : ℤ) → f ≡ b +ℤ day_of xs x → entry_at d (compiled_value x e) g env xs b ≡ record { value = value_of d e g env f; kind = kind_or (kind_of d e (kinds g)) }
entry_compiled d x e g env xs b f h =
    ap₂ (λ (v : Value) (k : Kind). record { value = v; kind = k }) (value_compiled d x e g env xs b f h) (kind_compiled d x e (kinds g))
