-- When numbers lie in intervals, and values of names in their ranges.
use Rattle.std.specs.Prelude.{true, ℤ, ◌≤ℤ◌, ◌≡◌, List, [], ◌∷◌}
use Rattle.term_model.specs.Declarations.{Declarations}
use Rattle.term_model.specs.Limits.{are_labels}
use Rattle.term_model.specs.declared.values.Kind.{Kind}
use Rattle.term_model.specs.declared.values.Kind.TheVariants.{Truth, Number}
use Rattle.term_model.specs.Values.{Entry, num}
use Rattle.term_model.specs.LawsKinds.{IsOfKind}
use Rattle.term_model.specs.Bounds.{Interval, Range}

-- a mantissa lies in an interval
pub record IsIn (i : Interval) (m : ℤ) : Type 0 where
  pub low : i.low ≤ℤ m
  pub high : m ≤ℤ i.high

-- an entry has the kind of its range, and a value of this kind; its number, which of a truth value is 0, lies in the
-- interval
pub record IsWithin (r : Range) (e : Entry) : Type 0 where
  pub same_kind : e.kind ≡ r.kind
  pub of_kind : IsOfKind e.kind e.value
  pub inside : IsIn r.interval (num e.value)

-- each name has an entry that suits its range
abbrev pub AreWithin : List Range → List Entry → Type 0
AreWithin [] [] = Unit {0}
AreWithin (r ∷ g) (e ∷ es) = IsWithin r e × AreWithin g es
AreWithin [] (e ∷ es) = ⊥
AreWithin (r ∷ g) [] = ⊥

-- of a number
abbrev pub OnNumber : Kind → Type 0 → Type 0
OnNumber Truth P = Unit {0}
OnNumber (Number s) P = P

-- an entry has the kind of its range, and a value of this kind; a number lies in the interval
pub record IsSuited (r : Range) (e : Entry) : Type 0 where
  pub same_kind : e.kind ≡ r.kind
  pub of_kind : IsOfKind e.kind e.value
  pub inside : OnNumber r.kind (IsIn r.interval (num e.value))

-- each name has an entry that suits its range. Where the ranges are those of bound expressions, this is as good as lying
-- within them, since the interval of a truth value holds 0
abbrev pub AreSuited : List Range → List Entry → Type 0
AreSuited [] [] = Unit {0}
AreSuited (r ∷ g) (e ∷ es) = IsSuited r e × AreSuited g es
AreSuited [] (e ∷ es) = ⊥
AreSuited (r ∷ g) [] = ⊥

-- the declared observables keep their limits, as those of every `Decls` do: bounds are in order
abbrev pub KeepsLimits : Declarations → Type 0
KeepsLimits d = are_labels d.labels ≡ true
