-- What is observed: a finite map from places, each a label and a day, to values. A place that it does not hold reads
-- as the least value of its label (the external environments of Bahr, Berthold and Elsman, ICFP 2015; a contract reads
-- finitely many places, so finite maps lose nothing).
use Rattle.std.specs.Prelude.{ℕ, ℤ, ◌≤ℤ◌, ◌≡◌, ◌==◌, ◌&&◌, Bool, false, List, [], ◌∷◌, Option, Some, None, if◌then◌else◌, slice_get}
use Rattle.std.specs.Ordering.{int_eq}
use Rattle.term_model.specs.Declarations.{Declarations}
use Rattle.term_model.specs.declared.label.Label.{Label}
use Rattle.term_model.specs.declared.label.Label.TheVariants.{Number, Flag}
use Rattle.term_model.specs.declared.values.Value.{Value}
use Rattle.term_model.specs.declared.values.Value.TheVariants.{Num as Amount, Truth}

-- a label and a day
pub record Place : Type 0 where
  pub label : ℕ
  pub day : ℤ

abbrev pub same_place : Place → Place → Bool
same_place a b = (a.label == b.label) && int_eq a.day b.day

-- a finite map from places to values
abbrev pub Environment : Type 0
Environment = List (Place × Value)

-- what it holds at a place
abbrev pub held : Environment → Place → Option Value
held [] q = None
held (e ∷ rest) q = if same_place e.0 q then Some e.1 else held rest q

-- the label, where it is declared
abbrev pub label_of : Declarations → ℕ → Option Label
label_of d l = elim (slice_get d.labels l) [ Some e ↦ Some e.1 | None ↦ None ]

-- the least value of a label
abbrev pub least : Option Label → Value
least None = Truth false
least (Some Flag) = Truth false
least (Some (Number scale low high)) = Amount low

abbrev pub value_or : Option Value → Value → Value
value_or None v = v
value_or (Some w) v = w

-- what is read at a label on a day
abbrev pub observed : Declarations → Environment → ℕ → ℤ → Value
observed d env l t = value_or (held env (record { label = l; day = t })) (least (label_of d l))

-- a value lies within its label's declaration
abbrev pub IsValueOf : Option Label → Value → Type 0
IsValueOf (Some Flag) (Truth b) = Unit {0}
IsValueOf (Some (Number scale low high)) (Amount m) = (low ≤ℤ m) × (m ≤ℤ high)
IsValueOf _ _ = ⊥

-- each value that it holds lies within its label's declaration
abbrev pub IsAdmitted : Declarations → Environment → Type 0
IsAdmitted d env = (q : Place) (v : Value) → held env q ≡ Some v → IsValueOf (label_of d q.label) v

-- it holds every pair of the fixings
abbrev pub Extends : Environment → Environment → Type 0
Extends fixings env = (q : Place) (v : Value) → held fixings q ≡ Some v → held env q ≡ Some v

-- they read equally at every label on every day at or below n
abbrev pub AgreeUpTo : Declarations → ℤ → Environment → Environment → Type 0
AgreeUpTo d n one other = (l : ℕ) (t : ℤ) → t ≤ℤ n → observed d one l t ≡ observed d other l t
