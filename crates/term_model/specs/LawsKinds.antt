-- The law of kinds: an expression that has a kind has a value of that kind, in every admitted environment, where each
-- name has a value of its own kind.
use Rattle.std.specs.Prelude.{ℤ, ◌≡◌, List, [], ◌∷◌, Some}
use Rattle.term_model.specs.Declarations.{Declarations}
use Rattle.term_model.specs.declared.values.Kind.{Kind}
use Rattle.term_model.specs.declared.values.Kind.TheVariants.{Truth as TruthKind, Number}
use Rattle.term_model.specs.declared.values.Value.{Value}
use Rattle.term_model.specs.declared.values.Value.TheVariants.{Num as Amount, Truth}
use Rattle.term_model.specs.Terms.{Expression}
use Rattle.term_model.specs.Environments.{Environment, IsAdmitted}
use Rattle.term_model.specs.Kinds.{kind_of}
use Rattle.term_model.specs.Values.{Entry, kinds, value_of}

abbrev pub IsOfKind : Kind → Value → Type 0
IsOfKind TruthKind (Truth b) = Unit {0}
IsOfKind (Number s) (Amount m) = Unit {0}
IsOfKind _ _ = ⊥

-- each name has a value of its kind
abbrev pub AreOfKinds : List Entry → Type 0
AreOfKinds [] = Unit {0}
AreOfKinds (e ∷ es) = IsOfKind e.kind e.value × AreOfKinds es

abbrev pub ValuesHaveKinds : Type 0
ValuesHaveKinds =
    (d : Declarations) (e : Expression) (g : List Entry) (env : Environment) (f : ℤ) (k : Kind)
    → IsAdmitted d env → AreOfKinds g → kind_of d e (kinds g) ≡ Some k → IsOfKind k (value_of d e g env f)
