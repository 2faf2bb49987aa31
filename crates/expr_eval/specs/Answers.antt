-- What an evaluation answers: the value, in every environment that extends the fixings; or the first place that is read
-- and not fixed, exactly where there is one. It is so for all values and places that the entries stand for.
use Rattle.std.specs.Prelude.{ℤ, ◌≡◌, List, [], Option, Some, None, Result, Ok, Err, IfOk}
use Rattle.term_model.specs.Declarations.{Declarations}
use Rattle.term_model.specs.declared.values.Value.{Value}
use Rattle.term_model.specs.declared.values.Missing.{Missing}
use Rattle.term_model.specs.Terms.{Expression, Contract}
use Rattle.term_model.specs.Environments.{Environment, Place, Extends}
use Rattle.term_model.specs.Kinds.{kind_of}
use Rattle.term_model.specs.Values.{Entry, kind_or, value_of}
use Rattle.term_model.specs.LawsKinds.{IsOfKind}
use Rattle.term_model.specs.Reads.{reads_of, first_unfixed}
use Rattle.term_model.specs.Shifts.{shifted}
use Rattle.term_model.specs.Bounds.{Range}
use Rattle.term_model.specs.Acceptance.{IsAccepted}
use Rattle.interval_check.specs.Nodes.{range_of}
use Rattle.interval_check.specs.Parts.{StandsIn}
use Rattle.expr_eval.specs.declared.scratch.Held.{Held}
use Rattle.expr_eval.specs.declared.scratch.Held.TheVariants.{Known, Lacking}
use Rattle.expr_eval.specs.declared.scratch.Binding.{Binding}
use Rattle.expr_eval.specs.Rooms.{kinds_of}
use Rattle.expr_eval.specs.Standing.{StandFor, place_of}
use Rattle.expr_eval.specs.Evaluable.{Suits, SuitAll}

-- the place that an answer lacks
abbrev pub lacked : Result Value Missing → Option Place
lacked (Ok v) = None
lacked (Err m) = Some (place_of m)

-- v is the value of e on day f in every environment that extends the fixings
abbrev pub IsValueEverywhere : Declarations → Expression → List Binding → Environment → ℤ → Value → Type 0
IsValueEverywhere d e bs fixings f v =
    (es : List Entry) (ps : List (List Place)) (env : Environment)
    → StandFor fixings bs es ps → Extends fixings env → value_of d e es env f ≡ v

-- an answer lacks the first unfixed place that e reads on day f, and none where every one is fixed
abbrev pub LacksFirstUnfixed : Declarations → Expression → List Binding → Environment → ℤ → Result Value Missing → Type 0
LacksFirstUnfixed d e bs fixings f r =
    (es : List Entry) (ps : List (List Place)) → StandFor fixings bs es ps → lacked r ≡ first_unfixed fixings (reads_of d e es ps fixings f)

-- the answer of an evaluation on day f
pub record IsAnswer (d : Declarations) (e : Expression) (bs : List Binding) (fixings : Environment) (f : ℤ)
    (r : Result Value Missing) : Type 0 where
  pub value : IfOk r (λ v. IsValueEverywhere d e bs fixings f v)
  pub missing : LacksFirstUnfixed d e bs fixings f r

-- a value is of the kind of e
abbrev pub HasKind : Declarations → Expression → List Binding → Result Value Missing → Type 0
HasKind d e bs r = IfOk r (λ v. IsOfKind (kind_or (kind_of d e (kinds_of bs))) v)

abbrev pub held_of : Result Value Missing → Held
held_of (Ok v) = Known v
held_of (Err m) = Lacking m

-- the entry of a name that is bound to e, from an answer
abbrev pub entry_from : Declarations → Expression → List Binding → Result Value Missing → Binding
entry_from d e bs r = record { kind = kind_or (kind_of d e (kinds_of bs)); held = held_of r }

-- it suits a name that is bound to e wherever e stands
abbrev pub SuitsBinding : Declarations → Expression → List Binding → Result Value Missing → Type 0
SuitsBinding d e bs r =
    (c : Contract) (moved : ℤ) (ranges : List Range)
    → IsAccepted d c → StandsIn d (shifted moved e) ranges c [] → SuitAll ranges bs
    → Suits (range_of d e ranges) (entry_from d e bs r)

-- the answer of an evaluation on day f: its value is of the kind of e, and its entry suits a name that is bound to e
pub record IsSuitedAnswer (d : Declarations) (e : Expression) (bs : List Binding) (fixings : Environment) (f : ℤ)
    (r : Result Value Missing) : Type 0 where
  pub answer : IsAnswer d e bs fixings f r
  pub kind : HasKind d e bs r
  pub suits : SuitsBinding d e bs r
