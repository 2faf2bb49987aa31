-- What the specialiser promises of what it makes of a term.
use Rattle.std.specs.Prelude.{ℕ, ℤ, pos, ◌+◌, ◌≤ℤ◌, ◌≡◌, List, [], Option, Some, None}
use Rattle.term_model.specs.Declarations.{Declarations}
use Rattle.term_model.specs.declared.values.Kind.{Kind}
use Rattle.term_model.specs.Terms.{Expression, Contract}
use Rattle.term_model.specs.WellFormed.{IsWellFormed, IsClosed, HasOnlyNumbers}
use Rattle.term_model.specs.Acceptance.{IsAccepted}
use Rattle.term_model.specs.Environments.{Environment, Place, IsAdmitted, Extends}
use Rattle.term_model.specs.Limits.{last_start, most_days}
use Rattle.term_model.specs.Literals.{HasLiteralsIn}
use Rattle.term_model.specs.Kinds.{kind_of}
use Rattle.term_model.specs.Values.{Entry, value_of}
use Rattle.term_model.specs.Flows.{Flow, amount_of}
use Rattle.term_model.specs.Reads.{reads_of, reads_of_contract}
use Rattle.term_model.specs.Redexes.{Redex, FixedPlace, FixedSteps, HasNone}
use Rattle.rewriting.specs.Keeping.{AreAmong, NamesReadLess, IsNoLarger, IsNoLargerIn, StaysClosed}
use Rattle.rewriting.specs.Reduced.{NoneIn, IsNoRedex}
use Rattle.specialise.specs.declared.frames.Frame.{Frame}
use Rattle.specialise.specs.declared.frames.Frame.TheVariants.{Day, Unknown}
use Rattle.specialise.specs.Specialisable.{IsNearDay}
use Rattle.specialise.specs.Specialising.{specialised, specialised_in}

-- the day of a frame that is known
abbrev pub day_of : Frame → Option ℤ
day_of (Day f) = Some f
day_of Unknown = None

-- such a day is near
abbrev pub IsNear : Frame → Type 0
IsNear (Day f) = IsNearDay f
IsNear Unknown = Unit {0}

-- a day that a contract can reach: it stands on one up to the last, and waits for no more days than
-- the most
abbrev pub IsDayOfContract : ℤ → Type 0
IsDayOfContract f = (pos 0 ≤ℤ f) × (f ≤ℤ pos (last_start + most_days))

-- a contract that is accepted, holds no name from outside and names no template
abbrev pub StandsAlone : Declarations → Contract → Type 0
StandsAlone d c = IsAccepted d c × IsClosed d c × HasOnlyNumbers c

-- a frame that is known is the day
abbrev pub IsOn : Option ℤ → ℤ → Type 0
IsOn None f = Unit {0}
IsOn (Some h) f = h ≡ f

-- an environment that may come, where the fixings are known
abbrev pub MayCome : Declarations → Environment → Environment → Type 0
MayCome d fixings env = IsAdmitted d env × Extends fixings env

-- an expression r is e with what the fixings tell
abbrev pub IsSpecialised : Declarations → Environment → Option ℤ → Expression → Expression → Type 0
IsSpecialised d fixings frame r e = r ≡ specialised d fixings frame e

-- it has the kind of e, and so its scale
abbrev pub HasItsKind : Declarations → Expression → Expression → Type 0
HasItsKind d r e = (ks : List Kind) → kind_of d r ks ≡ kind_of d e ks

-- and its value, for all values of the names round it, in every admitted environment that extends
-- the fixings; on the day of the frame, or on every day where that is not known
abbrev pub HasItsValue : Declarations → Environment → Option ℤ → Expression → Expression → Type 0
HasItsValue d fixings frame r e =
    (g : List Entry) (env : Environment) (f : ℤ)
    → MayCome d fixings env → IsOn frame f → value_of d r g env f ≡ value_of d e g env f

-- it is well formed under as many names as e is
abbrev pub StaysFormed : Declarations → Expression → Expression → Type 0
StaysFormed d r e = (names : ℕ) → IsWellFormed d names e → IsWellFormed d names r

-- there it reads only what e reads
abbrev pub ReadsNoMore : Declarations → Environment → Option ℤ → Expression → Expression → Type 0
ReadsNoMore d fixings frame r e =
    (g : List Entry) (bs cs : List (List Place)) (env : Environment) (f : ℤ)
    → MayCome d fixings env → IsOn frame f → NamesReadLess bs cs
    → AreAmong (reads_of d r g bs env f) (reads_of d e g cs env f)

-- an observable that is fixed, and an accumulator that is known
abbrev pub IsToldKind : Redex → Type 0
IsToldKind FixedPlace = Unit {0}
IsToldKind FixedSteps = Unit {0}
IsToldKind _ = ⊥

-- neither stands in it
abbrev pub HasNoTold : Declarations → Environment → Option ℤ → Expression → Type 0
HasNoTold d fixings frame r =
    (kind : Redex) → IsToldKind kind → NoneIn (IsNoRedex d fixings kind) frame r

-- r may stand where e stands on a frame: it is e with what the fixings tell, well formed, of the
-- kind and the value of e, reads no more, holds nothing that the fixings tell, and is the same or
-- smaller
pub record Specialises (d : Declarations) (fixings : Environment) (frame : Option ℤ)
    (r e : Expression) : Type 0 where
  pub exact : IsSpecialised d fixings frame r e
  pub formed : StaysFormed d r e
  pub kind : HasItsKind d r e
  pub value : HasItsValue d fixings frame r e
  pub reads : ReadsNoMore d fixings frame r e
  pub none : HasNoTold d fixings frame r
  pub smaller : IsNoLarger r e

-- a contract r is c, which stands on a day, with what the fixings tell
abbrev pub IsSpecialisedOn : Declarations → Environment → ℤ → Contract → Contract → Type 0
IsSpecialisedOn d fixings f r c = r ≡ specialised_in d fixings (Some f) c

-- it pays what c pays, in every admitted environment that extends the fixings
abbrev pub PaysTheSameOn : Declarations → Environment → ℤ → Contract → Contract → Type 0
PaysTheSameOn d fixings f r c =
    (env : Environment) (n : ℤ) (w : Flow)
    → MayCome d fixings env → amount_of d r env f n w ≡ amount_of d c env f n w

-- there it reads only what c reads, for each number of days
abbrev pub ReadsNoMoreOn : Declarations → Environment → ℤ → Contract → Contract → Type 0
ReadsNoMoreOn d fixings f r c =
    (env : Environment) (b : ℕ) → MayCome d fixings env
    → AreAmong (reads_of_contract d r [] [] env f (pos 0) (pos b))
    (reads_of_contract d c [] [] env f (pos 0) (pos b))

-- no observable that is fixed and no accumulator that is known stands in it
abbrev pub HasNoToldIn : Declarations → Environment → ℤ → Contract → Type 0
HasNoToldIn d fixings f r = (kind : Redex) → IsToldKind kind → HasNone d fixings (Some f) kind r

-- its literals fit the text where those of c do
abbrev pub KeepsLiterals : Contract → Contract → Type 0
KeepsLiterals r c = HasLiteralsIn c → HasLiteralsIn r

-- r may take the place of an accepted contract c on a day: it is c with what the fixings tell,
-- accepted, pays the same, reads no more, holds nothing that the fixings tell, is the same or
-- smaller, and closed and of literals as c is
pub record SpecialisesOn (d : Declarations) (fixings : Environment) (f : ℤ)
    (r c : Contract) : Type 0 where
  pub exact : IsSpecialisedOn d fixings f r c
  pub accepted : IsAccepted d r
  pub flows : PaysTheSameOn d fixings f r c
  pub reads : ReadsNoMoreOn d fixings f r c
  pub none : HasNoToldIn d fixings f r
  pub smaller : IsNoLargerIn r c
  pub closed : StaysClosed d r c
  pub literals : KeepsLiterals r c
