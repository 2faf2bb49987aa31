-- What a walk that carries a contract over days asks of the contract, and what it answers: what is
-- left of it, the same in every environment that extends the fixings, for all values and places
-- that the entries of the names round it stand for; or a place that is read on the days gone by and
-- that is not fixed.
use Rattle.std.specs.Prelude.{ℕ, ℤ, pos, ◌≡◌, ◌≤◌, ◌+◌, false, min, List, [], ◌∷◌, Result, Ok, Err}
use Rattle.std.specs.Prelude.{Contains}
use Rattle.std.specs.declared.rc.Rc.{Rc}
use Rattle.std.specs.Global.{Global}
use Rattle.term_model.specs.Declarations.{Declarations}
use Rattle.term_model.specs.Limits.{last_start}
use Rattle.term_model.specs.declared.values.Value.{Value}
use Rattle.term_model.specs.declared.values.Missing.{Missing as MissingPlace}
use Rattle.term_model.specs.declared.terms.Expr.{Expr}
use Rattle.term_core.specs.declared.shared.SharedContr.{SharedContr}
use Rattle.term_core.specs.declared.shared.SharedContr.TheVariants.{Zero as Zero', Pay as Pay'}
use Rattle.term_core.specs.declared.shared.SharedContr.TheVariants.{Both', Scale', After', Let'}
use Rattle.term_core.specs.declared.shared.SharedContr.TheVariants.{Within'}
use Rattle.term_model.specs.Terms.{expression}
use Rattle.term_model.specs.Terms.{Expression, Contract}
use Rattle.term_model.specs.Environments.{Environment, Place, Extends}
use Rattle.term_model.specs.Values.{Entry, entry_of}
use Rattle.term_model.specs.Reads.{reads_of, reads_of_contract, is_fixed}
use Rattle.term_model.specs.Shifts.{shifted}
use Rattle.term_core.specs.SharedTerms.{shared, HasOffsets, StoresOffsets}
use Rattle.term_model.specs.Sizes.{past, height_of_contract}
use Rattle.expr_eval.specs.Rooms.{Room}
use Rattle.expr_eval.specs.declared.scratch.Binding.{Binding}
use Rattle.expr_eval.specs.Standing.{StandFor}
use Rattle.expr_eval.specs.Evaluable.{MayEvaluate}
use Rattle.expr_eval.specs.Answers.{entry_from, SuitsBinding}
use Rattle.expr_eval.specs.Trials.{DayOrMissing, IsFirstTrue}
use Rattle.flow_eval.specs.declared.faults.FlowErr.{FlowErr}
use Rattle.flow_eval.specs.declared.faults.FlowErr.TheVariants.{Missing, NoMemory}
use Rattle.advance_step.specs.declared.span.Span.{Span}
use Rattle.fixing_files.specs.Knowledge.{Knowledge}
use Rattle.advance_step.specs.WhatIsLeft.{left_of}

-- what is left of c, which stands on day f, after j + 1 days
abbrev pub IsLeft : Declarations → Contract → List Binding → Environment → ℤ → ℕ → Contract → Type 0
IsLeft d c bs fixings f j rest =
    (g : List Entry) (ps : List (List Place)) (env : Environment)
    → StandFor fixings bs g ps → Extends fixings env → rest ≡ left_of d c g env f j

-- a place that a fault names
abbrev pub place_at : ℕ → ℤ → Place
place_at label day = record { label = label; day = day }

-- c reads the place on its own days 0 to j, and it is not fixed
pub record IsUnfixedRead (d : Declarations) (c : Contract) (g : List Entry) (ps : List (List Place))
    (fixings : Environment) (f : ℤ) (j : ℕ) (q : Place) : Type 0 where
  pub read : (a : ℤ) → Contains (reads_of_contract d c g ps fixings f a (pos j)) q
  pub unfixed : is_fixed fixings q ≡ false

-- a fault names such a place, or is want of memory
abbrev pub LacksRead : Declarations → Contract → List Binding → Environment → ℤ → ℕ → FlowErr
    → Type 0
LacksRead d c bs fixings f j (Missing label day) =
    (g : List Entry) (ps : List (List Place))
    → StandFor fixings bs g ps → IsUnfixedRead d c g ps fixings f j (place_at label day)
LacksRead d c bs fixings f j NoMemory = Unit {0}

-- what is left of c among the entries of a room, over the days gone by for it
abbrev pub IsLeftOn : Knowledge → Contract → Room → Span → Contract → Type 0
IsLeftOn b c room span rest = IsLeft b.decls c room.entries b.fixings span.day span.last rest

abbrev pub LacksReadOn : Knowledge → Contract → Room → Span → FlowErr → Type 0
LacksReadOn b c room span e = LacksRead b.decls c room.entries b.fixings span.day span.last e

-- an answer is what is left of c, which stores its offsets, or a read that it lacks
abbrev pub AnswersRest : Knowledge → Contract → Room → Span → Result (Rc SharedContr Global) FlowErr
    → Type 0
AnswersRest b c room span (Ok rest) =
    IsLeftOn b c room span (shared rest.value) × StoresOffsets rest.value
AnswersRest b c room span (Err e) = LacksReadOn b c room span e

-- an entry stands for what a name is bound to, and for what that reads
abbrev pub Enters : Declarations → Expression → List Binding → Environment → ℤ → Binding → Type 0
Enters d e bs fixings f b =
    (g known : List Entry) (ps : List (List Place)) (env : Environment)
    → StandFor fixings bs g ps → StandFor fixings bs known ps → Extends fixings env
    → StandFor fixings (b ∷ bs) (entry_of d e g env f ∷ g) (reads_of d e known ps fixings f ∷ ps)

abbrev pub EntersOn : Knowledge → Expression → Room → Span → Binding → Type 0
EntersOn b e room span entry = Enters b.decls e room.entries b.fixings span.day entry

-- it is made of an answer that suits the body of the `let`
pub record IsEntry (d : Declarations) (e : Expression) (bs : List Binding) (b : Binding) : Type 0
  where
    pub answer : Result Value MissingPlace
    pub suits : SuitsBinding d e bs answer
    pub made : b ≡ entry_from d e bs answer

-- after how many days a test is first true, of so many and of those gone by; or the place that it
-- lacks
abbrev pub IsFirstDay : Knowledge → Expression → Room → Span → ℕ → DayOrMissing → Type 0
IsFirstDay b test room span days answer =
    IsFirstTrue b.decls test room.entries b.fixings span.day (min days span.last + 1) answer

-- a stored expression that is read k days later: its offsets are within their limit as they are
-- stored, and it reads not too far back
pub record CanMove (k : ℤ) (e : Expression) : Type 0 where
  pub offsets : HasOffsets e
  pub recent : past (shifted k e) ≤ last_start

-- the body of a `let`, with an entry from an answer
abbrev pub WithEntry : Declarations → Expression → List Binding → (List Binding → Type 0) → Type 0
WithEntry d e bs P =
    (r : Result Value MissingPlace) → SuitsBinding d e bs r → P (entry_from d e bs r ∷ bs)

-- a contract of which every part that a walk may meet can be evaluated
abbrev pub CanCarry : Declarations → SharedContr → List Binding → Type 0
CanCarry d Zero' bs = Unit {0}
CanCarry d (Pay' x p q) bs = Unit {0}
CanCarry d (Both' p a q b) bs = CanCarry d a bs × CanCarry d b bs
CanCarry d (Scale' e k q c) bs = CanMove k (expression e.value) × CanCarry d c bs
CanCarry d (After' n p c) bs = CanCarry d c bs
CanCarry d (Let' e k q c) bs =
    CanMove k (expression e.value) × MayEvaluate d (expression e.value) bs
    × WithEntry d (expression e.value) bs (λ es. CanCarry d c es)
CanCarry d (Within' e n q a r b) bs =
    MayEvaluate d (expression e.value) bs × CanCarry d a bs × CanCarry d b bs

-- such a contract, which stores its offsets, where there is room for the entries of its names
abbrev pub MayCarry : Knowledge → SharedContr → Room → Type 0
MayCarry b s room =
    CanCarry b.decls s room.entries × StoresOffsets s × (height_of_contract (shared s) ≤ room.spare)

-- a test that can be evaluated and stores its offsets
abbrev pub MayTest : Knowledge → Rc Expr Global → Room → Type 0
MayTest b test room =
    MayEvaluate b.decls (expression test.value) room.entries × HasOffsets (expression test.value)

-- an expression that a name is bound to can be evaluated as it is stored, and be moved
abbrev pub MayBind : Knowledge → ℤ → Rc Expr Global → Room → Type 0
MayBind b moved bound room =
    CanMove moved (expression bound.value) × MayEvaluate b.decls (expression bound.value)
    room.entries

-- a body can be carried with an entry of the name that is bound
abbrev pub MayCarryUnder : Knowledge → Rc Expr Global → SharedContr → Room → Type 0
MayCarryUnder b bound s room =
    WithEntry b.decls (expression bound.value) room.entries (λ es. CanCarry b.decls s es)
    × StoresOffsets s × (height_of_contract (shared s) + 1 ≤ room.spare)

-- what is left of a whole contract, in each environment
abbrev pub IsLeftEverywhere : Declarations → Environment → Contract → ℤ → ℕ → Contract → Type 0
IsLeftEverywhere d fixings c f j rest = (env : Environment) → Extends fixings env
    → rest ≡ left_of d c [] env f j

-- a fault names a place that a whole contract reads on its own days 0 to j and that is not fixed
abbrev pub NamesUnfixedRead : Declarations → Environment → Contract → ℤ → ℕ → FlowErr → Type 0
NamesUnfixedRead d fixings c f j (Missing label day) =
    Contains (reads_of_contract d c [] [] fixings f (pos 0) (pos j)) (place_at label day)
    × (is_fixed fixings (place_at label day) ≡ false)
NamesUnfixedRead d fixings c f j NoMemory = Unit {0}

-- an answer is what is left of a whole contract, which stores its offsets, or such a fault
abbrev pub AnswersLeft : Declarations → Environment → Contract → ℤ → ℕ
    → Result (Rc SharedContr Global) FlowErr → Type 0
AnswersLeft d fixings c f j (Ok rest) =
    IsLeftEverywhere d fixings c f j (shared rest.value) × StoresOffsets rest.value
AnswersLeft d fixings c f j (Err e) = NamesUnfixedRead d fixings c f j e
