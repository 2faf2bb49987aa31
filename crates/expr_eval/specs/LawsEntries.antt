-- How a contract is evaluated part by part: what stands directly in an accepted contract, or in a part of it, may be
-- evaluated. And what is entered for a `let` stands for it: an entry from the answer of its expression, put before the others, suits the
-- body, and stands for the values and the places of the names in it.
use Rattle.std.specs.Prelude.{ℤ, List, [], ◌∷◌, Result}
use Rattle.term_model.specs.Declarations.{Declarations}
use Rattle.term_model.specs.declared.values.Value.{Value}
use Rattle.term_model.specs.declared.values.Missing.{Missing}
use Rattle.term_model.specs.Terms.{Expression, Contract, Zero, Pay, Both, Scale, After, Let, Within}
use Rattle.term_model.specs.Environments.{Environment, Place, Extends}
use Rattle.term_model.specs.Values.{Entry}
use Rattle.term_model.specs.Reads.{reads_of}
use Rattle.term_model.specs.Bounds.{Range}
use Rattle.term_model.specs.Acceptance.{IsAccepted}
use Rattle.interval_check.specs.Nodes.{range_of}
use Rattle.interval_check.specs.Sums.{entry_of}
use Rattle.expr_eval.specs.declared.scratch.Binding.{Binding}
use Rattle.expr_eval.specs.Standing.{StandFor}
use Rattle.expr_eval.specs.Evaluable.{Suits, SuitAll, MayEvaluate, MayEvaluateIn}
use Rattle.expr_eval.specs.Answers.{IsAnswer, entry_from, SuitsBinding}

-- without names there is nothing to stand for
abbrev pub NoneStandForNone : Type 0
NoneStandForNone = (fixings : Environment) → StandFor fixings [] [] []

-- the value is taken in an environment that extends the fixings, and the places are those that are read over the fixings
abbrev pub EnteredStandFor : Type 0
EnteredStandFor =
    (d : Declarations) (e : Expression) (bs : List Binding) (fixings env : Environment) (f : ℤ) (r : Result Value Missing)
    (es known : List Entry) (ps : List (List Place))
    → IsAnswer d e bs fixings f r → Extends fixings env → StandFor fixings bs es ps → StandFor fixings bs known ps
    → StandFor fixings (entry_from d e bs r ∷ bs) (entry_of d e es env f ∷ es) (reads_of d e known ps fixings f ∷ ps)

abbrev pub EnteredSuit : Type 0
EnteredSuit =
    (d : Declarations) (e : Expression) (ranges : List Range) (bs : List Binding) (b : Binding)
    → Suits (range_of d e ranges) b → SuitAll ranges bs → SuitAll (range_of d e ranges ∷ ranges) (b ∷ bs)

-- what stands directly in a contract may be evaluated; in the body of a `let`, with an entry from an answer that suits it
abbrev pub PartsMayEvaluate : Declarations → Contract → List Binding → Type 0
PartsMayEvaluate d Zero bs = Unit {0}
PartsMayEvaluate d (Pay a p q) bs = Unit {0}
PartsMayEvaluate d (Both a b) bs = MayEvaluateIn d a bs × MayEvaluateIn d b bs
PartsMayEvaluate d (Scale e c) bs = MayEvaluate d e bs × MayEvaluateIn d c bs
PartsMayEvaluate d (After n c) bs = MayEvaluateIn d c bs
PartsMayEvaluate d (Let e c) bs =
    MayEvaluate d e bs
    × ((r : Result Value Missing) → SuitsBinding d e bs r → MayEvaluateIn d c (entry_from d e bs r ∷ bs))
PartsMayEvaluate d (Within e n a b) bs = MayEvaluate d e bs × MayEvaluateIn d a bs × MayEvaluateIn d b bs

abbrev pub AcceptedMayEvaluate : Type 0
AcceptedMayEvaluate = (d : Declarations) (c : Contract) → IsAccepted d c → MayEvaluateIn d c []

abbrev pub PartsOfPartsMayEvaluate : Type 0
PartsOfPartsMayEvaluate = (d : Declarations) (c : Contract) (bs : List Binding) → MayEvaluateIn d c bs → PartsMayEvaluate d c bs
