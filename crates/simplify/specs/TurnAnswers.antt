-- What a turn answers for a part: what takes its place, or nothing where the part stays.
use Rattle.std.specs.Prelude.{◌≡◌, ◌≤◌, Option, List}
use Rattle.std.specs.declared.rc.Rc.{Rc}
use Rattle.std.specs.Global.{Global}
use Rattle.term_model.specs.Declarations.{Declarations}
use Rattle.term_model.specs.declared.terms.Expr.{Expr}
use Rattle.term_model.specs.declared.terms.LogicOp.{LogicOp}
use Rattle.term_core.specs.declared.shared.SharedContr.{SharedContr}
use Rattle.term_model.specs.declared.values.Kind.{Kind}
use Rattle.term_model.specs.declared.values.Kind.TheVariants.{Truth, Number}
use Rattle.term_model.specs.Terms.{Expression, expression, Neg, Num, Logic, Widen, Round, Div}
use Rattle.term_model.specs.Kinds.{scale_of_kind, scale_of_op}
use Rattle.term_model.specs.Scales.{greatest_scale}
use Rattle.term_core.specs.SharedTerms.{shared}
use Rattle.rewriting.specs.Rebuilding.{after, choice_after, over_one, over_two}
use Rattle.rewriting.specs.RebuildingContracts.{after_in}
use Rattle.simplify.specs.declared.turns.Turned.{Turned}
use Rattle.simplify.specs.Turning.{turned, rule}
use Rattle.simplify.specs.TurningContracts.{turned_in}
use Rattle.interval_check.specs.RangeTrials.{kind_found}
use Rattle.simplify.specs.Turnable.{truth_literal, of_logic, of_choice, CanTurn, FoldsTo}

-- among names of these kinds, of an expression and of a contract
abbrev pub IsTurnOf : Declarations → List Kind → Expr → Option Expr → Type 0
IsTurnOf d ks e new = after (expression e) new ≡ turned d ks (expression e)

abbrev pub IsTurnOfContract :
    Declarations → List Kind → SharedContr → Option (Rc SharedContr Global) → Type 0
IsTurnOfContract d ks s new = after_in (shared s) new ≡ turned_in d ks (shared s)

-- what `&` and `|`, and a choice, come to over what took the places of their parts
abbrev pub logic_after : LogicOp → Expr → Option Expr → Expr → Option Expr → Expression
logic_after op left one right two =
    let x = after (expression left) one in
    let y = after (expression right) two in
    of_logic op (truth_literal x) y (Logic op x y)

abbrev pub decided_after : Expr → Option Expr → Expr → Turned → Expr → Turned → Expression
decided_after test decision left one right two =
    of_choice (truth_literal (after (expression test) decision))
    (scale_of_kind one.kind) (scale_of_kind two.kind)
    (after (expression left) one.new) (after (expression right) two.new)
    (choice_after test decision left one.new right two.new)

-- a node over what its one part turns into, and over what its two parts do
abbrev pub one_turned : Declarations → List Kind → Expr → Expr → Expression
one_turned d ks e part = over_one (expression e) (turned d ks (expression part))

abbrev pub two_turned : Declarations → List Kind → Expr → Expr → Expr → Expression
two_turned d ks e left right =
    over_two (expression e) (turned d ks (expression left)) (turned d ks (expression right))

-- the kind of an operator on one operand and on two, by the kinds of those
abbrev pub kind_over_one : Expression → Kind → Kind
kind_over_one (Neg e) k = Number (scale_of_kind k)
kind_over_one (Widen s e) k = Number s
kind_over_one (Round mode s e) k = Number s
kind_over_one _ k = Truth

abbrev pub kind_over_two : Expression → Kind → Kind → Kind
kind_over_two (Num op a b) j k = Number (scale_of_op op (scale_of_kind j) (scale_of_kind k))
kind_over_two (Div mode s a b) j k = Number s
kind_over_two _ j k = Truth

-- the decimals of the outcome fit, where operands of these kinds have it
abbrev pub ScalesFit : Expression → Kind → Kind → Type 0
ScalesFit (Num op a b) j k = scale_of_op op (scale_of_kind j) (scale_of_kind k) ≤ greatest_scale
ScalesFit _ j k = Unit {0}

-- what the rule makes of a node over what its one part turns into, and over what its two parts do
abbrev pub IsTurnOfOne : Declarations → List Kind → Expr → Expr → Option Expr → Type 0
IsTurnOfOne d ks e part new = after (expression e) new ≡ rule d ks (one_turned d ks e part)

abbrev pub IsTurnOfTwo : Declarations → List Kind → Expr → Expr → Expr → Option Expr → Type 0
IsTurnOfTwo d ks e left right new =
    after (expression e) new ≡ rule d ks (two_turned d ks e left right)

-- and its kind, by the kinds that are found of them
abbrev pub kind_of_one : Declarations → List Kind → Expr → Expr → Kind
kind_of_one d ks e part = kind_over_one (expression e) (kind_found d (expression part) ks)

abbrev pub kind_of_two : Declarations → List Kind → Expr → Expr → Expr → Kind
kind_of_two d ks e left right =
    kind_over_two (expression e) (kind_found d (expression left) ks)
    (kind_found d (expression right) ks)

-- what a turn of an operator on two operands asks
abbrev pub CanTurnTwo : Declarations → List Kind → Expr → Expr → Expr → Type 0
CanTurnTwo d ks e left right =
    CanTurn d (expression left) ks × CanTurn d (expression right) ks
    × FoldsTo d ks (two_turned d ks e left right)
    × ScalesFit (expression e) (kind_found d (expression left) ks)
    (kind_found d (expression right) ks)
