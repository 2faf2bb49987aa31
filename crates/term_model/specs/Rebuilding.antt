-- A node of an expression over other parts than its own.
use Rattle.term_model.specs.Terms.{Expression, Neg, Num, Cmp, Not, Logic, Widen, Round, Div, Acc}

-- a node over one part, with x in the place of the part
abbrev pub over_one : Expression → Expression → Expression
over_one (Neg e) x = Neg x
over_one (Not e) x = Not x
over_one (Widen s e) x = Widen s x
over_one (Round mode s e) x = Round mode s x
over_one e x = e

-- over two, with x and y in their places, in the order in which they are written
abbrev pub over_two : Expression → Expression → Expression → Expression
over_two (Num op a b) x y = Num op x y
over_two (Cmp op a b) x y = Cmp op x y
over_two (Logic op a b) x y = Logic op x y
over_two (Div mode s a b) x y = Div mode s x y
over_two (Acc body n first) x y = Acc x n y
over_two e x y = e

abbrev pub IsOverOne : Expression → Type 0
IsOverOne (Neg e) = Unit {0}
IsOverOne (Not e) = Unit {0}
IsOverOne (Widen s e) = Unit {0}
IsOverOne (Round mode s e) = Unit {0}
IsOverOne _ = ⊥

abbrev pub IsOverTwo : Expression → Type 0
IsOverTwo (Num op a b) = Unit {0}
IsOverTwo (Cmp op a b) = Unit {0}
IsOverTwo (Logic op a b) = Unit {0}
IsOverTwo (Div mode s a b) = Unit {0}
IsOverTwo (Acc body n first) = Unit {0}
IsOverTwo _ = ⊥
