-- How large a term is: its nodes and its height, how far it reaches into the days to come and into the past, and how
-- many steps it takes to evaluate; and the rule on sizes.
use Rattle.std.specs.Prelude.{ℕ, suc, ℤ, pos, negsuc, ◌+◌, ◌-◌, ◌*◌, min, max}
use Rattle.term_model.specs.Flows.{count_of}
use Rattle.term_model.specs.Limits.{most_counted}
use Rattle.term_model.specs.Terms.{Expression, Lit, Yes, Var, Obs, Neg, Num, Cmp, Not, Logic, Cond, Widen, Round, Div, Acc, Contract, Zero, Pay, Both, Scale, After, Let, Within}

-- the nodes of an expression
abbrev pub nodes : Expression → ℕ
nodes (Neg e) = nodes e + 1
nodes (Num op a b) = nodes a + nodes b + 1
nodes (Cmp op a b) = nodes a + nodes b + 1
nodes (Not e) = nodes e + 1
nodes (Logic op a b) = nodes a + nodes b + 1
nodes (Cond t a b) = nodes t + nodes a + nodes b + 1
nodes (Widen s e) = nodes e + 1
nodes (Round mode s e) = nodes e + 1
nodes (Div mode s a b) = nodes a + nodes b + 1
nodes (Acc body n first) = nodes body + nodes first + 1
nodes _ = 1

-- the nodes on its longest path
abbrev pub height : Expression → ℕ
height (Neg e) = height e + 1
height (Num op a b) = max (height a) (height b) + 1
height (Cmp op a b) = max (height a) (height b) + 1
height (Not e) = height e + 1
height (Logic op a b) = max (height a) (height b) + 1
height (Cond t a b) = max (height t) (max (height a) (height b)) + 1
height (Widen s e) = height e + 1
height (Round mode s e) = height e + 1
height (Div mode s a b) = max (height a) (height b) + 1
height (Acc body n first) = max (height body) (height first) + 1
height _ = 1

abbrev pub nodes_of_contract : Contract → ℕ
nodes_of_contract Zero = 1
nodes_of_contract (Pay a p q) = 1
nodes_of_contract (Both a b) = nodes_of_contract a + nodes_of_contract b + 1
nodes_of_contract (Scale e c) = nodes e + nodes_of_contract c + 1
nodes_of_contract (After n c) = nodes_of_contract c + 1
nodes_of_contract (Let e c) = nodes e + nodes_of_contract c + 1
nodes_of_contract (Within e n a b) = nodes e + nodes_of_contract a + nodes_of_contract b + 1

abbrev pub height_of_contract : Contract → ℕ
height_of_contract Zero = 1
height_of_contract (Pay a p q) = 1
height_of_contract (Both a b) = max (height_of_contract a) (height_of_contract b) + 1
height_of_contract (Scale e c) = max (height e) (height_of_contract c) + 1
height_of_contract (After n c) = height_of_contract c + 1
height_of_contract (Let e c) = max (height e) (height_of_contract c) + 1
height_of_contract (Within e n a b) = max (height e) (max (height_of_contract a) (height_of_contract b)) + 1

-- a count that is answered as at most this many
abbrev pub capped : ℕ → ℕ
capped n = min n most_counted

-- Of a contract after its templates got their numbers:

-- the days by which its latest part may stand later than it
abbrev pub reach : Contract → ℕ
reach Zero = 0
reach (Pay a p q) = 0
reach (Both a b) = max (reach a) (reach b)
reach (Scale e c) = reach c
reach (After n c) = count_of n + reach c
reach (Let e c) = reach c
reach (Within e n a b) = count_of n + max (reach a) (reach b)

-- how many days before today an offset lies
abbrev pub days_before : ℤ → ℕ
days_before (pos n) = 0
days_before (negsuc n) = suc n

-- the days before its own that an expression may read
abbrev pub past : Expression → ℕ
past (Lit m s) = 0
past (Yes b) = 0
past (Var back) = 0
past (Obs l t) = days_before t
past (Neg e) = past e
past (Num op a b) = max (past a) (past b)
past (Cmp op a b) = max (past a) (past b)
past (Not e) = past e
past (Logic op a b) = max (past a) (past b)
past (Cond t a b) = max (past t) (max (past a) (past b))
past (Widen s e) = past e
past (Round mode s e) = past e
past (Div mode s a b) = max (past a) (past b)
past (Acc body n first) = max (past first + n) (past body + (n - 1))

abbrev pub past_of_contract : Contract → ℕ
past_of_contract Zero = 0
past_of_contract (Pay a p q) = 0
past_of_contract (Both a b) = max (past_of_contract a) (past_of_contract b)
past_of_contract (Scale e c) = max (past e) (past_of_contract c)
past_of_contract (After n c) = past_of_contract c
past_of_contract (Let e c) = max (past e) (past_of_contract c)
past_of_contract (Within e n a b) = max (past e) (max (past_of_contract a) (past_of_contract b))

-- the steps in which an expression is evaluated: an accumulator's body counts once for each day
abbrev pub work : Expression → ℕ
work (Lit m s) = 1
work (Yes b) = 1
work (Var back) = 1
work (Obs l t) = 1
work (Neg e) = 1 + work e
work (Num op a b) = 1 + (work a + work b)
work (Cmp op a b) = 1 + (work a + work b)
work (Not e) = 1 + work e
work (Logic op a b) = 1 + (work a + work b)
work (Cond t a b) = 1 + (work t + work a + work b)
work (Widen s e) = 1 + work e
work (Round mode s e) = 1 + work e
work (Div mode s a b) = 1 + (work a + work b)
work (Acc body n first) = 1 + (work first + n * work body)

-- a test counts once for each day on which it may be tried
abbrev pub work_of_contract : Contract → ℕ
work_of_contract Zero = 0
work_of_contract (Pay a p q) = 0
work_of_contract (Both a b) = work_of_contract a + work_of_contract b
work_of_contract (Scale e c) = work e + work_of_contract c
work_of_contract (After n c) = work_of_contract c
work_of_contract (Let e c) = work e + work_of_contract c
work_of_contract (Within e n a b) = (count_of n + 1) * work e + work_of_contract a + work_of_contract b
