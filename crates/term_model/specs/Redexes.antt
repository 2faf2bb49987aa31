-- What a residual may not hold: parts that reduce, of sixteen kinds. Some of them ask for the day on which a part
-- stands, its frame, which is known where the frame of the whole is, but for tests, the branches that they lead to and
-- the bodies of accumulators.
use Rattle.std.specs.Prelude.{ℕ, ℤ, pos, ◌+ℤ◌, ◌-ℤ◌, ◌+◌, ◌==◌, ◌&&◌, ◌||◌, not, Bool, true, false, List, [], ◌∷◌, Option, Some, None, nat_lt, IsFalse}
use Rattle.std.specs.List.{list_all}
use Rattle.std.specs.Ordering.{int_eq}
use Rattle.term_model.specs.Declarations.{Declarations}
use Rattle.term_model.specs.Terms.{Expression, Lit, Yes, Var, Obs, Neg, Num, Cmp, Not, Logic, Cond, Widen, Round, Div, Acc}
use Rattle.term_model.specs.Terms.{Contract, Zero, Pay, Both, Scale, After, Let, Within}
use Rattle.term_model.specs.Environments.{Environment}
use Rattle.term_model.specs.Flows.{count_of}
use Rattle.term_model.specs.Reads.{reads_of, is_fixed}
use Rattle.term_model.specs.Sites.{Layer, Naming, Counting, Later, Earlier, Undated, Part, OfExpression, OfContract, Once, sites_of_contract, AllPass}

pub data Redex : Type 0 where
  EmptyLeft : Redex  -- both(zero, c)
  EmptyRight : Redex  -- both(c, zero)
  ScaledNothing : Redex  -- scale(e, zero)
  ZeroFactor : Redex  -- scale(0, c), with a 0 of any scale
  NoDelay : Redex  -- after(0, c)
  TwoDelays : Redex  -- after(m, after(n, c))
  DelayedNothing : Redex  -- after(m, zero)
  UnusedName : Redex  -- a `let` whose name is not used
  LiteralName : Redex  -- a `let` of a literal
  NothingEither : Redex  -- an `if .. within` with two branches `zero`
  DecidedTest : Redex  -- an `if .. within` with a literal test
  LiteralOperands : Redex  -- an operator on literals alone, or `&` and `|` with a literal on the left
  DecidedChoice : Redex  -- `if(e, a, b)` with a literal test
  FixedPlace : Redex  -- an observable in a known frame whose place is fixed
  NoSteps : Redex  -- an accumulator of 0 days
  FixedSteps : Redex  -- an accumulator in a known frame that holds no name bound outside it and reads what is fixed

-- a decimal, `true` or `false`
abbrev pub is_literal : Expression → Bool
is_literal (Lit m s) = true
is_literal (Yes b) = true
is_literal _ = false

abbrev pub is_zero_literal : Expression → Bool
is_zero_literal (Lit m s) = int_eq m (pos 0)
is_zero_literal _ = false

-- an operator whose operands decide its value
abbrev pub has_literal_operands : Expression → Bool
has_literal_operands (Neg e) = is_literal e
has_literal_operands (Num op a b) = is_literal a && is_literal b
has_literal_operands (Cmp op a b) = is_literal a && is_literal b
has_literal_operands (Not e) = is_literal e
has_literal_operands (Logic op a b) = is_literal a
has_literal_operands (Widen s e) = is_literal e
has_literal_operands (Round mode s e) = is_literal e
has_literal_operands (Div mode s a b) = is_literal a && is_literal b
has_literal_operands _ = false

-- the name with k binders between is used
abbrev pub uses : ℕ → Expression → Bool
uses k (Lit m s) = false
uses k (Yes b) = false
uses k (Var back) = back == k
uses k (Obs l t) = false
uses k (Neg e) = uses k e
uses k (Num op a b) = uses k a || uses k b
uses k (Cmp op a b) = uses k a || uses k b
uses k (Not e) = uses k e
uses k (Logic op a b) = uses k a || uses k b
uses k (Cond t a b) = uses k t || (uses k a || uses k b)
uses k (Widen s e) = uses k e
uses k (Round mode s e) = uses k e
uses k (Div mode s a b) = uses k a || uses k b
uses k (Acc body n first) = uses (k + 1) body || uses k first

abbrev pub uses_in_contract : ℕ → Contract → Bool
uses_in_contract k Zero = false
uses_in_contract k (Pay a p q) = false
uses_in_contract k (Both a b) = uses_in_contract k a || uses_in_contract k b
uses_in_contract k (Scale e c) = uses k e || uses_in_contract k c
uses_in_contract k (After n c) = uses_in_contract k c
uses_in_contract k (Let e c) = uses k e || uses_in_contract (k + 1) c
uses_in_contract k (Within e n a b) = uses k e || (uses_in_contract k a || uses_in_contract k b)

-- every name has its binder among the k nearest round the expression
abbrev pub names_within : ℕ → Expression → Bool
names_within k (Lit m s) = true
names_within k (Yes b) = true
names_within k (Var back) = nat_lt back k
names_within k (Obs l t) = true
names_within k (Neg e) = names_within k e
names_within k (Num op a b) = names_within k a && names_within k b
names_within k (Cmp op a b) = names_within k a && names_within k b
names_within k (Not e) = names_within k e
names_within k (Logic op a b) = names_within k a && names_within k b
names_within k (Cond t a b) = names_within k t && (names_within k a && names_within k b)
names_within k (Widen s e) = names_within k e
names_within k (Round mode s e) = names_within k e
names_within k (Div mode s a b) = names_within k a && names_within k b
names_within k (Acc body n first) = names_within (k + 1) body && names_within k first

abbrev pub moved : ℤ → Option ℤ → Option ℤ
moved n None = None
moved n (Some f) = Some (f +ℤ n)

-- the frame of a part, by what stands between it and a whole whose frame is known or not
abbrev pub frame_round : Option ℤ → List Layer → Option ℤ
frame_round whole [] = whole
frame_round whole (Naming e ∷ r) = frame_round whole r
frame_round whole (Counting body n first ∷ r) = None
frame_round whole (Later n ∷ r) = moved (pos n) (frame_round whole r)
frame_round whole (Earlier n ∷ r) = moved (pos 0 -ℤ pos n) (frame_round whole r)
frame_round whole (Undated ∷ r) = None

-- a day on a known frame is fixed
abbrev pub is_fixed_at : Environment → Option ℤ → ℕ → ℤ → Bool
is_fixed_at fixings None l t = false
is_fixed_at fixings (Some f) l t = is_fixed fixings (record { label = l; day = f +ℤ t })

-- all that an expression reads on a known frame is fixed
abbrev pub reads_are_fixed : Declarations → Environment → Option ℤ → Expression → Bool
reads_are_fixed d fixings None e = false
reads_are_fixed d fixings (Some f) e = list_all (is_fixed fixings) (reads_of d e [] [] fixings f)

-- a part is a redex of a kind, under fixings, on its frame
abbrev pub is_redex : Declarations → Environment → Option ℤ → Redex → Part → Bool
is_redex d fixings f EmptyLeft (OfContract (Both Zero c)) = true
is_redex d fixings f EmptyRight (OfContract (Both c Zero)) = true
is_redex d fixings f ScaledNothing (OfContract (Scale e Zero)) = true
is_redex d fixings f ZeroFactor (OfContract (Scale e c)) = is_zero_literal e
is_redex d fixings f NoDelay (OfContract (After n c)) = count_of n == 0
is_redex d fixings f TwoDelays (OfContract (After m (After n c))) = true
is_redex d fixings f DelayedNothing (OfContract (After m Zero)) = true
is_redex d fixings f UnusedName (OfContract (Let e c)) = not (uses_in_contract 0 c)
is_redex d fixings f LiteralName (OfContract (Let e c)) = is_literal e
is_redex d fixings f NothingEither (OfContract (Within e n Zero Zero)) = true
is_redex d fixings f DecidedTest (OfContract (Within e n a b)) = is_literal e
is_redex d fixings f LiteralOperands (OfExpression e) = has_literal_operands e
is_redex d fixings f DecidedChoice (OfExpression (Cond t a b)) = is_literal t
is_redex d fixings f FixedPlace (OfExpression (Obs l t)) = is_fixed_at fixings f l t
is_redex d fixings f NoSteps (OfExpression (Acc body n first)) = n == 0
is_redex d fixings f FixedSteps (OfExpression (Acc body n first)) =
    names_within 0 (Acc body n first) && reads_are_fixed d fixings f (Acc body n first)
is_redex d fixings f kind part = false

-- no redex of the kind stands in the contract, where the frame of the whole is known or not
abbrev pub HasNone : Declarations → Environment → Option ℤ → Redex → Contract → Type 0
HasNone d fixings whole kind c =
    AllPass (λ s. IsFalse (is_redex d fixings (frame_round whole s.layers) kind s.part)) (sites_of_contract Once c [] 0)

-- none at all stands in the contract, on frame f
abbrev pub IsReduced : Declarations → Contract → Environment → ℤ → Type 0
IsReduced d c fixings f = (kind : Redex) → HasNone d fixings (Some f) kind c
