-- Where no part is a redex that asks for no frame, none of the kinds that ask for none stands in the contract.
use Rattle.std.proofs.Common.{◌≡◌, ℤ, pos, ◌-ℤ◌, ◌||◌, ◌==◌, Bool, true, false, Option, None, refl}
use Rattle.term_model.specs.Declarations.{Declarations}
use Rattle.term_model.specs.Terms.{Expression, Lit, Yes, Var, Obs, Neg, Num, Cmp, Not, Logic, Cond, Widen, Round, Div, Acc}
use Rattle.term_model.specs.Terms.{Contract, Zero, Pay, Both, Scale, After, Let, Within}
use Rattle.term_model.specs.Environments.{Environment}
use Rattle.term_model.specs.Flows.{count_of}
use Rattle.term_model.specs.Sites.{OfExpression, OfContract}
use Rattle.term_model.specs.Redexes.{Redex, EmptyLeft, EmptyRight, ScaledNothing, ZeroFactor, NoDelay, TwoDelays, DelayedNothing, UnusedName, LiteralName, NothingEither, DecidedTest, LiteralOperands, DecidedChoice, FixedPlace, NoSteps, FixedSteps, is_redex, is_literal, has_literal_operands, moved}
use Rattle.rewriting.specs.Reduced.{IsNoRedex, NoneIn, NoneInContract}
use Rattle.rewriting.proofs.ReducedFacts.{reduced_by_structure}
use Rattle.simplify.specs.Turning.{is_chosen, is_plain_redex, HasNoPlain}
use Rattle.simplify.specs.TurningContracts.{is_nothing, is_later, is_contract_redex, HasNoPlainIn, IsPlainKind, PlainLeavesNone}

left_false : (a b : Bool) → (a || b) ≡ false → a ≡ false
left_false true b h = absurd (cc)
left_false false b h = refl

right_false : (a b : Bool) → (a || b) ≡ false → b ≡ false
right_false true b h = absurd (cc)
right_false false b h = h

choice_none : (d : Declarations) (F : Environment) (f : Option ℤ) (e : Expression) → is_chosen e ≡ false → is_redex d F f DecidedChoice (OfExpression e) ≡ false
choice_none d F f (Cond t a b) h = h
choice_none d F f (Lit m s) h = refl
choice_none d F f (Yes b) h = refl
choice_none d F f (Var back) h = refl
choice_none d F f (Obs l t) h = refl
choice_none d F f (Neg e) h = refl
choice_none d F f (Num op a b) h = refl
choice_none d F f (Cmp op a b) h = refl
choice_none d F f (Not e) h = refl
choice_none d F f (Logic op a b) h = refl
choice_none d F f (Widen s e) h = refl
choice_none d F f (Round mode s e) h = refl
choice_none d F f (Div mode s a b) h = refl
choice_none d F f (Acc body n first) h = refl

steps_none : (d : Declarations) (F : Environment) (f : Option ℤ) (e : Expression) → is_chosen e ≡ false → is_redex d F f NoSteps (OfExpression e) ≡ false
steps_none d F f (Acc body n first) h = h
steps_none d F f (Cond t a b) h = refl
steps_none d F f (Lit m s) h = refl
steps_none d F f (Yes b) h = refl
steps_none d F f (Var back) h = refl
steps_none d F f (Obs l t) h = refl
steps_none d F f (Neg e) h = refl
steps_none d F f (Num op a b) h = refl
steps_none d F f (Cmp op a b) h = refl
steps_none d F f (Not e) h = refl
steps_none d F f (Logic op a b) h = refl
steps_none d F f (Widen s e) h = refl
steps_none d F f (Round mode s e) h = refl
steps_none d F f (Div mode s a b) h = refl

node_none : (d : Declarations) (F : Environment) (kind : Redex) → IsPlainKind kind → (f : Option ℤ) (e : Expression) → is_plain_redex e ≡ false → is_redex d F f kind (OfExpression e) ≡ false
node_none d F LiteralOperands p f e h = left_false (has_literal_operands e) (is_chosen e) h
node_none d F DecidedChoice p f e h = choice_none d F f e (right_false (has_literal_operands e) (is_chosen e) h)
node_none d F NoSteps p f e h = steps_none d F f e (right_false (has_literal_operands e) (is_chosen e) h)
node_none d F FixedPlace p f e h = absurd p
node_none d F FixedSteps p f e h = absurd p
node_none d F EmptyLeft p f e h = refl
node_none d F EmptyRight p f e h = refl
node_none d F ScaledNothing p f e h = refl
node_none d F ZeroFactor p f e h = refl
node_none d F NoDelay p f e h = refl
node_none d F TwoDelays p f e h = refl
node_none d F DelayedNothing p f e h = refl
node_none d F UnusedName p f e h = refl
node_none d F LiteralName p f e h = refl
node_none d F NothingEither p f e h = refl
node_none d F DecidedTest p f e h = refl

in_expression : (d : Declarations) (F : Environment) (kind : Redex) → IsPlainKind kind → (f : Option ℤ) (e : Expression) → HasNoPlain e → NoneIn (IsNoRedex d F kind) f e
in_expression d F kind p f (Lit m s) h = node_none d F kind p f (Lit m s) refl
in_expression d F kind p f (Yes b) h = node_none d F kind p f (Yes b) refl
in_expression d F kind p f (Var back) h = node_none d F kind p f (Var back) refl
in_expression d F kind p f (Obs l t) h = node_none d F kind p f (Obs l t) refl
in_expression d F kind p f (Neg e) h = (in_expression d F kind p f e h.0, node_none d F kind p f (Neg e) h.1)
in_expression d F kind p f (Num op a b) h = (in_expression d F kind p f a h.0, in_expression d F kind p f b h.1, node_none d F kind p f (Num op a b) h.2)
in_expression d F kind p f (Cmp op a b) h = (in_expression d F kind p f a h.0, in_expression d F kind p f b h.1, node_none d F kind p f (Cmp op a b) h.2)
in_expression d F kind p f (Not e) h = (in_expression d F kind p f e h.0, node_none d F kind p f (Not e) h.1)
in_expression d F kind p f (Logic op a b) h = (in_expression d F kind p f a h.0, in_expression d F kind p f b h.1, node_none d F kind p f (Logic op a b) h.2)
in_expression d F kind p f (Cond t a b) h = (in_expression d F kind p f t h.0, in_expression d F kind p f a h.1, in_expression d F kind p f b h.2, node_none d F kind p f (Cond t a b) h.3)
in_expression d F kind p f (Widen s e) h = (in_expression d F kind p f e h.0, node_none d F kind p f (Widen s e) h.1)
in_expression d F kind p f (Round mode s e) h = (in_expression d F kind p f e h.0, node_none d F kind p f (Round mode s e) h.1)
in_expression d F kind p f (Div mode s a b) h = (in_expression d F kind p f a h.0, in_expression d F kind p f b h.1, node_none d F kind p f (Div mode s a b) h.2)
in_expression d F kind p f (Acc body n first) h = (in_expression d F kind p (moved (pos 0 -ℤ pos n) f) first h.1, in_expression d F kind p None body h.0, node_none d F kind p f (Acc body n first) h.2)

-- ---- contracts

contract_none : (d : Declarations) (F : Environment) (kind : Redex) → IsPlainKind kind → (f : Option ℤ) (c : Contract) → is_contract_redex c ≡ false → is_redex d F f kind (OfContract c) ≡ false
contract_none d F EmptyLeft p f (Both Zero b) h = absurd (cc)
contract_none d F EmptyLeft p f c h = refl
contract_none d F EmptyRight p f (Both a Zero) h = absurd (cc (right_false (is_nothing a) true h))
contract_none d F EmptyRight p f c h = refl
contract_none d F ScaledNothing p f (Scale e Zero) h = absurd (cc)
contract_none d F ScaledNothing p f c h = refl
contract_none d F ZeroFactor p f (Scale e c) h = right_false (is_nothing c) _ h
contract_none d F ZeroFactor p f c h = refl
contract_none d F NoDelay p f (After n c) h = left_false (count_of n == 0) (is_later c) (right_false (is_nothing c) _ h)
contract_none d F NoDelay p f c h = refl
contract_none d F TwoDelays p f (After m (After n c)) h = absurd (cc (right_false (count_of m == 0) true h))
contract_none d F TwoDelays p f c h = refl
contract_none d F DelayedNothing p f (After m Zero) h = absurd (cc)
contract_none d F DelayedNothing p f c h = refl
contract_none d F UnusedName p f (Let e c) h = right_false (is_literal e) _ h
contract_none d F UnusedName p f c h = refl
contract_none d F LiteralName p f (Let e c) h = left_false (is_literal e) _ h
contract_none d F LiteralName p f c h = refl
contract_none d F NothingEither p f (Within e n Zero Zero) h = absurd (cc (right_false (is_literal e) true h))
contract_none d F NothingEither p f c h = refl
contract_none d F DecidedTest p f (Within e n a b) h = left_false (is_literal e) _ h
contract_none d F DecidedTest p f c h = refl
contract_none d F LiteralOperands p f c h = refl
contract_none d F DecidedChoice p f c h = refl
contract_none d F NoSteps p f c h = refl
contract_none d F FixedPlace p f c h = absurd p
contract_none d F FixedSteps p f c h = absurd p

in_contract : (d : Declarations) (F : Environment) (kind : Redex) → IsPlainKind kind → (f : Option ℤ) (c : Contract) → HasNoPlainIn c → NoneInContract (IsNoRedex d F kind) f c
in_contract d F kind p f Zero h = contract_none d F kind p f Zero refl
in_contract d F kind p f (Pay a x y) h = contract_none d F kind p f (Pay a x y) refl
in_contract d F kind p f (Both a b) h = (in_contract d F kind p f a h.0, in_contract d F kind p f b h.1, contract_none d F kind p f (Both a b) h.2)
in_contract d F kind p f (Scale e c) h = (in_expression d F kind p f e h.0, in_contract d F kind p f c h.1, contract_none d F kind p f (Scale e c) h.2)
in_contract d F kind p f (After n c) h = (in_contract d F kind p (moved (pos (count_of n)) f) c h.0, contract_none d F kind p f (After n c) h.1)
in_contract d F kind p f (Let e c) h = (in_expression d F kind p f e h.0, in_contract d F kind p f c h.1, contract_none d F kind p f (Let e c) h.2)
in_contract d F kind p f (Within e n a b) h =
    (in_expression d F kind p None e h.0, in_contract d F kind p None a h.1, in_contract d F kind p (moved (pos (count_of n)) f) b h.2, contract_none d F kind p f (Within e n a b) h.3)

pub plain_leaves_none : PlainLeavesNone
plain_leaves_none d c F f kind p h = reduced_by_structure d c F f kind (in_contract d F kind p f c h)
