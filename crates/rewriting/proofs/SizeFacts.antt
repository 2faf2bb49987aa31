-- A term has a size.
use Rattle.std.proofs.Common.{◌≤◌, arith}
use Rattle.term_model.specs.Terms.{Expression, Lit, Yes, Var, Obs, Neg, Num, Cmp, Not, Logic, Cond, Widen, Round, Div, Acc}
use Rattle.rewriting.specs.Measures.{size}

pub some_size : (e : Expression) → 1 ≤ size e
some_size (Lit m s) = omega arith
some_size (Yes b) = omega arith
some_size (Var back) = omega arith
some_size (Obs l t) = omega arith
some_size (Neg e) = omega arith
some_size (Num op a b) = omega arith
some_size (Cmp op a b) = omega arith
some_size (Not e) = omega arith
some_size (Logic op a b) = omega arith
some_size (Cond t a b) = omega arith
some_size (Widen s e) = omega arith
some_size (Round mode s e) = omega arith
some_size (Div mode s a b) = omega arith
some_size (Acc body n first) = omega arith
