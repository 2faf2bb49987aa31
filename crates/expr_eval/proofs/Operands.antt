-- The values of two operands.
use Rattle.std.proofs.Common.{◌≡◌, Ok, Err, subst}
use Rattle.expr_eval.specs.declared.operations.Typed.{Typed}
use Rattle.expr_eval.specs.declared.operations.Operands.{Operands}
use Rattle.expr_eval.specs.Runs.{Answer, both_of}
use Rattle.expr_eval.specs.Fits.{OnValues}

pub of_both : (a b : Answer) (P : Typed → Typed → Type 0) (p : Operands) → OnValues a b P → both_of a b ≡ Ok p → P p.left p.right
of_both (Ok x) (Ok y) P p h e =
    let q : record { left = x; right = y } ≡ p = cc in
    subst (λ (o : Operands). P o.left o.right) q h
of_both (Ok x) (Err m) P p h e = cc
of_both (Err m) b P p h e = cc
