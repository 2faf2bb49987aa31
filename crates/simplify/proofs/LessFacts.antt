-- What takes the place of a part is no larger.
use Rattle.std.proofs.Common.{◌≡◌, ◌≤◌, ℕ, true, Option, Some, None, arith}
use Rattle.std.specs.declared.rc.Rc.{Rc}
use Rattle.std.specs.Global.{Global}
use Rattle.term_model.specs.declared.terms.Expr.{Expr}
use Rattle.term_core.specs.declared.shared.SharedContr.{SharedContr}
use Rattle.term_model.specs.Terms.{Expression, Contract}
use Rattle.term_model.specs.Redexes.{is_literal}
use Rattle.rewriting.specs.Measures.{size, size_in}
use Rattle.rewriting.specs.Rebuilding.{after, IsLess}
use Rattle.rewriting.specs.RebuildingContracts.{after_in, IsLessIn}
use Rattle.rewriting.specs.Substituting.{substituted_in}
use Rattle.simplify.proofs.ContractTurns.{same_size_in, literal_one}

pub no_more : (x : Expression) (new : Option Expr) → IsLess new x → size (after x new) ≤ size x
no_more x None h = omega arith
no_more x (Some r) h = omega (arith, h)

pub no_more_in : (c : Contract) (new : Option (Rc SharedContr Global)) → IsLessIn new c → size_in (after_in c new) ≤ size_in c
no_more_in c None h = omega arith
no_more_in c (Some r) h = omega (arith, h)

pub literal_keeps_size : (j : ℕ) (x : Expression) (c : Contract) → is_literal x ≡ true → size_in (substituted_in j x c) ≡ size_in c
literal_keeps_size j x c h = same_size_in c j x (literal_one x h)
