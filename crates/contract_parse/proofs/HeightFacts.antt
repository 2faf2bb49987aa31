-- Terms of parts that are within the height that is left are within it too.
use Rattle.std.proofs.Common.{◌≡◌, ◌≤◌, ◌+◌, ℕ, max, refl, arith}
use Rattle.term_model.specs.Terms.{Expression}
use Rattle.term_model.specs.Sizes.{height}
use Rattle.contract_grammar.specs.declared.terms.Operator.{Operator}
use Rattle.contract_grammar.specs.declared.terms.Operator.TheVariants as operator
use Rattle.contract_parse.specs.Reading.{joined}

pub over_one : (a d most : ℕ) → a + d ≤ most → a + 1 + d ≤ most + 1
over_one a d most le = omega arith

pub both_within : (a b d most : ℕ) → a + d ≤ most → b + d ≤ most → max a b + d ≤ most
both_within a b d most le le' = omega arith

pub over_two : (a b d most : ℕ) → a + d ≤ most → b + d ≤ most → max a b + 1 + d ≤ most + 1
over_two a b d most le le' = over_one (max a b) d most (both_within a b d most le le')

pub over_three : (a b c d most : ℕ) → a + d ≤ most → b + d ≤ most → c + d ≤ most → max a (max b c) + 1 + d ≤ most + 1
over_three a b c d most le le' le'' = over_two a (max b c) d most le (both_within b c d most le' le'')

pub joined_height : (op : Operator) (l r : Expression) → height (joined op l r) ≡ max (height l) (height r) + 1
joined_height (operator.Arithmetic op) l r = refl
joined_height (operator.Comparison op) l r = refl
joined_height (operator.Logic op) l r = refl
