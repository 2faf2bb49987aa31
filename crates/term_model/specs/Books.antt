-- A portfolio by its contents: its declarations, and its contracts by name in their order. Where maps and boxes lie in
-- memory is left out, so two portfolios with equal contents are equal here.
use Rattle.std.specs.Prelude.{List, map}
use Rattle.term_model.specs.declared.name.Name.{Name}
use Rattle.term_model.specs.declared.portfolio.Portfolio.{Portfolio}
use Rattle.term_model.specs.Declarations.{Declarations, declarations}
use Rattle.term_model.specs.Terms.{Contract, contract}

pub record Book : Type 0 where
  pub declarations : Declarations
  pub contracts : List (Name × Contract)

-- what the program's portfolio stands for
abbrev pub book : Portfolio → Book
book p =
    record { declarations = declarations p.decls; contracts = map (λ entry. (entry.0, contract entry.1)) p.contracts.entries }
