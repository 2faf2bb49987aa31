-- The contracts of a portfolio by their contents, as they are read one after another.
use Rattle.std.specs.Prelude.{List, map}
use Rattle.term_model.specs.declared.name.Name.{Name}
use Rattle.term_model.specs.declared.terms.Contr.{Contr}
use Rattle.term_model.specs.Terms.{Contract, contract}

abbrev pub trees : List (Name × Contr) → List (Name × Contract)
trees entries = map (λ entry. (entry.0, contract entry.1)) entries
