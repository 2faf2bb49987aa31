-- The contracts of a portfolio by their contents: one more of them, and their names.
use Rattle.std.proofs.Common.{◌≡◌, List, [], ◌∷◌, ◌++◌, ap, refl}
use Rattle.std.specs.Map.{keys_of}
use Rattle.term_model.specs.declared.name.Name.{Name}
use Rattle.term_model.specs.declared.terms.Contr.{Contr}
use Rattle.term_model.specs.Terms.{Contract, contract}
use Rattle.contract_grammar.specs.Words.{Bytes}
use Rattle.contract_grammar.specs.ContractReading.{trees}

pub trees_added : (es : List (Name × Contr)) (name : Name) (c : Contr) → trees (es ++ (name, c) ∷ []) ≡ trees es ++ (name, contract c) ∷ []
trees_added [] name c = refl
trees_added (e ∷ es) name c = ap (λ (rest : List (Name × Contract)). (e.0, contract e.1) ∷ rest) (trees_added es name c)

pub keys_of_trees : (es : List (Name × Contr)) → keys_of es ≡ keys_of (trees es)
keys_of_trees [] = refl
keys_of_trees (e ∷ es) = ap (λ (rest : List Bytes). e.0 ∷ rest) (keys_of_trees es)
