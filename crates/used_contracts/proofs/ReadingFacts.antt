-- The next contract of a text, or its end.
use Rattle.std.proofs.Common.{◌≡◌, ℕ, List, refl, subst}
use Rattle.std.specs.Prelude.{None, Option, Some}
use Rattle.term_model.specs.declared.name.Name.{Name}
use Rattle.term_model.specs.Declarations.{Declarations}
use Rattle.term_model.specs.Terms.{Contract}
use Rattle.contract_parse.specs.NextContracts.{IsNext}
use Rattle.contract_grammar.specs.Texts.{Text}
use Rattle.contract_parse.specs.declared.next_contracts.ContractReader.{ContractReader}
use Rattle.contract_parse.specs.declared.next_contracts.NextContract.{NextContract}
use Rattle.used_contracts.specs.ReadingParts.{IsNextOrEnd}

module _ (text : List ℕ) (d : Declarations) (entries : List (Name × Contract)) (after : ContractReader) where
  pub next_is : (next : Option NextContract) (one : NextContract) → next ≡ Some one → IsNextOrEnd text d entries after next → IsNext text d entries after one
  next_is next one is h = subst (IsNextOrEnd text d entries after) is h

  pub end_is : (next : Option NextContract) → ((one : NextContract) → next ≡ Some one → ⊥) → IsNextOrEnd text d entries after next → Text text (record { declarations = d; contracts = entries })
  end_is None none h = h
  end_is (Some one) none h = absurd (none one refl)
