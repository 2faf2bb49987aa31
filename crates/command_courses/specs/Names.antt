-- Names that are declared: that of a label, and a word that is none of some names.
use Rattle.std.specs.Prelude.{ℕ, List, [], Some, None, slice_get, ◌≡◌}
use Rattle.term_model.specs.Declarations.{Declarations}
use Rattle.contract_grammar.specs.Names.{index_in}
use Rattle.report.specs.declared.fault_lines.Fault.{Fault}
use Rattle.report.specs.declared.fault_lines.Fault.TheVariants as fault

-- the name of a declared label
abbrev pub label_name : Declarations → ℕ → List ℕ
label_name d label = elim (slice_get d.labels label) [ Some entry ↦ entry.0 | None ↦ [] ]

-- a word is none of some names, and the fault says so
pub record IsUndeclared (names : List (List ℕ)) (word : List ℕ) (f : Fault) : Type 0 where
  pub absent : index_in names word ≡ None
  pub fault_is : f ≡ fault.UnknownName word
