use Rattle.std.proofs.Common.{◌≡◌, ◌++◌, true}
use Rattle.term_model.specs.Limits.{are_labels}
use Rattle.contract_print.specs.Canon.{labels_text}
use Rattle.contract_print.proofs.decls.append_labels.Given as goal

-- what stands, and the lines of what is left, are what stood and all lines
abbrev pub invariant-loop-name : goal.invariant-loop-name
invariant-loop-name l = record {
  lines : l.out.items ++ labels_text l.name-iterator ≡ l.initial.out.items ++ labels_text l.labels.entries;
  bounds : are_labels l.name-iterator ≡ true;
}
