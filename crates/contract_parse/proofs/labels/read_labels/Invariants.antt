use Rattle.std.proofs.Common.{◌≡◌, ◌≤◌, ◌+◌, ◌∷◌, [], List, length, true}
use Rattle.indexmap.specs.IndexMap.{index_map_len, keys}
use Rattle.term_model.specs.Limits.{are_labels}
use Rattle.term_model.specs.declared.label.Label.{Label}
use Rattle.contract_grammar.specs.Tokens.{Tok}
use Rattle.contract_grammar.specs.Words.{Bytes}
use Rattle.contract_parse.specs.Reading.{tokens_ahead}
use Rattle.contract_grammar.specs.Names.{DeclaredNames, with_names}
use Rattle.contract_grammar.specs.Statements.{Entry, Repeat, label_line}
use Rattle.contract_parse.specs.Expecting.{LabelLines, Expected, run}
use Rattle.contract_grammar.specs.declared.names.NameSet.TheVariants.{Label as LabelSet}
use Rattle.contract_parse.proofs.labels.read_labels.Given as goal

abbrev pub invariant-loop-after : goal.invariant-loop-after
invariant-loop-after l = record {
  follows : (s : DeclaredNames) (ps : List Expected) → run (with_names LabelSet [] s) (LabelLines ∷ ps) (tokens_ahead l.fn.ahead) ≡ run (with_names LabelSet (keys l.labels) s) (LabelLines ∷ ps) (tokens_ahead l.ahead);
  spelled : (after : List (Bytes × Label)) (end : List Tok) → Repeat (Entry label_line) l.labels.entries after (tokens_ahead l.ahead) end → Repeat (Entry label_line) [] after (tokens_ahead l.fn.ahead) end;
  few : index_map_len l.labels + length l.ahead.after.now ≤ length l.fn.ahead.after.now;
  limits : are_labels l.labels.entries ≡ true;
}

abbrev pub decreases-loop-after : goal.decreases-loop-after
decreases-loop-after l = length l.ahead.after.now
