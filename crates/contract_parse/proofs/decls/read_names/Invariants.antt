use Rattle.std.proofs.Common.{◌≡◌, ◌≤◌, ◌+◌, ◌∷◌, [], List, length}
use Rattle.indexmap.specs.IndexSet.{index_set_len}
use Rattle.contract_grammar.specs.Tokens.{Tok}
use Rattle.contract_grammar.specs.Words.{Bytes}
use Rattle.contract_parse.specs.Reading.{tokens_ahead}
use Rattle.contract_grammar.specs.Names.{DeclaredNames, with_names}
use Rattle.contract_grammar.specs.Statements.{Repeat, name_line}
use Rattle.contract_parse.specs.Expecting.{NameLines, Expected, run}
use Rattle.contract_grammar.specs.declared.names.NameSet.{NameSet}
use Rattle.contract_parse.proofs.decls.read_names.Given as goal

abbrev pub invariant-loop-after : goal.invariant-loop-after
invariant-loop-after l = record {
  follows : (set : NameSet) (s : DeclaredNames) (ps : List Expected) → run (with_names set [] s) (NameLines l.word set ∷ ps) (tokens_ahead l.fn.ahead) ≡ run (with_names set l.names.keys s) (NameLines l.word set ∷ ps) (tokens_ahead l.ahead);
  spelled : (after : List Bytes) (end : List Tok) → Repeat (name_line l.word) l.names.keys after (tokens_ahead l.ahead) end → Repeat (name_line l.word) [] after (tokens_ahead l.fn.ahead) end;
  few : index_set_len l.names + length l.ahead.after.now ≤ length l.fn.ahead.after.now;
}

abbrev pub decreases-loop-after : goal.decreases-loop-after
decreases-loop-after l = length l.ahead.after.now
