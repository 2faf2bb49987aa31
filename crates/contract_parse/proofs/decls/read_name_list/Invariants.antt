use Rattle.std.proofs.Common.{◌≡◌, ◌≤◌, ◌<◌, ◌+◌, ◌∷◌, List, length}
use Rattle.std.specs.Prelude.{codes}
use Rattle.indexmap.specs.IndexSet.{index_set_len}
use Rattle.contract_grammar.specs.Tokens.{Tok, tokens}
use Rattle.contract_grammar.specs.Words.{Bytes}
use Rattle.contract_grammar.specs.Names.{DeclaredNames, with_names}
use Rattle.contract_grammar.specs.Spelling.{◌⨟◌, mark}
use Rattle.contract_grammar.specs.Statements.{NameList, Repeat, comma_name}
use Rattle.contract_parse.specs.Expecting.{MoreNames, NewIn, Expected, run}
use Rattle.contract_grammar.specs.declared.names.NameSet.{NameSet}
use Rattle.contract_parse.proofs.decls.read_name_list.Given as goal

abbrev pub invariant-loop-comma : goal.invariant-loop-comma
invariant-loop-comma l = record {
  follows : (set : NameSet) (s : DeclaredNames) (ps : List Expected) → run (with_names set l.fn.names.keys s) (NewIn set ∷ MoreNames set ∷ ps) (tokens l.fn.rest) ≡ run (with_names set l.names.keys s) (MoreNames set ∷ ps) (tokens l.rest);
  spelled : (after : List Bytes) (end : List Tok) → (Repeat comma_name l.names.keys after ⨟ mark (codes ";")) (tokens l.rest) end → NameList l.fn.names.keys after (tokens l.fn.rest) end;
  few : index_set_len l.names + length l.rest ≤ index_set_len l.fn.names + length l.fn.rest;
  shorter : length l.rest < length l.fn.rest;
}

abbrev pub decreases-loop-comma : goal.decreases-loop-comma
decreases-loop-comma l = length l.rest
