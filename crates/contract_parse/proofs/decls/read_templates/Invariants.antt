use Rattle.std.proofs.Common.{◌≡◌, ◌≤◌, ◌+◌, ◌∷◌, [], ℕ, List, length, true}
use Rattle.indexmap.specs.IndexMap.{index_map_len, keys}
use Rattle.term_model.specs.Limits.{are_numbers}
use Rattle.contract_grammar.specs.Tokens.{Tok}
use Rattle.contract_grammar.specs.Words.{Bytes}
use Rattle.contract_parse.specs.Reading.{tokens_ahead}
use Rattle.contract_grammar.specs.Names.{DeclaredNames, with_names}
use Rattle.contract_grammar.specs.Statements.{Entry, Repeat, template_line}
use Rattle.contract_parse.specs.Expecting.{Expected, TemplateLines, run}
use Rattle.contract_grammar.specs.declared.names.NameSet.TheVariants.{Template}
use Rattle.contract_parse.proofs.decls.read_templates.Given as goal

abbrev pub invariant-loop-after : goal.invariant-loop-after
invariant-loop-after l = record {
  follows : (s : DeclaredNames) (ps : List Expected) → run (with_names Template [] s) (TemplateLines ∷ ps) (tokens_ahead l.fn.ahead) ≡ run (with_names Template (keys l.templates) s) (TemplateLines ∷ ps) (tokens_ahead l.ahead);
  spelled : (after : List (Bytes × ℕ)) (end : List Tok) → Repeat (Entry template_line) l.templates.entries after (tokens_ahead l.ahead) end → Repeat (Entry template_line) [] after (tokens_ahead l.fn.ahead) end;
  few : index_map_len l.templates + length l.ahead.after.now ≤ length l.fn.ahead.after.now;
  limits : are_numbers l.templates.entries ≡ true;
}

abbrev pub decreases-loop-after : goal.decreases-loop-after
decreases-loop-after l = length l.ahead.after.now
