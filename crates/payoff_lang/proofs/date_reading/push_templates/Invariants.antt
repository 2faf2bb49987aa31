use Rattle.std.proofs.Common.{◌≡◌, ◌≤◌, ◌∷◌, List, ℕ, length}
use Rattle.indexmap.specs.IndexMap.{keys}
use Rattle.contract_grammar.specs.Tokens.{Tok, tokens}
use Rattle.contract_grammar.specs.Words.{Bytes}
use Rattle.contract_parse.specs.Expecting.{MoreTemplates, Expected, run}
use Rattle.contract_parse.specs.Reading.{declared_in}
use Rattle.payoff_lang.specs.CodeReading.{AddsTemplates}
use Rattle.payoff_lang.proofs.date_reading.push_templates.Given as goal

abbrev pub invariant-loop-after : goal.invariant-loop-after
invariant-loop-after l = record {
  follows : (cs : List Bytes) (ps : List Expected) → run (declared_in l.decls cs) (MoreTemplates ∷ ps) (tokens l.fn.rest) ≡ run (declared_in l.decls cs) (MoreTemplates ∷ ps) (tokens l.rest);
  spelled : (after : List ℕ) (end : List Tok) → AddsTemplates (keys l.decls.templates) l.names.items after (tokens l.rest) end → AddsTemplates (keys l.decls.templates) l.fn.names.items after (tokens l.fn.rest) end;
  shorter : length l.rest ≤ length l.fn.rest;
}

abbrev pub decreases-loop-after : goal.decreases-loop-after
decreases-loop-after l = length l.rest
