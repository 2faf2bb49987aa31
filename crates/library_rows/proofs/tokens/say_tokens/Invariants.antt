use Rattle.contract_parse.specs.Cursors.{Fits}
use Rattle.library_rows.proofs.tokens.say_tokens.Given as goal

-- the cursor fits the text all along
abbrev pub invariant-loop : goal.invariant-loop
invariant-loop l = Fits l.text l.cursor
