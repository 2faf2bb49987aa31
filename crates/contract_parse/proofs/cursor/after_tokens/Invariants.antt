use Rattle.std.proofs.Common.{◌≡◌, ◌-◌, ◌∷◌, ◌++◌, List, length}
use Rattle.contract_grammar.specs.Tokens.{Tok}
use Rattle.contract_parse.specs.Cursors.{Fits, tokens_at}
use Rattle.contract_parse.proofs.TokenOrder.{IsAhead}
use Rattle.contract_parse.proofs.cursor.after_tokens.Given as goal

abbrev pub invariant-loop-span : goal.invariant-loop-span
invariant-loop-span l = record {
  fits : Fits l.bytes l.cursor;
  ahead : (before : List Tok) (last next : Tok) (rest : List Tok) → tokens_at l.bytes l.fn.start.at ≡ before ++ last ∷ next ∷ rest → length l.bytes - next.left ≡ l.stop → IsAhead l.bytes last next rest l.cursor.at;
}

abbrev pub decreases-loop-span : goal.decreases-loop-span
decreases-loop-span l = length l.bytes - l.cursor.at
