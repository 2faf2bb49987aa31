use Rattle.std.proofs.Common.{◌∙◌, List, ℕ, cond, [], ◌∷◌, sym, ap}
use Rattle.contract_grammar.specs.Tokens.{Tok, is_last, tokens}
use Rattle.contract_grammar.proofs.TokenFacts.{tokens_next, shorter_pair, within_pair}
use Rattle.contract_parse.proofs.words.next.Goals as goal

pub returns-clause-starts : goal.returns-clause-starts
returns-clause-starts c =
    let P = λ (p : Tok × List ℕ). p.0 ∷ cond (is_last p.0.kind) [] (tokens p.1) in
    tokens_next c.args.rest.now ∙ ap P (sym c.next_lexeme.ensures)

pub returns-clause-shorter : goal.returns-clause-shorter
returns-clause-shorter c = shorter_pair c.args.rest.now _ (sym c.next_lexeme.ensures)

pub returns-clause-within : goal.returns-clause-within
returns-clause-within c = within_pair c.args.rest.now _ (sym c.next_lexeme.ensures)
