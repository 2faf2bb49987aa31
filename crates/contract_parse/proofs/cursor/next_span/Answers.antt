use Rattle.std.proofs.Common.{◌∙◌, ap}
use Rattle.std.proofs.lemmas.List.{take_rest}
use Rattle.contract_grammar.specs.Tokens.{next_lexeme}
use Rattle.contract_parse.proofs.TokenBoundaries.{found}
use Rattle.contract_parse.proofs.cursor.next_span.Goals as goal

pub overflow_sub-result : goal.overflow_sub-result
overflow_sub-result c = (found c.args.bytes.now c.args.at c.requires _ (c.next_lexeme.ensures ∙ ap next_lexeme (take_rest c.args.bytes.now c.args.at))).left

pub overflow_sub-result-2 : goal.overflow_sub-result-2
overflow_sub-result-2 c = (found c.args.bytes.now c.args.at c.requires _ (c.next_lexeme.ensures ∙ ap next_lexeme (take_rest c.args.bytes.now c.args.at))).few

pub returns-clause-next : goal.returns-clause-next
returns-clause-next c = (found c.args.bytes.now c.args.at c.requires _ (c.next_lexeme.ensures ∙ ap next_lexeme (take_rest c.args.bytes.now c.args.at))).next

pub returns-clause-moves : goal.returns-clause-moves
returns-clause-moves c = (found c.args.bytes.now c.args.at c.requires _ (c.next_lexeme.ensures ∙ ap next_lexeme (take_rest c.args.bytes.now c.args.at))).moves

pub returns-clause-stays : goal.returns-clause-stays
returns-clause-stays c = (found c.args.bytes.now c.args.at c.requires _ (c.next_lexeme.ensures ∙ ap next_lexeme (take_rest c.args.bytes.now c.args.at))).stays

pub returns-clause-boundary : goal.returns-clause-boundary
returns-clause-boundary c = (found c.args.bytes.now c.args.at c.requires _ (c.next_lexeme.ensures ∙ ap next_lexeme (take_rest c.args.bytes.now c.args.at))).boundary
