-- An operator between its operands.
use Rattle.std.proofs.Common.{List}
use Rattle.std.specs.Prelude.{codes}
use Rattle.term_model.specs.Terms.{Expression}
use Rattle.term_model.specs.declared.terms.NumOp.TheVariants.{Plus, Minus, Times, Min, Max}
use Rattle.contract_grammar.specs.Tokens.{Tok}
use Rattle.contract_grammar.specs.Words.{Bytes}
use Rattle.contract_grammar.specs.Judgements.{operator_at}
use Rattle.contract_grammar.specs.Spelling.{Leaf, expr_with, mark, valued}
use Rattle.contract_parse.specs.Reading.{IsBetween, joined}
use Rattle.contract_grammar.specs.declared.terms.Operator.{Operator}
use Rattle.contract_grammar.specs.declared.terms.Operator.TheVariants as operator
use Rattle.contract_grammar.proofs.Parts.{followed_by}

pub infix_spelled : (leaf : Leaf) (names : List Bytes) (op : Operator) (l r : Expression) (ts a b c d rest : List Tok) → IsBetween op → mark (codes "(") ts a → expr_with leaf names l a b → valued operator_at op b c → expr_with leaf names r c d → mark (codes ")") d rest
    → expr_with leaf names (joined op l r) ts rest
infix_spelled leaf names (operator.Arithmetic Plus) l r ts a b c d rest between first left sign right last = followed_by a first (followed_by b left (followed_by c sign (followed_by d right last)))
infix_spelled leaf names (operator.Arithmetic Minus) l r ts a b c d rest between first left sign right last = followed_by a first (followed_by b left (followed_by c sign (followed_by d right last)))
infix_spelled leaf names (operator.Arithmetic Times) l r ts a b c d rest between first left sign right last = followed_by a first (followed_by b left (followed_by c sign (followed_by d right last)))
infix_spelled leaf names (operator.Arithmetic Min) l r ts a b c d rest between first left sign right last = absurd between
infix_spelled leaf names (operator.Arithmetic Max) l r ts a b c d rest between first left sign right last = absurd between
infix_spelled leaf names (operator.Comparison op) l r ts a b c d rest between first left sign right last = followed_by a first (followed_by b left (followed_by c sign (followed_by d right last)))
infix_spelled leaf names (operator.Logic op) l r ts a b c d rest between first left sign right last = followed_by a first (followed_by b left (followed_by c sign (followed_by d right last)))
