use Rattle.std.proofs.Common.{◌≡◌, ◌≤◌, length, false}
use Rattle.contract_grammar.specs.Tokens.{after_gap}
use Rattle.contract_parse.proofs.token.after_any_gap.Given as goal

abbrev pub invariant-loop-rest : goal.invariant-loop-rest
invariant-loop-rest l = (after_gap false l.fn.bytes ≡ after_gap l.in_comment l.rest) × (length l.rest ≤ length l.fn.bytes)

abbrev pub decreases-loop-rest : goal.decreases-loop-rest
decreases-loop-rest l = length l.rest
