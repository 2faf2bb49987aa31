use Rattle.std.proofs.Common.{◌≡◌, ℕ, ◌<◌, false, map, get_or, arith}
use Rattle.std.proofs.lemmas.List.FromFn.{get_or-map-range_with_len}
use Rattle.std.specs.List.{range_with_len}
use Rattle.contract_grammar.specs.Tokens.{is_word_byte}
use Rattle.contract_grammar.proofs.token.is_word_byte.Goals as goal

-- The table is that of the bytes, by computation.
held : (b : ℕ) → b < 256 → get_or (map is_word_byte (range_with_len 0 256)) b false ≡ is_word_byte b
held b h = get_or-map-range_with_len is_word_byte 0 256 b b false h (omega arith)

pub returns : goal.returns
returns c = held c.args.b (omega arith)
