use Rattle.std.proofs.Common.{◌≡◌, map, string_bytes, take}
use Rattle.tilugba.proofs.lent.Given as goal

-- the words lent so far are the first ones
abbrev pub invariant-loop-word : goal.invariant-loop-word
invariant-loop-word l = map (λ word. word.now) l.lent.items ≡ map (λ word. string_bytes word) (take l.word-index l.words)
