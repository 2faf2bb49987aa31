-- A text that spells a part of the grammar wherever it stands before bytes that end it: its tokens are those of the part,
-- whatever follows.
use Rattle.std.specs.Prelude.{◌≡◌, ℕ, zero, suc, ◌==◌, ◌||◌, Bool, true, false, List, [], ◌∷◌, ◌++◌}
use Rattle.std.specs.Str.{IsAscii}
use Rattle.contract_grammar.specs.Tokens.{tokens}
use Rattle.contract_grammar.specs.Spelling.{Part}
use Rattle.contract_grammar.specs.Words.{Bytes}
use Rattle.contract_print.specs.TermTexts.{bound_name}

-- a space, `,`, `)` or `;`: each of them ends a word and a number
abbrev pub is_stop : ℕ → Bool
is_stop b = (b == 32) || (b == 44) || (b == 41) || (b == 59)

abbrev pub stops : Bytes → Bool
stops [] = false
stops (b ∷ bs) = is_stop b

-- before whatever passes
pub record Spells (ends : Bytes → Bool) (text : Bytes) (part : Part) : Type 0 where
  pub ascii : IsAscii text
  pub here : (more : Bytes) → ends more ≡ true → part (tokens (text ++ more)) (tokens more)

-- the names of n binders, innermost first
abbrev pub bound_names : ℕ → List Bytes
bound_names zero = []
bound_names (suc n) = bound_name n ∷ bound_names n
