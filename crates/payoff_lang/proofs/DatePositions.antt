-- The date that stands at a position of a text, here by how many bytes of the text are left. By the positions of its
-- dates, an expression is the only one that is spelled by its tokens.
use Rattle.std.specs.Prelude.{◌-◌, ℕ, ℤ, pos, negsuc, false, true, List, [], ◌∷◌, Option, Some, None, codes, drop, length, if◌then◌else◌}
use Rattle.decimal.specs.DecimalText.{signed}
use Rattle.contract_grammar.specs.Tokens.{Tok, tokens}
use Rattle.contract_grammar.specs.Words.{Bytes, is_the_mark}
use Rattle.contract_grammar.specs.Names.{index_in}
use Rattle.contract_grammar.specs.Judgements.{whole}
use Rattle.payoff_terms.specs.TemplateDates.{Date, insert_names}

-- the number of the first token
abbrev pub number_first : List Tok → ℕ
number_first [] = 0
number_first (t ∷ ts) = whole t

-- the number that a date begins with, behind its sign where it has one
abbrev pub days_first : List Tok → ℤ
days_first [] = pos 0
days_first (t ∷ ts) = if is_the_mark (codes "-") t then signed true (number_first ts) else signed false (whole t)

abbrev pub behind_one : List Tok → List Tok
behind_one [] = []
behind_one (t ∷ ts) = ts

abbrev pub behind_days : List Tok → List Tok
behind_days [] = []
behind_days (t ∷ ts) = if is_the_mark (codes "-") t then behind_one ts else ts

abbrev pub or_first : Option ℕ → ℕ
or_first (Some i) = i
or_first None = 0

-- the templates that follow, as long as each has a `+` before it
abbrev pub templates_first : List Bytes → List Tok → List ℕ
templates_first templates (plus ∷ t ∷ ts) =
    if is_the_mark (codes "+") plus then or_first (index_in templates t.text) ∷ templates_first templates ts else []
templates_first templates _ = []

-- the date that tokens begin with
abbrev pub date_first : List Bytes → List Tok → Date
date_first templates ts = record { days = days_first ts; names = insert_names (templates_first templates (behind_days ts)) [] }

-- the last bytes of a text, so many
abbrev pub last_bytes : List ℕ → ℤ → List ℕ
last_bytes text (pos n) = drop (length text - n) text
last_bytes text (negsuc n) = []

-- the date at a position of a text
abbrev pub date_at : List Bytes → List ℕ → ℤ → Date
date_at templates text position = date_first templates (tokens (last_bytes text position))
