-- What begins a text, so that it is known without a token.
use Rattle.std.specs.Prelude.{◌≡◌, ℕ, ◌+◌, ◌*◌, ◌-◌, ◌==◌, ◌&&◌, Bool, false, not, List, [], ◌∷◌, codes, length, if◌then◌else◌}
use Rattle.contract_grammar.specs.Tokens.{Tok, is_digit, tokens}
use Rattle.contract_grammar.specs.Words.{Bytes}
use Rattle.contract_grammar.specs.declared.token.LexemeKind.{LexemeKind}
use Rattle.contract_grammar.specs.declared.token.LexemeKind.TheVariants.{Mark, Word}
use Rattle.contract_grammar.specs.declared.terms.Language.{Language}
use Rattle.contract_parse.specs.Heads.{leaf_word}
use Rattle.contract_parse.specs.declared.heads.First.{First}
use Rattle.contract_parse.specs.declared.heads.Head.{Head}

-- this word begins a text, with that text behind it
abbrev pub word_here : Bytes → List ℕ → List ℕ → Type 0
word_here w start after = tokens start ≡ record { kind = Word; text = w; left = length start } ∷ tokens after

-- the word of each contract
abbrev pub head_word : Head → Bytes
head_word Head.Zero = codes "zero"
head_word Head.Pay = codes "pay"
head_word Head.Both = codes "both"
head_word Head.Scale = codes "scale"
head_word Head.After = codes "after"
head_word Head.Let = codes "let"
head_word Head.If = codes "if"

-- the word or the mark of each form of expressions
abbrev pub form_text : Language → First → Bytes
form_text l First.True = codes "true"
form_text l First.False = codes "false"
form_text l First.Minus = codes "-"
form_text l First.Open = codes "("
form_text l First.Obs = leaf_word l
form_text l First.Neg = codes "neg"
form_text l First.Not = codes "not"
form_text l First.Min = codes "min"
form_text l First.Max = codes "max"
form_text l First.If = codes "if"
form_text l First.Widen = codes "widen"
form_text l First.Round = codes "round"
form_text l First.Div = codes "div"
form_text l First.Acc = codes "acc"

abbrev pub form_kind : First → LexemeKind
form_kind First.True = Word
form_kind First.False = Word
form_kind First.Minus = Mark
form_kind First.Open = Mark
form_kind First.Obs = Word
form_kind First.Neg = Word
form_kind First.Not = Word
form_kind First.Min = Word
form_kind First.Max = Word
form_kind First.If = Word
form_kind First.Widen = Word
form_kind First.Round = Word
form_kind First.Div = Word
form_kind First.Acc = Word

abbrev pub form_token : Language → First → ℕ → Tok
form_token l first left = record { kind = form_kind first; text = form_text l first; left = left }

-- it begins a text, with that text behind it
abbrev pub form_here : Language → First → List ℕ → List ℕ → Type 0
form_here l first start after = tokens start ≡ form_token l first (length start) ∷ tokens after

-- the number that the digits which a text begins with write behind others
abbrev pub number_written : ℕ → List ℕ → ℕ
number_written n [] = n
number_written n (b ∷ bs) = if is_digit b then number_written (n * 10 + (b - 48)) bs else n

-- the text behind these digits
abbrev pub after_digits : List ℕ → List ℕ
after_digits [] = []
after_digits (b ∷ bs) = if is_digit b then after_digits bs else b ∷ bs

-- digits before this text are a number without a point, and begin no date
abbrev pub ends_integer : List ℕ → Bool
ends_integer [] = false
ends_integer (b ∷ bs) = not (b == 45) && not (b == 46)
