-- What a term begins with: the first token decides its form. Contracts and payoff code differ in the word that reads an
-- observable, and in how many terms may be open at once.
use Rattle.std.specs.Prelude.{◌≡◌, ℕ, Bool, true, false, List, Option, Some, None, Result, Ok, Err, codes, nat_lt, if◌then◌else◌}
use Rattle.decimal.specs.declared.Decimal.{Decimal}
use Rattle.contract_grammar.specs.Tokens.{Tok}
use Rattle.contract_grammar.specs.Words.{Bytes, is_the_word, is_the_mark, is_name, is_number}
use Rattle.contract_grammar.specs.Judgements.{literal_at, variable_at}
use Rattle.contract_grammar.specs.declared.faults.TextKind.{TextKind}
use Rattle.contract_grammar.specs.declared.faults.TextKind.TheVariants.{Syntax, Number, Date, Deep, Range, Twice, Unknown, Utf8}
use Rattle.contract_grammar.specs.declared.terms.Language.{Language}
use Rattle.contract_parse.specs.declared.heads.First.{First}
use Rattle.contract_parse.specs.declared.heads.Head.{Head}
use Rattle.contract_parse.specs.declared.heads.AmountHead.{AmountHead}

-- the word that reads an observable
abbrev pub leaf_word : Language → Bytes
leaf_word Language.Contracts = codes "obs"
leaf_word Language.Code = codes "model"

abbrev pub greatest_depth : Language → ℕ
greatest_depth Language.Contracts = 200
greatest_depth Language.Code = 400

-- what an expression begins with: a number, the name of a binder, or the word or mark of a form
pub data Beginning : Type 0 where
  OfNumber : (number : Decimal) → Beginning
  OfName : (back : ℕ) → Beginning
  OfForm : (first : First) → Beginning

abbrev pub first_number : Result Decimal TextKind → Result Beginning TextKind
first_number (Ok d) = Ok (OfNumber d)
first_number (Err kind) = Err kind

abbrev pub first_name : Result ℕ TextKind → Result Beginning TextKind
first_name (Ok back) = Ok (OfName back)
first_name (Err kind) = Err kind

-- a reserved word that begins an expression
abbrev pub first_word : Language → Tok → Result Beginning TextKind
first_word l t =
    if is_the_word (codes "true") t then Ok (OfForm First.True)
    else if is_the_word (codes "false") t then Ok (OfForm First.False)
    else if is_the_word (codes "neg") t then Ok (OfForm First.Neg)
    else if is_the_word (codes "not") t then Ok (OfForm First.Not)
    else if is_the_word (codes "min") t then Ok (OfForm First.Min)
    else if is_the_word (codes "max") t then Ok (OfForm First.Max)
    else if is_the_word (codes "if") t then Ok (OfForm First.If)
    else if is_the_word (codes "widen") t then Ok (OfForm First.Widen)
    else if is_the_word (codes "round") t then Ok (OfForm First.Round)
    else if is_the_word (codes "div") t then Ok (OfForm First.Div)
    else if is_the_word (codes "acc") t then Ok (OfForm First.Acc)
    else if is_the_word (leaf_word l) t then Ok (OfForm First.Obs)
    else Err Syntax

-- the word or mark of a form
abbrev pub form_at : Language → Tok → Result Beginning TextKind
form_at l t =
    if is_the_mark (codes "-") t then Ok (OfForm First.Minus)
    else if is_the_mark (codes "(") t then Ok (OfForm First.Open)
    else first_word l t

-- a form that was found, or the fault of a token that begins none
abbrev pub or_none_begins : Option First → Result Beginning TextKind
or_none_begins (Some first) = Ok (OfForm first)
or_none_begins None = Err Syntax

-- what an expression begins with, under the names that are bound round it
abbrev pub first_of : Language → List Bytes → Tok → Result Beginning TextKind
first_of l names t =
    if is_number t then first_number (literal_at false t)
    else if is_name t then first_name (variable_at names t)
    else form_at l t

-- the faults that come before that of the depth
abbrev pub is_before_depth : TextKind → Bool
is_before_depth Syntax = true
is_before_depth Number = true
is_before_depth Date = true
is_before_depth Deep = false
is_before_depth Range = false
is_before_depth Twice = false
is_before_depth Unknown = false
is_before_depth Utf8 = false

-- a term that begins at this depth
abbrev pub within_depth : {X : Type 0} → Language → ℕ → Result X TextKind → Result X TextKind
within_depth l depth (Ok x) = if nat_lt (greatest_depth l) depth then Err Deep else Ok x
within_depth l depth (Err kind) = if is_before_depth kind then Err kind else if nat_lt (greatest_depth l) depth then Err Deep else Err kind

abbrev pub first_at : Language → ℕ → List Bytes → Tok → Result Beginning TextKind
first_at l depth names t = within_depth l depth (first_of l names t)

-- what a contract begins with
abbrev pub head_of : Tok → Result Head TextKind
head_of t =
    if is_the_word (codes "zero") t then Ok Head.Zero
    else if is_the_word (codes "pay") t then Ok Head.Pay
    else if is_the_word (codes "both") t then Ok Head.Both
    else if is_the_word (codes "scale") t then Ok Head.Scale
    else if is_the_word (codes "after") t then Ok Head.After
    else if is_the_word (codes "let") t then Ok Head.Let
    else if is_the_word (codes "if") t then Ok Head.If
    else Err Syntax

abbrev pub head_at : ℕ → Tok → Result Head TextKind
head_at depth t = within_depth Language.Contracts depth (head_of t)

-- what an amount of payoff code begins with
abbrev pub amount_head_of : Tok → Result AmountHead TextKind
amount_head_of t =
    if is_the_word (codes "none") t then Ok AmountHead.None
    else if is_the_word (codes "pay") t then Ok AmountHead.Pay
    else if is_the_word (codes "add") t then Ok AmountHead.Add
    else if is_the_word (codes "scale") t then Ok AmountHead.Scale
    else if is_the_word (codes "let") t then Ok AmountHead.Let
    else if is_the_word (codes "loop") t then Ok AmountHead.Loop
    else if is_the_word (codes "cut") t then Ok AmountHead.Cut
    else Err Syntax

abbrev pub amount_head_at : ℕ → Tok → Result AmountHead TextKind
amount_head_at depth t = within_depth Language.Code depth (amount_head_of t)

-- what the token is that a form of expressions begins with
abbrev pub BeginsForm : Language → Tok → First → Type 0
BeginsForm language t First.True = is_the_word (codes "true") t ≡ true
BeginsForm language t First.False = is_the_word (codes "false") t ≡ true
BeginsForm language t First.Minus = is_the_mark (codes "-") t ≡ true
BeginsForm language t First.Open = is_the_mark (codes "(") t ≡ true
BeginsForm language t First.Obs = is_the_word (leaf_word language) t ≡ true
BeginsForm language t First.Neg = is_the_word (codes "neg") t ≡ true
BeginsForm language t First.Not = is_the_word (codes "not") t ≡ true
BeginsForm language t First.Min = is_the_word (codes "min") t ≡ true
BeginsForm language t First.Max = is_the_word (codes "max") t ≡ true
BeginsForm language t First.If = is_the_word (codes "if") t ≡ true
BeginsForm language t First.Widen = is_the_word (codes "widen") t ≡ true
BeginsForm language t First.Round = is_the_word (codes "round") t ≡ true
BeginsForm language t First.Div = is_the_word (codes "div") t ≡ true
BeginsForm language t First.Acc = is_the_word (codes "acc") t ≡ true

-- what the token is that a contract begins with
abbrev pub BeginsContract : Tok → Head → Type 0
BeginsContract t Head.Zero = is_the_word (codes "zero") t ≡ true
BeginsContract t Head.Pay = is_the_word (codes "pay") t ≡ true
BeginsContract t Head.Both = is_the_word (codes "both") t ≡ true
BeginsContract t Head.Scale = is_the_word (codes "scale") t ≡ true
BeginsContract t Head.After = is_the_word (codes "after") t ≡ true
BeginsContract t Head.Let = is_the_word (codes "let") t ≡ true
BeginsContract t Head.If = is_the_word (codes "if") t ≡ true

-- what the token is that an amount of payoff code begins with
abbrev pub BeginsAmount : Tok → AmountHead → Type 0
BeginsAmount t AmountHead.None = is_the_word (codes "none") t ≡ true
BeginsAmount t AmountHead.Pay = is_the_word (codes "pay") t ≡ true
BeginsAmount t AmountHead.Add = is_the_word (codes "add") t ≡ true
BeginsAmount t AmountHead.Scale = is_the_word (codes "scale") t ≡ true
BeginsAmount t AmountHead.Let = is_the_word (codes "let") t ≡ true
BeginsAmount t AmountHead.Loop = is_the_word (codes "loop") t ≡ true
BeginsAmount t AmountHead.Cut = is_the_word (codes "cut") t ≡ true
