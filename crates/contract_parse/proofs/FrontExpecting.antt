-- The forms of what is expected next, and the tests that decide them.
use Rattle.std.proofs.Common.{◌≡◌, ℕ, ℤ, Bool, true, false, cond, ◌&&◌, ◌||◌, Option, Some, None, Result, Ok, Err, List, [], ◌∷◌, ◌++◌, refl, sym, ap, ◌∙◌}
use Rattle.std.specs.Prelude.{codes, ◌-◌, length, nat_le, nat_lt, not}
use Rattle.decimal.specs.declared.Decimal.{Decimal}
use Rattle.term_model.specs.Dates.{epoch_day_of}
use Rattle.term_model.specs.Limits.{is_origin}
use Rattle.contract_grammar.specs.Tokens.{Tok}
use Rattle.contract_grammar.specs.Words.{Bytes, is_date, is_end, is_integer, is_name, is_number, is_the_mark, is_the_word}
use Rattle.contract_grammar.specs.Versions.{Version, One, Two}
use Rattle.contract_grammar.specs.Sums.{Tally, item_at, with_number, with_use}
use Rattle.contract_grammar.specs.Names.{index_in, is_declared}
use Rattle.decimal.specs.Mantissas.{decimal_of}
use Rattle.contract_grammar.specs.Judgements.{above_limited, binder_at, bound_at, counted, date_number_at, days_at, integer_at, is_version, literal_at, mode_at, named, new_at, offset_at, operator_at, or_fault, origin_at, signed_decimal, signed_result, up_to, use_at, whole, widened}
use Rattle.contract_parse.specs.Forms.{Part, Terminal, Nonterminal, Optional, Repeated, Form}
use Rattle.contract_parse.specs.Fronts.{Declared, Symbol, Declaration, Versioned, ContractLine, Contract, Amount, Expression, FurtherTemplate, FurtherItem, a_count, a_date, a_mode, a_name, a_number, a_signed_integer, an_integer, an_operator, is_one_of, lines_form, mode_words, operator_marks, text_forms, the_mark, the_word}
use Rattle.contract_parse.specs.Expecting.{Expected, TheWord, TheMark, TheVersion, TextVersion, TheEnd, IntegerAt, AmountsAt, OriginDate, OriginLine, StartLine, NameLines, AssetLines, LabelLines, TemplateLines, ContractLines, NewIn, MoreNames, DecimalsAt, MoreAssets, ScaleAt, BoundAt, BoundNumber, UseOf, OffsetAt, OffsetNumber, LiteralNumber, DaysAt, ModeAt, OperatorAt, DateAt, DateNumber, MoreTemplates, BinderAt, ExprAt, ContrAt, AmountAt, AnyTokens, ItemAt, MoreItems}
use Rattle.contract_grammar.specs.declared.names.NameSet.{NameSet}
use Rattle.contract_grammar.specs.declared.names.NameSet.TheVariants.{Party, Asset, Label, Template, Contract as ContractSet}
use Rattle.contract_grammar.specs.declared.terms.Language.{Language}
use Rattle.contract_parse.specs.declared.heads.Binder.TheVariants as binder
use Rattle.contract_grammar.specs.declared.faults.TextKind.{TextKind}
use Rattle.contract_grammar.specs.declared.faults.TextKind.TheVariants.{Syntax, Number, Date, Deep, Range, Twice, Unknown, Utf8}
use Rattle.contract_grammar.specs.declared.token.LexemeKind.TheVariants as token
use Rattle.contract_parse.proofs.FrontTakes.{Bars, barred}

abbrev pub an_expression : Language → Part Symbol
an_expression l = Nonterminal (Expression l)

-- a contract, or an amount of payoff code
abbrev pub a_term : Language → Version → Part Symbol
a_term Language.Contracts v = Nonterminal (Contract v)
a_term Language.Code v = Nonterminal Amount

abbrev pub a_bound : Part Symbol
a_bound = Nonterminal (Declaration Declared.Bound)

-- what is behind a bound of a label
abbrev pub behind_bound : Option ℤ → Form Symbol
behind_bound None = the_mark (codes "..") ∷ a_bound ∷ []
behind_bound (Some low) = []

-- the lines of a set of names
abbrev pub names_of_set : NameSet → Form Symbol
names_of_set Party = Repeated (Declaration Declared.PartyLine) ∷ []
names_of_set Asset = []
names_of_set Label = []
names_of_set Template = []
names_of_set ContractSet = []

abbrev pub parts_of : Expected → Form Symbol
parts_of (TheWord w) = the_word w ∷ []
parts_of (TheMark m) = the_mark m ∷ []
parts_of TheVersion = Terminal is_version ∷ []
parts_of TextVersion = Nonterminal Versioned ∷ []
parts_of TheEnd = Terminal is_end ∷ []
parts_of (IntegerAt most) = an_integer ∷ []
parts_of (AmountsAt v) = an_integer ∷ the_mark (codes ";") ∷ lines_form v []
parts_of OriginDate = a_date ∷ []
parts_of OriginLine = Optional (Declaration Declared.OriginLine) ∷ []
parts_of StartLine = Optional (Declaration Declared.StartLine) ∷ []
parts_of (NameLines w set) = names_of_set set
parts_of (AssetLines v amounts) = Repeated (Declaration (Declared.AssetLine v)) ∷ []
parts_of LabelLines = Repeated (Declaration Declared.LabelLine) ∷ []
parts_of TemplateLines = Repeated (Declaration Declared.TemplateLine) ∷ []
parts_of (ContractLines v) = Repeated (ContractLine v) ∷ []
parts_of (NewIn set) = a_name ∷ []
parts_of (MoreNames set) = Repeated (Declaration Declared.FurtherName) ∷ the_mark (codes ";") ∷ []
parts_of (DecimalsAt One amounts) = []
parts_of (DecimalsAt Two amounts) = Optional (Declaration Declared.Decimals) ∷ []
parts_of (MoreAssets v amounts) = Repeated (Declaration (Declared.FurtherAsset v)) ∷ the_mark (codes ";") ∷ []
parts_of ScaleAt = an_integer ∷ the_word (codes "in") ∷ a_bound ∷ the_mark (codes "..") ∷ a_bound ∷ []
parts_of (BoundAt scale low) = a_bound ∷ behind_bound low
parts_of (BoundNumber negative scale low) = a_number ∷ behind_bound low
parts_of (UseOf names) = a_name ∷ []
parts_of OffsetAt = a_signed_integer ∷ []
parts_of (OffsetNumber negative) = an_integer ∷ []
parts_of (LiteralNumber negative) = a_number ∷ []
parts_of (DaysAt One templates) = a_count ∷ []
parts_of (DaysAt Two templates) = a_count ∷ Repeated FurtherItem ∷ []
parts_of (ItemAt templates before) = a_count ∷ Repeated FurtherItem ∷ []
parts_of (MoreItems templates before) = Repeated FurtherItem ∷ []
parts_of ModeAt = a_mode ∷ []
parts_of OperatorAt = an_operator ∷ []
parts_of (BinderAt binder.Let language v depth names) = a_name ∷ the_mark (codes "=") ∷ an_expression language ∷ the_word (codes "in") ∷ a_term language v ∷ []
parts_of (BinderAt binder.Acc language v depth names) = a_name ∷ the_mark (codes ",") ∷ an_expression language ∷ the_mark (codes ",") ∷ an_integer ∷ the_mark (codes ",") ∷ an_expression language ∷ the_mark (codes ")") ∷ []
parts_of (ExprAt language depth names) = an_expression language ∷ []
parts_of (ContrAt v depth names) = Nonterminal (Contract v) ∷ []
parts_of (AmountAt depth names) = Nonterminal Amount ∷ []
parts_of DateAt = a_signed_integer ∷ []
parts_of (DateNumber negative) = an_integer ∷ []
parts_of MoreTemplates = Repeated FurtherTemplate ∷ []
parts_of AnyTokens = []

abbrev pub all_parts : List Expected → Form Symbol
all_parts [] = []
all_parts (p ∷ ps) = parts_of p ++ all_parts ps

-- lines that begin with this word end where another part may begin with it
abbrev pub Ends : Bytes → List Expected → Type 0
Ends w ps = (t : Tok) → is_the_word w t ≡ true → Bars text_forms (all_parts ps) t

-- templates and items end where another part may begin with a plus
abbrev pub EndsDate : List Expected → Type 0
EndsDate ps = (t : Tok) → is_the_mark (codes "+") t ≡ true → Bars text_forms (all_parts ps) t

abbrev pub IsWordOf : Bytes → NameSet → Type 0
IsWordOf w Party = w ≡ codes "party"
IsWordOf w Asset = ⊥
IsWordOf w Label = ⊥
IsWordOf w Template = ⊥
IsWordOf w ContractSet = ⊥

-- an asset ends where another part may begin with a colon
abbrev pub EndsDecimals : List Expected → Type 0
EndsDecimals ps = (t : Tok) → is_the_mark (codes ":") t ≡ true → Bars text_forms (all_parts ps) t

-- no front of what is expected begins with this word
abbrev pub IsNoWordOf : List Expected → Bytes → Type 0
IsNoWordOf ps w = (left : ℕ) → barred text_forms (all_parts ps) (record { kind = token.Word; text = w; left = left }) ≡ true

-- nor with any that begins a line of declarations
pub record EndsLines (ps : List Expected) : Type 0 where
  pub origin : IsNoWordOf ps (codes "origin")
  pub start : IsNoWordOf ps (codes "start")
  pub party : IsNoWordOf ps (codes "party")
  pub asset : IsNoWordOf ps (codes "asset")
  pub num : IsNoWordOf ps (codes "num")
  pub flag : IsNoWordOf ps (codes "flag")
  pub template : IsNoWordOf ps (codes "template")

-- at each thing that is expected the next token decides the form
abbrev pub Decided : List Expected → Type 0
Decided [] = Unit {0}
Decided (AnyTokens ∷ ps) = ⊥
Decided (OriginLine ∷ ps) = Ends (codes "origin") ps × Decided ps
Decided (StartLine ∷ ps) = Ends (codes "start") ps × Decided ps
Decided (NameLines w set ∷ ps) = IsWordOf w set × Ends w ps × Decided ps
Decided (LabelLines ∷ ps) = Ends (codes "num") ps × Ends (codes "flag") ps × Decided ps
Decided (TemplateLines ∷ ps) = Ends (codes "template") ps × Decided ps
Decided (AssetLines v amounts ∷ ps) = Ends (codes "asset") ps × Decided ps
Decided (DecimalsAt Two amounts ∷ ps) = EndsDecimals ps × Decided ps
Decided (AmountsAt v ∷ ps) = EndsLines ps × Decided ps
Decided (TextVersion ∷ ps) = ((v : Version) → EndsLines (ContractLines v ∷ ps)) × Ends (codes "contract") ps × Decided ps
Decided (ContractLines v ∷ ps) = Ends (codes "contract") ps × Decided ps
Decided (DaysAt Two templates ∷ ps) = EndsDate ps × Decided ps
Decided (ItemAt templates before ∷ ps) = EndsDate ps × Decided ps
Decided (MoreItems templates before ∷ ps) = EndsDate ps × Decided ps
Decided (MoreTemplates ∷ ps) = EndsDate ps × Decided ps
Decided (p ∷ ps) = Decided ps

-- ---- a judgement is Syntax just where the token is not of the form

abbrev pub is_form_fault : TextKind → Bool
is_form_fault Syntax = true
is_form_fault Number = false
is_form_fault Date = false
is_form_fault Deep = false
is_form_fault Range = false
is_form_fault Twice = false
is_form_fault Unknown = false
is_form_fault Utf8 = false

-- the token is of the form, whatever its value
abbrev pub formed : {X : Type 0} → Result X TextKind → Bool
formed (Ok x) = true
formed (Err kind) = not (is_form_fault kind)

-- under a test
if_formed : {X : Type 0} (b : Bool) (r : Result X TextKind) → formed r ≡ true → b ≡ formed (cond b r (Err Syntax))
if_formed true r ok = sym ok
if_formed false r ok = refl

fault_formed : {X : Type 0} (k : TextKind) (o : Option X) → is_form_fault k ≡ false → formed (or_fault k o) ≡ true
fault_formed k None other = ap not other
fault_formed k (Some x) other = refl

pub integer_formed : (most : ℕ) (t : Tok) → is_integer t ≡ formed (integer_at most t)
integer_formed most t = if_formed (is_integer t) _ (fault_formed Number (up_to most (whole t)) refl)

signed_formed : (negative : Bool) (r : Result ℕ TextKind) → formed r ≡ formed (signed_result negative r)
signed_formed negative (Ok n) = refl
signed_formed negative (Err k) = refl

pub offset_formed : (negative : Bool) (t : Tok) → is_integer t ≡ formed (offset_at negative t)
offset_formed negative t = integer_formed 1_000_000 t ∙ signed_formed negative (integer_at 1_000_000 t)

pub date_number_formed : (negative : Bool) (t : Tok) → is_integer t ≡ formed (date_number_at negative t)
date_number_formed negative t = integer_formed 2_000_000 t ∙ signed_formed negative (integer_at 2_000_000 t)

decimal_formed : (negative : Bool) (o : Option Decimal) → formed (signed_decimal negative o) ≡ true
decimal_formed negative None = refl
decimal_formed negative (Some d) = refl

pub literal_formed : (negative : Bool) (t : Tok) → is_number t ≡ formed (literal_at negative t)
literal_formed negative t = if_formed (is_number t) _ (decimal_formed negative (decimal_of t.text))

order_formed : (b : Bool) (m : ℤ) → formed (cond b (Err Range) (Ok m)) ≡ true
order_formed true m = refl
order_formed false m = refl

above_formed : (low m : Option ℤ) → formed (above_limited low m) ≡ true
above_formed low None = refl
above_formed None (Some m) = refl
above_formed (Some l) (Some m) = order_formed _ m

scale_formed : (b : Bool) (r : Result ℤ TextKind) → formed r ≡ true → formed (cond b (Err Range) r) ≡ true
scale_formed true r ok = refl
scale_formed false r ok = ok

widened_formed : (scale : ℕ) (low : Option ℤ) (r : Result Decimal TextKind) → formed r ≡ formed (widened scale low r)
widened_formed scale low (Err k) = refl
widened_formed scale low (Ok d) = sym (scale_formed (nat_lt scale d.scale) _ (above_formed low _))

pub bound_formed : (negative : Bool) (scale : ℕ) (low : Option ℤ) (t : Tok) → is_number t ≡ formed (bound_at negative scale low t)
bound_formed negative scale low t = literal_formed negative t ∙ widened_formed scale low (literal_at negative t)

day_formed : (b : Bool) (day : Option ℤ) → formed (cond b (or_fault Date day) (Err Date)) ≡ true
day_formed true day = fault_formed Date day refl
day_formed false day = refl

pub origin_formed : (t : Tok) → is_date t ≡ formed (origin_at t)
origin_formed t = if_formed (is_date t) _ (day_formed (is_origin (epoch_day_of t.text)) (epoch_day_of t.text))

pub binder_formed : (t : Tok) → is_name t ≡ formed (binder_at t)
binder_formed t = if_formed (is_name t) (Ok t.text) refl

twice_formed : (b : Bool) (text : Bytes) → formed (cond b (Err Twice) (Ok text)) ≡ true
twice_formed true text = refl
twice_formed false text = refl

pub new_formed : (names : List Bytes) (t : Tok) → is_name t ≡ formed (new_at names t)
new_formed names t = if_formed (is_name t) _ (twice_formed (is_declared names t.text) t.text)

pub use_formed : (names : List Bytes) (t : Tok) → is_name t ≡ formed (use_at names t)
use_formed names t = if_formed (is_name t) _ (fault_formed Unknown (index_in names t.text) refl)

count_formed : (o : Option ℕ) → formed (counted o) ≡ true
count_formed None = refl
count_formed (Some n) = refl

named_formed : (r : Result ℕ TextKind) → formed r ≡ formed (named r)
named_formed (Ok i) = refl
named_formed (Err k) = refl

days_by : {X : Type 0} (a b : Bool) (r s : Result X TextKind) → formed r ≡ true → b ≡ formed s → (a || b) ≡ formed (cond a r s)
days_by true b r s ok other = sym ok
days_by false b r s ok other = other

pub days_formed : (templates : List Bytes) (t : Tok) → (is_integer t || is_name t) ≡ formed (days_at templates t)
days_formed templates t = days_by (is_integer t) (is_name t) _ _ (count_formed (up_to 100_000 (whole t))) (use_formed templates t ∙ named_formed (use_at templates t))

number_formed : (p : Tally) (o : Option ℕ) → formed (with_number p o) ≡ true
number_formed p None = refl
number_formed p (Some n) = refl

name_formed : (p : Tally) (r : Result ℕ TextKind) → formed r ≡ formed (with_use p r)
name_formed p (Ok i) = refl
name_formed p (Err k) = refl

-- under a test that asks for the form
limit_formed : {X : Type 0} (a b : Bool) (r : Result X TextKind) → a ≡ formed r → a ≡ formed (cond (a && b) (Err Number) r)
limit_formed true true r is = refl
limit_formed true false r is = is
limit_formed false b r is = is

pub item_formed : (templates : List Bytes) (p : Tally) (t : Tok) → (is_integer t || is_name t) ≡ formed (item_at templates p t)
item_formed templates p t =
    days_by (is_integer t) (is_name t) _ _ (number_formed p (up_to (100_000 - p.number) (whole t)))
    (limit_formed (is_name t) (nat_le 4 (length p.names)) _ (use_formed templates t ∙ name_formed p (use_at templates t)))

one_formed : {X : Type 0} (a b : Bool) (x : X) (r : Result X TextKind) → b ≡ formed r → (a || b) ≡ formed (cond a (Ok x) r)
one_formed true b x r other = refl
one_formed false b x r other = other

pub mode_formed : (t : Tok) → is_one_of mode_words is_the_word t ≡ formed (mode_at t)
mode_formed t =
    one_formed (is_the_word (codes "half_even") t) _ _ _ (
    one_formed (is_the_word (codes "half_away") t) _ _ _ (
    one_formed (is_the_word (codes "floor") t) _ _ _ (
    one_formed (is_the_word (codes "ceil") t) _ _ _ refl)))

pub operator_formed : (t : Tok) → is_one_of operator_marks is_the_mark t ≡ formed (operator_at t)
operator_formed t =
    one_formed (is_the_mark (codes "+") t) _ _ _ (
    one_formed (is_the_mark (codes "-") t) _ _ _ (
    one_formed (is_the_mark (codes "*") t) _ _ _ (
    one_formed (is_the_mark (codes "<") t) _ _ _ (
    one_formed (is_the_mark (codes "<=") t) _ _ _ (
    one_formed (is_the_mark (codes ">") t) _ _ _ (
    one_formed (is_the_mark (codes ">=") t) _ _ _ (
    one_formed (is_the_mark (codes "=") t) _ _ _ (
    one_formed (is_the_mark (codes "!=") t) _ _ _ (
    one_formed (is_the_mark (codes "&") t) _ _ _ (
    one_formed (is_the_mark (codes "|") t) _ _ _ refl))))))))))
