-- Where tokens may stand. A stack says what the grammar expects to stand next. Each token is what is expected first, and
-- leaves what is expected behind it, or it is at fault. The next token decides the form; optional and repeated parts may
-- be absent. A list of tokens over which nothing is refused is a front of the text.
use Rattle.std.specs.Prelude.{◌≡◌, ℕ, ℤ, ◌+◌, Bool, true, false, List, [], ◌∷◌, ◌++◌, Option, Some, None, Result, Ok, Err, codes, if◌then◌else◌}
use Rattle.contract_grammar.specs.Tokens.{Tok}
use Rattle.contract_grammar.specs.Words.{Bytes, is_the_word, is_the_mark, is_end}
use Rattle.contract_grammar.specs.Versions.{Version, One, Two}
use Rattle.contract_grammar.specs.Names.{DeclaredNames, names_of, with_names}
use Rattle.contract_grammar.specs.Judgements.{binder_at, bound_at, date_number_at, days_at, integer_at, is_the_version, is_version, literal_at, mode_at, new_at, offset_at, operator_at, origin_at, separator_at, use_at}
use Rattle.contract_grammar.specs.Sums.{Tally, item_at, no_items}
use Rattle.contract_parse.specs.Heads.{Beginning, OfNumber, OfName, OfForm, amount_head_at, first_at, head_at}
use Rattle.contract_grammar.specs.declared.names.NameSet.{NameSet}
use Rattle.contract_grammar.specs.declared.names.NameSet.TheVariants.{Party, Asset, Label, Template, Contract}
use Rattle.contract_grammar.specs.declared.terms.Language.{Language}
use Rattle.contract_parse.specs.declared.heads.First.{First}
use Rattle.contract_parse.specs.declared.heads.Head.{Head}
use Rattle.contract_parse.specs.declared.heads.AmountHead.{AmountHead}
use Rattle.contract_parse.specs.declared.heads.Binder.{Binder}
use Rattle.contract_parse.specs.declared.heads.Binder.TheVariants as binder
use Rattle.contract_grammar.specs.declared.faults.TextKind.{TextKind}
use Rattle.contract_grammar.specs.declared.faults.TextKind.TheVariants.{Syntax}
use Rattle.contract_parse.specs.declared.faults.PartErr.{PartErr}
use Rattle.contract_parse.specs.declared.faults.PartErr.TheVariants.{Refused, NoMemory}

pub data Expected : Type 0 where
  TheWord : (w : Bytes) → Expected
  TheMark : (m : Bytes) → Expected
  TheVersion : Expected
  -- the version of a portfolio's text, which decides what stands behind it
  TextVersion : Expected
  TheEnd : Expected
  -- a number without a point, of at most this
  IntegerAt : (most : ℕ) → Expected
  -- the decimals of amounts, which limit those of assets
  AmountsAt : (version : Version) → Expected
  OriginDate : Expected
  -- the declarations' lines that may stand here
  OriginLine : Expected
  StartLine : Expected
  NameLines : (w : Bytes) (set : NameSet) → Expected
  AssetLines : (version : Version) (amounts : ℕ) → Expected
  LabelLines : Expected
  TemplateLines : Expected
  ContractLines : (version : Version) → Expected
  -- a new name, and what follows it in a list
  NewIn : (set : NameSet) → Expected
  MoreNames : (set : NameSet) → Expected
  -- the decimals of an asset, and what follows it in its list
  DecimalsAt : (version : Version) (amounts : ℕ) → Expected
  MoreAssets : (version : Version) (amounts : ℕ) → Expected
  -- a label's scale, its lower bound, and its upper bound above that
  ScaleAt : Expected
  BoundAt : (scale : ℕ) (low : Option ℤ) → Expected
  BoundNumber : (negative : Bool) (scale : ℕ) (low : Option ℤ) → Expected
  -- parts of terms
  UseOf : (names : List Bytes) → Expected
  OffsetAt : Expected
  OffsetNumber : (negative : Bool) → Expected
  LiteralNumber : (negative : Bool) → Expected
  DaysAt : (version : Version) (templates : List Bytes) → Expected
  -- an item of a day sum, and further ones, behind the items so far
  ItemAt : (templates : List Bytes) (before : Tally) → Expected
  MoreItems : (templates : List Bytes) (before : Tally) → Expected
  ModeAt : Expected
  OperatorAt : Expected
  -- a date of payoff code: its number, and templates behind it
  DateAt : Expected
  DateNumber : (negative : Bool) → Expected
  MoreTemplates : Expected
  BinderAt : (binder : Binder) (language : Language) (version : Version) (depth : ℕ) (names : List Bytes) → Expected
  -- a term of a depth under bound names
  ExprAt : (language : Language) (depth : ℕ) (names : List Bytes) → Expected
  ContrAt : (version : Version) (depth : ℕ) (names : List Bytes) → Expected
  AmountAt : (depth : ℕ) (names : List Bytes) → Expected
  -- what another grammar reads: it takes any token
  AnyTokens : Expected

-- a token goes on to what is expected then, or is at fault
pub data Step : Type 0 where
  Next : (declared : DeclaredNames) (expected : List Expected) → Step
  Refuse : (kind : TextKind) → Step

abbrev pub judged : {X : Type 0} → Result X TextKind → (X → Step) → Step
judged (Ok x) next = next x
judged (Err kind) next = Refuse kind

-- what follows the scale of a label
abbrev pub range_expected : ℕ → List Expected → List Expected
range_expected scale ps = TheWord (codes "in") ∷ BoundAt scale None ∷ ps

-- what follows a bound of a label
abbrev pub bound_expected : ℕ → Option ℤ → ℤ → List Expected → List Expected
bound_expected scale None m ps = TheMark (codes "..") ∷ BoundAt scale (Some m) ∷ ps
bound_expected scale (Some low) m ps = ps

-- what follows an asset
abbrev pub asset_expected : Version → ℕ → Bool → List Expected → List Expected
asset_expected v amounts true ps = NewIn Asset ∷ DecimalsAt v amounts ∷ MoreAssets v amounts ∷ ps
asset_expected v amounts false ps = ps

abbrev pub list_expected : NameSet → Bool → List Expected → List Expected
list_expected set true ps = NewIn set ∷ MoreNames set ∷ ps
list_expected set false ps = ps

-- what stands in a `let` behind its expression: a contract, or an amount of payoff code
abbrev pub term_at : Language → Version → ℕ → List Bytes → Expected
term_at Language.Contracts v d names = ContrAt v d names
term_at Language.Code v d names = AmountAt d names

-- what follows a name that is bound
abbrev pub binder_expected : Binder → Language → Version → ℕ → List Bytes → Bytes → List Expected → List Expected
binder_expected binder.Let l v d names name ps =
    TheMark (codes "=") ∷ ExprAt l (d + 1) names ∷ TheWord (codes "in") ∷ term_at l v (d + 1) (name ∷ names) ∷ ps
binder_expected binder.Acc l v d names name ps =
    TheMark (codes ",") ∷ ExprAt l (d + 1) (name ∷ names) ∷ TheMark (codes ",") ∷ IntegerAt 100_000 ∷ TheMark (codes ",")
    ∷ ExprAt l (d + 1) names ∷ TheMark (codes ")") ∷ ps

abbrev pub date_expected : List Expected → List Expected
date_expected ps = DateAt ∷ MoreTemplates ∷ ps

-- one term, and two, in parentheses
abbrev pub operand_expected : Expected → List Expected → List Expected
operand_expected p ps = TheMark (codes "(") ∷ p ∷ TheMark (codes ")") ∷ ps

abbrev pub pair_expected : Expected → Expected → List Expected → List Expected
pair_expected p q ps = TheMark (codes "(") ∷ p ∷ TheMark (codes ",") ∷ q ∷ TheMark (codes ")") ∷ ps

-- what follows the word that reads an observable
abbrev pub leaf_expected : DeclaredNames → Language → List Expected → List Expected
leaf_expected s Language.Contracts ps = pair_expected (UseOf s.labels) OffsetAt ps
leaf_expected s Language.Code ps = TheMark (codes "(") ∷ UseOf s.labels ∷ TheMark (codes ",") ∷ date_expected (TheMark (codes ")") ∷ ps)

-- what follows the word or mark of a form of expressions
abbrev pub form_expected : DeclaredNames → Language → ℕ → List Bytes → First → List Expected → List Expected
form_expected s l d names First.True ps = ps
form_expected s l d names First.False ps = ps
form_expected s l d names First.Minus ps = LiteralNumber true ∷ ps
form_expected s l d names First.Open ps = ExprAt l (d + 1) names ∷ OperatorAt ∷ ExprAt l (d + 1) names ∷ TheMark (codes ")") ∷ ps
form_expected s l d names First.Obs ps = leaf_expected s l ps
form_expected s l d names First.Neg ps = operand_expected (ExprAt l (d + 1) names) ps
form_expected s l d names First.Not ps = operand_expected (ExprAt l (d + 1) names) ps
form_expected s l d names First.Min ps = pair_expected (ExprAt l (d + 1) names) (ExprAt l (d + 1) names) ps
form_expected s l d names First.Max ps = pair_expected (ExprAt l (d + 1) names) (ExprAt l (d + 1) names) ps
form_expected s l d names First.If ps =
    TheMark (codes "(") ∷ ExprAt l (d + 1) names ∷ TheMark (codes ",") ∷ ExprAt l (d + 1) names ∷ TheMark (codes ",")
    ∷ ExprAt l (d + 1) names ∷ TheMark (codes ")") ∷ ps
form_expected s l d names First.Widen ps = pair_expected (IntegerAt 27) (ExprAt l (d + 1) names) ps
form_expected s l d names First.Round ps =
    TheMark (codes "(") ∷ ModeAt ∷ TheMark (codes ",") ∷ IntegerAt 27 ∷ TheMark (codes ",")
    ∷ ExprAt l (d + 1) names ∷ TheMark (codes ")") ∷ ps
form_expected s l d names First.Div ps =
    TheMark (codes "(") ∷ ModeAt ∷ TheMark (codes ",") ∷ IntegerAt 27 ∷ TheMark (codes ",") ∷ ExprAt l (d + 1) names ∷ TheMark (codes ",")
    ∷ ExprAt l (d + 1) names ∷ TheMark (codes ")") ∷ ps
form_expected s l d names First.Acc ps = TheMark (codes "(") ∷ BinderAt binder.Acc l One d names ∷ ps

-- what follows what an expression begins with
abbrev pub expr_expected : DeclaredNames → Language → ℕ → List Bytes → Beginning → List Expected → List Expected
expr_expected s l d names (OfNumber number) ps = ps
expr_expected s l d names (OfName back) ps = ps
expr_expected s l d names (OfForm first) ps = form_expected s l d names first ps

-- what follows the first token of a contract
abbrev pub contr_expected : DeclaredNames → Version → ℕ → List Bytes → Head → List Expected → List Expected
contr_expected s v d names Head.Zero ps = ps
contr_expected s v d names Head.Pay ps =
    TheMark (codes "(") ∷ UseOf s.assets ∷ TheMark (codes ",") ∷ UseOf s.parties ∷ TheMark (codes ",") ∷ UseOf s.parties
    ∷ TheMark (codes ")") ∷ ps
contr_expected s v d names Head.Both ps = pair_expected (ContrAt v (d + 1) names) (ContrAt v (d + 1) names) ps
contr_expected s v d names Head.Scale ps = pair_expected (ExprAt Language.Contracts (d + 1) names) (ContrAt v (d + 1) names) ps
contr_expected s v d names Head.After ps = pair_expected (DaysAt v s.templates) (ContrAt v (d + 1) names) ps
contr_expected s v d names Head.Let ps = BinderAt binder.Let Language.Contracts v d names ∷ ps
contr_expected s v d names Head.If ps =
    ExprAt Language.Contracts (d + 1) names ∷ TheWord (codes "within") ∷ DaysAt v s.templates ∷ TheWord (codes "then")
    ∷ ContrAt v (d + 1) names ∷ TheWord (codes "else") ∷ ContrAt v (d + 1) names ∷ ps

-- what follows the first token of an amount of payoff code
abbrev pub amount_expected : DeclaredNames → ℕ → List Bytes → AmountHead → List Expected → List Expected
amount_expected s d names AmountHead.None ps = ps
amount_expected s d names AmountHead.Pay ps =
    TheMark (codes "(") ∷ date_expected
    (TheMark (codes ",") ∷ UseOf s.assets ∷ TheMark (codes ",") ∷ UseOf s.parties ∷ TheMark (codes ",") ∷ UseOf s.parties
    ∷ TheMark (codes ")") ∷ ps)
amount_expected s d names AmountHead.Add ps = pair_expected (AmountAt (d + 1) names) (AmountAt (d + 1) names) ps
amount_expected s d names AmountHead.Scale ps = pair_expected (ExprAt Language.Code (d + 1) names) (AmountAt (d + 1) names) ps
amount_expected s d names AmountHead.Let ps = BinderAt binder.Let Language.Code One d names ∷ ps
amount_expected s d names AmountHead.Loop ps =
    ExprAt Language.Code (d + 1) names ∷ TheWord (codes "upto")
    ∷ date_expected (TheWord (codes "then") ∷ AmountAt (d + 1) names ∷ TheWord (codes "else") ∷ AmountAt (d + 1) names ∷ ps)
amount_expected s d names AmountHead.Cut ps =
    TheMark (codes "(") ∷ date_expected (TheMark (codes ",") ∷ AmountAt (d + 1) names ∷ TheMark (codes ")") ∷ ps)

-- the lines of declarations
abbrev pub number_label_expected : List Expected → List Expected
number_label_expected ps = NewIn Label ∷ TheMark (codes ":") ∷ ScaleAt ∷ TheMark (codes ";") ∷ ps

abbrev pub flag_expected : List Expected → List Expected
flag_expected ps = NewIn Label ∷ TheMark (codes ";") ∷ ps

abbrev pub template_expected : List Expected → List Expected
template_expected ps = NewIn Template ∷ TheMark (codes "=") ∷ IntegerAt 100_000 ∷ TheMark (codes ";") ∷ ps

abbrev pub contract_expected : Version → List Expected → List Expected
contract_expected v ps = NewIn Contract ∷ TheMark (codes "=") ∷ ContrAt v 1 [] ∷ TheMark (codes ";") ∷ ps

-- what is expected of declarations: the lines of parties and all behind them, all lines, and the whole
abbrev pub owner_expected : Version → ℕ → List Expected → List Expected
owner_expected v amounts ps = NameLines (codes "party") Party ∷ AssetLines v amounts ∷ LabelLines ∷ TemplateLines ∷ ps

abbrev pub line_expected : Version → ℕ → List Expected → List Expected
line_expected v amounts ps = OriginLine ∷ StartLine ∷ owner_expected v amounts ps

abbrev pub decls_expected : Version → List Expected → List Expected
decls_expected v ps = TheWord (codes "amounts") ∷ AmountsAt v ∷ ps

-- what follows the version of a portfolio's text
abbrev pub version_expected : Version → List Expected → List Expected
version_expected v ps = TheMark (codes ";") ∷ decls_expected v (ContractLines v ∷ ps)

abbrev pub step : DeclaredNames → List Expected → Tok → Step
step s [] t = Refuse Syntax
step s (TheWord w ∷ ps) t = if is_the_word w t then Next s ps else Refuse Syntax
step s (TheMark m ∷ ps) t = if is_the_mark m t then Next s ps else Refuse Syntax
step s (TheVersion ∷ ps) t = if is_version t then Next s ps else Refuse Syntax
step s (TextVersion ∷ ps) t =
    if is_the_version 1 t then Next (record s { version = One }) (version_expected One ps)
    else if is_the_version 2 t then Next (record s { version = Two }) (version_expected Two ps)
    else Refuse Syntax
step s (TheEnd ∷ ps) t = if is_end t then Next s ps else Refuse Syntax
step s (IntegerAt most ∷ ps) t = judged (integer_at most t) (λ n. Next s ps)
step s (AmountsAt v ∷ ps) t = judged (integer_at 12 t) (λ amounts. Next s (TheMark (codes ";") ∷ line_expected v amounts ps))
step s (OriginDate ∷ ps) t = judged (origin_at t) (λ day. Next s ps)
step s (OriginLine ∷ ps) t = if is_the_word (codes "origin") t then Next s (OriginDate ∷ TheMark (codes ";") ∷ ps) else step s ps t
step s (StartLine ∷ ps) t = if is_the_word (codes "start") t then Next s (IntegerAt 1_000_000 ∷ TheMark (codes ";") ∷ ps) else step s ps t
step s (NameLines w set ∷ ps) t = if is_the_word w t then Next s (NewIn set ∷ MoreNames set ∷ NameLines w set ∷ ps) else step s ps t
step s (AssetLines v amounts ∷ ps) t =
    if is_the_word (codes "asset") t then Next s (asset_expected v amounts true (AssetLines v amounts ∷ ps)) else step s ps t
step s (LabelLines ∷ ps) t =
    if is_the_word (codes "num") t then Next s (number_label_expected (LabelLines ∷ ps))
    else if is_the_word (codes "flag") t then Next s (flag_expected (LabelLines ∷ ps))
    else step s ps t
step s (TemplateLines ∷ ps) t = if is_the_word (codes "template") t then Next s (template_expected (TemplateLines ∷ ps)) else step s ps t
step s (ContractLines v ∷ ps) t = if is_the_word (codes "contract") t then Next s (contract_expected v (ContractLines v ∷ ps)) else step s ps t
step s (NewIn set ∷ ps) t = judged (new_at (names_of set s) t) (λ name. Next (with_names set (names_of set s ++ name ∷ []) s) ps)
step s (MoreNames set ∷ ps) t = judged (separator_at t) (λ comma. Next s (list_expected set comma ps))
step s (DecimalsAt One amounts ∷ ps) t = step s ps t
step s (DecimalsAt Two amounts ∷ ps) t = if is_the_mark (codes ":") t then Next s (IntegerAt amounts ∷ ps) else step s ps t
step s (MoreAssets v amounts ∷ ps) t = judged (separator_at t) (λ comma. Next s (asset_expected v amounts comma ps))
step s (ScaleAt ∷ ps) t = judged (integer_at 18 t) (λ scale. Next s (range_expected scale ps))
step s (BoundAt scale low ∷ ps) t =
    if is_the_mark (codes "-") t then Next s (BoundNumber true scale low ∷ ps)
    else judged (bound_at false scale low t) (λ m. Next s (bound_expected scale low m ps))
step s (BoundNumber negative scale low ∷ ps) t = judged (bound_at negative scale low t) (λ m. Next s (bound_expected scale low m ps))
step s (UseOf names ∷ ps) t = judged (use_at names t) (λ i. Next s ps)
step s (OffsetAt ∷ ps) t =
    if is_the_mark (codes "-") t then Next s (OffsetNumber true ∷ ps) else judged (offset_at false t) (λ n. Next s ps)
step s (OffsetNumber negative ∷ ps) t = judged (offset_at negative t) (λ n. Next s ps)
step s (LiteralNumber negative ∷ ps) t = judged (literal_at negative t) (λ d. Next s ps)
step s (DaysAt One templates ∷ ps) t = judged (days_at templates t) (λ d. Next s ps)
step s (DaysAt Two templates ∷ ps) t = judged (item_at templates no_items t) (λ tally. Next s (MoreItems templates tally ∷ ps))
step s (ItemAt templates before ∷ ps) t = judged (item_at templates before t) (λ tally. Next s (MoreItems templates tally ∷ ps))
step s (MoreItems templates before ∷ ps) t = if is_the_mark (codes "+") t then Next s (ItemAt templates before ∷ ps) else step s ps t
step s (ModeAt ∷ ps) t = judged (mode_at t) (λ m. Next s ps)
step s (OperatorAt ∷ ps) t = judged (operator_at t) (λ op. Next s ps)
step s (DateAt ∷ ps) t =
    if is_the_mark (codes "-") t then Next s (DateNumber true ∷ ps) else judged (date_number_at false t) (λ n. Next s ps)
step s (DateNumber negative ∷ ps) t = judged (date_number_at negative t) (λ n. Next s ps)
step s (MoreTemplates ∷ ps) t = if is_the_mark (codes "+") t then Next s (UseOf s.templates ∷ MoreTemplates ∷ ps) else step s ps t
step s (BinderAt binder l v d names ∷ ps) t = judged (binder_at t) (λ name. Next s (binder_expected binder l v d names name ps))
step s (ExprAt l d names ∷ ps) t = judged (first_at l d names t) (λ first. Next s (expr_expected s l d names first ps))
step s (ContrAt v d names ∷ ps) t = judged (head_at d t) (λ head. Next s (contr_expected s v d names head ps))
step s (AmountAt d names ∷ ps) t = judged (amount_head_at d t) (λ head. Next s (amount_expected s d names head ps))
step s (AnyTokens ∷ ps) t = Next s (AnyTokens ∷ ps)

-- what is still expected, or the first fault and how many bytes are left where its token begins
pub data Outcome : Type 0 where
  Open : (expected : List Expected) → Outcome
  Stops : (kind : TextKind) (left : ℕ) → Outcome

unfoldable pub run : DeclaredNames → List Expected → List Tok → Outcome
run s ps [] = Open ps
run s ps (t ∷ ts) = elim (step s ps t) [ Next s2 qs ↦ run s2 qs ts | Refuse kind ↦ Stops kind t.left ]

-- what is expected of whole texts
abbrev pub text_expected : List Expected
text_expected = TheWord (codes "portfolio") ∷ TextVersion ∷ TheEnd ∷ []

-- what may stand behind the declarations of a portfolio
abbrev pub expected_behind : Version → List Expected
expected_behind v = ContractLines v ∷ TheEnd ∷ []

-- the text of a code file, whose name is alone in its set
abbrev pub code_text_expected : List Expected
code_text_expected =
    TheWord (codes "payoff") ∷ TheVersion ∷ TheMark (codes ";")
    ∷ decls_expected One (TheWord (codes "code") ∷ NewIn Contract ∷ TheMark (codes "=") ∷ AmountAt 1 [] ∷ TheMark (codes ";") ∷ TheEnd ∷ [])

-- what is expected of a text of the language
abbrev pub expected_of : Language → List Expected
expected_of Language.Contracts = text_expected
expected_of Language.Code = code_text_expected

-- a failure is the outcome, but for want of memory
abbrev pub Fails : PartErr → Outcome → Type 0
Fails (Refused r) outcome = outcome ≡ Stops r.kind r.left
Fails NoMemory outcome = Unit {0}

-- what a function leaves that reads what is expected first, or the fault that it names
abbrev pub Leaves : {X : Type 0} → (X → Outcome) → Result X PartErr → Outcome → Type 0
Leaves after (Ok x) outcome = outcome ≡ after x
Leaves after (Err e) outcome = Fails e outcome
