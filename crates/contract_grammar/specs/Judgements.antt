-- What one token is where the grammar expects one of these, or the kind of its fault. At one token the first rule counts: Syntax,
-- Number, Date, Deep, Range, Twice, Unknown.
use Rattle.std.specs.Prelude.{ℕ, ℤ, neg_ℤ, int_lt, ◌-◌, ◌==◌, ◌&&◌, Bool, true, false, List, Option, Some, None, Result, Ok, Err, codes, nat_lt, if◌then◌else◌}
use Rattle.decimal.specs.declared.Mode.{Mode}
use Rattle.decimal.specs.declared.Mode.TheVariants.{HalfEven, HalfAway, Floor, Ceil}
use Rattle.decimal.specs.declared.Decimal.{Decimal}
use Rattle.decimal.specs.DecimalText.{signed}
use Rattle.decimal.specs.Mantissas.{mantissa, decimal_of}
use Rattle.decimal.specs.Reading.{number_after}
pub use Rattle.decimal.specs.Reading.{up_to}
use Rattle.decimal.specs.Rounding.{raised}
use Rattle.term_model.specs.Dates.{epoch_day_of}
use Rattle.term_model.specs.Limits.{is_a_version, is_origin}
use Rattle.term_model.specs.declared.terms.NumOp.TheVariants.{Plus, Minus, Times}
use Rattle.term_model.specs.declared.terms.CmpOp.TheVariants.{Less, LessEq, Greater, GreaterEq, Equal, Unequal}
use Rattle.term_model.specs.declared.terms.LogicOp.TheVariants.{And, Or}
use Rattle.term_model.specs.DayCounts.{Days}
use Rattle.term_model.specs.DayCounts.{Num as Count, Named}
use Rattle.contract_grammar.specs.Tokens.{Tok}
use Rattle.contract_grammar.specs.Words.{Bytes, is_the_word, is_the_mark, is_name, is_number, is_integer, is_date}
use Rattle.contract_grammar.specs.Names.{index_in, is_declared, back_to}
use Rattle.contract_grammar.specs.declared.faults.TextKind.{TextKind}
use Rattle.contract_grammar.specs.declared.faults.TextKind.TheVariants.{Syntax, Number, Date, Range, Twice, Unknown}
use Rattle.contract_grammar.specs.declared.terms.Operator.{Operator}
use Rattle.contract_grammar.specs.declared.terms.Operator.TheVariants as operator

abbrev pub or_fault : {X : Type 0} → TextKind → Option X → Result X TextKind
or_fault kind None = Err kind
or_fault kind (Some x) = Ok x

-- the number of a token without a point
abbrev pub whole : Tok → ℕ
whole t = number_after 0 t.text

-- a whole number: a number without a point, up to a greatest
abbrev pub integer_at : ℕ → Tok → Result ℕ TextKind
integer_at most t = if is_integer t then or_fault Number (up_to most (whole t)) else Err Syntax

-- the number of a version, written in any way
abbrev pub is_the_version : ℕ → Tok → Bool
is_the_version v t = is_a_version v && (is_integer t && (whole t == v))

-- the version of payoff code
abbrev pub is_version : Tok → Bool
is_version t = is_the_version 1 t

-- a whole number behind its sign
abbrev pub signed_result : Bool → Result ℕ TextKind → Result ℤ TextKind
signed_result negative (Ok n) = Ok (signed negative n)
signed_result negative (Err kind) = Err kind

abbrev pub signed_integer_at : ℕ → Bool → Tok → Result ℤ TextKind
signed_integer_at most negative t = signed_result negative (integer_at most t)

abbrev pub offset_at : Bool → Tok → Result ℤ TextKind
offset_at negative t = signed_integer_at 1_000_000 negative t

-- the number of a date of payoff code, behind its sign
abbrev pub date_number_at : Bool → Tok → Result ℤ TextKind
date_number_at negative t = signed_integer_at 2_000_000 negative t

abbrev pub with_sign : Bool → Decimal → Decimal
with_sign negative d = record { mant = if negative then neg_ℤ d.mant else d.mant; scale = d.scale }

abbrev pub signed_decimal : Bool → Option Decimal → Result Decimal TextKind
signed_decimal negative None = Err Number
signed_decimal negative (Some d) = Ok (with_sign negative d)

-- a decimal behind its sign
abbrev pub literal_at : Bool → Tok → Result Decimal TextKind
literal_at negative t = if is_number t then signed_decimal negative (decimal_of t.text) else Err Syntax

-- the upper bound of a label is not below the lower
abbrev pub above : Option ℤ → ℤ → Result ℤ TextKind
above None m = Ok m
above (Some low) m = if int_lt m low then Err Range else Ok m

abbrev pub above_limited : Option ℤ → Option ℤ → Result ℤ TextKind
above_limited low None = Err Number
above_limited low (Some m) = above low m

-- a bound of a label, widened to the label's scale
abbrev pub widened : ℕ → Option ℤ → Result Decimal TextKind → Result ℤ TextKind
widened scale low (Err kind) = Err kind
widened scale low (Ok d) = if nat_lt scale d.scale then Err Range else above_limited low (mantissa (raised d.mant (scale - d.scale)))

-- a bound of a label, behind its sign; the upper one stands above a lower
abbrev pub bound_at : Bool → ℕ → Option ℤ → Tok → Result ℤ TextKind
bound_at negative scale low t = widened scale low (literal_at negative t)

abbrev pub day_in : Option ℤ → Result ℤ TextKind
day_in day = if is_origin day then or_fault Date day else Err Date

-- the date after `origin`, as an epoch day
abbrev pub origin_at : Tok → Result ℤ TextKind
origin_at t = if is_date t then day_in (epoch_day_of t.text) else Err Syntax

-- a name that is bound here
abbrev pub binder_at : Tok → Result Bytes TextKind
binder_at t = if is_name t then Ok t.text else Err Syntax

-- a name that is declared here
abbrev pub new_at : List Bytes → Tok → Result Bytes TextKind
new_at names t = if is_name t then (if is_declared names t.text then Err Twice else Ok t.text) else Err Syntax

-- a declared name, by its index
abbrev pub use_at : List Bytes → Tok → Result ℕ TextKind
use_at names t = if is_name t then or_fault Unknown (index_in names t.text) else Err Syntax

-- a bound name, by the binders between it and its own
abbrev pub variable_at : List Bytes → Tok → Result ℕ TextKind
variable_at names t = if is_name t then or_fault Unknown (back_to names t.text) else Err Syntax

abbrev pub named : Result ℕ TextKind → Result Days TextKind
named (Ok i) = Ok (Named i)
named (Err kind) = Err kind

abbrev pub counted : Option ℕ → Result Days TextKind
counted (Some n) = Ok (Count n)
counted None = Err Number

-- a count of days: a number, or the name of a template
abbrev pub days_at : List Bytes → Tok → Result Days TextKind
days_at templates t = if is_integer t then counted (up_to 100_000 (whole t)) else named (use_at templates t)

-- whether a comma stands here, or the semicolon that ends a list
abbrev pub separator_at : Tok → Result Bool TextKind
separator_at t = if is_the_mark (codes ",") t then Ok true else if is_the_mark (codes ";") t then Ok false else Err Syntax

abbrev pub mode_at : Tok → Result Mode TextKind
mode_at t =
    if is_the_word (codes "half_even") t then Ok HalfEven
    else if is_the_word (codes "half_away") t then Ok HalfAway
    else if is_the_word (codes "floor") t then Ok Floor
    else if is_the_word (codes "ceil") t then Ok Ceil
    else Err Syntax

abbrev pub operator_at : Tok → Result Operator TextKind
operator_at t =
    if is_the_mark (codes "+") t then Ok (operator.Arithmetic Plus)
    else if is_the_mark (codes "-") t then Ok (operator.Arithmetic Minus)
    else if is_the_mark (codes "*") t then Ok (operator.Arithmetic Times)
    else if is_the_mark (codes "<") t then Ok (operator.Comparison Less)
    else if is_the_mark (codes "<=") t then Ok (operator.Comparison LessEq)
    else if is_the_mark (codes ">") t then Ok (operator.Comparison Greater)
    else if is_the_mark (codes ">=") t then Ok (operator.Comparison GreaterEq)
    else if is_the_mark (codes "=") t then Ok (operator.Comparison Equal)
    else if is_the_mark (codes "!=") t then Ok (operator.Comparison Unequal)
    else if is_the_mark (codes "&") t then Ok (operator.Logic And)
    else if is_the_mark (codes "|") t then Ok (operator.Logic Or)
    else Err Syntax
