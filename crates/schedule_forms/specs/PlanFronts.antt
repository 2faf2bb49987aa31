-- The grammar of schedule files by the forms of their tokens and the value of the version alone, and their fronts: what a
-- schedule file may begin with. Its declarations have the forms that they have in portfolios of version 1.
use Rattle.std.specs.Prelude.{List, [], ◌∷◌, ◌++◌, codes, map}
use Rattle.contract_grammar.specs.Tokens.{Tok}
use Rattle.contract_grammar.specs.Words.{Bytes, is_end, is_integer, is_name, is_number, is_the_mark, is_the_word}
use Rattle.contract_grammar.specs.Versions.{One}
use Rattle.contract_grammar.specs.Judgements.{is_version}
use Rattle.contract_parse.specs.Forms.{Part, Terminal, Nonterminal, Optional, Repeated, Form, Grammar, Whole, Front}
use Rattle.contract_parse.specs.Fronts.{Symbol, declarations_form, is_one_of, mode_words, text_forms}

-- ---- symbols

pub data PlanSymbol : Type 0 where
  -- a symbol of portfolios, of which schedule files have those of declarations
  Shared : (symbol : Symbol) → PlanSymbol
  PlanLine : PlanSymbol
  PlanSize : PlanSymbol
  SignedNumber : PlanSymbol

-- what stands in a form of portfolios, in one of schedule files
abbrev pub shared_part : Part Symbol → Part PlanSymbol
shared_part (Terminal test) = Terminal test
shared_part (Nonterminal symbol) = Nonterminal (Shared symbol)
shared_part (Optional symbol) = Optional (Shared symbol)
shared_part (Repeated symbol) = Repeated (Shared symbol)

abbrev pub shared_form : Form Symbol → Form PlanSymbol
shared_form parts = map shared_part parts

-- ---- tokens

abbrev pub the_word : Bytes → Part PlanSymbol
the_word w = Terminal (is_the_word w)

abbrev pub the_mark : Bytes → Part PlanSymbol
the_mark m = Terminal (is_the_mark m)

abbrev pub a_name : Part PlanSymbol
a_name = Terminal is_name

abbrev pub a_number : Part PlanSymbol
a_number = Terminal is_number

abbrev pub an_integer : Part PlanSymbol
an_integer = Terminal is_integer

abbrev pub a_mode : Part PlanSymbol
a_mode = Terminal (is_one_of mode_words is_the_word)

-- ---- plans

-- a decimal: a number with or without a sign
abbrev pub decimal_forms : List (Form PlanSymbol)
decimal_forms = (a_number ∷ []) ∷ (the_mark (codes "-") ∷ a_number ∷ []) ∷ []

-- `round(MODE, INT, NAME, INT, DEC)`
abbrev pub fixing_form : Form PlanSymbol
fixing_form =
    the_word (codes "round") ∷ the_mark (codes "(") ∷ a_mode ∷ the_mark (codes ",") ∷ an_integer ∷ the_mark (codes ",") ∷ a_name
    ∷ the_mark (codes ",") ∷ an_integer ∷ the_mark (codes ",") ∷ Nonterminal SignedNumber ∷ the_mark (codes ")") ∷ []

-- a leg and what is behind it
abbrev pub leg_form : Form PlanSymbol → Form PlanSymbol
leg_form behind =
    Nonterminal PlanSize
    ∷ the_word (codes "of") ∷ a_name ∷ the_word (codes "from") ∷ a_name ∷ the_word (codes "to") ∷ a_name
    ∷ the_word (codes "first") ∷ an_integer ∷ the_word (codes "every") ∷ an_integer ∷ the_word (codes "times") ∷ an_integer
    ∷ behind

-- behind a guarded leg: `until NAME covers DEC`
abbrev pub guard_form : Form PlanSymbol → Form PlanSymbol
guard_form behind = the_word (codes "until") ∷ a_name ∷ the_word (codes "covers") ∷ Nonterminal SignedNumber ∷ behind

-- `word NAME =` and what is behind it
abbrev pub named_form : Bytes → Form PlanSymbol → Form PlanSymbol
named_form w behind = the_word w ∷ a_name ∷ the_mark (codes "=") ∷ behind

abbrev pub line_end : Form PlanSymbol
line_end = the_mark (codes ";") ∷ []

abbrev pub line_forms : List (Form PlanSymbol)
line_forms =
    named_form (codes "leg") (leg_form line_end)
    ∷ named_form (codes "swap") (leg_form (the_word (codes "against") ∷ leg_form line_end))
    ∷ named_form (codes "guarded") (leg_form (guard_form line_end))
    ∷ []

-- ---- files

abbrev pub plan_forms : Grammar PlanSymbol
plan_forms (Shared symbol) = map shared_form (text_forms symbol)
plan_forms PlanLine = line_forms
plan_forms PlanSize = fixing_form ∷ decimal_forms
plan_forms SignedNumber = decimal_forms

-- `schedules 1;` and the declarations, by the symbols of portfolios
abbrev pub heading_form : Form Symbol
heading_form =
    Terminal (is_the_word (codes "schedules")) ∷ Terminal is_version ∷ Terminal (is_the_mark (codes ";"))
    ∷ declarations_form One []

-- the plans, to the end
abbrev pub plans_form : Form PlanSymbol
plans_form = Repeated PlanLine ∷ Terminal is_end ∷ []

abbrev pub plan_file_form : Form PlanSymbol
plan_file_form = shared_form heading_form ++ plans_form

-- the tokens are a schedule file's, but for what names and limits say
abbrev pub IsWholePlanFile : List Tok → Type 0
IsWholePlanFile ts = Whole plan_forms plan_file_form ts []

-- a schedule file may begin with these tokens
abbrev pub IsPlanFront : List Tok → Type 0
IsPlanFront ts = Front plan_forms plan_file_form ts
