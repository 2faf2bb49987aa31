-- What is spelled as plans is taken where they are expected, and names them.
use Rattle.std.proofs.Common.{◌≡◌, ◌&&◌, ℕ, Bool, true, false, cond, None, Result, Ok, Err, List, [], ◌∷◌, ◌++◌, refl, ap, sym, ◌∙◌}
use Rattle.std.specs.Prelude.{codes, ℤ}
use Rattle.std.specs.Map.{keys_of}
use Rattle.std.specs.Str.{bytes_eq}
use Rattle.std.proofs.lemmas.List.{map-append}
use Rattle.decimal.specs.declared.Mode.{Mode}
use Rattle.decimal.specs.declared.Decimal.{Decimal}
use Rattle.term_model.specs.Declarations.{Declarations}
use Rattle.contract_grammar.specs.Tokens.{Tok}
use Rattle.contract_grammar.specs.Words.{Bytes, is_word_kind, is_end, is_number, is_the_mark, is_the_word}
use Rattle.contract_grammar.specs.Judgements.{integer_at, literal_at, mode_at, use_at}
use Rattle.contract_grammar.specs.Spelling.{end, mark, sign, valued, word}
use Rattle.contract_grammar.specs.Statements.{Entry, Repeat, none, more}
use Rattle.contract_parse.specs.Reading.{Lacks}
use Rattle.contract_parse.specs.Expecting.{IntegerAt, LiteralNumber, ModeAt, TheEnd, TheMark, TheWord, UseOf}
use Rattle.contract_grammar.specs.declared.faults.TextKind.{TextKind}
use Rattle.contract_grammar.specs.declared.faults.TextKind.TheVariants.{Syntax}
use Rattle.contract_parse.proofs.LinesTaken.{Heads, NoneDeclares, heads_more, heads_word}
use Rattle.schedule_forms.specs.declared.heads.PlanHead.{PlanHead}
use Rattle.schedule_forms.specs.PlanHeads.{head_at, word_of}
use Rattle.contract_grammar.proofs.TokenKinds.{end_no_word, number_no_mark, of_mark, the_number}
use Rattle.schedule_forms.specs.declared.plans.Size.{Size}
use Rattle.schedule_forms.specs.declared.plans.Size.TheVariants.{Fixed, Fixing}
use Rattle.schedule_forms.specs.declared.plans.Leg.{Leg}
use Rattle.schedule_forms.specs.declared.plans.Plan.{Plan}
use Rattle.schedule_forms.specs.declared.plans.Plan.TheVariants.{Leg as LegPlan, Swap, Guarded}
use Rattle.schedule_forms.specs.PlanBooks.{PlanBook}
use Rattle.schedule_forms.specs.PlanJudgements.{count_at, flag_at, number_label_at, times_at}
use Rattle.schedule_forms.specs.PlanSpelling.{days_part, decimal_part, definition_part, head_of, leg_part, named_by, notional_part, observed_part, plan_line, plan_lines, rounding_part, route_part, size_part}
use Rattle.schedule_forms.specs.PlanExpecting.{PlanExpected, DecimalAt, EveryAt, FirstAt, FlagAt, NumberLabelAt, PlanLines, SizeAt, TimesAt, Token, PlanStep, Next, definition_expected, judged, leg_expected, plan_fault, plan_expected, plan_step, route_expected, the_mark, the_word}
use Rattle.schedule_forms.proofs.CommonFacts.{new_taken, plan_next, takes_test, takes_value, token_taken}
use Rattle.schedule_forms.proofs.PlanSteps.{line_absent, line_opens, round_lacking, round_taken}

-- ---- one token

word_at : (names : List Bytes) (w : Bytes) (ps : List PlanExpected) (ts rest : List Tok) → word w ts rest → plan_fault names (the_word w ∷ ps) ts ≡ plan_fault names ps rest
word_at names w ps ts rest x = token_taken names (TheWord w) ps (word w) ts rest (takes_test (TheWord w) (is_the_word w) (λ s ps t. refl)) x

mark_at : (names : List Bytes) (m : Bytes) (ps : List PlanExpected) (ts rest : List Tok) → mark m ts rest → plan_fault names (the_mark m ∷ ps) ts ≡ plan_fault names ps rest
mark_at names m ps ts rest x = token_taken names (TheMark m) ps (mark m) ts rest (takes_test (TheMark m) (is_the_mark m) (λ s ps t. refl)) x

integer_taken : (names : List Bytes) (most n : ℕ) (ps : List PlanExpected) (ts rest : List Tok) → valued (integer_at most) n ts rest → plan_fault names (Token (IntegerAt most) ∷ ps) ts ≡ plan_fault names ps rest
integer_taken names most n ps ts rest x = token_taken names (IntegerAt most) ps (valued (integer_at most) n) ts rest (takes_value (IntegerAt most) (integer_at most) n (λ s ps t. refl)) x

use_taken : (names known : List Bytes) (i : ℕ) (ps : List PlanExpected) (ts rest : List Tok) → valued (use_at known) i ts rest → plan_fault names (Token (UseOf known) ∷ ps) ts ≡ plan_fault names ps rest
use_taken names known i ps ts rest x = token_taken names (UseOf known) ps (valued (use_at known) i) ts rest (takes_value (UseOf known) (use_at known) i (λ s ps t. refl)) x

mode_taken : (names : List Bytes) (mode : Mode) (ps : List PlanExpected) (ts rest : List Tok) → valued mode_at mode ts rest → plan_fault names (Token ModeAt ∷ ps) ts ≡ plan_fault names ps rest
mode_taken names mode ps ts rest x = token_taken names ModeAt ps (valued mode_at mode) ts rest (takes_value ModeAt mode_at mode (λ s ps t. refl)) x

value_at : {X : Type 0} (names others : List Bytes) (ps qs : List PlanExpected) (judge : Tok → Result X TextKind) (next : X → PlanStep) (x : X) (ts rest : List Tok) → ((t : Tok) → plan_step names ps t ≡ judged (judge t) next) → next x ≡ Next others qs → valued judge x ts rest → plan_fault names ps ts ≡ plan_fault others qs rest
value_at names others ps qs judge next x ts rest shape goes (t, is, passes) =
    ap (λ (us : List Tok). plan_fault names ps us) is
    ∙ plan_next names others ps qs t rest (shape t ∙ ap (λ r. judged r next) passes ∙ goes)

-- ---- a decimal, and a size

pub literal_number : (t : Tok) (b : Bool) (x : Decimal) → is_number t ≡ b → literal_at false t ≡ Ok x → is_number t ≡ true
literal_number t true x e h = e
literal_number t false x e h =
    let here : literal_at false t ≡ Err Syntax = rw e refl in
    absurd (cc)

decimal_taken : (names : List Bytes) (mant : ℤ) (scale : ℕ) (ps : List PlanExpected) (ts rest : List Tok) → decimal_part mant scale ts rest → plan_fault names (DecimalAt ∷ ps) ts ≡ plan_fault names ps rest
decimal_taken names mant scale ps ts rest x = by_sign x.negative x.spelled.between x.spelled.one x.spelled.two
  where
    by_sign : (negative : Bool) (between : List Tok) → sign negative ts between → valued (literal_at negative) (record { mant = mant; scale = scale }) between rest → plan_fault names (DecimalAt ∷ ps) ts ≡ plan_fault names ps rest
    by_sign true between (t, is, passes) y =
        ap (λ (us : List Tok). plan_fault names (DecimalAt ∷ ps) us) is
        ∙ plan_next names names (DecimalAt ∷ ps) (Token (LiteralNumber true) ∷ ps) t between (ap (λ b. cond b (Next names (Token (LiteralNumber true) ∷ ps)) (judged (literal_at false t) (λ number. Next names ps))) passes)
        ∙ token_taken names (LiteralNumber true) ps (valued (literal_at true) (record { mant = mant; scale = scale })) between rest (takes_value (LiteralNumber true) (literal_at true) (record { mant = mant; scale = scale }) (λ s ps t. refl)) y
    by_sign false between same (t, is, passes) =
        let number = literal_number t (is_number t) (record { mant = mant; scale = scale }) refl passes in
        let no_sign = number_no_mark (codes "-") t number in
        ap (λ (us : List Tok). plan_fault names (DecimalAt ∷ ps) us) (same ∙ is)
        ∙ plan_next names names (DecimalAt ∷ ps) ps t rest
        (ap (λ b. cond b (Next names (Token (LiteralNumber true) ∷ ps)) (judged (literal_at false t) (λ number. Next names ps))) no_sign
        ∙ ap (λ r. judged r (λ number. Next names ps)) passes)

-- a decimal does not begin with a word
pub decimal_lacks : (w : Bytes) (mant : ℤ) (scale : ℕ) (ts rest : List Tok) → decimal_part mant scale ts rest → Lacks w ts
decimal_lacks w mant scale ts rest x = by_sign x.negative x.spelled.between x.spelled.one x.spelled.two
  where
    by_sign : (negative : Bool) (between : List Tok) → sign negative ts between → valued (literal_at negative) (record { mant = mant; scale = scale }) between rest → Lacks w ts
    by_sign true between (t, is, passes) y =
        record { first = t; after = between; is = is; other = of_mark (λ z. is_the_word w z ≡ false) (codes "-") t passes refl }
    by_sign false between same (t, is, passes) =
        let number = literal_number t (is_number t) (record { mant = mant; scale = scale }) refl passes in
        record { first = t; after = rest; is = same ∙ is; other = ap (λ k. is_word_kind k && bytes_eq t.text w) (the_number t number) }

rounding_taken : (names : List Bytes) (mode : Mode) (scale : ℕ) (ps : List PlanExpected) (ts rest : List Tok) → rounding_part mode scale ts rest → plan_fault names (the_mark (codes "(") ∷ Token ModeAt ∷ the_mark (codes ",") ∷ Token (IntegerAt 27) ∷ ps) ts ≡ plan_fault names ps rest
rounding_taken names mode scale ps ts rest x =
    mark_at names (codes "(") _ _ _ x.one
    ∙ mode_taken names mode _ _ _ x.two.one
    ∙ mark_at names (codes ",") _ _ _ x.two.two.one
    ∙ integer_taken names 27 scale ps _ _ x.two.two.two

observed_taken : (names : List Bytes) (d : Declarations) (label lag : ℕ) (ps : List PlanExpected) (ts rest : List Tok) → observed_part d label lag ts rest → plan_fault names (the_mark (codes ",") ∷ NumberLabelAt d ∷ the_mark (codes ",") ∷ Token (IntegerAt 1_000_000) ∷ ps) ts ≡ plan_fault names ps rest
observed_taken names d label lag ps ts rest x =
    mark_at names (codes ",") _ _ _ x.one
    ∙ value_at names names (NumberLabelAt d ∷ the_mark (codes ",") ∷ Token (IntegerAt 1_000_000) ∷ ps) (the_mark (codes ",") ∷ Token (IntegerAt 1_000_000) ∷ ps) (number_label_at d) (λ i. Next names (the_mark (codes ",") ∷ Token (IntegerAt 1_000_000) ∷ ps)) label _ _ (λ t. refl) refl x.two.one
    ∙ mark_at names (codes ",") _ _ _ x.two.two.one
    ∙ integer_taken names 1_000_000 lag ps _ _ x.two.two.two

notional_taken : (names : List Bytes) (mant : ℤ) (scale : ℕ) (ps : List PlanExpected) (ts rest : List Tok) → notional_part mant scale ts rest → plan_fault names (the_mark (codes ",") ∷ DecimalAt ∷ the_mark (codes ")") ∷ ps) ts ≡ plan_fault names ps rest
notional_taken names mant scale ps ts rest x =
    mark_at names (codes ",") _ _ _ x.one
    ∙ decimal_taken names mant scale _ _ _ x.two.one
    ∙ mark_at names (codes ")") ps _ _ x.two.two

size_taken : (names : List Bytes) (d : Declarations) (size : Size) (ps : List PlanExpected) (ts rest : List Tok) → size_part d size ts rest → plan_fault names (SizeAt d ∷ ps) ts ≡ plan_fault names ps rest
size_taken names d (Fixed mant scale) ps ts rest x =
    round_lacking names d ps ts (decimal_lacks (codes "round") mant scale ts rest x) ∙ decimal_taken names mant scale ps ts rest x
size_taken names d (Fixing mode scale label lag mant i) ps ts rest x =
    round_taken names d ps ts x.between x.one
    ∙ rounding_taken names mode scale _ _ _ x.two.one
    ∙ observed_taken names d label lag _ _ _ x.two.two.one
    ∙ notional_taken names mant i ps _ _ x.two.two.two

-- ---- a leg

named_taken : (names : List Bytes) (w : Bytes) (known : List Bytes) (i : ℕ) (ps : List PlanExpected) (ts rest : List Tok) → named_by w known i ts rest → plan_fault names (the_word w ∷ Token (UseOf known) ∷ ps) ts ≡ plan_fault names ps rest
named_taken names w known i ps ts rest x = word_at names w _ _ _ x.one ∙ use_taken names known i ps _ _ x.two

route_taken : (names : List Bytes) (d : Declarations) (asset from to : ℕ) (ps : List PlanExpected) (ts rest : List Tok) → route_part d asset from to ts rest → plan_fault names (route_expected d ps) ts ≡ plan_fault names ps rest
route_taken names d asset from to ps ts rest x =
    named_taken names (codes "of") (keys_of d.assets) asset _ _ _ x.one
    ∙ named_taken names (codes "from") d.parties from _ _ _ x.two.one
    ∙ named_taken names (codes "to") d.parties to ps _ _ x.two.two

days_taken : (names : List Bytes) (most first every times : ℕ) (ps : List PlanExpected) (ts rest : List Tok) → days_part most first every times ts rest → plan_fault names (the_word (codes "first") ∷ FirstAt most ∷ ps) ts ≡ plan_fault names ps rest
days_taken names most first every times ps ts rest x =
    word_at names (codes "first") _ _ _ x.one.one
    ∙ value_at names names (FirstAt most ∷ ps) (the_word (codes "every") ∷ EveryAt most first ∷ ps) (integer_at 100_000) (λ n. Next names (the_word (codes "every") ∷ EveryAt most n ∷ ps)) first _ _ (λ t. refl) refl x.one.two
    ∙ word_at names (codes "every") _ _ _ x.two.one.one
    ∙ value_at names names (EveryAt most first ∷ ps) (the_word (codes "times") ∷ TimesAt most first every ∷ ps) (count_at 100_000) (λ n. Next names (the_word (codes "times") ∷ TimesAt most first n ∷ ps)) every _ _ (λ t. refl) refl x.two.one.two
    ∙ word_at names (codes "times") _ _ _ x.two.two.one
    ∙ value_at names names (TimesAt most first every ∷ ps) ps (times_at most first every) (λ n. Next names ps) times _ _ (λ t. refl) refl x.two.two.two

leg_taken : (names : List Bytes) (d : Declarations) (most : ℕ) (leg : Leg) (ps : List PlanExpected) (ts rest : List Tok) → leg_part d most leg ts rest → plan_fault names (leg_expected d most ps) ts ≡ plan_fault names ps rest
leg_taken names d most leg ps ts rest x =
    size_taken names d leg.size _ _ _ x.one
    ∙ route_taken names d leg.asset leg.from leg.to _ _ _ x.two.one
    ∙ days_taken names most leg.first leg.every leg.times ps _ _ x.two.two

-- ---- plans

definition_taken : (names : List Bytes) (d : Declarations) (plan : Plan) (ps : List PlanExpected) (ts rest : List Tok) → definition_part d plan ts rest → plan_fault names (definition_expected d (head_of plan) ps) ts ≡ plan_fault names ps rest
definition_taken names d (LegPlan leg) ps ts rest x = leg_taken names d 5_000 leg ps ts rest x
definition_taken names d (Swap one two) ps ts rest x =
    leg_taken names d 5_000 one _ _ _ x.one ∙ word_at names (codes "against") _ _ _ x.two.one ∙ leg_taken names d 5_000 two ps _ _ x.two.two
definition_taken names d (Guarded leg flag mant scale) ps ts rest x =
    leg_taken names d 60 leg _ _ _ x.one
    ∙ word_at names (codes "until") _ _ _ x.two.one.one
    ∙ value_at names names (FlagAt d ∷ the_word (codes "covers") ∷ DecimalAt ∷ ps) (the_word (codes "covers") ∷ DecimalAt ∷ ps) (flag_at d) (λ i. Next names (the_word (codes "covers") ∷ DecimalAt ∷ ps)) flag _ _ (λ t. refl) refl x.two.one.two
    ∙ word_at names (codes "covers") _ _ _ x.two.two.one
    ∙ decimal_taken names mant scale ps _ _ x.two.two.two

line_taken : (d : Declarations) (before after : List (Bytes × Plan)) (ps : List PlanExpected) (ts rest : List Tok) → Entry (plan_line d) before after ts rest → plan_fault (keys_of before) (PlanLines d ∷ ps) ts ≡ plan_fault (keys_of after) (PlanLines d ∷ ps) rest
line_taken d before after ps ts rest x =
    let y = x.spelled in
    let names = keys_of before ++ x.name ∷ [] in
    let named : names ≡ keys_of after = sym (ap keys_of x.is ∙ map-append _ before ((x.name, x.value) ∷ [])) in
    line_opens (keys_of before) d ps (head_of x.value) ts y.between y.one
    ∙ new_taken (keys_of before) x.name _ _ _ y.two.one
    ∙ mark_at names (codes "=") _ _ _ y.two.two.one
    ∙ definition_taken names d x.value _ _ _ y.two.two.two.one
    ∙ mark_at names (codes ";") _ _ _ y.two.two.two.two
    ∙ ap (λ (ns : List Bytes). plan_fault ns (PlanLines d ∷ ps) rest) named

lines_taken : (d : Declarations) (before after : List (Bytes × Plan)) (ps : List PlanExpected) (ts rest : List Tok) → Repeat (Entry (plan_line d)) before after ts rest → plan_fault (keys_of before) (PlanLines d ∷ ps) ts ≡ plan_fault (keys_of after) (PlanLines d ∷ ps) rest
lines_taken d before after ps ts rest none = refl
lines_taken d before after ps ts rest (more {b = b} {between = k} x xs) = line_taken d before b ps ts k x ∙ lines_taken d b after ps k rest xs

-- the words of the lines behind declarations
abbrev pub plan_words : List Bytes
plan_words = codes "leg" ∷ codes "swap" ∷ codes "guarded" ∷ []

pub plans_declare_none : NoneDeclares plan_words
plans_declare_none = record { origin = refl; start = refl; party = refl; asset = refl; num = refl; flag = refl; template = refl }

line_heads : (head : PlanHead) (ts rest : List Tok) → word (word_of head) ts rest → Heads plan_words ts
line_heads PlanHead.Leg ts rest x = heads_word (codes "leg") (codes "swap" ∷ codes "guarded" ∷ []) ts rest x
line_heads PlanHead.Swap ts rest x = heads_more (codes "leg") (codes "swap" ∷ codes "guarded" ∷ []) ts (heads_word (codes "swap") (codes "guarded" ∷ []) ts rest x)
line_heads PlanHead.Guarded ts rest x =
    heads_more (codes "leg") (codes "swap" ∷ codes "guarded" ∷ []) ts (heads_more (codes "swap") (codes "guarded" ∷ []) ts (heads_word (codes "guarded") [] ts rest x))

end_heads : (ts rest : List Tok) → end ts rest → Heads plan_words ts
end_heads ts rest (t, is, e) =
    heads_more (codes "leg") (codes "swap" ∷ codes "guarded" ∷ []) ts (heads_more (codes "swap") (codes "guarded" ∷ []) ts (heads_more (codes "guarded") [] ts (t, rest, is, e)))

repeat_heads : (d : Declarations) (before after : List (Bytes × Plan)) (ts rest : List Tok) → Heads plan_words rest → Repeat (Entry (plan_line d)) before after ts rest → Heads plan_words ts
repeat_heads d before after ts rest last none = last
repeat_heads d before after ts rest last (more x xs) = line_heads (head_of x.value) ts x.spelled.between x.spelled.one

pub plan_heads : (b : PlanBook) (ts : List Tok) → plan_lines b ts [] → Heads plan_words ts
plan_heads b ts x = repeat_heads b.declarations [] b.plans ts x.between (end_heads x.between [] x.two) x.one

end_head : (t : Tok) → is_end t ≡ true → head_at t ≡ None
end_head t e = rw (end_no_word (codes "leg") t e, end_no_word (codes "swap") t e, end_no_word (codes "guarded") t e) refl

fault_end : (names : List Bytes) (ps : List PlanExpected) → plan_fault names ps [] ≡ None
unfolding plan_fault
fault_end names ps = refl

end_taken : (names : List Bytes) (d : Declarations) (ts : List Tok) → end ts [] → plan_fault names (PlanLines d ∷ Token TheEnd ∷ []) ts ≡ None
end_taken names d ts (t, is, e) =
    ap (λ (us : List Tok). plan_fault names (PlanLines d ∷ Token TheEnd ∷ []) us) is
    ∙ line_absent names d (Token TheEnd ∷ []) t [] (end_head t e)
    ∙ token_taken names TheEnd [] end (t ∷ []) [] (takes_test TheEnd is_end (λ s ps t. refl)) (t, refl, e)
    ∙ fault_end names []

-- a whole schedule file behind its declarations
pub plans_taken : (b : PlanBook) (ts : List Tok) → plan_lines b ts [] → plan_fault [] (plan_expected b.declarations) ts ≡ None
plans_taken b ts x =
    lines_taken b.declarations [] b.plans (Token TheEnd ∷ []) ts x.between x.one
    ∙ end_taken (keys_of b.plans) b.declarations x.between x.two
