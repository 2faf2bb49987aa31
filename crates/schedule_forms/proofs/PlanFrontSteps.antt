-- One token, where something of plans is expected: it is taken just where a front goes on with it, and its fault is of Syntax just where none
-- does.
use Rattle.std.proofs.Common.{◌≡◌, ℕ, zero, suc, Bool, true, false, cond, Option, Some, None, Result, Ok, Err, List, [], ◌∷◌, ◌++◌, refl, sym, ap, ◌∙◌, subst}
use Rattle.std.specs.Prelude.{codes}
use Rattle.std.specs.Map.{keys_of}
use Rattle.term_model.specs.Environments.{label_of}
use Rattle.term_model.specs.Declarations.{Declarations}
use Rattle.term_model.specs.declared.label.Label.{Label}
use Rattle.contract_grammar.specs.Tokens.{Tok}
use Rattle.contract_grammar.specs.Words.{Bytes, is_end, is_integer, is_name, is_number, is_the_mark, is_the_word}
use Rattle.contract_grammar.specs.Names.{nothing_declared}
use Rattle.contract_grammar.specs.Judgements.{integer_at, literal_at, mode_at, new_at, use_at}
use Rattle.contract_parse.specs.Forms.{Terminal, Nonterminal, Repeated, Form, at_token, empty}
use Rattle.contract_parse.specs.Fronts.{is_one_of, mode_words}
use Rattle.contract_parse.specs.Expecting.{Expected, AnyTokens, IntegerAt, LiteralNumber, ModeAt, TheEnd, TheMark, TheWord, UseOf}
use Rattle.contract_parse.specs.Expecting as common
use Rattle.contract_grammar.specs.declared.faults.TextKind.{TextKind}
use Rattle.contract_grammar.specs.declared.faults.TextKind.TheVariants as kind
use Rattle.contract_grammar.proofs.TokenKinds.{of_mark, of_word}
use Rattle.contract_parse.proofs.FrontTakes.{Bars, Takes, nothing_bars, one_bars, one_takes, repeated_takes, rests, symbol_bars, symbol_takes}
use Rattle.contract_parse.proofs.FrontExpecting.{formed, integer_formed, literal_formed, mode_formed, new_formed, parts_of, use_formed}
use Rattle.contract_parse.proofs.FrontChoices.{either}
use Rattle.schedule_forms.specs.declared.heads.PlanHead.{PlanHead}
use Rattle.schedule_forms.specs.declared.heads.PlanHead.TheVariants.{Leg, Swap, Guarded}
use Rattle.schedule_forms.specs.PlanHeads.{head_at, word_of}
use Rattle.schedule_forms.specs.PlanJudgements.{count_at, flag_at, from_one, in_time, is_flag_label, is_number_label, number_label_at, of_sort, times_at}
use Rattle.schedule_forms.specs.PlanExpecting.{PlanExpected, DecimalAt, EveryAt, FirstAt, FlagAt, NewPlan, NumberLabelAt, PlanLines, SizeAt, TimesAt, Token, PlanStep, Next, Refuse, as_common, decimal_step, fixing_expected, guard_expected, judged, leg_expected, line_expected, plan_expected, plan_step}
use Rattle.schedule_forms.specs.PlanExpecting as plans
use Rattle.schedule_forms.specs.PlanFronts.{PlanSymbol, PlanLine, PlanSize, SignedNumber, a_mode, a_name, a_number, an_integer, guard_form, leg_form, line_end, plan_forms, shared_form, the_mark, the_word}
use Rattle.schedule_forms.proofs.PlanFrontChoices.{Allows, Refused, skips_refused, skips_repeated, skips_takes, starts}

abbrev pub parts_of_plan : PlanExpected → Form PlanSymbol
parts_of_plan (Token p) = shared_form (parts_of p)
parts_of_plan DecimalAt = Nonterminal SignedNumber ∷ []
parts_of_plan (SizeAt d) = Nonterminal PlanSize ∷ []
parts_of_plan (NumberLabelAt d) = a_name ∷ []
parts_of_plan (FlagAt d) = a_name ∷ []
parts_of_plan (FirstAt most) = an_integer ∷ the_word (codes "every") ∷ an_integer ∷ the_word (codes "times") ∷ an_integer ∷ []
parts_of_plan (EveryAt most first) = an_integer ∷ the_word (codes "times") ∷ an_integer ∷ []
parts_of_plan (TimesAt most first every) = an_integer ∷ []
parts_of_plan NewPlan = a_name ∷ []
parts_of_plan (PlanLines d) = Repeated PlanLine ∷ []

abbrev pub plan_parts : List PlanExpected → Form PlanSymbol
plan_parts [] = []
plan_parts (p ∷ ps) = parts_of_plan p ++ plan_parts ps

-- what plans expect that is one token
abbrev IsOneToken : Expected → Type 0
IsOneToken (TheWord w) = Unit {0}
IsOneToken (TheMark m) = Unit {0}
IsOneToken TheEnd = Unit {0}
IsOneToken (IntegerAt most) = Unit {0}
IsOneToken (UseOf names) = Unit {0}
IsOneToken (LiteralNumber negative) = Unit {0}
IsOneToken ModeAt = Unit {0}
IsOneToken _ = ⊥

-- plans end where another part may begin with one of their words
abbrev EndsPlans : List PlanExpected → Type 0
EndsPlans ps = (head : PlanHead) (t : Tok) → is_the_word (word_of head) t ≡ true → Bars plan_forms (plan_parts ps) t

-- at each thing that is expected the next token decides the form
abbrev pub IsDecided : List PlanExpected → Type 0
IsDecided [] = Unit {0}
IsDecided (Token p ∷ ps) = IsOneToken p × IsDecided ps
IsDecided (DecimalAt ∷ ps) = IsDecided ps
IsDecided (SizeAt d ∷ ps) = IsDecided ps
IsDecided (NumberLabelAt d ∷ ps) = IsDecided ps
IsDecided (FlagAt d ∷ ps) = IsDecided ps
IsDecided (FirstAt most ∷ ps) = IsDecided ps
IsDecided (EveryAt most first ∷ ps) = IsDecided ps
IsDecided (TimesAt most first every ∷ ps) = IsDecided ps
IsDecided (NewPlan ∷ ps) = IsDecided ps
IsDecided (PlanLines d ∷ ps) = EndsPlans ps × IsDecided ps

abbrev pub PlanStepped : Form PlanSymbol → Tok → PlanStep → Type 0
PlanStepped parts t (Next names ps) = IsDecided ps × Takes plan_forms parts t (plan_parts ps)
PlanStepped parts t (Refuse k) = Refused parts t k

-- ---- a judgement

by_judgement : {X : Type 0} (parts : Form PlanSymbol) (t : Tok) (b : Bool) (r : Result X TextKind) (next : X → PlanStep) → b ≡ formed r → ((x : X) → b ≡ true → PlanStepped parts t (next x)) → (b ≡ true → Allows parts t) → (b ≡ false → Bars plan_forms parts t)
    → PlanStepped parts t (judged r next)
by_judgement parts t b (Ok x) next is ok may bars = ok x is
by_judgement parts t b (Err kind.Syntax) next is ok may bars = bars is
by_judgement parts t b (Err kind.Number) next is ok may bars = may is
by_judgement parts t b (Err kind.Date) next is ok may bars = may is
by_judgement parts t b (Err kind.Deep) next is ok may bars = may is
by_judgement parts t b (Err kind.Range) next is ok may bars = may is
by_judgement parts t b (Err kind.Twice) next is ok may bars = may is
by_judgement parts t b (Err kind.Unknown) next is ok may bars = may is
by_judgement parts t b (Err kind.Utf8) next is ok may bars = may is

by_token : {X : Type 0} (test : Tok → Bool) (rest : Form PlanSymbol) (t : Tok) (r : Result X TextKind) (next : X → PlanStep) → test t ≡ formed r → ((x : X) → Takes plan_forms (Terminal test ∷ rest) t rest → PlanStepped (Terminal test ∷ rest) t (next x))
    → PlanStepped (Terminal test ∷ rest) t (judged r next)
by_token test rest t r next is ok =
    by_judgement (Terminal test ∷ rest) t (test t) r next is (λ x hit. ok x (one_takes plan_forms test rest t hit)) (λ hit. at_token hit) (λ miss. one_bars plan_forms test rest t miss)

-- one token where portfolios expect the same
module _ (test : Tok → Bool) (names : List Bytes) (ps : List PlanExpected) (t : Tok) (decided : IsDecided ps) where
  abbrev P : common.Step → Type 0
  P st = PlanStepped (Terminal test ∷ plan_parts ps) t (as_common st names ps)

  by_common_test : P (cond (test t) (common.Next nothing_declared (AnyTokens ∷ [])) (common.Refuse kind.Syntax))
  by_common_test = go (test t) refl
    where
      go : (b : Bool) → test t ≡ b → P (cond b (common.Next nothing_declared (AnyTokens ∷ [])) (common.Refuse kind.Syntax))
      go true hit = (decided, one_takes plan_forms test (plan_parts ps) t hit)
      go false miss = one_bars plan_forms test (plan_parts ps) t miss

  as_plan : {X : Type 0} (r : Result X TextKind) → as_common (common.judged r (λ x. common.Next nothing_declared (AnyTokens ∷ []))) names ps ≡ judged r (λ x. Next names ps)
  as_plan (Ok x) = refl
  as_plan (Err k) = refl

  by_common : {X : Type 0} (r : Result X TextKind) → test t ≡ formed r → P (common.judged r (λ x. common.Next nothing_declared (AnyTokens ∷ [])))
  by_common r is = subst (λ st. PlanStepped (Terminal test ∷ plan_parts ps) t st) (sym (as_plan r)) (by_token test (plan_parts ps) t r (λ x. Next names ps) is (λ x takes. (decided, takes)))

-- ---- judgements of plans

sort_formed : (b : Bool) (i : ℕ) → true ≡ formed (cond b (Ok i) (Err kind.Unknown))
sort_formed true i = refl
sort_formed false i = refl

of_sort_formed : (sort : Option Label → Bool) (d : Declarations) (r : Result ℕ TextKind) → formed r ≡ formed (of_sort sort d r)
of_sort_formed sort d (Ok i) = sort_formed (sort (label_of d i)) i
of_sort_formed sort d (Err k) = refl

pub label_formed : (sort : Option Label → Bool) (d : Declarations) (t : Tok) → is_name t ≡ formed (of_sort sort d (use_at (keys_of d.labels) t))
label_formed sort d t = use_formed (keys_of d.labels) t ∙ of_sort_formed sort d (use_at (keys_of d.labels) t)

from_one_formed : (r : Result ℕ TextKind) → formed r ≡ formed (from_one r)
from_one_formed (Ok zero) = refl
from_one_formed (Ok (suc n)) = refl
from_one_formed (Err k) = refl

pub count_formed : (most : ℕ) (t : Tok) → is_integer t ≡ formed (count_at most t)
count_formed most t = integer_formed most t ∙ from_one_formed (integer_at most t)

limit_formed : (b : Bool) (n : ℕ) → true ≡ formed (cond b (Ok n) (Err kind.Number))
limit_formed true n = refl
limit_formed false n = refl

in_time_formed : (first every : ℕ) (r : Result ℕ TextKind) → formed r ≡ formed (in_time first every r)
in_time_formed first every (Ok n) = limit_formed _ n
in_time_formed first every (Err k) = refl

pub times_formed : (most first every : ℕ) (t : Tok) → is_integer t ≡ formed (times_at most first every t)
times_formed most first every t = count_formed most t ∙ in_time_formed first every (count_at most t)

-- ---- decimals and sizes

-- a decimal, alone or as a size
by_decimal : (symbol : PlanSymbol) (names : List Bytes) (ps : List PlanExpected) (t : Tok) → IsDecided ps → (is_the_mark (codes "-") t ≡ true → rests (plan_forms symbol) t ≡ (a_number ∷ []) ∷ [])
    → ((b : Bool) → is_the_mark (codes "-") t ≡ false → is_number t ≡ b → rests (plan_forms symbol) t ≡ cond b ([] ∷ []) []) → PlanStepped (Nonterminal symbol ∷ plan_parts ps) t (decimal_step names ps t)
by_decimal symbol names ps t decided signed plain =
    either (is_the_mark (codes "-") t)
    (λ hit. subst P (sym (ap (λ b. cond b minus number) hit)) ((tt, decided), symbol_takes plan_forms starts symbol (a_number ∷ []) (plan_parts ps) t (signed hit)))
    (λ miss. subst P (sym (ap (λ b. cond b minus number) miss))
    (by_judgement (Nonterminal symbol ∷ plan_parts ps) t (is_number t) (literal_at false t) (λ x. Next names ps) (literal_formed false t) (λ x hit. (decided, takes miss hit)) (λ hit. (takes miss hit).back [] empty)
    (λ nor. symbol_bars plan_forms starts symbol (plan_parts ps) t (plain false miss nor))))
  where
    P : PlanStep → Type 0
    P st = PlanStepped (Nonterminal symbol ∷ plan_parts ps) t st

    minus : PlanStep
    minus = Next names (Token (LiteralNumber true) ∷ ps)

    number : PlanStep
    number = judged (literal_at false t) (λ x. Next names ps)

    takes : is_the_mark (codes "-") t ≡ false → is_number t ≡ true → Takes plan_forms (Nonterminal symbol ∷ plan_parts ps) t (plan_parts ps)
    takes miss hit = symbol_takes plan_forms starts symbol [] (plan_parts ps) t (plain true miss hit)

signed_decimal : (t : Tok) → is_the_mark (codes "-") t ≡ true → rests (plan_forms SignedNumber) t ≡ (a_number ∷ []) ∷ []
signed_decimal t hit = of_mark (λ z. rests (plan_forms SignedNumber) z ≡ (a_number ∷ []) ∷ []) (codes "-") t hit refl

plain_decimal : (t : Tok) (b : Bool) → is_the_mark (codes "-") t ≡ false → is_number t ≡ b → rests (plan_forms SignedNumber) t ≡ cond b ([] ∷ []) []
plain_decimal t b miss is = rw (miss, is) refl

-- a size that is no word is a decimal
size_rests : (t : Tok) → is_the_word (codes "round") t ≡ false → rests (plan_forms PlanSize) t ≡ rests (plan_forms SignedNumber) t
size_rests t miss = rw miss refl

abbrev fixing_rest : Form PlanSymbol
fixing_rest =
    the_mark (codes "(") ∷ a_mode ∷ the_mark (codes ",") ∷ an_integer ∷ the_mark (codes ",") ∷ a_name ∷ the_mark (codes ",") ∷ an_integer ∷ the_mark (codes ",") ∷ Nonterminal SignedNumber ∷ the_mark (codes ")") ∷ []

by_size : (d : Declarations) (names : List Bytes) (ps : List PlanExpected) (t : Tok) → IsDecided ps → PlanStepped (Nonterminal PlanSize ∷ plan_parts ps) t (plan_step names (SizeAt d ∷ ps) t)
by_size d names ps t decided =
    either (is_the_word (codes "round") t)
    (λ hit. subst P (sym (ap (λ b. cond b fixing decimal) hit))
    ((tt, (tt, (tt, (tt, (tt, (tt, (tt, (tt, (tt, decided))))))))), symbol_takes plan_forms starts PlanSize fixing_rest (plan_parts ps) t (of_word (λ z. rests (plan_forms PlanSize) z ≡ fixing_rest ∷ []) (codes "round") t hit refl)))
    (λ miss. subst P (sym (ap (λ b. cond b fixing decimal) miss)) (by_decimal PlanSize names ps t decided (λ hit. size_rests t miss ∙ signed_decimal t hit) (λ b no_sign is. size_rests t miss ∙ plain_decimal t b no_sign is)))
  where
    P : PlanStep → Type 0
    P st = PlanStepped (Nonterminal PlanSize ∷ plan_parts ps) t st

    fixing : PlanStep
    fixing = Next names (fixing_expected d ps)

    decimal : PlanStep
    decimal = decimal_step names ps t

-- ---- the lines of plans

abbrev definition_form : PlanHead → Form PlanSymbol
definition_form Leg = leg_form line_end
definition_form Swap = leg_form (the_word (codes "against") ∷ leg_form line_end)
definition_form Guarded = leg_form (guard_form line_end)

-- what is behind the word of a line
abbrev line_rest : PlanHead → Form PlanSymbol
line_rest head = a_name ∷ the_mark (codes "=") ∷ definition_form head

line_parts : (d : Declarations) (head : PlanHead) (ps : List PlanExpected) → line_rest head ++ plan_parts ps ≡ plan_parts (line_expected d head ps)
line_parts d Leg ps = refl
line_parts d Swap ps = refl
line_parts d Guarded ps = refl

leg_decided : (d : Declarations) (most : ℕ) (ps : List PlanExpected) → IsDecided ps → IsDecided (leg_expected d most ps)
leg_decided d most ps decided = (tt, (tt, (tt, (tt, (tt, (tt, (tt, decided)))))))

line_decided : (d : Declarations) (head : PlanHead) (ps : List PlanExpected) → IsDecided ps → IsDecided (line_expected d head ps)
line_decided d Leg ps decided = (tt, leg_decided d 5_000 (plans.the_mark (codes ";") ∷ ps) (tt, decided))
line_decided d Swap ps decided =
    (tt, leg_decided d 5_000 (plans.the_word (codes "against") ∷ leg_expected d 5_000 (plans.the_mark (codes ";") ∷ ps)) (tt, leg_decided d 5_000 (plans.the_mark (codes ";") ∷ ps) (tt, decided)))
line_decided d Guarded ps decided = (tt, leg_decided d 60 (guard_expected d (plans.the_mark (codes ";") ∷ ps)) (tt, (tt, (tt, decided))))

line_begins : (head : PlanHead) (t : Tok) → is_the_word (word_of head) t ≡ true → rests (plan_forms PlanLine) t ≡ line_rest head ∷ []
line_begins Leg t hit = of_word (λ z. rests (plan_forms PlanLine) z ≡ line_rest Leg ∷ []) (codes "leg") t hit refl
line_begins Swap t hit = of_word (λ z. rests (plan_forms PlanLine) z ≡ line_rest Swap ∷ []) (codes "swap") t hit refl
line_begins Guarded t hit = of_word (λ z. rests (plan_forms PlanLine) z ≡ line_rest Guarded ∷ []) (codes "guarded") t hit refl

-- where lines are expected, and nothing of a line stands
line_absent : (ps : List PlanExpected) (t : Tok) (st : PlanStep) → rests (plan_forms PlanLine) t ≡ [] → PlanStepped (plan_parts ps) t st → PlanStepped (Repeated PlanLine ∷ plan_parts ps) t st
line_absent ps t (Next names qs) none x = (x.0, skips_takes (Repeated PlanLine ∷ plan_parts ps) (plan_parts ps) (plan_parts qs) t (skips_repeated PlanLine (plan_parts ps) t none) x.1)
line_absent ps t (Refuse k) none x = skips_refused (Repeated PlanLine ∷ plan_parts ps) (plan_parts ps) t k (skips_repeated PlanLine (plan_parts ps) t none) x

by_lines : (d : Declarations) (names : List Bytes) (ps : List PlanExpected) (t : Tok) → IsDecided (PlanLines d ∷ ps) → PlanStepped (plan_parts ps) t (plan_step names ps t) → PlanStepped (Repeated PlanLine ∷ plan_parts ps) t (plan_step names (PlanLines d ∷ ps) t)
by_lines d names ps t decided more =
    either (is_the_word (codes "leg") t) (λ hit. begun Leg hit (rw hit refl)) (λ no_leg.
    either (is_the_word (codes "swap") t) (λ hit. begun Swap hit (rw (no_leg, hit) refl)) (λ no_swap.
    either (is_the_word (codes "guarded") t) (λ hit. begun Guarded hit (rw (no_leg, no_swap, hit) refl)) (λ no_guard.
    let none : head_at t ≡ None = rw (no_leg, no_swap, no_guard) refl in
    let no_line : rests (plan_forms PlanLine) t ≡ [] = rw (no_leg, no_swap, no_guard) refl in
    subst (λ o. PlanStepped (Repeated PlanLine ∷ plan_parts ps) t (line_step o)) (sym none) (line_absent ps t (plan_step names ps t) no_line more))))
  where
    line_step : Option PlanHead → PlanStep
    line_step o = elim o [ Some head ↦ Next names (line_expected d head (PlanLines d ∷ ps)) | None ↦ plan_step names ps t ]

    begun : (head : PlanHead) → is_the_word (word_of head) t ≡ true → head_at t ≡ Some head → PlanStepped (Repeated PlanLine ∷ plan_parts ps) t (line_step (head_at t))
    begun head hit is =
        let takes = repeated_takes plan_forms starts PlanLine (line_rest head) (plan_parts ps) t (line_begins head t hit) (decided.0 head t hit) in
        subst (λ o. PlanStepped (Repeated PlanLine ∷ plan_parts ps) t (line_step o)) (sym is)
        (line_decided d head (PlanLines d ∷ ps) decided, subst (λ parts. Takes plan_forms (Repeated PlanLine ∷ plan_parts ps) t parts) (line_parts d head (PlanLines d ∷ ps)) takes)

-- ---- each thing that is expected

pub plan_stepped : (names : List Bytes) (ps : List PlanExpected) (t : Tok) → IsDecided ps → PlanStepped (plan_parts ps) t (plan_step names ps t)
plan_stepped names [] t decided = nothing_bars plan_forms t
plan_stepped names (Token (TheWord w) ∷ ps) t decided = by_common_test (is_the_word w) names ps t decided.1
plan_stepped names (Token (TheMark m) ∷ ps) t decided = by_common_test (is_the_mark m) names ps t decided.1
plan_stepped names (Token TheEnd ∷ ps) t decided = by_common_test is_end names ps t decided.1
plan_stepped names (Token (IntegerAt most) ∷ ps) t decided = by_common is_integer names ps t decided.1 (integer_at most t) (integer_formed most t)
plan_stepped names (Token (UseOf known) ∷ ps) t decided = by_common is_name names ps t decided.1 (use_at known t) (use_formed known t)
plan_stepped names (Token (LiteralNumber negative) ∷ ps) t decided = by_common is_number names ps t decided.1 (literal_at negative t) (literal_formed negative t)
plan_stepped names (Token ModeAt ∷ ps) t decided = by_common (is_one_of mode_words is_the_word) names ps t decided.1 (mode_at t) (mode_formed t)
plan_stepped names (Token _ ∷ ps) t decided = absurd decided.0
plan_stepped names (DecimalAt ∷ ps) t decided = by_decimal SignedNumber names ps t decided (signed_decimal t) (plain_decimal t)
plan_stepped names (SizeAt d ∷ ps) t decided = by_size d names ps t decided
plan_stepped names (NumberLabelAt d ∷ ps) t decided = by_token is_name (plan_parts ps) t (number_label_at d t) (λ i. Next names ps) (label_formed is_number_label d t) (λ i takes. (decided, takes))
plan_stepped names (FlagAt d ∷ ps) t decided = by_token is_name (plan_parts ps) t (flag_at d t) (λ i. Next names ps) (label_formed is_flag_label d t) (λ i takes. (decided, takes))
plan_stepped names (FirstAt most ∷ ps) t decided =
    by_token is_integer _ t (integer_at 100_000 t) (λ first. Next names (plans.the_word (codes "every") ∷ EveryAt most first ∷ ps)) (integer_formed 100_000 t) (λ first takes. ((tt, decided), takes))
plan_stepped names (EveryAt most first ∷ ps) t decided =
    by_token is_integer _ t (count_at 100_000 t) (λ every. Next names (plans.the_word (codes "times") ∷ TimesAt most first every ∷ ps)) (count_formed 100_000 t) (λ every takes. ((tt, decided), takes))
plan_stepped names (TimesAt most first every ∷ ps) t decided = by_token is_integer (plan_parts ps) t (times_at most first every t) (λ times. Next names ps) (times_formed most first every t) (λ times takes. (decided, takes))
plan_stepped names (NewPlan ∷ ps) t decided = by_token is_name (plan_parts ps) t (new_at names t) (λ name. Next (names ++ name ∷ []) ps) (new_formed names t) (λ name takes. (decided, takes))
plan_stepped names (PlanLines d ∷ ps) t decided = by_lines d names ps t decided (plan_stepped names ps t decided.1)

-- what is expected of all plans
pub plans_decided : (d : Declarations) → IsDecided (plan_expected d)
plans_decided d = ((λ head t is. of_word (λ z. Bars plan_forms (plan_parts (Token TheEnd ∷ [])) z) (word_of head) t is (one_bars plan_forms is_end [] _ refl)), (tt, tt))
