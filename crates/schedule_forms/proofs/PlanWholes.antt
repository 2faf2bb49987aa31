-- What is spelled as plans is whole by the forms of their tokens.
use Rattle.std.proofs.Common.{◌≡◌, ℕ, ℤ, Bool, true, false, Result, List, [], ◌∷◌, sym, ap, ◌∙◌, subst}
use Rattle.std.specs.Prelude.{codes}
use Rattle.std.specs.Map.{keys_of}
use Rattle.decimal.specs.declared.Mode.{Mode}
use Rattle.term_model.specs.Declarations.{Declarations}
use Rattle.contract_grammar.specs.Tokens.{Tok}
use Rattle.contract_grammar.specs.Words.{Bytes, is_end, is_integer, is_name, is_number, is_the_mark, is_the_word}
use Rattle.contract_grammar.specs.Judgements.{integer_at, literal_at, mode_at, new_at, use_at}
use Rattle.contract_grammar.specs.Spelling.{one, sign, valued}
use Rattle.contract_grammar.specs.Statements.{Entry, Repeat, none, more}
use Rattle.contract_parse.specs.Forms.{Terminal, Nonterminal, Repeated, Form, IsAmong, here, later, Whole, done, token, form, again, enough}
use Rattle.contract_parse.specs.Fronts.{is_one_of, mode_words}
use Rattle.contract_grammar.specs.declared.faults.TextKind.{TextKind}
use Rattle.contract_parse.proofs.FrontExpecting.{formed, integer_formed, literal_formed, mode_formed, new_formed, use_formed}
use Rattle.schedule_forms.specs.declared.plans.Size.{Size}
use Rattle.schedule_forms.specs.declared.plans.Size.TheVariants.{Fixed, Fixing}
use Rattle.schedule_forms.specs.declared.plans.Leg.{Leg}
use Rattle.schedule_forms.specs.declared.plans.Plan.{Plan}
use Rattle.schedule_forms.specs.declared.plans.Plan.TheVariants.{Leg as LegPlan, Swap, Guarded}
use Rattle.schedule_forms.specs.PlanBooks.{PlanBook}
use Rattle.schedule_forms.specs.PlanJudgements.{count_at, flag_at, is_flag_label, is_number_label, number_label_at, times_at}
use Rattle.schedule_forms.specs.PlanSpelling.{days_part, decimal_part, leg_part, named_by, notional_part, observed_part, plan_line, plan_lines, rounding_part, size_part}
use Rattle.schedule_forms.specs.PlanFronts.{PlanSymbol, PlanLine, PlanSize, SignedNumber, a_mode, a_name, a_number, an_integer, fixing_form, guard_form, leg_form, line_end, plan_forms, plans_form, the_mark, the_word}
use Rattle.schedule_forms.proofs.PlanFrontSteps.{count_formed, label_formed, times_formed}

-- ---- one token, and what is behind it

one_whole : (test : Tok → Bool) (parts : Form PlanSymbol) (ts k rest : List Tok) → one test ts k → Whole plan_forms parts k rest → Whole plan_forms (Terminal test ∷ parts) ts rest
one_whole test parts ts k rest (t, is, e) w = subst (λ us. Whole plan_forms (Terminal test ∷ parts) us rest) (sym is) (token e w)

value_whole : {X : Type 0} (test : Tok → Bool) (judge : Tok → Result X TextKind) (x : X) (parts : Form PlanSymbol) (ts k rest : List Tok) → ((t : Tok) → test t ≡ formed (judge t)) → valued judge x ts k → Whole plan_forms parts k rest
    → Whole plan_forms (Terminal test ∷ parts) ts rest
value_whole test judge x parts ts k rest is (t, are, e) w = one_whole test parts ts k rest (t, are, is t ∙ ap (λ r. formed r) e) w

-- ---- decimals and sizes

-- a decimal, alone or as a size
decimal_whole : (symbol : PlanSymbol) → IsAmong (a_number ∷ []) (plan_forms symbol) → IsAmong (the_mark (codes "-") ∷ a_number ∷ []) (plan_forms symbol) → (mant : ℤ) (scale : ℕ) (parts : Form PlanSymbol) (ts k rest : List Tok) → decimal_part mant scale ts k
    → Whole plan_forms parts k rest → Whole plan_forms (Nonterminal symbol ∷ parts) ts rest
decimal_whole symbol plain signed mant scale parts ts k rest x w = by_sign x.negative x.spelled.between x.spelled.one x.spelled.two
  where
    number : (negative : Bool) (us : List Tok) → valued (literal_at negative) (record { mant = mant; scale = scale }) us k → Whole plan_forms (a_number ∷ []) us k
    number negative us y = value_whole is_number (literal_at negative) (record { mant = mant; scale = scale }) [] us k k (literal_formed negative) y done

    by_sign : (negative : Bool) (between : List Tok) → sign negative ts between → valued (literal_at negative) (record { mant = mant; scale = scale }) between k → Whole plan_forms (Nonterminal symbol ∷ parts) ts rest
    by_sign true between minus y = form signed (one_whole (is_the_mark (codes "-")) (a_number ∷ []) ts between k minus (number true between y)) w
    by_sign false between same y = form plain (subst (λ us. Whole plan_forms (a_number ∷ []) us k) (sym same) (number false between y)) w

rounding_whole : (mode : Mode) (scale : ℕ) (parts : Form PlanSymbol) (ts k rest : List Tok) → rounding_part mode scale ts k → Whole plan_forms parts k rest → Whole plan_forms (the_mark (codes "(") ∷ a_mode ∷ the_mark (codes ",") ∷ an_integer ∷ parts) ts rest
rounding_whole mode scale parts ts k rest x w =
    one_whole (is_the_mark (codes "(")) _ ts _ rest x.one
    (value_whole (is_one_of mode_words is_the_word) mode_at mode _ _ _ rest mode_formed x.two.one
    (one_whole (is_the_mark (codes ",")) _ _ _ rest x.two.two.one
    (value_whole is_integer (integer_at 27) scale parts _ k rest (integer_formed 27) x.two.two.two w)))

observed_whole : (d : Declarations) (label lag : ℕ) (parts : Form PlanSymbol) (ts k rest : List Tok) → observed_part d label lag ts k → Whole plan_forms parts k rest → Whole plan_forms (the_mark (codes ",") ∷ a_name ∷ the_mark (codes ",") ∷ an_integer ∷ parts) ts rest
observed_whole d label lag parts ts k rest x w =
    one_whole (is_the_mark (codes ",")) _ ts _ rest x.one
    (value_whole is_name (number_label_at d) label _ _ _ rest (label_formed is_number_label d) x.two.one
    (one_whole (is_the_mark (codes ",")) _ _ _ rest x.two.two.one
    (value_whole is_integer (integer_at 1_000_000) lag parts _ k rest (integer_formed 1_000_000) x.two.two.two w)))

notional_whole : (mant : ℤ) (scale : ℕ) (parts : Form PlanSymbol) (ts k rest : List Tok) → notional_part mant scale ts k → Whole plan_forms parts k rest → Whole plan_forms (the_mark (codes ",") ∷ Nonterminal SignedNumber ∷ the_mark (codes ")") ∷ parts) ts rest
notional_whole mant scale parts ts k rest x w =
    one_whole (is_the_mark (codes ",")) _ ts _ rest x.one
    (decimal_whole SignedNumber here (later here) mant scale _ _ _ rest x.two.one (one_whole (is_the_mark (codes ")")) parts _ k rest x.two.two w))

size_whole : (d : Declarations) (size : Size) (parts : Form PlanSymbol) (ts k rest : List Tok) → size_part d size ts k → Whole plan_forms parts k rest → Whole plan_forms (Nonterminal PlanSize ∷ parts) ts rest
size_whole d (Fixed mant scale) parts ts k rest x w = decimal_whole PlanSize (later here) (later (later here)) mant scale parts ts k rest x w
size_whole d (Fixing mode scale label lag mant mant_scale) parts ts k rest x w =
    let fixing : Whole plan_forms fixing_form ts k =
    one_whole (is_the_word (codes "round")) _ ts _ k x.one
    (rounding_whole mode scale _ _ _ k x.two.one
    (observed_whole d label lag _ _ _ k x.two.two.one
    (notional_whole mant mant_scale [] _ k k x.two.two.two done))) in
    form here fixing w

-- ---- legs

named_whole : (w : Bytes) (names : List Bytes) (i : ℕ) (parts : Form PlanSymbol) (ts k rest : List Tok) → named_by w names i ts k → Whole plan_forms parts k rest → Whole plan_forms (the_word w ∷ a_name ∷ parts) ts rest
named_whole w names i parts ts k rest x whole = one_whole (is_the_word w) _ ts _ rest x.one (value_whole is_name (use_at names) i parts _ k rest (use_formed names) x.two whole)

days_whole : (most first every times : ℕ) (parts : Form PlanSymbol) (ts k rest : List Tok) → days_part most first every times ts k → Whole plan_forms parts k rest
    → Whole plan_forms (the_word (codes "first") ∷ an_integer ∷ the_word (codes "every") ∷ an_integer ∷ the_word (codes "times") ∷ an_integer ∷ parts) ts rest
days_whole most first every times parts ts k rest x w =
    one_whole (is_the_word (codes "first")) _ ts _ rest x.one.one
    (value_whole is_integer (integer_at 100_000) first _ _ _ rest (integer_formed 100_000) x.one.two
    (one_whole (is_the_word (codes "every")) _ _ _ rest x.two.one.one
    (value_whole is_integer (count_at 100_000) every _ _ _ rest (count_formed 100_000) x.two.one.two
    (one_whole (is_the_word (codes "times")) _ _ _ rest x.two.two.one
    (value_whole is_integer (times_at most first every) times parts _ k rest (times_formed most first every) x.two.two.two w)))))

leg_whole : (d : Declarations) (most : ℕ) (leg : Leg) (parts : Form PlanSymbol) (ts k rest : List Tok) → leg_part d most leg ts k → Whole plan_forms parts k rest → Whole plan_forms (leg_form parts) ts rest
leg_whole d most leg parts ts k rest x w =
    let route = x.two.one in
    size_whole d leg.size _ ts _ rest x.one
    (named_whole (codes "of") (keys_of d.assets) leg.asset _ _ _ rest route.one
    (named_whole (codes "from") d.parties leg.from _ _ _ rest route.two.one
    (named_whole (codes "to") d.parties leg.to _ _ _ rest route.two.two
    (days_whole most leg.first leg.every leg.times parts _ k rest x.two.two w))))

-- ---- lines

-- a line by its plan: among the forms of lines
pub record WholeLine (ts rest : List Tok) : Type 0 where
  pub line : Form PlanSymbol
  pub among : IsAmong line (plan_forms PlanLine)
  pub whole : Whole plan_forms line ts rest

-- behind the word of a line its name, and its definition
line_whole : (d : Declarations) (before : List (Bytes × Plan)) (name : Bytes) (plan : Plan) (ts rest : List Tok) → plan_line d before name plan ts rest → WholeLine ts rest
line_whole d before name (LegPlan leg) ts rest x = record {
  line = _;
  among = here;
  whole =
      one_whole (is_the_word (codes "leg")) _ ts _ rest x.one
      (value_whole is_name (new_at (keys_of before)) name _ _ _ rest (new_formed (keys_of before)) x.two.one
      (one_whole (is_the_mark (codes "=")) _ _ _ rest x.two.two.one
      (leg_whole d 5_000 leg line_end _ _ rest x.two.two.two.one
      (one_whole (is_the_mark (codes ";")) [] _ rest rest x.two.two.two.two done))));
}
line_whole d before name (Swap first second) ts rest x =
    let definition = x.two.two.two.one in
    record {
      line = _;
      among = later here;
      whole =
          one_whole (is_the_word (codes "swap")) _ ts _ rest x.one
          (value_whole is_name (new_at (keys_of before)) name _ _ _ rest (new_formed (keys_of before)) x.two.one
          (one_whole (is_the_mark (codes "=")) _ _ _ rest x.two.two.one
          (leg_whole d 5_000 first (the_word (codes "against") ∷ leg_form line_end) _ _ rest definition.one
          (one_whole (is_the_word (codes "against")) _ _ _ rest definition.two.one
          (leg_whole d 5_000 second line_end _ _ rest definition.two.two
          (one_whole (is_the_mark (codes ";")) [] _ rest rest x.two.two.two.two done))))));
    }
line_whole d before name (Guarded leg flag mant scale) ts rest x =
    let definition = x.two.two.two.one in
    record {
      line = _;
      among = later (later here);
      whole =
          one_whole (is_the_word (codes "guarded")) _ ts _ rest x.one
          (value_whole is_name (new_at (keys_of before)) name _ _ _ rest (new_formed (keys_of before)) x.two.one
          (one_whole (is_the_mark (codes "=")) _ _ _ rest x.two.two.one
          (leg_whole d 60 leg (guard_form line_end) _ _ rest definition.one
          (one_whole (is_the_word (codes "until")) _ _ _ rest definition.two.one.one
          (value_whole is_name (flag_at d) flag _ _ _ rest (label_formed is_flag_label d) definition.two.one.two
          (one_whole (is_the_word (codes "covers")) _ _ _ rest definition.two.two.one
          (decimal_whole SignedNumber here (later here) mant scale line_end _ _ rest definition.two.two.two
          (one_whole (is_the_mark (codes ";")) [] _ rest rest x.two.two.two.two done))))))));
    }

lines_whole : (d : Declarations) (before after : List (Bytes × Plan)) (parts : Form PlanSymbol) (ts k rest : List Tok) → Repeat (Entry (plan_line d)) before after ts k → Whole plan_forms parts k rest → Whole plan_forms (Repeated PlanLine ∷ parts) ts rest
lines_whole d before after parts ts k rest none w = enough w
lines_whole d before after parts ts k rest (more {b = b} {between = between} x xs) w =
    let line = line_whole d before x.name x.value ts between x.spelled in
    again (form line.among line.whole (lines_whole d b after parts between k rest xs w))

pub plans_whole : (b : PlanBook) (ts : List Tok) → plan_lines b ts [] → Whole plan_forms plans_form ts []
plans_whole b ts x = lines_whole b.declarations [] b.plans (Terminal is_end ∷ []) ts x.between [] x.one (one_whole is_end [] x.between [] [] x.two done)
