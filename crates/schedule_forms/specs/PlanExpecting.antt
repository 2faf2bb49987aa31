-- Where tokens may stand in the plans of a schedule file. A stack says what is expected to stand next. Each token is what
-- is expected first, and leaves what is expected behind it, or it is at fault. The next token decides the form.
use Rattle.std.specs.Prelude.{ℕ, ◌∷◌, ◌++◌, true, false, List, [], Option, Some, None, Result, Ok, Err, codes, if◌then◌else◌}
use Rattle.std.specs.Map.{keys_of}
use Rattle.term_model.specs.Declarations.{Declarations}
use Rattle.contract_grammar.specs.Tokens.{Tok}
use Rattle.contract_grammar.specs.Words.{Bytes, is_the_mark, is_the_word}
use Rattle.contract_grammar.specs.Names.{nothing_declared}
use Rattle.contract_grammar.specs.Judgements.{integer_at, literal_at, new_at}
use Rattle.contract_parse.specs.Expecting.{AnyTokens, IntegerAt, LiteralNumber, ModeAt, Expected, TheEnd, TheMark, TheWord, UseOf, step}
use Rattle.contract_parse.specs.Expecting as common
use Rattle.contract_grammar.specs.declared.faults.TextKind.{TextKind}
use Rattle.contract_parse.specs.declared.faults.Refusal.{Refusal}
use Rattle.schedule_forms.specs.declared.heads.PlanHead.{PlanHead}
use Rattle.schedule_forms.specs.declared.heads.PlanHead.TheVariants.{Leg as LegHead, Swap as SwapHead, Guarded as GuardedHead}
use Rattle.schedule_forms.specs.PlanHeads.{head_at}
use Rattle.schedule_forms.specs.PlanJudgements.{count_at, flag_at, number_label_at, times_at}

pub data PlanExpected : Type 0 where
  -- one token, which may stand here if it may stand where a portfolio expects this
  Token : (expected : Expected) → PlanExpected
  -- a decimal, with or without a sign
  DecimalAt : PlanExpected
  -- a size, the observable of one, and a flag
  SizeAt : (d : Declarations) → PlanExpected
  NumberLabelAt : (d : Declarations) → PlanExpected
  FlagAt : (d : Declarations) → PlanExpected
  -- the first day of at most so many payments, the days from one to the next, and their number
  FirstAt : (most : ℕ) → PlanExpected
  EveryAt : (most first : ℕ) → PlanExpected
  TimesAt : (most first every : ℕ) → PlanExpected
  -- the name of a plan, and the plans that may stand here
  NewPlan : PlanExpected
  PlanLines : (d : Declarations) → PlanExpected

-- a token goes on to what is expected then, with these names of plans, or is at fault
pub data PlanStep : Type 0 where
  Next : (names : List Bytes) (expected : List PlanExpected) → PlanStep
  Refuse : (kind : TextKind) → PlanStep

abbrev pub judged : {X : Type 0} → Result X TextKind → (X → PlanStep) → PlanStep
judged (Ok x) next = next x
judged (Err kind) next = Refuse kind

abbrev pub the_word : Bytes → PlanExpected
the_word w = Token (TheWord w)

abbrev pub the_mark : Bytes → PlanExpected
the_mark m = Token (TheMark m)

-- the word `round` is followed by these
abbrev pub fixing_expected : Declarations → List PlanExpected → List PlanExpected
fixing_expected d ps =
    the_mark (codes "(") ∷ Token ModeAt ∷ the_mark (codes ",") ∷ Token (IntegerAt 27) ∷ the_mark (codes ",") ∷ NumberLabelAt d
    ∷ the_mark (codes ",") ∷ Token (IntegerAt 1_000_000) ∷ the_mark (codes ",") ∷ DecimalAt ∷ the_mark (codes ")") ∷ ps

abbrev pub route_expected : Declarations → List PlanExpected → List PlanExpected
route_expected d ps =
    the_word (codes "of") ∷ Token (UseOf (keys_of d.assets)) ∷ the_word (codes "from") ∷ Token (UseOf d.parties)
    ∷ the_word (codes "to") ∷ Token (UseOf d.parties) ∷ ps

abbrev pub leg_expected : Declarations → ℕ → List PlanExpected → List PlanExpected
leg_expected d most ps = SizeAt d ∷ route_expected d (the_word (codes "first") ∷ FirstAt most ∷ ps)

abbrev pub guard_expected : Declarations → List PlanExpected → List PlanExpected
guard_expected d ps = the_word (codes "until") ∷ FlagAt d ∷ the_word (codes "covers") ∷ DecimalAt ∷ ps

-- a plan behind its name
abbrev pub definition_expected : Declarations → PlanHead → List PlanExpected → List PlanExpected
definition_expected d LegHead ps = leg_expected d 5_000 ps
definition_expected d SwapHead ps = leg_expected d 5_000 (the_word (codes "against") ∷ leg_expected d 5_000 ps)
definition_expected d GuardedHead ps = leg_expected d 60 (guard_expected d ps)

-- the line of a plan behind its word
abbrev pub named_expected : List PlanExpected → List PlanExpected
named_expected ps = NewPlan ∷ the_mark (codes "=") ∷ ps

abbrev pub line_expected : Declarations → PlanHead → List PlanExpected → List PlanExpected
line_expected d head ps = named_expected (definition_expected d head (the_mark (codes ";") ∷ ps))

-- as a token is taken or refused in a portfolio
abbrev pub as_common : common.Step → List Bytes → List PlanExpected → PlanStep
as_common (common.Next s qs) names ps = Next names ps
as_common (common.Refuse kind) names ps = Refuse kind

abbrev pub decimal_step : List Bytes → List PlanExpected → Tok → PlanStep
decimal_step names ps t =
    if is_the_mark (codes "-") t then Next names (Token (LiteralNumber true) ∷ ps)
    else judged (literal_at false t) (λ number. Next names ps)

abbrev pub plan_step : List Bytes → List PlanExpected → Tok → PlanStep
plan_step names [] t = Refuse TextKind.Syntax
plan_step names (Token p ∷ ps) t = as_common (step nothing_declared (p ∷ AnyTokens ∷ []) t) names ps
plan_step names (DecimalAt ∷ ps) t = decimal_step names ps t
plan_step names (SizeAt d ∷ ps) t =
    if is_the_word (codes "round") t then Next names (fixing_expected d ps) else decimal_step names ps t
plan_step names (NumberLabelAt d ∷ ps) t = judged (number_label_at d t) (λ i. Next names ps)
plan_step names (FlagAt d ∷ ps) t = judged (flag_at d t) (λ i. Next names ps)
plan_step names (FirstAt most ∷ ps) t =
    judged (integer_at 100_000 t) (λ first. Next names (the_word (codes "every") ∷ EveryAt most first ∷ ps))
plan_step names (EveryAt most first ∷ ps) t =
    judged (count_at 100_000 t) (λ every. Next names (the_word (codes "times") ∷ TimesAt most first every ∷ ps))
plan_step names (TimesAt most first every ∷ ps) t = judged (times_at most first every t) (λ times. Next names ps)
plan_step names (NewPlan ∷ ps) t = judged (new_at names t) (λ name. Next (names ++ name ∷ []) ps)
plan_step names (PlanLines d ∷ ps) t =
    elim (head_at t) [
      | Some head ↦ Next names (line_expected d head (PlanLines d ∷ ps))
      | None ↦ plan_step names ps t
    ]

-- the first fault of tokens where this is expected, and how many bytes are left where its token begins, or none
unfoldable pub plan_fault : List Bytes → List PlanExpected → List Tok → Option Refusal
plan_fault names ps [] = None
plan_fault names ps (t ∷ ts) =
    elim (plan_step names ps t) [
      | Next more qs ↦ plan_fault more qs ts
      | Refuse kind ↦ Some (record { kind = kind; left = t.left })
    ]

-- the plans behind declarations, to the end
abbrev pub plan_expected : Declarations → List PlanExpected
plan_expected d = PlanLines d ∷ Token TheEnd ∷ []
