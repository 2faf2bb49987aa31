-- The grammar of schedule files: which tokens spell which plan, over declarations.
use Rattle.std.specs.Prelude.{◌≡◌, ℕ, ℤ, List, [], codes}
use Rattle.std.specs.Map.{keys_of}
use Rattle.std.specs.Str.{IsUtf8}
use Rattle.decimal.specs.declared.Mode.{Mode}
use Rattle.term_model.specs.Declarations.{Declarations}
use Rattle.contract_grammar.specs.Tokens.{tokens}
use Rattle.contract_grammar.specs.Words.{Bytes}
use Rattle.contract_grammar.specs.Judgements.{integer_at, is_version, literal_at, mode_at, use_at}
use Rattle.contract_grammar.specs.Spelling.{Part, Signed, ◌⨟◌, end, mark, one, valued, word}
use Rattle.contract_grammar.specs.Statements.{Entry, Repeat, decls, new_name}
use Rattle.schedule_forms.specs.declared.plans.Size.{Size}
use Rattle.schedule_forms.specs.declared.plans.Size.TheVariants.{Fixed, Fixing}
use Rattle.schedule_forms.specs.declared.plans.Leg.{Leg}
use Rattle.schedule_forms.specs.declared.plans.Plan.{Plan}
use Rattle.schedule_forms.specs.declared.plans.Plan.TheVariants.{Leg as LegPlan, Swap, Guarded}
use Rattle.schedule_forms.specs.declared.heads.PlanHead.{PlanHead}
use Rattle.schedule_forms.specs.declared.heads.PlanHead.TheVariants.{Leg as LegHead, Swap as SwapHead, Guarded as GuardedHead}
use Rattle.schedule_forms.specs.PlanHeads.{word_of}
use Rattle.schedule_forms.specs.PlanBooks.{PlanBook}
use Rattle.schedule_forms.specs.PlanJudgements.{count_at, flag_at, number_label_at, times_at}

-- a decimal, with or without a sign
abbrev pub decimal_part : ℤ → ℕ → Part
decimal_part mant scale = Signed (λ negative. valued (literal_at negative) (record { mant = mant; scale = scale }))

-- `( mode, scale`
abbrev pub rounding_part : Mode → ℕ → Part
rounding_part mode scale = mark (codes "(") ⨟ valued mode_at mode ⨟ mark (codes ",") ⨟ valued (integer_at 27) scale

-- `, NAME, lag`
abbrev pub observed_part : Declarations → ℕ → ℕ → Part
observed_part d label lag =
    mark (codes ",") ⨟ valued (number_label_at d) label ⨟ mark (codes ",") ⨟ valued (integer_at 1_000_000) lag

-- `, DEC )`
abbrev pub notional_part : ℤ → ℕ → Part
notional_part mant scale = mark (codes ",") ⨟ decimal_part mant scale ⨟ mark (codes ")")

abbrev pub size_part : Declarations → Size → Part
size_part d (Fixed mant scale) = decimal_part mant scale
size_part d (Fixing mode scale label lag mant mant_scale) =
    word (codes "round") ⨟ rounding_part mode scale ⨟ observed_part d label lag ⨟ notional_part mant mant_scale

-- a declared name behind a word
abbrev pub named_by : Bytes → List Bytes → ℕ → Part
named_by w names i = word w ⨟ valued (use_at names) i

-- `of NAME from NAME to NAME`
abbrev pub route_part : Declarations → ℕ → ℕ → ℕ → Part
route_part d asset from to =
    named_by (codes "of") (keys_of d.assets) asset ⨟ named_by (codes "from") d.parties from ⨟ named_by (codes "to") d.parties to

-- `first INT`, `every INT` and `times INT`, of at most so many times
abbrev pub first_part : ℕ → Part
first_part first = word (codes "first") ⨟ valued (integer_at 100_000) first

abbrev pub every_part : ℕ → Part
every_part every = word (codes "every") ⨟ valued (count_at 100_000) every

abbrev pub times_part : ℕ → ℕ → ℕ → ℕ → Part
times_part most first every times = word (codes "times") ⨟ valued (times_at most first every) times

abbrev pub days_part : ℕ → ℕ → ℕ → ℕ → Part
days_part most first every times = first_part first ⨟ every_part every ⨟ times_part most first every times

abbrev pub leg_part : Declarations → ℕ → Leg → Part
leg_part d most leg =
    size_part d leg.size ⨟ route_part d leg.asset leg.from leg.to ⨟ days_part most leg.first leg.every leg.times

-- `until NAME` and `covers DEC`
abbrev pub flag_part : Declarations → ℕ → Part
flag_part d flag = word (codes "until") ⨟ valued (flag_at d) flag

abbrev pub cover_part : ℤ → ℕ → Part
cover_part mant scale = word (codes "covers") ⨟ decimal_part mant scale

-- a plan behind its name
abbrev pub definition_part : Declarations → Plan → Part
definition_part d (LegPlan leg) = leg_part d 5_000 leg
definition_part d (Swap one two) = leg_part d 5_000 one ⨟ word (codes "against") ⨟ leg_part d 5_000 two
definition_part d (Guarded leg flag mant scale) = leg_part d 60 leg ⨟ flag_part d flag ⨟ cover_part mant scale

-- the word with which it begins
abbrev pub head_of : Plan → PlanHead
head_of (LegPlan leg) = LegHead
head_of (Swap one two) = SwapHead
head_of (Guarded leg flag mant scale) = GuardedHead

abbrev pub plan_line : Declarations → List (Bytes × Plan) → Bytes → Plan → Part
plan_line d before name plan =
    word (word_of (head_of plan)) ⨟ new_name before name ⨟ mark (codes "=") ⨟ definition_part d plan ⨟ mark (codes ";")

-- `schedules 1;`
abbrev pub first_line : Part
first_line = word (codes "schedules") ⨟ one is_version ⨟ mark (codes ";")

abbrev pub plan_lines : PlanBook → Part
plan_lines b = Repeat (Entry (plan_line b.declarations)) [] b.plans ⨟ end

abbrev pub plan_file : PlanBook → Part
plan_file b = (first_line ⨟ decls b.declarations) ⨟ plan_lines b

-- the bytes are a text of this schedule file, whose declarations are of version 1
pub record PlanText (bytes : List ℕ) (b : PlanBook) : Type 0 where
  pub utf8 : IsUtf8 bytes
  pub version : b.declarations.version ≡ 1
  pub spelled : plan_file b (tokens bytes) []
