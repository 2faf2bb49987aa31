-- The portfolio of the expansions of a text's plans is one that texts can stand for.
use Rattle.std.proofs.Common.{◌≡◌, ℕ, zero, suc, ℤ, ◌+◌, ◌-◌, ◌*◌, ◌≤◌, true, List, [], map, refl, subst, sym, arith}
use Rattle.std.specs.Prelude.{codes}
use Rattle.std.specs.Map.{keys_of}
use Rattle.std.specs.List.{range_with_len}
use Rattle.std.proofs.lemmas.List.Elements.{All-map, All-weaker}
use Rattle.std.proofs.lemmas.List.FromFn.{length-map-range_with_len}
use Rattle.std.proofs.lemmas.Nat.{mul-le}
use Rattle.std.proofs.lemmas.Simd.{map-map}
use Rattle.term_model.specs.Declarations.{Declarations}
use Rattle.term_model.specs.Limits.{is_a_version}
use Rattle.term_model.specs.Terms.{Contract}
use Rattle.contract_grammar.specs.Tokens.{Tok, tokens}
use Rattle.contract_grammar.specs.Words.{Bytes}
use Rattle.contract_grammar.specs.Versions.{Version, version_of}
use Rattle.contract_grammar.specs.Judgements.{integer_at, is_version, literal_at, mode_at, use_at}
use Rattle.contract_grammar.specs.Statements.{Entry}
use Rattle.contract_print.specs.Spellable.{AreSpellable, ContractHasNumbersOfTexts, HasNumbersOfTexts, IsSpellable, are_names}
use Rattle.contract_print.proofs.TextSpellable.{AreEntries, LineIs, decls_is, entry_goes, new_then, repeat_goes, three_keep}
use Rattle.contract_print.proofs.WordTexts.{words_are_words}
use Rattle.contract_print.proofs.WordsKept.{Keeps, Words, ◌▹◌, mark_keeps, signed_keeps, test_keeps, value_keeps, word_keeps}
use Rattle.schedule_forms.specs.declared.plans.Size.{Size}
use Rattle.schedule_forms.specs.declared.plans.Size.TheVariants.{Fixed, Fixing}
use Rattle.schedule_forms.specs.declared.plans.Leg.{Leg}
use Rattle.schedule_forms.specs.declared.plans.Plan.{Plan}
use Rattle.schedule_forms.specs.declared.plans.Plan.TheVariants.{Leg as LegPlan, Swap, Guarded}
use Rattle.schedule_forms.specs.PaymentSizes.{expression_of_size}
use Rattle.schedule_forms.specs.PaymentDays.{last_day, payment_day}
use Rattle.schedule_forms.specs.PlanLimits.{IsLegWithinLimits, IsSizeOfTexts}
use Rattle.schedule_forms.specs.DeclaredPlans.{IsPlanOfTexts}
use Rattle.schedule_forms.specs.Expansions.{balanced, cover_payment, dated_payment, expansion, guarded, payments}
use Rattle.schedule_forms.specs.PlanBooks.{PlanBook, expanded_book}
use Rattle.schedule_forms.specs.PlanHeads.{word_of}
use Rattle.schedule_forms.specs.PlanJudgements.{count_at, flag_at, number_label_at, times_at}
use Rattle.schedule_forms.specs.PlanSpelling.{PlanText, decimal_part, definition_part, head_of, leg_part, named_by, plan_line, size_part}
use Rattle.schedule_forms.specs.LawsTexts.{ExpandedTextsAreSpellable}
use Rattle.schedule_forms.proofs.TreeFacts.{Each, each_left, each_right, tree_by}
use Rattle.schedule_forms.proofs.PlanFacts.{expansions_closed}
use Rattle.schedule_forms.proofs.SmallFacts.{expansions_small}
use Rattle.schedule_forms.proofs.TextPlans.{texts_expandable}

-- ---- the numbers of an expansion

size_numbers : (size : Size) → IsSizeOfTexts size → HasNumbersOfTexts (expression_of_size size)
size_numbers (Fixed mant scale) h = h
size_numbers (Fixing mode scale label lag mant mant_scale) h = (h.1, (tt, h.0))

module _ (v : Version) where
  abbrev Has : Contract → Type 0
  Has c = ContractHasNumbersOfTexts v c

  each_day : (leg : Leg) (a m : ℕ) → a + m ≤ leg.times → last_day leg ≤ 100_000 → HasNumbersOfTexts (expression_of_size leg.size) → Each Has (map (dated_payment leg) (range_with_len a m))
  each_day leg a zero within last h = tt
  each_day leg a (suc m) within last h =
      let before : a ≤ leg.times - 1 = omega arith in
      let product : a * leg.every ≤ (leg.times - 1) * leg.every = mul-le a leg.every (leg.times - 1) leg.every before (omega arith) in
      let day : payment_day leg a ≤ 100_000 = omega (arith, product, last) in
      let further : a + 1 + m ≤ leg.times = omega arith in
      ((day, (h, tt)), each_day leg (a + 1) m further last h)

  leg_numbers : (most : ℕ) (leg : Leg) → IsLegWithinLimits most leg → IsSizeOfTexts leg.size → Has (balanced (payments leg))
  leg_numbers most leg limits size =
      tree_by (λ cs c. Each Has cs → Has c) (λ c h. h.0)
      (λ xs ys a b even p q h. (p (each_left Has xs ys h), q (each_right Has xs ys h)))
      (payments leg) (omega (arith, limits.some_times, length-map-range_with_len (dated_payment leg) 0 leg.times))
      (each_day leg 0 leg.times (omega arith) limits.last_in (size_numbers leg.size size))

  guard_numbers : (leg : Leg) (flag : ℕ) (cover : Contract) (days m : ℕ) → days ≤ 100_000 → leg.every ≤ 100_000 → HasNumbersOfTexts (expression_of_size leg.size) → Has cover → Has (guarded leg flag cover days m)
  guard_numbers leg flag cover days zero first every h k = (tt, first, k, (h, tt))
  guard_numbers leg flag cover days (suc m) first every h k =
      (tt, first, k, ((h, tt), guard_numbers leg flag cover leg.every m every every h k))

  plan_numbers : (d : Declarations) (plan : Plan) → IsPlanOfTexts d plan → Has (expansion plan)
  plan_numbers d (LegPlan leg) h = leg_numbers 5_000 leg h.within h.numbers
  plan_numbers d (Swap one two) h = (leg_numbers 5_000 one h.within.0 h.numbers.0, leg_numbers 5_000 two h.within.1 h.numbers.1)
  plan_numbers d (Guarded leg flag mant scale) h =
      guard_numbers leg flag (cover_payment leg mant scale) leg.first (leg.times - 1) h.within.first_in h.within.every_in (size_numbers leg.size h.numbers.0) (h.numbers.1, tt)

plan_spellable : (d : Declarations) (plan : Plan) → IsPlanOfTexts d plan → IsSpellable d (expansion plan)
plan_spellable d plan h =
    record {
      closed = (expansions_closed d plan h.within h.over).0;
      numbers = plan_numbers (version_of d.version) d plan h;
      shallow = (expansions_small plan h.within).0;
    }

-- ---- the names of plans

decimal_keeps : (mant : ℤ) (scale : ℕ) → Keeps (decimal_part mant scale)
decimal_keeps mant scale = signed_keeps _ (λ negative. value_keeps (literal_at negative) (record { mant = mant; scale = scale }))

size_keeps : (d : Declarations) (size : Size) → Keeps (size_part d size)
size_keeps d (Fixed mant scale) = decimal_keeps mant scale
size_keeps d (Fixing mode scale label lag mant mant_scale) =
    word_keeps (codes "round")
    ▹ (mark_keeps (codes "(") ▹ value_keeps mode_at mode ▹ mark_keeps (codes ",") ▹ value_keeps (integer_at 27) scale)
    ▹ (mark_keeps (codes ",") ▹ value_keeps (number_label_at d) label ▹ mark_keeps (codes ",") ▹ value_keeps (integer_at 1_000_000) lag)
    ▹ (mark_keeps (codes ",") ▹ decimal_keeps mant mant_scale ▹ mark_keeps (codes ")"))

named_keeps : (w : Bytes) (names : List Bytes) (i : ℕ) → Keeps (named_by w names i)
named_keeps w names i = word_keeps w ▹ value_keeps (use_at names) i

leg_keeps : (d : Declarations) (most : ℕ) (leg : Leg) → Keeps (leg_part d most leg)
leg_keeps d most leg =
    size_keeps d leg.size
    ▹ (named_keeps (codes "of") (keys_of d.assets) leg.asset ▹ named_keeps (codes "from") d.parties leg.from ▹ named_keeps (codes "to") d.parties leg.to)
    ▹ ((word_keeps (codes "first") ▹ value_keeps (integer_at 100_000) leg.first)
    ▹ (word_keeps (codes "every") ▹ value_keeps (count_at 100_000) leg.every)
    ▹ (word_keeps (codes "times") ▹ value_keeps (times_at most leg.first leg.every) leg.times))

definition_keeps : (d : Declarations) (plan : Plan) → Keeps (definition_part d plan)
definition_keeps d (LegPlan leg) = leg_keeps d 5_000 leg
definition_keeps d (Swap one two) = leg_keeps d 5_000 one ▹ word_keeps (codes "against") ▹ leg_keeps d 5_000 two
definition_keeps d (Guarded leg flag mant scale) =
    leg_keeps d 60 leg ▹ (word_keeps (codes "until") ▹ value_keeps (flag_at d) flag) ▹ (word_keeps (codes "covers") ▹ decimal_keeps mant scale)

plan_is : (d : Declarations) (es : List (Bytes × Plan)) (name : Bytes) (plan : Plan) (ts rest : List Tok) → plan_line d es name plan ts rest → Words ts → LineIs (λ plan. true) es name plan rest
plan_is d es name plan ts rest x words =
    let new = new_then (keys_of es) name x.between x.two.between x.two.one ((word_keeps (word_of (head_of plan))).keeps ts x.between x.one words) in
    record {
      new = new.first;
      passes = refl;
      words = (mark_keeps (codes "=") ▹ definition_keeps d plan ▹ mark_keeps (codes ";")).keeps x.two.between rest x.two.two new.words;
    }

-- ---- the whole text

-- the declarations and the names of a text's plans
record Names (b : PlanBook) : Type 0 where
  declarations : AreSpellable b.declarations
  plans : are_names (keys_of b.plans) ≡ true

text_names : (bytes : List ℕ) (b : PlanBook) → PlanText bytes b → Names b
text_names bytes b text =
    let x = text.spelled in
    let d = b.declarations in
    let first = x.one.one in
    let version : is_a_version d.version ≡ true = subst (λ (v : ℕ). is_a_version v ≡ true) (sym text.version) refl in
    let at_declarations = three_keep (word_keeps (codes "schedules")) (test_keeps is_version) (mark_keeps (codes ";")) (tokens bytes) first.between first.two.between x.one.between first.one first.two.one first.two.two (words_are_words bytes) in
    let declared = decls_is d x.one.between x.between version x.one.two at_declarations in
    let plans = repeat_goes (AreEntries (λ (plan : Plan). true)) (Entry (plan_line d)) (entry_goes (λ (plan : Plan). true) (plan_line d) (plan_is d)) [] b.plans x.between x.two.between x.two.one declared.1 (record { names = refl; pass = refl }) in
    record { declarations = declared.0; plans = plans.0.names }

pub expanded_spellable : ExpandedTextsAreSpellable
expanded_spellable bytes b text =
    let d = b.declarations in
    let names = text_names bytes b text in
    let same : keys_of (expanded_book b).contracts ≡ keys_of b.plans = map-map (λ (entry : Bytes × Contract). entry.0) (λ (entry : Bytes × Plan). (entry.0, expansion entry.1)) b.plans in
    record {
      declarations = names.declarations;
      contracts = subst (λ (ns : List Bytes). are_names ns ≡ true) (sym same) names.plans;
      each = All-map (λ (entry : Bytes × Contract). IsSpellable d entry.1) (λ (entry : Bytes × Plan). (entry.0, expansion entry.1)) b.plans
          (All-weaker (λ (entry : Bytes × Plan). IsPlanOfTexts d entry.1) (λ (entry : Bytes × Plan). IsSpellable d (expansion entry.1)) (λ entry h. plan_spellable d entry.1 h) b.plans (texts_expandable bytes b text));
    }
