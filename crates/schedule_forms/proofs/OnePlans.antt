-- One reading of a schedule file.
use Rattle.std.proofs.Common.{◌≡◌, ℕ, List, [], refl, ap, sym, subst, ◌∙◌}
use Rattle.std.specs.Prelude.{ℤ, codes}
use Rattle.std.specs.Map.{keys_of}
use Rattle.std.proofs.lemmas.Bool.{false≢true}
use Rattle.decimal.specs.declared.Mode.{Mode}
use Rattle.decimal.specs.declared.Decimal.{Decimal}
use Rattle.term_model.specs.Declarations.{Declarations}
use Rattle.contract_grammar.specs.Tokens.{Tok, tokens}
use Rattle.contract_grammar.specs.Words.{Bytes, is_number, is_the_word}
use Rattle.contract_grammar.specs.Judgements.{integer_at, literal_at, mode_at, use_at}
use Rattle.contract_grammar.specs.Spelling.{end, valued, word, ◌⨟◌}
use Rattle.contract_grammar.specs.Statements.{Entry, Repeat}
use Rattle.contract_parse.specs.Reading.{Lacks}
use Rattle.contract_parse.proofs.LinesTaken.{Heads}
use Rattle.contract_parse.proofs.OneTerm.{other_words}
use Rattle.contract_parse.proofs.OneText.{no_line, one_entry, one_repeat}
use Rattle.contract_parse.proofs.OneToken.{one_one, part_case, signed_one, tail_same, test_case, value_case, value_one}
use Rattle.schedule_forms.specs.declared.plans.Size.{Size}
use Rattle.schedule_forms.specs.declared.plans.Size.TheVariants.{Fixed, Fixing}
use Rattle.schedule_forms.specs.declared.plans.Leg.{Leg}
use Rattle.schedule_forms.specs.declared.plans.Plan.{Plan}
use Rattle.schedule_forms.specs.declared.plans.Plan.TheVariants.{Leg as LegPlan, Swap, Guarded}
use Rattle.schedule_forms.specs.PlanJudgements.{count_at, flag_at, number_label_at, times_at}
use Rattle.schedule_forms.specs.PlanHeads.{word_of}
use Rattle.schedule_forms.specs.PlanSpelling.{days_part, decimal_part, definition_part, head_of, leg_part, named_by, notional_part, observed_part, plan_line, rounding_part, route_part, size_part}
use Rattle.schedule_forms.specs.LawsTexts.{OnePlanFile}
use Rattle.schedule_forms.proofs.TakenFacts.{decimal_lacks, literal_number}
use Rattle.schedule_forms.proofs.FileFacts.{one_heading, text_heading}

one_decimal : (mant mant' : ℤ) (scale scale' : ℕ) (ts m n : List Tok) → decimal_part mant scale ts m → decimal_part mant' scale' ts n → ((mant ≡ mant') × (scale ≡ scale')) × (m ≡ n)
one_decimal mant mant' scale scale' ts m n x y =
    let same = signed_one literal_at (record { mant = mant; scale = scale }) (record { mant = mant'; scale = scale' }) ts m n (λ t d e. literal_number t (is_number t) d refl e) x y in
    ((ap (λ (d : Decimal). d.mant) same.0, ap (λ (d : Decimal). d.scale) same.0), same.1)

one_rounding : (mode mode' : Mode) (scale scale' : ℕ) (ts m n : List Tok) → rounding_part mode scale ts m → rounding_part mode' scale' ts n → ((mode ≡ mode') × (scale ≡ scale')) × (m ≡ n)
one_rounding mode mode' scale scale' ts m n x y =
    test_case _ _ ts m n x y (λ k x y. value_case mode_at mode mode' k m n x y (λ mode_same k x y. test_case _ _ k m n x y (λ k x y.
    let last = value_one (integer_at 27) scale scale' k m n x y in
    ((mode_same, last.0), last.1))))

one_observed : (d : Declarations) (label label' lag lag' : ℕ) (ts m n : List Tok) → observed_part d label lag ts m → observed_part d label' lag' ts n → ((label ≡ label') × (lag ≡ lag')) × (m ≡ n)
one_observed d label label' lag lag' ts m n x y =
    test_case _ _ ts m n x y (λ k x y. value_case (number_label_at d) label label' k m n x y (λ label_same k x y. test_case _ _ k m n x y (λ k x y.
    let last = value_one (integer_at 1_000_000) lag lag' k m n x y in
    ((label_same, last.0), last.1))))

one_notional : (mant mant' : ℤ) (scale scale' : ℕ) (ts m n : List Tok) → notional_part mant scale ts m → notional_part mant' scale' ts n → ((mant ≡ mant') × (scale ≡ scale')) × (m ≡ n)
one_notional mant mant' scale scale' ts m n x y =
    test_case _ _ ts m n x y (λ k x y. part_case k m n (λ p q x y. one_decimal mant mant' scale scale' k p q x y) x y (λ same k x y. (same, one_one _ _ k m n x y)))

not_round : (w : Bytes) (ts rest : List Tok) → Lacks w ts → word w ts rest → ⊥
not_round w ts rest lacks (t, is, e) =
    false≢true (sym lacks.other ∙ ap (λ (u : Tok). is_the_word w u) (tail_same lacks.first t ts lacks.after rest lacks.is is).0 ∙ e)

one_size : (d : Declarations) (size size' : Size) (ts m n : List Tok) → size_part d size ts m → size_part d size' ts n → (size ≡ size') × (m ≡ n)
one_size d (Fixed mant scale) (Fixed mant' scale') ts m n x y =
    let same = one_decimal mant mant' scale scale' ts m n x y in
    (λ i. Fixed (same.0.0 i) (same.0.1 i), same.1)
one_size d (Fixed mant scale) (Fixing mode s label lag i k) ts m n x y = absurd (not_round (codes "round") ts y.between (decimal_lacks (codes "round") mant scale ts m x) y.one)
one_size d (Fixing mode s label lag i k) (Fixed mant scale) ts m n x y = absurd (not_round (codes "round") ts x.between (decimal_lacks (codes "round") mant scale ts n y) x.one)
one_size d (Fixing mode s label lag a b) (Fixing mode' s' label' lag' a' b') ts m n x y =
    test_case _ _ ts m n x y (λ k x y. part_case k m n (λ p q x y. one_rounding mode mode' s s' k p q x y) x y (λ rounding k x y.
    part_case k m n (λ p q x y. one_observed d label label' lag lag' k p q x y) x y (λ observed k x y.
    let last = one_notional a a' b b' k m n x y in
    (λ i. Fixing (rounding.0 i) (rounding.1 i) (observed.0 i) (observed.1 i) (last.0.0 i) (last.0.1 i), last.1))))

one_named : (w : Bytes) (names : List Bytes) (i j : ℕ) (ts m n : List Tok) → named_by w names i ts m → named_by w names j ts n → (i ≡ j) × (m ≡ n)
one_named w names i j ts m n x y = test_case _ _ ts m n x y (λ k x y. value_one (use_at names) i j k m n x y)

one_route : (d : Declarations) (a a' p p' q q' : ℕ) (ts m n : List Tok) → route_part d a p q ts m → route_part d a' p' q' ts n → ((a ≡ a') × (p ≡ p') × (q ≡ q')) × (m ≡ n)
one_route d a a' p p' q q' ts m n x y =
    part_case ts m n (λ u v x y. one_named (codes "of") (keys_of d.assets) a a' ts u v x y) x y (λ asset k x y.
    part_case k m n (λ u v x y. one_named (codes "from") d.parties p p' k u v x y) x y (λ from k x y.
    let last = one_named (codes "to") d.parties q q' k m n x y in
    ((asset, from, last.0), last.1)))

one_days : (most f f' e e' t t' : ℕ) (ts m n : List Tok) → days_part most f e t ts m → days_part most f' e' t' ts n → ((f ≡ f') × (e ≡ e') × (t ≡ t')) × (m ≡ n)
one_days most f f' e e' t t' ts m n x y =
    part_case ts m n (λ u v x y. test_case _ _ ts u v x y (λ k x y. value_one (integer_at 100_000) f f' k u v x y)) x y (λ first k x y.
    part_case k m n (λ u v x y. test_case _ _ k u v x y (λ l x y. value_one (count_at 100_000) e e' l u v x y)) x y (λ every k x y.
    let y = subst (λ (p : ℕ × ℕ). (word (codes "times") ⨟ valued (times_at most p.0 p.1) t') k n) (λ i. (sym first i, sym every i)) y in
    let last = test_case _ _ k m n x y (λ l x y. value_one (times_at most f e) t t' l m n x y) in
    ((first, every, last.0), last.1)))

one_leg : (d : Declarations) (most : ℕ) (leg leg' : Leg) (ts m n : List Tok) → leg_part d most leg ts m → leg_part d most leg' ts n → (leg ≡ leg') × (m ≡ n)
one_leg d most leg leg' ts m n x y =
    part_case ts m n (λ u v x y. one_size d leg.size leg'.size ts u v x y) x y (λ size k x y.
    part_case k m n (λ u v x y. one_route d leg.asset leg'.asset leg.from leg'.from leg.to leg'.to k u v x y) x y (λ route k x y.
    let last = one_days most leg.first leg'.first leg.every leg'.every leg.times leg'.times k m n x y in
    (λ i. record { size = size i; asset = route.0 i; from = route.1 i; to = route.2 i; first = last.0.0 i; every = last.0.1 i; times = last.0.2 i }, last.1)))

abbrev SameLine : Declarations → Plan → Plan → Type 0
SameLine d v v' =
    (es : List (Bytes × Plan)) (name name' : Bytes) (ts m n : List Tok) → plan_line d es name v ts m → plan_line d es name' v' ts n → ((name ≡ name') × (v ≡ v')) × (m ≡ n)

-- two lines whose definitions are one
same_line : (d : Declarations) (v v' : Plan) → ((ts m n : List Tok) → definition_part d v ts m → definition_part d v' ts n → (v ≡ v') × (m ≡ n)) → SameLine d v v'
same_line d v v' same es name name' ts m n x y =
    test_case _ _ ts m n x y (λ k x y. part_case k m n (value_one _ name name' k) x y (λ name_same k x y. test_case _ _ k m n x y (λ k x y.
    part_case k m n (λ p q x y. same k p q x y) x y (λ plan_same k x y. ((name_same, plan_same), one_one _ _ k m n x y)))))

one_line : (d : Declarations) (v v' : Plan) → SameLine d v v'
one_line d (LegPlan leg) (LegPlan leg') =
    same_line d (LegPlan leg) (LegPlan leg') (λ ts m n x y.
    let same = one_leg d 5_000 leg leg' ts m n x y in
    (ap (λ (l : Leg). LegPlan l) same.0, same.1))
one_line d (Swap one two) (Swap one' two') =
    same_line d (Swap one two) (Swap one' two') (λ ts m n x y.
    part_case ts m n (λ p q x y. one_leg d 5_000 one one' ts p q x y) x y (λ left k x y. test_case _ _ k m n x y (λ k x y.
    let right = one_leg d 5_000 two two' k m n x y in
    (λ i. Swap (left i) (right.0 i), right.1))))
one_line d (Guarded leg flag mant scale) (Guarded leg' flag' mant' scale') =
    same_line d (Guarded leg flag mant scale) (Guarded leg' flag' mant' scale') (λ ts m n x y.
    part_case ts m n (λ p q x y. one_leg d 60 leg leg' ts p q x y) x y (λ left k x y.
    part_case k m n (λ p q x y. test_case _ _ k p q x y (λ l x y. value_one (flag_at d) flag flag' l p q x y)) x y (λ flagged k x y.
    let cover = test_case _ _ k m n x y (λ l x y. one_decimal mant mant' scale scale' l m n x y) in
    (λ i. Guarded (left i) (flagged i) (cover.0.0 i) (cover.0.1 i), cover.1))))
one_line d (LegPlan leg) (Swap one two) = λ es name name' ts m n x y. absurd (other_words (codes "leg") (codes "swap") ts x.between y.between (λ left. refl) x.one y.one)
one_line d (LegPlan leg) (Guarded l flag mant scale) = λ es name name' ts m n x y. absurd (other_words (codes "leg") (codes "guarded") ts x.between y.between (λ left. refl) x.one y.one)
one_line d (Swap one two) (LegPlan leg) = λ es name name' ts m n x y. absurd (other_words (codes "swap") (codes "leg") ts x.between y.between (λ left. refl) x.one y.one)
one_line d (Swap one two) (Guarded l flag mant scale) = λ es name name' ts m n x y. absurd (other_words (codes "swap") (codes "guarded") ts x.between y.between (λ left. refl) x.one y.one)
one_line d (Guarded l flag mant scale) (LegPlan leg) = λ es name name' ts m n x y. absurd (other_words (codes "guarded") (codes "leg") ts x.between y.between (λ left. refl) x.one y.one)
one_line d (Guarded l flag mant scale) (Swap one two) = λ es name name' ts m n x y. absurd (other_words (codes "guarded") (codes "swap") ts x.between y.between (λ left. refl) x.one y.one)

at_end : (ts : List Tok) → end ts [] → Heads [] ts
at_end ts (t, is, e) = (t, [], is, e)

no_plan : (v : Plan) (ts between : List Tok) → Heads [] ts → word (word_of (head_of v)) ts between → ⊥
no_plan (LegPlan leg) ts between heads x = no_line (codes "leg") [] ts between refl heads x
no_plan (Swap one two) ts between heads x = no_line (codes "swap") [] ts between refl heads x
no_plan (Guarded leg flag mant scale) ts between heads x = no_line (codes "guarded") [] ts between refl heads x

one_lines : (d : Declarations) (vs vs' : List (Bytes × Plan)) (ts m n : List Tok) → end m [] → end n [] → Repeat (Entry (plan_line d)) [] vs ts m → Repeat (Entry (plan_line d)) [] vs' ts n → vs ≡ vs'
one_lines d vs vs' ts m n p q x y =
    (one_repeat (Entry (plan_line d)) (Heads []) (one_entry (plan_line d) (λ es name name' v v' ts m n x y. one_line d v v' es name name' ts m n x y)) (λ a b ts m heads x. no_plan x.value ts x.spelled.between heads x.spelled.one) [] vs vs' ts m n (at_end m p) (at_end n q) x y).0

pub one_plan_file : OnePlanFile
one_plan_file bytes b b' text text' =
    let x = text.spelled in
    let y = text'.spelled in
    let same = one_heading bytes b.declarations b'.declarations x.between y.between (text_heading (tokens bytes) b x.between text.version x.one x.two) (text_heading (tokens bytes) b' y.between text'.version y.one y.two) in
    let other = subst (λ (d : Declarations). (Repeat (Entry (plan_line d)) [] b'.plans ⨟ end) y.between []) (sym same.0) y.two in
    let here = subst (λ (k : List Tok). (Repeat (Entry (plan_line b.declarations)) [] b'.plans ⨟ end) k []) (sym same.1) other in
    let plans = one_lines b.declarations b.plans b'.plans x.between x.two.between here.between x.two.two here.two x.two.one here.one in
    λ i. record { declarations = same.0 i; plans = plans i }
