-- The evaluator of code and the walk of the model.
use Rattle.std.proofs.Common.{◌≡◌, ℕ, ℤ, pos, ◌+ℤ◌, ◌-◌, Bool, true, false, if◌then◌else◌, int_lt, List, [], ◌∷◌, Option, Some, Result, Ok, Err, refl, ap, ap₂, subst, sym, ◌∙◌}
use Rattle.term_model.specs.Declarations.{Declarations}
use Rattle.term_model.specs.declared.values.Kind.{Kind}
use Rattle.term_model.specs.declared.values.Value.{Value}
use Rattle.term_model.specs.declared.values.Missing.{Missing}
use Rattle.term_model.specs.Terms.{Expression}
use Rattle.term_model.specs.Environments.{Environment, Place}
use Rattle.term_model.specs.Kinds.{kind_of, scale_of, scale_of_kind}
use Rattle.term_model.specs.Values.{Entry, kinds, kind_or, value_of}
use Rattle.term_model.specs.Reads.{reads_of, first_unfixed}
use Rattle.term_model.specs.Bounds.{Range, range_kinds}
use Rattle.interval_check.specs.Nodes.{MeetsRules, IsSortedPart}
use Rattle.interval_check.specs.RangeTrials.{kind_found}
use Rattle.interval_check.proofs.KindsFound.{has_kind, scale_is}
use Rattle.interval_check.proofs.NodeTests.{at_root, some_kind}
use Rattle.expr_eval.specs.declared.scratch.Binding.{Binding}
use Rattle.expr_eval.specs.Rooms.{kinds_of}
use Rattle.expr_eval.specs.Standing.{StandFor, IsHeldFor}
use Rattle.expr_eval.specs.Answers.{IsAnswer, held_of}
use Rattle.expr_eval.specs.Trials.{first_tried}
use Rattle.expr_eval.proofs.AnswerFacts.{is_answer}
use Rattle.expr_eval.proofs.RunValues.{same_kinds}
use Rattle.expr_eval.proofs.RunReads.{have_values, self_extends}
use Rattle.payoff_terms.specs.TemplateDates.{day_of}
use Rattle.payoff_terms.specs.Dating.{at_setting, undated}
use Rattle.payoff_terms.specs.Code.{ValueExpression, PayoffCode, Nothing, PayOn, Add, ScaleBy, LetBe, Loop, Cut}
use Rattle.payoff_terms.specs.CodeValues.{Asked, kind_at, entry_at}
use Rattle.payoff_terms.specs.CodeReads.{value_reads}
use Rattle.payoff_terms.specs.CodeTotals.{range_at}
use Rattle.payoff_terms.proofs.DateFreeFacts.{kind_any, scale_any}
use Rattle.payoff_eval.specs.declared.walk.Worth.{Worth}
use Rattle.payoff_eval.specs.Walks.{answer_at, nothing_reached, then_added, then_branch, then_scaled, tries, unless, walk_of}
use Rattle.payoff_eval.specs.CodeRules.{CodeMeetsRules}
use Rattle.payoff_eval.specs.CodeRuns.{answer_of, bound_for, run_code, scale_found}

-- a value expression has a kind
abbrev pub HasSome : Declarations → List ℕ → ValueExpression → List Kind → Type 0
HasSome d xs v ks = (k : Kind) × (kind_of d (at_setting xs v) ks ≡ Some k)

abbrev pub Kinded : Declarations → List ℕ → PayoffCode → List Kind → Type 0
Kinded d xs Nothing ks = Unit {0}
Kinded d xs (PayOn x u p q) ks = Unit {0}
Kinded d xs (Add k l) ks = Kinded d xs k ks × Kinded d xs l ks
Kinded d xs (ScaleBy v k) ks = HasSome d xs v ks × Kinded d xs k ks
Kinded d xs (LetBe v k) ks = HasSome d xs v ks × Kinded d xs k (kind_at d v ks ∷ ks)
Kinded d xs (Loop v x k l) ks = HasSome d xs v ks × Kinded d xs k ks × Kinded d xs l ks
Kinded d xs (Cut x k) ks = Kinded d xs k ks

pub some_of : (d : Declarations) (xs : List ℕ) (v : ValueExpression) (g : List Range) → MeetsRules d (at_setting xs v) g → HasSome d xs v (range_kinds g)
some_of d xs v g h =
    (kind_or (kind_of d (at_setting xs v) (range_kinds g)), some_kind (kind_of d (at_setting xs v) (range_kinds g)) (at_root (IsSortedPart d) d (at_setting xs v) g h.sorts))

pub kinded : (d : Declarations) (xs : List ℕ) (k : PayoffCode) (g : List Range) → CodeMeetsRules d xs k g → Kinded d xs k (range_kinds g)
kinded d xs Nothing g h = tt
kinded d xs (PayOn x u p q) g h = tt
kinded d xs (Add k l) g h = (kinded d xs k g h.0, kinded d xs l g h.1)
kinded d xs (ScaleBy v k) g h = (some_of d xs v g h.0, kinded d xs k g h.1)
kinded d xs (LetBe v k) g h = (some_of d xs v g h.0, kinded d xs k (range_at d v g ∷ g) h.1)
kinded d xs (Loop v x k l) g h = (some_of d xs v g h.0, kinded d xs k g h.1, kinded d xs l g h.2)
kinded d xs (Cut x k) g h = kinded d xs k g h

-- an answer is what the model answers
answer_is : (d : Declarations) (e : Expression) (bs : List Binding) (F : Environment) (b : ℤ) (r : Result Value Missing) (g : List Entry) (ps : List (List Place)) → IsAnswer d e bs F b r → StandFor F bs g ps → r ≡ unless (first_unfixed F (reads_of d e g ps F b)) (value_of d e g F b)
answer_is d e bs F b (Ok v) g ps h s = ap₂ (λ (o : Option Place) (w : Value). unless o w) (h.missing g ps s) (sym (h.value g ps F s (self_extends F)))
answer_is d e bs F b (Err m) g ps h s = ap (λ (o : Option Place). unless o (value_of d e g F b)) (h.missing g ps s)

held_is : (d : Declarations) (e : Expression) (bs : List Binding) (F : Environment) (b : ℤ) (r : Result Value Missing) (g : List Entry) (ps : List (List Place)) → IsAnswer d e bs F b r → StandFor F bs g ps → IsHeldFor F (held_of r) (value_of d e g F b) (reads_of d e g ps F b)
held_is d e bs F b (Ok v) g ps h s = (sym (h.value g ps F s (self_extends F)), sym (h.missing g ps s))
held_is d e bs F b (Err m) g ps h s = sym (h.missing g ps s)

-- what is known of a value expression among entries that stand for names
pub record Known (d : Declarations) (xs : List ℕ) (v : ValueExpression) (bs : List Binding) (F : Environment) (b : ℤ) (g : List Entry) (ps : List (List Place)) : Type 0 where
  pub answer : answer_of d v bs F xs b ≡ answer_at d v g ps F xs b
  pub scale : scale_found d v bs xs ≡ scale_of d (undated v) (kinds g)
  pub stands : StandFor F (bound_for d v bs F xs b ∷ bs) (entry_at d v g F xs b ∷ g) (value_reads d v g ps F xs b ∷ ps)

pub known : (d : Declarations) (xs : List ℕ) (v : ValueExpression) (bs : List Binding) (F : Environment) (b : ℤ) (g : List Entry) (ps : List (List Place)) → HasSome d xs v (kinds g) → StandFor F bs g ps → Known d xs v bs F b g ps
known d xs v bs F b g ps h s =
    let e = at_setting xs v in
    let same : kinds_of bs ≡ kinds g = same_kinds bs g (have_values F bs g ps s) in
    let kind : kind_of d e (kinds_of bs) ≡ Some h.0 = subst (λ (ks : List Kind). kind_of d e ks ≡ Some h.0) (sym same) h.1 in
    let found : kind_found d e (kinds_of bs) ≡ h.0 = has_kind d e (kinds_of bs) h.0 kind in
    let right = is_answer d e bs F b h.0 kind in
    record {
      answer = answer_is d e bs F b (answer_of d v bs F xs b) g ps right s;
      scale = ap scale_of_kind found ∙ sym (scale_is d e (kinds g) h.0 h.1) ∙ scale_any d (day_of xs) (λ _. pos 0) v (kinds g);
      stands = (found ∙ ap kind_or (sym h.1) ∙ ap kind_or (kind_any d (day_of xs) (λ _. pos 0) v (kinds g)), held_is d e bs F b (answer_of d v bs F xs b) g ps right s, s);
    }

branch_same : (o u : Result (Option ℕ) Missing) (hit hit' : ℕ → Result Worth Missing) (miss miss' : Result Worth Missing) → o ≡ u → ((n : ℕ) → hit n ≡ hit' n) → miss ≡ miss' → then_branch o hit miss ≡ then_branch u hit' miss'
branch_same o u hit hit' miss miss' e h k =
    ap (λ (t : Result (Option ℕ) Missing). then_branch t hit miss) e ∙ ap₂ (λ (x : ℕ → Result Worth Missing) (y : Result Worth Missing). then_branch u x y) (λ i n. h n i) k

cut_same : (t : Bool) (x y : Result Worth Missing) → x ≡ y → (if t then Ok nothing_reached else x) ≡ (if t then Ok nothing_reached else y)
cut_same true x y h = refl
cut_same false x y h = h

pub runs : (d : Declarations) (xs : List ℕ) (F : Environment) (a : Asked) (k : PayoffCode) (decimals : ℕ) (bs : List Binding) (g : List Entry) (ps : List (List Place)) (b : ℤ) → Kinded d xs k (kinds g) → StandFor F bs g ps → run_code d decimals k bs F xs a b ≡ walk_of d decimals k g ps F xs a b
runs d xs F a Nothing decimals bs g ps b h s = refl
runs d xs F a (PayOn x u p q) decimals bs g ps b h s = refl
runs d xs F a (Add k l) decimals bs g ps b h s = ap₂ then_added (runs d xs F a k decimals bs g ps b h.0 s) (runs d xs F a l decimals bs g ps b h.1 s)
runs d xs F a (ScaleBy v k) decimals bs g ps b h s =
    let n = known d xs v bs F b g ps h.0 s in
    ap₂ then_scaled (ap (λ (i : ℕ). run_code d (decimals - i) k bs F xs a b) n.scale ∙ runs d xs F a k (decimals - scale_of d (undated v) (kinds g)) bs g ps b h.1 s) n.answer
runs d xs F a (LetBe v k) decimals bs g ps b h s =
    runs d xs F a k decimals (bound_for d v bs F xs b ∷ bs) (entry_at d v g F xs b ∷ g) (value_reads d v g ps F xs b ∷ ps) b h.1 (known d xs v bs F b g ps h.0 s).stands
runs d xs F a (Loop v x k l) decimals bs g ps b h s =
    branch_same _ _ _ _ _ _ (ap (λ (r : ℕ → Result Value Missing). first_tried (tries (day_of xs x)) r) (λ i n. (known d xs v bs F (b +ℤ pos n) g ps h.0 s).answer i))
    (λ n. runs d xs F a k decimals bs g ps (b +ℤ pos n) h.1 s) (runs d xs F a l decimals bs g ps b h.2 s)
runs d xs F a (Cut x k) decimals bs g ps b h s =
    cut_same (int_lt (b +ℤ day_of xs x) a.now) _ _ (runs d xs F a k decimals bs g ps b h s)

pub runs_are_walks : (d : Declarations) (xs : List ℕ) (k : PayoffCode) (decimals : ℕ) (F : Environment) (a : Asked) (b : ℤ) → CodeMeetsRules d xs k [] → run_code d decimals k [] F xs a b ≡ walk_of d decimals k [] [] F xs a b
runs_are_walks d xs k decimals F a b h = runs d xs F a k decimals [] [] [] b (kinded d xs k [] h) tt
