-- What one token makes of what plans expect.
use Rattle.std.proofs.Common.{◌≡◌, ℕ, Bool, true, cond, List, ◌∷◌, Option, Some, None, Result, Ok, Err, refl, ap, sym, ◌∙◌}
use Rattle.contract_grammar.specs.Tokens.{Tok, tokens}
use Rattle.contract_grammar.specs.Words.{Bytes, is_the_word}
use Rattle.contract_grammar.proofs.TokenKinds.{not_word}
use Rattle.term_model.specs.Declarations.{Declarations}
use Rattle.schedule_forms.specs.declared.heads.PlanHead.{PlanHead}
use Rattle.schedule_forms.specs.declared.heads.PlanHead.TheVariants.{Leg, Swap, Guarded}
use Rattle.schedule_forms.specs.PlanHeads.{head_at, word_of}
use Rattle.std.specs.Prelude.{codes}
use Rattle.contract_grammar.specs.Spelling.{word}
use Rattle.contract_parse.specs.Reading.{Lacks, tokens_after}
use Rattle.contract_grammar.specs.declared.faults.TextKind.{TextKind}
use Rattle.contract_parse.proofs.Steps.{Ends, Fails, so_takes, takes}
use Rattle.schedule_forms.specs.PlanExpecting.{PlanExpected, DecimalAt, PlanLines, SizeAt, PlanStep, Next, decimal_step, fixing_expected, line_expected, judged, plan_fault, plan_step}
use Rattle.schedule_forms.proofs.CommonFacts.{plan_next, plan_refuse}

pub plan_passes : {X : Type 0} (judge : Tok → Result X TextKind) → Ends judge → (names more : List Bytes) (ps qs : List PlanExpected) (next : X → PlanStep) (x : X) (t : Tok) (bytes rest : List ℕ) → tokens bytes ≡ t ∷ tokens_after t.kind rest → Ok x ≡ judge t → plan_step names ps t ≡ judged (judge t) next → next x ≡ Next more qs → plan_fault names ps (tokens bytes) ≡ plan_fault more qs (tokens rest)
plan_passes judge ends names more ps qs next x t bytes rest starts e shape goes =
    ap (λ (ts : List Tok). plan_fault names ps ts) (takes judge ends x t bytes rest starts e)
    ∙ plan_next names more ps qs t (tokens rest) (shape ∙ ap (λ r. judged r next) (sym e) ∙ goes)

pub plan_refuses : {X : Type 0} (judge : Tok → Result X TextKind) (names : List Bytes) (ps : List PlanExpected) (next : X → PlanStep) (kind : TextKind) (t : Tok) (bytes rest : List ℕ) → tokens bytes ≡ t ∷ tokens_after t.kind rest → Err kind ≡ judge t → plan_step names ps t ≡ judged (judge t) next → plan_fault names ps (tokens bytes) ≡ Some (record { kind = kind; left = t.left })
plan_refuses judge names ps next kind t bytes rest starts e shape =
    ap (λ (ts : List Tok). plan_fault names ps ts) starts
    ∙ plan_refuse names ps kind t (tokens_after t.kind rest) (shape ∙ ap (λ r. judged r next) (sym e))

-- the same for a test
pub plan_so_passes : (test : Tok → Bool) → Fails test → (names : List Bytes) (ps qs : List PlanExpected) (other : PlanStep) (t : Tok) (bytes rest : List ℕ) → tokens bytes ≡ t ∷ tokens_after t.kind rest → true ≡ test t → plan_step names ps t ≡ cond (test t) (Next names qs) other → plan_fault names ps (tokens bytes) ≡ plan_fault names qs (tokens rest)
plan_so_passes test fails names ps qs other t bytes rest starts e shape =
    ap (λ (ts : List Tok). plan_fault names ps ts) (so_takes test fails t bytes rest starts e)
    ∙ plan_next names names ps qs t (tokens rest) (shape ∙ ap (λ b. cond b (Next names qs) other) (sym e))

-- the word that decides a size is there, or is not
pub round_taken : (names : List Bytes) (d : Declarations) (ps : List PlanExpected) (ts rest : List Tok) → word (codes "round") ts rest → plan_fault names (SizeAt d ∷ ps) ts ≡ plan_fault names (fixing_expected d ps) rest
round_taken names d ps ts rest (t, is, passes) =
    ap (λ (us : List Tok). plan_fault names (SizeAt d ∷ ps) us) is
    ∙ plan_next names names (SizeAt d ∷ ps) (fixing_expected d ps) t rest (ap (λ b. cond b (Next names (fixing_expected d ps)) (decimal_step names ps t)) passes)

pub plan_same : (names : List Bytes) (ps qs : List PlanExpected) (t : Tok) (ts : List Tok) → plan_step names ps t ≡ plan_step names qs t → plan_fault names ps (t ∷ ts) ≡ plan_fault names qs (t ∷ ts)
unfolding plan_fault
plan_same names ps qs t ts e = rw (e, plan_fault) refl

pub round_lacking : (names : List Bytes) (d : Declarations) (ps : List PlanExpected) (ts : List Tok) → Lacks (codes "round") ts → plan_fault names (SizeAt d ∷ ps) ts ≡ plan_fault names (DecimalAt ∷ ps) ts
round_lacking names d ps ts x =
    ap (λ (us : List Tok). plan_fault names (SizeAt d ∷ ps) us) x.is
    ∙ plan_same names (SizeAt d ∷ ps) (DecimalAt ∷ ps) x.first x.after (ap (λ b. cond b (Next names (fixing_expected d ps)) (decimal_step names ps x.first)) x.other)
    ∙ sym (ap (λ (us : List Tok). plan_fault names (DecimalAt ∷ ps) us) x.is)

-- the word with which a line of plans begins
head_is : (head : PlanHead) (t : Tok) → is_the_word (word_of head) t ≡ true → head_at t ≡ Some head
head_is Leg t e = rw e refl
head_is Swap t e = rw (not_word (codes "swap") (codes "leg") t refl e, e) refl
head_is Guarded t e = rw (not_word (codes "guarded") (codes "leg") t refl e, not_word (codes "guarded") (codes "swap") t refl e, e) refl

abbrev line_step : Declarations → List Bytes → List PlanExpected → Tok → Option PlanHead → PlanStep
line_step d names ps t o =
    elim o [
      | Some head ↦ Next names (line_expected d head (PlanLines d ∷ ps))
      | None ↦ plan_step names ps t
    ]

pub line_opens : (names : List Bytes) (d : Declarations) (ps : List PlanExpected) (head : PlanHead) (ts rest : List Tok) → word (word_of head) ts rest → plan_fault names (PlanLines d ∷ ps) ts ≡ plan_fault names (line_expected d head (PlanLines d ∷ ps)) rest
line_opens names d ps head ts rest (t, is, passes) =
    ap (λ (us : List Tok). plan_fault names (PlanLines d ∷ ps) us) is
    ∙ plan_next names names (PlanLines d ∷ ps) (line_expected d head (PlanLines d ∷ ps)) t rest (ap (λ (o : Option PlanHead). line_step d names ps t o) (head_is head t passes))

pub line_absent : (names : List Bytes) (d : Declarations) (ps : List PlanExpected) (t : Tok) (ts : List Tok) → head_at t ≡ None → plan_fault names (PlanLines d ∷ ps) (t ∷ ts) ≡ plan_fault names ps (t ∷ ts)
line_absent names d ps t ts e =
    plan_same names (PlanLines d ∷ ps) ps t ts (ap (λ (o : Option PlanHead). line_step d names ps t o) e)
