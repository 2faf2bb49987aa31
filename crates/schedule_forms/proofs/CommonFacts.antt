-- What portfolios expect too, if it is one token: what is read there is taken or refused as in a portfolio.
use Rattle.std.proofs.Common.{◌≡◌, ℕ, Bool, true, false, cond, List, [], ◌∷◌, ◌++◌, ◌⊎◌, Some, Result, Ok, Err, refl, ap, ◌∙◌, inl, inr}
use Rattle.contract_grammar.specs.Tokens.{Tok, tokens}
use Rattle.contract_grammar.specs.Words.{Bytes}
use Rattle.contract_grammar.specs.Names.{DeclaredNames, nothing_declared, with_names}
use Rattle.contract_grammar.specs.Judgements.{new_at}
use Rattle.contract_grammar.specs.declared.names.NameSet.{NameSet}
use Rattle.contract_grammar.specs.declared.names.NameSet.TheVariants.{Contract}
use Rattle.contract_grammar.specs.Spelling.{Part, one, valued}
use Rattle.contract_parse.specs.Expecting.{AnyTokens, NewIn, Expected, Stops, run, step}
use Rattle.contract_parse.specs.Expecting as common
use Rattle.contract_parse.specs.Readers.{Declares, ForEach, PassesAnywhere, Reads}
use Rattle.contract_grammar.specs.declared.faults.TextKind.{TextKind}
use Rattle.contract_grammar.specs.declared.faults.TextKind.TheVariants.{Syntax}
use Rattle.contract_parse.specs.declared.faults.Refusal.{Refusal}
use Rattle.contract_parse.specs.declared.faults.PartErr.{PartErr}
use Rattle.contract_parse.specs.declared.faults.PartErr.TheVariants.{Refused, NoMemory}
use Rattle.contract_parse.proofs.Steps.{run-next, run-refuse}
use Rattle.contract_parse.proofs.Passing.{run-end}
use Rattle.contract_parse.proofs.TokenOrder.{any_taken}
use Rattle.schedule_forms.specs.PlanExpecting.{PlanExpected, NewPlan, Token, Next, Refuse, as_common, judged, plan_fault, plan_step}
use Rattle.schedule_forms.specs.PlanReading.{NamesPlans, PassesPlan}

pub plan_next : (names more : List Bytes) (ps qs : List PlanExpected) (t : Tok) (ts : List Tok) → plan_step names ps t ≡ Next more qs → plan_fault names ps (t ∷ ts) ≡ plan_fault more qs ts
unfolding plan_fault
plan_next names more ps qs t ts e = rw (e, plan_fault) refl

pub plan_refuse : (names : List Bytes) (ps : List PlanExpected) (kind : TextKind) (t : Tok) (ts : List Tok) → plan_step names ps t ≡ Refuse kind → plan_fault names ps (t ∷ ts) ≡ Some (record { kind = kind; left = t.left })
unfolding plan_fault
plan_refuse names ps kind t ts e = rw (e, plan_fault) refl

-- a token is taken, whatever stands behind it, or refused
abbrev pub AsOne : Expected → Type 0
AsOne p =
    (s : DeclaredNames) (t : Tok)
    → ((ps : List Expected) → step s (p ∷ ps) t ≡ common.Next s ps) ⊎ ((kind : TextKind) × ((ps : List Expected) → step s (p ∷ ps) t ≡ common.Refuse kind))

pub one_value : {X : Type 0} (p : Expected) (judge : Tok → Result X TextKind) → ((s : DeclaredNames) (ps : List Expected) (t : Tok) → step s (p ∷ ps) t ≡ common.judged (judge t) (λ x. common.Next s ps)) → AsOne p
one_value p judge shape s t = by_result (judge t) (λ ps. shape s ps t)
  where
    by_result : {X : Type 0} (r : Result X TextKind) → ((ps : List Expected) → step s (p ∷ ps) t ≡ common.judged r (λ x. common.Next s ps)) → ((ps : List Expected) → step s (p ∷ ps) t ≡ common.Next s ps) ⊎ ((kind : TextKind) × ((ps : List Expected) → step s (p ∷ ps) t ≡ common.Refuse kind))
    by_result (Ok x) e = inl e
    by_result (Err kind) e = inr (kind, e)

pub one_test : (p : Expected) (test : Tok → Bool) → ((s : DeclaredNames) (ps : List Expected) (t : Tok) → step s (p ∷ ps) t ≡ cond (test t) (common.Next s ps) (common.Refuse Syntax)) → AsOne p
one_test p test shape s t = by_test (test t) (λ ps. shape s ps t)
  where
    by_test : (b : Bool) → ((ps : List Expected) → step s (p ∷ ps) t ≡ cond b (common.Next s ps) (common.Refuse Syntax)) → ((ps : List Expected) → step s (p ∷ ps) t ≡ common.Next s ps) ⊎ ((kind : TextKind) × ((ps : List Expected) → step s (p ∷ ps) t ≡ common.Refuse kind))
    by_test true e = inl e
    by_test false e = inr (Syntax, e)

-- one token that is spelled is taken where this is expected
abbrev pub Takes : Expected → Part → Type 0
Takes p part =
    (ts rest : List Tok) → part ts rest
    → (t : Tok) × (ts ≡ t ∷ rest) × (step nothing_declared (p ∷ AnyTokens ∷ []) t ≡ common.Next nothing_declared (AnyTokens ∷ []))

pub takes_value : {X : Type 0} (p : Expected) (judge : Tok → Result X TextKind) (x : X) → ((s : DeclaredNames) (ps : List Expected) (t : Tok) → step s (p ∷ ps) t ≡ common.judged (judge t) (λ x. common.Next s ps)) → Takes p (valued judge x)
takes_value p judge x shape ts rest (t, is, passes) =
    (t, is, shape nothing_declared (AnyTokens ∷ []) t ∙ ap (λ r. common.judged r (λ x. common.Next nothing_declared (AnyTokens ∷ []))) passes)

pub takes_test : (p : Expected) (test : Tok → Bool) → ((s : DeclaredNames) (ps : List Expected) (t : Tok) → step s (p ∷ ps) t ≡ cond (test t) (common.Next s ps) (common.Refuse Syntax)) → Takes p (one test)
takes_test p test shape ts rest (t, is, passes) =
    (t, is, shape nothing_declared (AnyTokens ∷ []) t ∙ ap (λ b. cond b (common.Next nothing_declared (AnyTokens ∷ [])) (common.Refuse Syntax)) passes)

pub token_taken : (names : List Bytes) (p : Expected) (ps : List PlanExpected) (part : Part) (ts rest : List Tok) → Takes p part → part ts rest → plan_fault names (Token p ∷ ps) ts ≡ plan_fault names ps rest
token_taken names p ps part ts rest takes x =
    let y = takes ts rest x in
    ap (λ (us : List Tok). plan_fault names (Token p ∷ ps) us) y.1
    ∙ plan_next names names (Token p ∷ ps) ps y.0 rest (ap (λ st. as_common st names ps) y.2)

pub token_refused : (names : List Bytes) (p : Expected) (ps : List PlanExpected) (ts : List Tok) (r : Refusal) → AsOne p → run nothing_declared (p ∷ AnyTokens ∷ []) ts ≡ Stops r.kind r.left → plan_fault names (Token p ∷ ps) ts ≡ Some r
token_refused names p ps [] r single stops =
    let ended = run-end nothing_declared (p ∷ AnyTokens ∷ []) in
    absurd (cc)
token_refused names p ps (t ∷ ts) r single stops =
    elim (single nothing_declared t) [
      | inl next ↦
          let goes = run-next nothing_declared nothing_declared (p ∷ AnyTokens ∷ []) (AnyTokens ∷ []) t ts (next (AnyTokens ∷ [])) in
          let ended = any_taken nothing_declared [] ts in
          absurd (cc)
      | inr refused ↦
          let here = run-refuse nothing_declared (p ∷ AnyTokens ∷ []) refused.0 t ts (refused.1 (AnyTokens ∷ [])) in
          let kind : refused.0 ≡ r.kind = cc in
          let left : t.left ≡ r.left = cc in
          plan_refuse names (Token p ∷ ps) refused.0 t ts (ap (λ st. as_common st names ps) (refused.1 (AnyTokens ∷ [])))
          ∙ ap (λ k. Some (record { kind = k; left = t.left })) kind
          ∙ ap (λ n. Some (record { kind = r.kind; left = n })) left
    ]

-- so a reader of portfolios is one of plans
pub common_reads : {X : Type 0} (p : Expected) (part : X → Part) (behind : X → List ℕ) (bytes : List ℕ) (result : Result X PartErr) → AsOne p → ((x : X) → Takes p (part x)) → Reads (PassesAnywhere (λ ps. p ∷ ps)) part behind bytes result → Reads (PassesPlan (λ ps. Token p ∷ ps)) part behind bytes result
common_reads p part behind bytes (Ok x) single takes reads =
    record {
      follows = λ names ps. token_taken names p ps (part x) (tokens bytes) (tokens (behind x)) (takes x) reads.spelled;
      spelled = reads.spelled;
      shorter = reads.shorter;
    }
common_reads p part behind bytes (Err (Refused r)) single takes reads =
    record {
      follows = λ names ps. token_refused names p ps (tokens bytes) r single (reads.follows nothing_declared (AnyTokens ∷ []));
      spelled = tt;
      shorter = tt;
    }
common_reads p part behind bytes (Err NoMemory) single takes reads =
    record { follows = λ names ps. tt; spelled = tt; shorter = tt }

new_refused : (names : List Bytes) (ps : List PlanExpected) (ts : List Tok) (r : Refusal) → run (with_names Contract names nothing_declared) (NewIn Contract ∷ AnyTokens ∷ []) ts ≡ Stops r.kind r.left → plan_fault names (NewPlan ∷ ps) ts ≡ Some r
new_refused names ps [] r stops =
    let ended = run-end (with_names Contract names nothing_declared) (NewIn Contract ∷ AnyTokens ∷ []) in
    absurd (cc)
new_refused names ps (t ∷ ts) r stops = by_result (new_at names t) refl
  where
    by_result : (o : Result Bytes TextKind) → new_at names t ≡ o → plan_fault names (NewPlan ∷ ps) (t ∷ ts) ≡ Some r
    by_result (Ok name) e =
        let s = with_names Contract names nothing_declared in
        let more = with_names Contract (names ++ name ∷ []) nothing_declared in
        let goes = run-next s more (NewIn Contract ∷ AnyTokens ∷ []) (AnyTokens ∷ []) t ts (ap (λ o. common.judged o (λ (n : Bytes). common.Next (with_names Contract (names ++ n ∷ []) nothing_declared) (AnyTokens ∷ []))) e) in
        let ended = any_taken more [] ts in
        absurd (cc)
    by_result (Err k) e =
        let s = with_names Contract names nothing_declared in
        let here = run-refuse s (NewIn Contract ∷ AnyTokens ∷ []) k t ts (ap (λ o. common.judged o (λ (n : Bytes). common.Next (with_names Contract (names ++ n ∷ []) nothing_declared) (AnyTokens ∷ []))) e) in
        let kind : k ≡ r.kind = cc in
        let left : t.left ≡ r.left = cc in
        plan_refuse names (NewPlan ∷ ps) k t ts (ap (λ o. judged o (λ (n : Bytes). Next (names ++ n ∷ []) ps)) e)
        ∙ ap (λ z. Some (record { kind = z; left = t.left })) kind
        ∙ ap (λ n. Some (record { kind = r.kind; left = n })) left

pub new_taken : (names : List Bytes) (name : Bytes) (ps : List PlanExpected) (ts rest : List Tok) → valued (new_at names) name ts rest → plan_fault names (NewPlan ∷ ps) ts ≡ plan_fault (names ++ name ∷ []) ps rest
new_taken names name ps ts rest (t, is, passes) =
    ap (λ (us : List Tok). plan_fault names (NewPlan ∷ ps) us) is
    ∙ plan_next names (names ++ name ∷ []) (NewPlan ∷ ps) ps t rest (ap (λ o. judged o (λ (n : Bytes). Next (names ++ n ∷ []) ps)) passes)

-- a new name, as one of a plan
pub new_reads : {X : Type 0} (names : List Bytes) (name : X → Bytes) (behind : X → List ℕ) (bytes : List ℕ) (result : Result X PartErr) → Reads (ForEach (λ (set : NameSet). Declares set names (λ r. names ++ name r ∷ []) (λ ps. NewIn set ∷ ps))) (λ r. valued (new_at names) (name r)) behind bytes result → Reads (NamesPlans names (λ r. names ++ name r ∷ []) (λ ps. NewPlan ∷ ps)) (λ r. valued (new_at names) (name r)) behind bytes result
new_reads names name behind bytes (Ok x) reads =
    record {
      follows = λ ps. new_taken names (name x) ps (tokens bytes) (tokens (behind x)) reads.spelled;
      spelled = reads.spelled;
      shorter = reads.shorter;
    }
new_reads names name behind bytes (Err (Refused r)) reads =
    record {
      follows = λ ps. new_refused names ps (tokens bytes) r (reads.follows Contract nothing_declared (AnyTokens ∷ []));
      spelled = tt;
      shorter = tt;
    }
new_reads names name behind bytes (Err NoMemory) reads = record { follows = λ ps. tt; spelled = tt; shorter = tt }
