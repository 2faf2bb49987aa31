-- A fault of a schedule file's text ends a front.
use Rattle.std.proofs.Common.{◌≡◌, ℕ, Option, Some, None, List, [], ◌∷◌, ◌++◌, append_assoc, refl, sym, ap, ◌∙◌, subst}
use Rattle.std.specs.Prelude.{◌↔◌}
use Rattle.std.specs.Str.{IsUtf8}
use Rattle.term_model.specs.Declarations.{Declarations}
use Rattle.contract_grammar.specs.Tokens.{Tok, tokens}
use Rattle.contract_parse.specs.Lines.{line_at, column_at}
use Rattle.contract_grammar.specs.Words.{Bytes}
use Rattle.contract_grammar.specs.Names.{declared_by, nothing_declared}
use Rattle.contract_parse.specs.Forms.{Form, Whole, Front}
use Rattle.contract_parse.specs.Expecting.{AnyTokens, Open, Expected, Stops, run}
use Rattle.contract_parse.specs.declared.faults.Refusal.{Refusal}
use Rattle.contract_grammar.specs.declared.faults.TextKind.{TextKind}
use Rattle.contract_grammar.specs.declared.faults.TextKind.TheVariants as kind
use Rattle.contract_parse.proofs.Steps.{run-refuse}
use Rattle.contract_parse.proofs.TokenOrder.{any_taken}
use Rattle.schedule_forms.specs.PlanExpecting.{PlanExpected, PlanStep, Next, Refuse, plan_fault, plan_expected, plan_step}
use Rattle.schedule_forms.specs.PlanTexts.{FirstPlanFault, FirstRefusal, Heading, heading_expected, in_heading, in_plans, no_utf8, refused}
use Rattle.schedule_forms.specs.PlanFronts.{IsPlanFront, PlanSymbol, plan_file_form, plan_forms, plans_form}
use Rattle.schedule_forms.specs.PlanFrontLaws.{FaultyPlanToken, PlanFaultsEndFronts, PlanTextsAreWhole, RefusedPlanToken}
use Rattle.schedule_forms.proofs.CommonFacts.{plan_next, plan_refuse}
use Rattle.schedule_forms.proofs.FileFacts.{heading_stands, same_rest, text_heading}
use Rattle.schedule_forms.proofs.TakenFacts.{plan_heads}
use Rattle.schedule_forms.proofs.PlanWholes.{plans_whole}
use Rattle.schedule_forms.proofs.HeadingFronts.{IsHeading}
use Rattle.schedule_forms.proofs.HeadingRuns.{Failed, Faulty, Leaves, Runs, behind, ends, stopped, failed_first, failed_later, faulty_as, heading_runs}
use Rattle.schedule_forms.proofs.PlanFrontSteps.{IsDecided, PlanStepped, plan_parts, plan_stepped, plans_decided}

-- ---- the plans

abbrev PlansRan : Form PlanSymbol → List Tok → Option Refusal → Type 0
PlansRan parts ts (Some r) = Failed parts ts r.kind r.left
PlansRan parts ts None = Unit {0}

no_fault : (names : List Bytes) (ps : List PlanExpected) → plan_fault names ps [] ≡ None
unfolding plan_fault
no_fault names ps = refl

plans_ran : (ts : List Tok) (names : List Bytes) (ps : List PlanExpected) → IsDecided ps → PlansRan (plan_parts ps) ts (plan_fault names ps ts)
plans_ran [] names ps decided = subst (λ o. PlansRan (plan_parts ps) [] o) (sym (no_fault names ps)) tt
plans_ran (t ∷ ts) names ps decided = go (plan_step names ps t) refl (plan_stepped names ps t decided) (λ more qs d. plans_ran ts more qs d)
  where
    go : (st : PlanStep) → plan_step names ps t ≡ st → PlanStepped (plan_parts ps) t st → ((more : List Bytes) (qs : List PlanExpected) → IsDecided qs → PlansRan (plan_parts qs) ts (plan_fault more qs ts)) → PlansRan (plan_parts ps) (t ∷ ts) (plan_fault names ps (t ∷ ts))
    go (Next more qs) e x next = subst (λ o. PlansRan (plan_parts ps) (t ∷ ts) o) (sym (plan_next names more ps qs t ts e)) (onto (plan_fault more qs ts) (next more qs x.0))
      where
        onto : (o : Option Refusal) → PlansRan (plan_parts qs) ts o → PlansRan (plan_parts ps) (t ∷ ts) o
        onto (Some r) y = failed_later (plan_parts ps) (plan_parts qs) t ts r.kind r.left x.1 y
        onto None y = tt
    go (Refuse k) e x next = subst (λ o. PlansRan (plan_parts ps) (t ∷ ts) o) (sym (plan_refuse names ps k t ts e)) (failed_first (plan_parts ps) t ts k x)

-- ---- the heading

abbrev the_expected : List Expected
the_expected = heading_expected []

heading_decided : IsHeading the_expected
heading_decided = tt

heading_run : (ts : List Tok) → Runs nothing_declared the_expected ts
heading_run ts = heading_runs ts nothing_declared the_expected heading_decided

-- behind a heading stand its declarations' plans
stays_open : (d : Declarations) (ts rest : List Tok) → Heading ts d rest → run nothing_declared (heading_expected (AnyTokens ∷ [])) ts ≡ Open (AnyTokens ∷ [])
stays_open d ts rest heading = heading.whole (AnyTokens ∷ []) ∙ any_taken (declared_by d []) [] rest

-- the token that ends a heading is the first of its plans
ends_there : (bytes : List ℕ) (d : Declarations) (rest : List Tok) → Heading (tokens bytes) d rest → (x : Leaves nothing_declared the_expected (tokens bytes)) → x.at ∷ x.after ≡ rest
ends_there bytes d rest heading x =
    let stands = heading_stands d (tokens bytes) rest heading.spelled in
    same_rest bytes x.declared (declared_by d []) x.before stands.before (x.at ∷ x.after) rest x.are stands.are (sym (x.runs []) ∙ heading.whole [])

-- ---- a refusal

refused_in_plans : (bytes : List ℕ) (k : TextKind) (left : ℕ) → (x : Leaves nothing_declared the_expected (tokens bytes)) → Failed plans_form (x.at ∷ x.after) k left → Failed plan_file_form (tokens bytes) k left
refused_in_plans bytes k left x failed = go failed.before failed.at failed.after failed.are failed.bytes_left failed.front failed.fault
  where
    go : (before : List Tok) (at : Tok) (after : List Tok) → x.at ∷ x.after ≡ before ++ at ∷ after → at.left ≡ left → Front plan_forms plans_form before → Faulty plans_form (before ++ at ∷ []) k → Failed plan_file_form (tokens bytes) k left
    go [] at after are bytes_left front fault =
        let same : x.at ≡ at = cc in
        record {
          before = x.before;
          at = at;
          after = after;
          are = x.are ∙ ap (λ ts. x.before ++ ts) are;
          bytes_left = bytes_left;
          front = x.front;
          fault = subst (λ t. Faulty plan_file_form (x.before ++ t ∷ []) k) same (faulty_as plans_form plan_file_form (x.at ∷ []) (x.before ++ x.at ∷ []) k (x.on []) (x.back []) (subst (λ t. Faulty plans_form (t ∷ []) k) (sym same) fault));
        }
    go (t ∷ before) at after are bytes_left front fault =
        let same : x.at ≡ t = cc in
        let us = before ++ at ∷ [] in
        record {
          before = x.before ++ t ∷ before;
          at = at;
          after = after;
          are = x.are ∙ ap (λ ts. x.before ++ ts) are ∙ sym (append_assoc x.before (t ∷ before) (at ∷ after));
          bytes_left = bytes_left;
          front = subst (λ u. Front plan_forms plan_file_form (x.before ++ u ∷ before)) same (x.back before (subst (λ u. Front plan_forms plans_form (u ∷ before)) (sym same) front));
          fault = subst (λ ts. Faulty plan_file_form ts k) (sym (append_assoc x.before (t ∷ before) (at ∷ []))) (subst (λ u. Faulty plan_file_form (x.before ++ u ∷ us) k) same
              (faulty_as plans_form plan_file_form (x.at ∷ us) (x.before ++ x.at ∷ us) k (x.on us) (x.back us) (subst (λ u. Faulty plans_form (u ∷ us) k) (sym same) fault)));
        }

in_the_heading : (ts : List Tok) (k : TextKind) (left : ℕ) → run nothing_declared (heading_expected (AnyTokens ∷ [])) ts ≡ Stops k left → Runs nothing_declared the_expected ts → Failed plan_file_form ts k left
in_the_heading ts k left e (ends next runs) =
    let opens = runs (AnyTokens ∷ []) in
    absurd cc
in_the_heading ts k left e (stopped k2 left2 runs failed) =
    let both : Stops k2 left2 ≡ Stops k left = sym (runs (AnyTokens ∷ [])) ∙ e in
    let kinds : k2 ≡ k = cc in
    let lefts : left2 ≡ left = cc in
    subst (λ z. Failed plan_file_form ts z left) kinds (subst (λ z. Failed plan_file_form ts k2 z) lefts failed)
in_the_heading ts k left e (behind x) =
    let opens = x.runs (AnyTokens ∷ []) ∙ any_taken x.declared [] (x.at ∷ x.after) in
    absurd cc

in_the_plans : (bytes : List ℕ) (r : Refusal) (d : Declarations) (rest : List Tok) → Heading (tokens bytes) d rest → plan_fault [] (plan_expected d) rest ≡ Some r → Runs nothing_declared the_expected (tokens bytes) → Failed plan_file_form (tokens bytes) r.kind r.left
in_the_plans bytes r d rest heading fault (stopped k left runs failed) =
    let opens = stays_open d (tokens bytes) rest heading in
    let stops = runs (AnyTokens ∷ []) in
    absurd cc
in_the_plans bytes r d rest heading fault (ends next runs) = by_rest rest fault (sym (runs []) ∙ heading.whole [])
  where
    by_rest : (rest : List Tok) → plan_fault [] (plan_expected d) rest ≡ Some r → Open (next ++ []) ≡ run (declared_by d []) [] rest → Failed plan_file_form (tokens bytes) r.kind r.left
    by_rest [] fault e =
        let none = no_fault [] (plan_expected d) in
        absurd cc
    by_rest (t ∷ rest) fault e =
        let stops = run-refuse (declared_by d []) [] kind.Syntax t rest refl in
        absurd cc
in_the_plans bytes r d rest heading fault (behind x) =
    let same = ends_there bytes d rest heading x in
    let failed : Failed plans_form rest r.kind r.left = subst (λ o. PlansRan plans_form rest o) fault (plans_ran rest [] (plan_expected d) (plans_decided d)) in
    refused_in_plans bytes r.kind r.left x (subst (λ ts. Failed plans_form ts r.kind r.left) (sym same) failed)

first_refusal : (bytes : List ℕ) (r : Refusal) → FirstRefusal (tokens bytes) r → Failed plan_file_form (tokens bytes) r.kind r.left
first_refusal bytes r (in_heading e) = in_the_heading (tokens bytes) r.kind r.left e (heading_run (tokens bytes))
first_refusal bytes r (in_plans {d = d} {rest = rest} heading fault) = in_the_plans bytes r d rest heading fault (heading_run (tokens bytes))

-- ---- the law

by_kind : (ts : List Tok) (k : TextKind) → Faulty plan_file_form ts k → (k ≡ kind.Syntax) ↔ (IsPlanFront ts → ⊥)
by_kind ts kind.Syntax x = ((λ e. x), (λ none. refl))
by_kind ts kind.Number x = ((λ e. absurd cc), (λ none. absurd (none x)))
by_kind ts kind.Date x = ((λ e. absurd cc), (λ none. absurd (none x)))
by_kind ts kind.Deep x = ((λ e. absurd cc), (λ none. absurd (none x)))
by_kind ts kind.Range x = ((λ e. absurd cc), (λ none. absurd (none x)))
by_kind ts kind.Twice x = ((λ e. absurd cc), (λ none. absurd (none x)))
by_kind ts kind.Unknown x = ((λ e. absurd cc), (λ none. absurd (none x)))
by_kind ts kind.Utf8 x = ((λ e. absurd cc), (λ none. absurd (none x)))

refusal_ends : (bytes : List ℕ) (r : Refusal) → FirstRefusal (tokens bytes) r → RefusedPlanToken bytes r.kind r.left
refusal_ends bytes r first =
    let x = first_refusal bytes r first in
    record {
      before = x.before;
      token = x.at;
      after = x.after;
      are = x.are;
      bytes_left = x.bytes_left;
      ends = record { front = x.front; syntax = by_kind (x.before ++ x.at ∷ []) r.kind x.fault };
    }

first_ends : (bytes : List ℕ) (k : TextKind) (at line column : ℕ) → IsUtf8 bytes → FirstPlanFault bytes k at → line ≡ line_at bytes at → column ≡ column_at bytes at → FaultyPlanToken bytes (record { kind = k; line = line; column = column })
first_ends bytes k at line column utf8 (no_utf8 none valid) is_line is_column = absurd (none utf8)
first_ends bytes k at line column utf8 (refused {r = r} ok first) is_line is_column = record { left = r.left; refused = refusal_ends bytes r first; line = is_line; column = is_column }

pub plan_faults_end_fronts : PlanFaultsEndFronts
plan_faults_end_fronts bytes f utf8 fault = first_ends bytes f.kind fault.at f.line f.column utf8 fault.first fault.line fault.column

-- ---- a text is whole

-- tokens that stand behind a heading are whole plans just where all are a whole file
behind_heading : (bytes : List ℕ) (d : Declarations) (t : Tok) (rest : List Tok) → Heading (tokens bytes) d (t ∷ rest) → Whole plan_forms plans_form (t ∷ rest) [] → Runs nothing_declared the_expected (tokens bytes) → Whole plan_forms plan_file_form (tokens bytes) []
behind_heading bytes d t rest heading w (ends next runs) =
    let opens : Open (next ++ []) ≡ run (declared_by d []) [] (t ∷ rest) = sym (runs []) ∙ heading.whole [] in
    let stops = run-refuse (declared_by d []) [] kind.Syntax t rest refl in
    absurd cc
behind_heading bytes d t rest heading w (stopped k left runs failed) =
    let opens = stays_open d (tokens bytes) (t ∷ rest) heading in
    let stops = runs (AnyTokens ∷ []) in
    absurd cc
behind_heading bytes d t rest heading w (behind x) =
    let same = ends_there bytes d (t ∷ rest) heading x in
    subst (λ ts. Whole plan_forms plan_file_form ts []) (sym x.are) (x.whole x.after [] (subst (λ ts. Whole plan_forms plans_form ts []) (sym same) w))

pub plan_texts_are_whole : PlanTextsAreWhole
plan_texts_are_whole bytes b text =
    let x = text.spelled in
    let heading = text_heading (tokens bytes) b x.between text.version x.one x.two in
    let first = plan_heads b x.between x.two in
    let here = subst (λ ts. Heading (tokens bytes) b.declarations ts) first.2 heading in
    behind_heading bytes b.declarations first.0 first.1 here (subst (λ ts. Whole plan_forms plans_form ts []) first.2 (plans_whole b x.between x.two)) (heading_run (tokens bytes))
