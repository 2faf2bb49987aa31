-- The first token that is refused, before the plans of a schedule file, in them or behind them.
use Rattle.std.specs.Str.{IsUtf8, IsValidUpTo}
use Rattle.std.proofs.lemmas.Str.{utf8_valid_len-IsValidUpTo}
use Rattle.std.specs.Prelude.{codes}
use Rattle.std.proofs.Common.{Err, Some, ◌≡◌, ◌-◌, ◌++◌, ℕ, length, List, [], ◌∷◌, refl, ap, sym, subst, ◌∙◌}
use Rattle.std.proofs.lemmas.List.{append_cancel_left}
use Rattle.term_model.specs.Declarations.{Declarations}
use Rattle.contract_grammar.specs.Tokens.{Tok, tokens}
use Rattle.contract_parse.specs.Cursors.{IsNoUtf8, fault_at}
use Rattle.contract_parse.specs.Lines.{line_at, column_at}
use Rattle.contract_grammar.specs.declared.faults.TextKind.{TextKind}
use Rattle.contract_grammar.specs.declared.faults.TextKind.TheVariants.{Utf8}
use Rattle.contract_grammar.specs.declared.faults.TextFault.{TextFault}
use Rattle.contract_grammar.specs.Words.{Bytes, is_end, is_the_mark, is_the_word}
use Rattle.contract_grammar.specs.Versions.{version_of}
use Rattle.contract_grammar.specs.Names.{DeclaredNames, declared_by, nothing_declared, nothing_in}
use Rattle.contract_grammar.specs.Judgements.{is_version}
use Rattle.contract_grammar.specs.Spelling.{mark, one, ◌⨟◌}
use Rattle.contract_grammar.specs.Statements.{decls}
use Rattle.contract_parse.proofs.Steps.{run-refuse}
use Rattle.contract_parse.proofs.Passing.{mark_taken, run-end, test_taken, word_taken}
use Rattle.contract_parse.proofs.LinesTaken.{Heads, decls_taken_before}
use Rattle.schedule_forms.proofs.Standing.{AllStand, decls_stand, one_decls_to, one_stands, then_stands}
use Rattle.contract_parse.proofs.OneToken.{one_one}
use Rattle.contract_parse.proofs.OneSplit.{one_split}
use Rattle.contract_parse.proofs.TokenOrder.{any_taken}
use Rattle.contract_grammar.specs.declared.faults.TextKind.TheVariants.{Syntax}
use Rattle.contract_parse.specs.Expecting.{AnyTokens, Fails, Expected, Stops, TheEnd, decls_expected, run}
use Rattle.contract_parse.specs.declared.faults.Refusal.{Refusal}
use Rattle.contract_parse.specs.declared.faults.PartErr.{PartErr}
use Rattle.contract_parse.specs.declared.faults.PartErr.TheVariants.{Refused, NoMemory}
use Rattle.schedule_forms.specs.PlanBooks.{PlanBook}
use Rattle.schedule_forms.specs.PlanSpelling.{PlanText, first_line, plan_lines}
use Rattle.schedule_forms.specs.PlanExpecting.{Token, plan_fault, plan_expected}
use Rattle.schedule_forms.specs.PlanReading.{IsFaultOf}
use Rattle.schedule_forms.specs.PlanTexts.{Heading, FirstPlanFault, IsPlanFault, no_utf8, refused, FirstRefusal, in_heading, in_plans, ReadsPlans, heading_expected}
use Rattle.schedule_forms.specs.LawsTexts.{OnePlanFault, PlanTextsHaveNoFault}
use Rattle.schedule_forms.proofs.CommonFacts.{one_test, token_refused}
use Rattle.schedule_forms.proofs.TakenFacts.{plan_heads, plan_words, plans_declare_none, plans_taken}

pub heading_refused : (ts : List Tok) (e : PartErr) → Fails e (run nothing_declared (heading_expected (AnyTokens ∷ [])) ts) → ReadsPlans ts (Err e)
heading_refused ts (Refused r) h = in_heading h
heading_refused ts NoMemory h = tt

pub plans_refused : (ts : List Tok) (d : Declarations) (rest : List Tok) (e : PartErr) → Heading ts d rest → IsFaultOf e (plan_fault [] (plan_expected d) rest) → ReadsPlans ts (Err e)
plans_refused ts d rest (Refused r) heading h = in_plans heading h
plans_refused ts d rest NoMemory heading h = tt

pub end_refused : (names : List Bytes) (ts : List Tok) (e : PartErr) → ((s : DeclaredNames) (ps : List Expected) → Fails e (run s (TheEnd ∷ ps) ts)) → IsFaultOf e (plan_fault names (Token TheEnd ∷ []) ts)
end_refused names ts (Refused r) h = token_refused names TheEnd [] ts r (one_test TheEnd is_end (λ s ps t. refl)) (h nothing_declared (AnyTokens ∷ []))
end_refused names ts NoMemory h = tt

-- ---- a text has no fault

pub heading_taken : (d : Declarations) (ps : List Expected) (ts rest : List Tok) → d.version ≡ 1 → (first_line ⨟ decls d) ts rest → Heads plan_words rest → run nothing_declared (heading_expected ps) ts ≡ run (declared_by d []) ps rest
heading_taken d ps ts rest version x heads =
    let declared = subst (λ (v : ℕ). run (nothing_in (version_of v)) (decls_expected (version_of v) ps) x.between ≡ run (declared_by d []) ps rest) version
    (decls_taken_before plan_words plans_declare_none d ps x.between rest x.two heads) in
    word_taken nothing_declared (codes "schedules") _ _ _ x.one.one
    ∙ test_taken nothing_declared nothing_declared _ _ is_version _ _ (λ t e. rw e refl) x.one.two.one
    ∙ mark_taken nothing_declared (codes ";") _ _ _ x.one.two.two
    ∙ declared

-- what stands behind the first line and the declarations ends the tokens of the text
pub heading_stands : (d : Declarations) → AllStand (first_line ⨟ decls d)
heading_stands d =
    then_stands _ _ (then_stands _ _ (one_stands (is_the_word (codes "schedules"))) (then_stands _ _ (one_stands is_version) (one_stands (is_the_mark (codes ";"))))) (decls_stand d)

-- two rests that are refused at one token are one
pub same_rest : (bytes : List ℕ) (s s2 : DeclaredNames) (b c m n : List Tok) → tokens bytes ≡ b ++ m → tokens bytes ≡ c ++ n → run s [] m ≡ run s2 [] n → m ≡ n
same_rest bytes s s2 b c [] [] x y same = refl
same_rest bytes s s2 b c [] (u ∷ us) x y same =
    let ended = run-end s [] in
    let here = run-refuse s2 [] Syntax u us refl in
    absurd (cc)
same_rest bytes s s2 b c (t ∷ ts) [] x y same =
    let ended = run-end s2 [] in
    let here = run-refuse s [] Syntax t ts refl in
    absurd (cc)
same_rest bytes s s2 b c (t ∷ ts) (u ∷ us) x y same =
    let there = run-refuse s [] Syntax t ts refl in
    let here = run-refuse s2 [] Syntax u us refl in
    let left : t.left ≡ u.left = cc in
    let split = one_split b c bytes t u ts us x y left in
    let both : b ++ t ∷ ts ≡ b ++ u ∷ us = sym x ∙ y ∙ ap (λ (vs : List Tok). vs ++ u ∷ us) (sym split.0) in
    append_cancel_left b (t ∷ ts) (u ∷ us) both

-- the declarations of bytes, and what stands behind them, are the same by every heading
pub one_heading : (bytes : List ℕ) (d e : Declarations) (m n : List Tok) → Heading (tokens bytes) d m → Heading (tokens bytes) e n → (d ≡ e) × (m ≡ n)
one_heading bytes d e m n x y =
    let ts = tokens bytes in
    let first_stands = heading_stands d ts m x.spelled in
    let other_stands = heading_stands e ts n y.spelled in
    let rest = same_rest bytes (declared_by d []) (declared_by e []) first_stands.before other_stands.before m n first_stands.are other_stands.are (sym (x.whole []) ∙ y.whole []) in
    let first = one_one _ _ ts x.spelled.one.between y.spelled.one.between x.spelled.one.one y.spelled.one.one in
    let second = one_one _ _ y.spelled.one.between x.spelled.one.two.between y.spelled.one.two.between (subst (λ (k : List Tok). one is_version k x.spelled.one.two.between) first x.spelled.one.two.one) y.spelled.one.two.one in
    let third = one_one _ _ y.spelled.one.two.between x.spelled.between y.spelled.between (subst (λ (k : List Tok). mark (codes ";") k x.spelled.between) second x.spelled.one.two.two) y.spelled.one.two.two in
    let here = subst (λ (k : List Tok). decls d k m) third x.spelled.two in
    let there = subst (λ (k : List Tok). decls d y.spelled.between k) rest here in
    (one_decls_to d e y.spelled.between n (x.version ∙ sym y.version) there y.spelled.two, rest)

-- a text has a heading
pub text_heading : (ts : List Tok) (b : PlanBook) (rest : List Tok) → b.declarations.version ≡ 1 → (first_line ⨟ decls b.declarations) ts rest → plan_lines b rest [] → Heading ts b.declarations rest
text_heading ts b rest version x lines =
    record { version = version; spelled = x; whole = λ ps. heading_taken b.declarations ps ts rest version x (plan_heads b rest lines) }

no_refusal : (bytes : List ℕ) (b : PlanBook) (r : Refusal) → PlanText bytes b → FirstRefusal (tokens bytes) r → ⊥
no_refusal bytes b r text (in_heading stops) =
    let x = text.spelled in
    let taken = heading_taken b.declarations (AnyTokens ∷ []) (tokens bytes) x.between text.version x.one (plan_heads b x.between x.two) in
    let ended = any_taken (declared_by b.declarations []) [] x.between in
    absurd (cc)
no_refusal bytes b r text (in_plans {d = d} {rest = rest} heading fault) =
    let x = text.spelled in
    let same = one_heading bytes d b.declarations rest x.between heading (text_heading (tokens bytes) b x.between text.version x.one x.two) in
    let met : plan_fault [] (plan_expected d) rest ≡ plan_fault [] (plan_expected b.declarations) x.between =
    ap (λ (e : Declarations). plan_fault [] (plan_expected e) rest) same.0 ∙ ap (λ (k : List Tok). plan_fault [] (plan_expected b.declarations) k) same.1 in
    let taken = plans_taken b x.between x.two in
    absurd (cc)

is_fault : (bytes : List ℕ) (kind : TextKind) (at : ℕ) (f : TextFault) → f ≡ fault_at bytes kind at → FirstPlanFault bytes kind at → IsPlanFault bytes f
is_fault bytes kind at f is first =
    let fault : IsPlanFault bytes (fault_at bytes kind at) = record { at = at; first = first; line = refl; column = refl } in
    subst (λ (g : TextFault). IsPlanFault bytes g) (sym is) fault

pub not_utf8 : (bytes : List ℕ) (f : TextFault) → IsNoUtf8 bytes f → IsPlanFault bytes f × ((b : PlanBook) → PlanText bytes b → ⊥)
not_utf8 bytes f bad = (is_fault bytes Utf8 bad.at f bad.is (no_utf8 bad.none bad.longest), λ b text. bad.none text.utf8)

pub not_plans : (bytes : List ℕ) (r : Refusal) (at : ℕ) (f : TextFault) → f ≡ fault_at bytes r.kind at → at ≡ length bytes - r.left → IsUtf8 bytes → FirstRefusal (tokens bytes) r → IsPlanFault bytes f × ((b : PlanBook) → PlanText bytes b → ⊥)
not_plans bytes r at f is position utf8 first =
    let here = subst (λ (n : ℕ). FirstPlanFault bytes r.kind n) (sym position) (refused utf8 first) in
    (is_fault bytes r.kind at f is here, λ b text. no_refusal bytes b r text first)

no_first : (bytes : List ℕ) (b : PlanBook) (kind : TextKind) (at : ℕ) → PlanText bytes b → FirstPlanFault bytes kind at → ⊥
no_first bytes b kind at text (no_utf8 not_utf8 valid) = not_utf8 text.utf8
no_first bytes b kind at text (refused {r = r} utf8 first) = no_refusal bytes b r text first

pub no_plan_fault : PlanTextsHaveNoFault
no_plan_fault bytes b f text fault = no_first bytes b f.kind fault.at text fault.first

-- ---- bytes have one first fault

one_refusal_is : (r s : Refusal) → r.kind ≡ s.kind → r.left ≡ s.left → r ≡ s
one_refusal_is r s kind left = λ i. record { kind = kind i; left = left i }

one_refusal : (bytes : List ℕ) (r s : Refusal) → FirstRefusal (tokens bytes) r → FirstRefusal (tokens bytes) s → r ≡ s
one_refusal bytes r s (in_heading x) (in_heading y) =
    let both : Stops r.kind r.left ≡ Stops s.kind s.left = sym x ∙ y in
    let kind : r.kind ≡ s.kind = cc in
    let left : r.left ≡ s.left = cc in
    one_refusal_is r s kind left
one_refusal bytes r s (in_heading x) (in_plans {d = d} {rest = m} heading y) =
    let goes = heading.whole (AnyTokens ∷ []) in
    let ended = any_taken (declared_by d []) [] m in
    absurd (cc)
one_refusal bytes r s (in_plans {d = d} {rest = m} heading x) (in_heading y) =
    let goes = heading.whole (AnyTokens ∷ []) in
    let ended = any_taken (declared_by d []) [] m in
    absurd (cc)
one_refusal bytes r s (in_plans {d = d} {rest = m} x h) (in_plans {d = e} {rest = n} y k) =
    let same = one_heading bytes d e m n x y in
    let met : plan_fault [] (plan_expected d) m ≡ plan_fault [] (plan_expected e) n =
    ap (λ (c : Declarations). plan_fault [] (plan_expected c) m) same.0 ∙ ap (λ (l : List Tok). plan_fault [] (plan_expected e) l) same.1 in
    let both : Some r ≡ Some s = sym h ∙ met ∙ k in
    cc

data FaultIs (bytes : List ℕ) (kind : TextKind) (at : ℕ) : Type 0 where
  broken : (IsUtf8 bytes → ⊥) → IsValidUpTo bytes at → kind ≡ Utf8 → FaultIs bytes kind at
  refused_at : IsUtf8 bytes → (r : Refusal) → FirstRefusal (tokens bytes) r → kind ≡ r.kind → at ≡ length bytes - r.left → FaultIs bytes kind at

fault_is : (bytes : List ℕ) (kind : TextKind) (at : ℕ) → FirstPlanFault bytes kind at → FaultIs bytes kind at
fault_is bytes kind at (no_utf8 not_utf8 valid) = broken not_utf8 valid refl
fault_is bytes kind at (refused {r = r} utf8 first) = refused_at utf8 r first refl refl

one_position : (bytes : List ℕ) (kind other : TextKind) (at position : ℕ) → FaultIs bytes kind at → FaultIs bytes other position → (kind ≡ other) × (at ≡ position)
one_position bytes kind other at position (broken n v e) (broken m w f) =
    (e ∙ sym f, sym (utf8_valid_len-IsValidUpTo bytes at v) ∙ utf8_valid_len-IsValidUpTo bytes position w)
one_position bytes kind other at position (broken n v e) (refused_at u r first k l) = absurd (n u)
one_position bytes kind other at position (refused_at u r first k l) (broken n v e) = absurd (n u)
one_position bytes kind other at position (refused_at u r first k l) (refused_at w s second p q) =
    let same = one_refusal bytes r s first second in
    (k ∙ ap (λ (z : Refusal). z.kind) same ∙ sym p, l ∙ ap (λ (z : Refusal). length bytes - z.left) same ∙ sym q)

pub one_plan_fault : OnePlanFault
one_plan_fault bytes f g x y =
    let one = one_position bytes f.kind g.kind x.at y.at (fault_is bytes f.kind x.at x.first) (fault_is bytes g.kind y.at y.first) in
    let line = x.line ∙ ap (λ (n : ℕ). line_at bytes n) one.1 ∙ sym y.line in
    let column = x.column ∙ ap (λ (n : ℕ). column_at bytes n) one.1 ∙ sym y.column in
    λ i. record { kind = one.0 i; line = line i; column = column i }
