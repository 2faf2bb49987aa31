-- What is spelled as one token is taken where it is expected.
use Rattle.std.proofs.Common.{◌≡◌, ◌∙◌, ◌≤◌, ℕ, Bool, true, false, Result, Ok, Err, IfOk, IsErrAnd, List, [], ◌∷◌, length, refl, sym, ap, subst, arith}
use Rattle.std.specs.Str.{bytes_eq}
use Rattle.std.proofs.lemmas.Result.{IfOk-weaker, err_from_is_err_and}
use Rattle.contract_grammar.specs.Tokens.{Tok, tokens}
use Rattle.contract_grammar.specs.Words.{Bytes, is_the_mark}
use Rattle.contract_grammar.specs.Names.{DeclaredNames}
use Rattle.contract_grammar.specs.Spelling.{Part, mark, one, valued, word}
use Rattle.contract_parse.specs.Expecting.{Leaves, Outcome, Expected, TheMark, TheWord, Next, Open, judged, run, step}
use Rattle.contract_parse.specs.Reading.{LacksMark, tok_of, tokens_after}
use Rattle.contract_parse.specs.declared.token.Lexeme.{Lexeme}
use Rattle.contract_parse.specs.Readers.{Ahead, Going, PassesAnywhere, Reads, ReadsAhead, ahead_in, ahead_of}
use Rattle.contract_parse.specs.declared.faults.PartErr.{PartErr}
use Rattle.contract_parse.proofs.Steps.{run-next}
use Rattle.contract_grammar.specs.declared.faults.TextKind.{TextKind}
use Rattle.contract_grammar.proofs.TokenKinds.{of_mark, of_word}

-- a reader that stops at a fault keeps its promise by the fault alone
pub stopped : {X : Type 0} {Goes : Going X} {part : X → Part} {behind : X → Ahead} {from : Ahead} {e : PartErr}
    → Goes (λ r. (behind r).toks) from.toks (Err e) → ReadsAhead Goes part behind from (Err e)
stopped follows = record { follows = follows; spelled = tt; shorter = tt }

-- the same of a fault that is handed on
pub stopped_at : {X : Type 0} {Goes : Going X} {part : X → Part} {behind : X → Ahead} {from : Ahead} (e : PartErr) (result : Result X PartErr)
    → IsErrAnd result (λ y. y ≡ e) → Goes (λ r. (behind r).toks) from.toks (Err e) → ReadsAhead Goes part behind from result
stopped_at e result is follows = let p = err_from_is_err_and result is in rw (p.1, p.2) (stopped follows)

-- what a reader leaves, by other words for where it leads
pub leaves_as : {X : Type 0} (f g : X → Outcome) (result : Result X PartErr) (o : Outcome) → IfOk result (λ x. f x ≡ g x) → Leaves f result o → Leaves g result o
leaves_as f g (Ok x) o same left = left ∙ same
leaves_as f g (Err e) o same left = left

pub ok_both : {X : Type 0} (P Q : X → Type 0) (result : Result X PartErr) → IfOk result P → IfOk result Q → IfOk result (λ x. P x × Q x)
ok_both P Q (Ok x) p q = (p, q)
ok_both P Q (Err e) p q = tt

pub run-end : (s : DeclaredNames) (ps : List Expected) → run s ps [] ≡ Open ps
unfolding run
run-end s ps = refl

-- ---- one token where it is expected

pub word_taken : (s : DeclaredNames) (w : Bytes) (ps : List Expected) (ts rest : List Tok) → word w ts rest → run s (TheWord w ∷ ps) ts ≡ run s ps rest
word_taken s w ps ts rest (t, is, passes) = rw is (run-next s s (TheWord w ∷ ps) ps t rest (rw passes refl))

pub mark_taken : (s : DeclaredNames) (m : Bytes) (ps : List Expected) (ts rest : List Tok) → mark m ts rest → run s (TheMark m ∷ ps) ts ≡ run s ps rest
mark_taken s m ps ts rest (t, is, passes) = rw is (run-next s s (TheMark m ∷ ps) ps t rest (rw passes refl))

pub value_taken : {X : Type 0} (s s2 : DeclaredNames) (ps qs : List Expected) (judge : Tok → Result X TextKind) (x : X) (ts rest : List Tok) → ((t : Tok) → judge t ≡ Ok x → step s ps t ≡ Next s2 qs) → valued judge x ts rest → run s ps ts ≡ run s2 qs rest
value_taken s s2 ps qs judge x ts rest next (t, is, passes) = rw is (run-next s s2 ps qs t rest (next t passes))

pub test_taken : (s s2 : DeclaredNames) (ps qs : List Expected) (test : Tok → Bool) (ts rest : List Tok) → ((t : Tok) → test t ≡ true → step s ps t ≡ Next s2 qs) → one test ts rest → run s ps ts ≡ run s2 qs rest
test_taken s s2 ps qs test ts rest next (t, is, passes) = rw is (run-next s s2 ps qs t rest (next t passes))

-- ---- other tokens

-- where one mark stands, another does not
pub mark_lacks : (m other : Bytes) (ts rest : List Tok) → bytes_eq m other ≡ false → mark m ts rest → LacksMark other ts
mark_lacks m other ts rest differ (t, is, passes) = record { first = t; after = rest; is = is; other = of_mark (λ z. is_the_mark other z ≡ false) m t passes differ }

-- where a word stands, a mark does not
pub word_lacks : (w other : Bytes) (ts rest : List Tok) → word w ts rest → LacksMark other ts
word_lacks w other ts rest (t, is, passes) = record { first = t; after = rest; is = is; other = of_word (λ z. is_the_mark other z ≡ false) w t passes refl }

-- what is read behind a token that was read on is read from where the token stands
pub read_on : {X : Type 0} {Goes : Going X} {part whole : X → Part} (behind : X → List ℕ) (t : Lexeme) (after rest : List ℕ) (result : Result X PartErr)
    → tokens rest ≡ tok_of t ∷ tokens_after t.kind after → length after ≤ length rest
    → ((r : X) (ts us : List Tok) → part r ts us → whole r ts us)
    → ReadsAhead Goes part (λ r. ahead_in (behind r)) (ahead_of t after) result → Reads Goes whole behind rest result
read_on {X} {Goes} {part} {whole} behind t after rest result starts within is h = record {
  follows = subst (λ ts. Goes (λ r. tokens (behind r)) ts result) (sym starts) h.follows;
  spelled = IfOk-weaker result _ _ (λ r x. is r (tokens rest) (tokens (behind r)) (subst (λ ts. part r ts (tokens (behind r))) (sym starts) x)) h.spelled;
  shorter = IfOk-weaker result _ _ (λ r x. omega (arith, x, within)) h.shorter;
}

-- what is read from the next token on is read
pub behind_gap : {X : Type 0} {Goes : Going X} {part : X → Part} (behind : X → List ℕ) (start rest : List ℕ) (result : Result X PartErr)
    → tokens start ≡ tokens rest → length start ≤ length rest → Reads Goes part behind start result → Reads Goes part behind rest result
behind_gap {X} {Goes} {part} behind start rest result same within h = record {
  follows = subst (λ ts. Goes (λ r. tokens (behind r)) ts result) same h.follows;
  spelled = IfOk-weaker result _ _ (λ r x. subst (λ ts. part r ts (tokens (behind r))) same x) h.spelled;
  shorter = IfOk-weaker result _ _ (λ r x. omega (arith, x, within)) h.shorter;
}

-- a value that stands at once is read from where its gap begins
pub valued_at_once : {X Y : Type 0} (judge : Tok → Result Y TextKind) (value : X → Y) (behind : X → List ℕ) (expected : Expected) (r : X) (start rest : List ℕ)
    → ((s : DeclaredNames) (ps : List Expected) (t : Tok) → step s (expected ∷ ps) t ≡ judged (judge t) (λ y. Next s ps))
    → tokens start ≡ tokens rest → length (behind r) ≤ length rest → valued judge (value r) (tokens start) (tokens (behind r))
    → Reads (PassesAnywhere (λ ps. expected ∷ ps)) (λ r. valued judge (value r)) behind rest (Ok r)
valued_at_once judge value behind expected r start rest shape same within here =
    let there = subst (λ ts. valued judge (value r) ts (tokens (behind r))) same here in
    record {
      follows = λ s ps. value_taken s s (expected ∷ ps) ps judge (value r) (tokens rest) (tokens (behind r)) (λ t e. shape s ps t ∙ ap (λ o. judged o (λ y. Next s ps)) e) there;
      spelled = there;
      shorter = within;
    }
