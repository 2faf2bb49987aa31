-- Two readings of the same tokens: what one token is, and parts one after another.
use Rattle.std.proofs.Common.{◌≡◌, Bool, true, false, Result, Ok, List, ◌∷◌, sym, ap, ◌∙◌, subst}
use Rattle.std.specs.Prelude.{codes}
use Rattle.std.proofs.lemmas.Bool.{false≢true}
use Rattle.contract_grammar.specs.Tokens.{Tok}
use Rattle.contract_grammar.specs.Words.{is_number, is_the_mark}
use Rattle.contract_grammar.specs.Spelling.{Part, Then, ◌⨟◌, Signed, mark, one, sign, valued}
use Rattle.contract_grammar.specs.declared.faults.TextKind.{TextKind}
use Rattle.contract_grammar.proofs.TokenKinds.{number_no_mark}

ok_same : {X : Type 0} (r r' : Result X TextKind) (x y : X) → r ≡ r' → r ≡ Ok x → r' ≡ Ok y → x ≡ y
ok_same r r' x y same e f = cc

pub tail_same : (t u : Tok) (ts a b : List Tok) → ts ≡ t ∷ a → ts ≡ u ∷ b → (t ≡ u) × (a ≡ b)
tail_same t u ts a b e f = let same : t ∷ a ≡ u ∷ b = sym e ∙ f in (cc, cc)

pub one_one : (test test' : Tok → Bool) (ts a b : List Tok) → one test ts a → one test' ts b → a ≡ b
one_one test test' ts a b (t, e, n) (u, e', n') = (tail_same t u ts a b e e').1

pub value_one : {X : Type 0} (judge : Tok → Result X TextKind) (x y : X) (ts a b : List Tok) → valued judge x ts a → valued judge y ts b → (x ≡ y) × (a ≡ b)
value_one judge x y ts a b (t, e, n) (u, e', n') =
    let s = tail_same t u ts a b e e' in (ok_same (judge t) (judge u) x y (ap judge s.0) n n', s.1)

-- what has a sign begins with another token than what has none
no_sign : {X : Type 0} (judge : Tok → Result X TextKind) (x : X) (ts a b : List Tok) → ((t : Tok) → judge t ≡ Ok x → is_number t ≡ true) → mark (codes "-") ts a → valued judge x ts b → ⊥
no_sign judge x ts a b number (t, e, n) (u, e', n') =
    let s = tail_same t u ts a b e e' in
    false≢true (sym (number_no_mark (codes "-") u (number u n')) ∙ ap (is_the_mark (codes "-")) (sym s.0) ∙ n)

signed_same : {X : Type 0} (judge : Bool → Tok → Result X TextKind) (x y : X) (m n : Bool) (ts a b : List Tok) → ((t : Tok) (x : X) → judge false t ≡ Ok x → is_number t ≡ true)
    → (sign m ⨟ valued (judge m) x) ts a → (sign n ⨟ valued (judge n) y) ts b → (x ≡ y) × (a ≡ b)
signed_same judge x y true true ts a b number p q =
    value_one (judge true) x y p.between a b p.two (subst (λ k. valued (judge true) y k b) (sym (one_one _ _ ts p.between q.between p.one q.one)) q.two)
signed_same judge x y true false ts a b number p q =
    absurd (no_sign (judge false) y ts p.between b (λ t e. number t y e) p.one (subst (λ k. valued (judge false) y k b) (sym q.one) q.two))
signed_same judge x y false true ts a b number p q =
    absurd (no_sign (judge false) x ts q.between a (λ t e. number t x e) q.one (subst (λ k. valued (judge false) x k a) (sym p.one) p.two))
signed_same judge x y false false ts a b number p q =
    value_one (judge false) x y ts a b (subst (λ k. valued (judge false) x k a) (sym p.one) p.two) (subst (λ k. valued (judge false) y k b) (sym q.one) q.two)

pub signed_one : {X : Type 0} (judge : Bool → Tok → Result X TextKind) (x y : X) (ts a b : List Tok) → ((t : Tok) (x : X) → judge false t ≡ Ok x → is_number t ≡ true)
    → Signed (λ negative. valued (judge negative) x) ts a → Signed (λ negative. valued (judge negative) y) ts b → (x ≡ y) × (a ≡ b)
signed_one judge x y ts a b number p q = signed_same judge x y p.negative q.negative ts a b number p.spelled q.spelled

-- ---- a part and what follows it

pub part_case : {P : Type 0} {R R' S S' : Part} {G : Type 0} (ts a b : List Tok) → ((m n : List Tok) → R ts m → R' ts n → P × (m ≡ n)) → Then R S ts a → Then R' S' ts b → (P → (k : List Tok) → S k a → S' k b → G) → G
part_case {S' = S'} ts a b first x y next =
    let f = first x.between y.between x.one y.one in
    next f.0 x.between x.two (subst (λ k. S' k b) (sym f.1) y.two)

pub test_case : {S S' : Part} {G : Type 0} (test test' : Tok → Bool) (ts a b : List Tok) → Then (one test) S ts a → Then (one test') S' ts b → ((k : List Tok) → S k a → S' k b → G) → G
test_case {S' = S'} test test' ts a b x y next = next x.between x.two (subst (λ k. S' k b) (sym (one_one test test' ts x.between y.between x.one y.one)) y.two)

pub value_case : {X : Type 0} {S S' : Part} {G : Type 0} (judge : Tok → Result X TextKind) (v w : X) (ts a b : List Tok) → Then (valued judge v) S ts a → Then (valued judge w) S' ts b → (v ≡ w → (k : List Tok) → S k a → S' k b → G) → G
value_case judge v w ts a b x y next = part_case ts a b (value_one judge v w ts) x y next
