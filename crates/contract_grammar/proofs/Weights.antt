-- How many bytes the tokens of a text have, and how many a term takes at least.
use Rattle.std.proofs.Common.{◌≡◌, ℕ, ℤ, zero, suc, ◌+◌, ◌-◌, ◌*◌, ◌≤◌, max, Bool, true, false, cond, Result, Ok, List, [], ◌∷◌, length, ap, inl, inr, arith, length-drop}
use Rattle.std.specs.Prelude.{codes}
use Rattle.std.proofs.lemmas.List.{length-take}
use Rattle.std.proofs.lemmas.Bool.{cases_Bool}
use Rattle.decimal.specs.declared.Decimal.{Decimal}
use Rattle.term_model.specs.Terms.{Expression, Lit, Yes, Var, Obs, Neg, Num, Cmp, Not, Logic, Cond, Widen, Round, Div, Acc, Contract, Zero, Pay, Both, Scale, After, Let, Within}
use Rattle.term_model.specs.Sizes.{nodes, nodes_of_contract}
use Rattle.term_model.specs.declared.terms.NumOp.TheVariants.{Min, Max}
use Rattle.contract_grammar.specs.Tokens.{Tok, after_gap, extent_at, is_last, next_lexeme, tokens, tokens_from}
use Rattle.contract_grammar.specs.Words.{Bytes, is_name}
use Rattle.term_model.specs.DayCounts.{Days}
use Rattle.contract_grammar.specs.Versions.{Version, One, Two}
use Rattle.contract_grammar.specs.Sums.{Tally, item_at, no_items}
use Rattle.contract_grammar.specs.Names.{DeclaredNames}
use Rattle.contract_grammar.specs.Judgements.{date_number_at, days_at, integer_at, literal_at, mode_at, offset_at, operator_at, binder_at, use_at, variable_at}
use Rattle.contract_grammar.specs.Spelling.{DateFrom, Part, Repeat, ◌⨟◌, SomeName, Signed, contr, dated_part, days_part, expr, further_item, leaf_of, more as one_more, none as no_more, mark, sign, templates_part, valued, word}
use Rattle.contract_grammar.specs.declared.terms.Language.{Language}
use Rattle.contract_grammar.specs.Payments.{payments_in}
use Rattle.contract_grammar.specs.declared.faults.TextKind.{TextKind}
use Rattle.contract_grammar.proofs.TokenFacts.{gap_shorter, shorter}
use Rattle.contract_grammar.proofs.TokenKinds.{the_mark, the_name, the_number, the_word}
use Rattle.contract_grammar.proofs.TokenKinds.{name_of_variable, number_of_literal}

-- ---- the bytes of tokens

-- a token that is not the last has a byte
abbrev size : Tok → ℕ
size t = max (length t.text) (cond (is_last t.kind) 0 1)

abbrev pub weight : List Tok → ℕ
weight [] = 0
weight (t ∷ ts) = size t + weight ts

first_light : (bytes : List ℕ) → is_last (next_lexeme bytes).0.kind ≡ true → size (next_lexeme bytes).0 ≤ length bytes
unfolding next_lexeme
first_light bytes last =
    let start = after_gap false bytes in
    rw last (omega (arith, length-take (extent_at start).len start, gap_shorter false bytes))

text_light : (bytes : List ℕ) → length (next_lexeme bytes).0.text + length (next_lexeme bytes).1 ≤ length bytes
unfolding next_lexeme
text_light bytes =
    let start = after_gap false bytes in
    omega (arith, length-take (extent_at start).len start, length-drop (extent_at start).len start, gap_shorter false bytes)

next_light : (bytes : List ℕ) → is_last (next_lexeme bytes).0.kind ≡ false → size (next_lexeme bytes).0 + length (next_lexeme bytes).1 ≤ length bytes
next_light bytes more = rw more (omega (arith, text_light bytes, shorter bytes more))

weight_from : (n : ℕ) (bytes : List ℕ) → weight (tokens_from n bytes) ≤ length bytes
unfolding tokens_from
weight_from zero bytes = omega arith
weight_from (suc n) bytes = elim (cases_Bool (is_last (next_lexeme bytes).0.kind)) [
  | inl last ↦ let light = rw last at (first_light bytes last) in rw last (omega (arith, light))
  | inr more ↦ let light = rw more at (next_light bytes more) in rw more (omega (arith, light, weight_from n (next_lexeme bytes).1))
]

pub weight_tokens : (bytes : List ℕ) → weight (tokens bytes) ≤ length bytes
unfolding tokens
weight_tokens bytes = weight_from (suc (length bytes)) bytes

-- ---- the bytes of parts

-- the part takes so many bytes
pub record AtLeast (n : ℕ) (part : Part) : Type 0 where
  pub least : (ts rest : List Tok) → part ts rest → n + weight rest ≤ weight ts

infixr 5 ◌▹◌
pub ◌▹◌ : {m n : ℕ} {P Q : Part} → AtLeast m P → AtLeast n Q → AtLeast (m + n) (P ⨟ Q)
p ▹ q = record { least = λ ts rest x. omega (arith, p.least ts x.between x.one, q.least x.between rest x.two) }

pub lighter : {m n : ℕ} {P : Part} → AtLeast n P → m ≤ n → AtLeast m P
lighter p less = record { least = λ ts rest x. omega (arith, p.least ts rest x) }

pub word_least : (w : Bytes) (n : ℕ) → n ≤ length w → AtLeast n (word w)
word_least w n le = record { least = λ ts rest x. by_token ts rest x }
  where
    by_token : (ts rest : List Tok) → word w ts rest → n + weight rest ≤ weight ts
    by_token ts rest (t, is, e) = rw is (omega (arith, ap length (the_word w t e).1))

pub mark_least : (m : Bytes) → 1 ≤ length m → AtLeast 1 (mark m)
mark_least m le = record { least = λ ts rest x. by_token ts rest x }
  where
    by_token : (ts rest : List Tok) → mark m ts rest → 1 + weight rest ≤ weight ts
    by_token ts rest (t, is, e) = rw is (omega (arith, ap length (the_mark m t e).1))

pub value_least : {X : Type 0} (judge : Tok → Result X TextKind) (x : X) → AtLeast 0 (valued judge x)
value_least judge x = record { least = λ ts rest y. by_token ts rest y }
  where
    by_token : (ts rest : List Tok) → valued judge x ts rest → 0 + weight rest ≤ weight ts
    by_token ts rest (t, is, e) = rw is (omega arith)

pub byte_least : {X : Type 0} (judge : Tok → Result X TextKind) (x : X) → ((t : Tok) → judge t ≡ Ok x → is_last t.kind ≡ false) → AtLeast 1 (valued judge x)
byte_least judge x more = record { least = λ ts rest y. by_token ts rest y }
  where
    by_token : (ts rest : List Tok) → valued judge x ts rest → 1 + weight rest ≤ weight ts
    by_token ts rest (t, is, e) = rw is (rw (more t e) (omega arith))

-- ---- terms

literal_more : (negative : Bool) (t : Tok) (d : Decimal) → literal_at negative t ≡ Ok d → is_last t.kind ≡ false
literal_more negative t d e = ap is_last (the_number t (number_of_literal negative t d e))

variable_more : (names : List Bytes) (t : Tok) (i : ℕ) → variable_at names t ≡ Ok i → is_last t.kind ≡ false
variable_more names t i e = ap is_last (the_name t (name_of_variable names t i e))

use_more : (names : List Bytes) (t : Tok) (i : ℕ) → use_at names t ≡ Ok i → is_last t.kind ≡ false
use_more names t i e = elim (cases_Bool (is_name t)) [
  | inl is ↦ ap is_last (the_name t is)
  | inr other ↦ let h = rw other at e in absurd cc
]

sign_least : (negative : Bool) → AtLeast 0 (sign negative)
sign_least true = lighter (mark_least (codes "-") (omega arith)) (omega arith)
sign_least false = record { least = λ ts rest x. rw (x) (omega arith) }

pub signed_least : {n : ℕ} (part : Bool → Part) → ((negative : Bool) → AtLeast n (part negative)) → AtLeast n (Signed part)
signed_least part each = record { least = λ ts rest x. omega (arith, (sign_least x.negative ▹ each x.negative).least ts rest x.spelled) }

pub some_least : {n : ℕ} (part : Bytes → Part) → ((name : Bytes) → AtLeast n (part name)) → AtLeast n (SomeName part)
some_least part each = record { least = λ ts rest x. (each x.name).least ts rest x.spelled }

pub open_least : AtLeast 1 (mark (codes "("))
open_least = mark_least (codes "(") (omega arith)

pub comma_least : AtLeast 1 (mark (codes ","))
comma_least = mark_least (codes ",") (omega arith)

pub close_least : AtLeast 1 (mark (codes ")"))
close_least = mark_least (codes ")") (omega arith)

-- a date
templates_least : (templates : List Bytes) (written : List ℕ) → AtLeast 0 (templates_part templates written)
templates_least templates [] = record { least = λ ts rest x. rw x (omega arith) }
templates_least templates (t ∷ written) = lighter (mark_least (codes "+") (omega arith) ▹ value_least (use_at templates) t ▹ templates_least templates written) (omega arith)

pub date_least : (templates : List Bytes) (days : ℤ) (written : List ℕ) → AtLeast 0 (dated_part templates days written)
date_least templates days written = signed_least _ (λ negative. value_least (date_number_at negative) days) ▹ templates_least templates written

leaf_least : (language : Language) (s : DeclaredNames) (label : ℕ) (n : ℤ) → AtLeast 1 (leaf_of language s label n)
leaf_least Language.Contracts s label n =
    lighter (word_least (codes "obs") 1 (omega arith) ▹ open_least ▹ value_least (use_at s.labels) label ▹ comma_least ▹ signed_least _ (λ negative. value_least (offset_at negative) n) ▹ close_least) (omega arith)
leaf_least Language.Code s label n =
    let date : AtLeast 0 (DateFrom s.templates n) = record { least = λ ts rest x. (date_least s.templates x.days x.written).least ts rest x.spelled } in
    lighter (word_least (codes "model") 1 (omega arith) ▹ open_least ▹ value_least (use_at s.labels) label ▹ comma_least ▹ date ▹ close_least) (omega arith)

pub expr_least : (language : Language) (s : DeclaredNames) (names : List Bytes) (e : Expression) → AtLeast (nodes e) (expr language s names e)
expr_least language s names (Lit m k) = signed_least _ (λ negative. byte_least (literal_at negative) _ (λ t e. literal_more negative t _ e))
expr_least language s names (Yes true) = word_least (codes "true") 1 (omega arith)
expr_least language s names (Yes false) = word_least (codes "false") 1 (omega arith)
expr_least language s names (Var back) = byte_least (variable_at names) back (λ t e. variable_more names t back e)
expr_least language s names (Obs label n) = leaf_least language s label n
expr_least language s names (Neg e) = lighter (word_least (codes "neg") 1 (omega arith) ▹ open_least ▹ expr_least language s names e ▹ close_least) (omega arith)
expr_least language s names (Not e) = lighter (word_least (codes "not") 1 (omega arith) ▹ open_least ▹ expr_least language s names e ▹ close_least) (omega arith)
expr_least language s names (Num Min a b) = lighter (word_least (codes "min") 1 (omega arith) ▹ open_least ▹ expr_least language s names a ▹ comma_least ▹ expr_least language s names b ▹ close_least) (omega arith)
expr_least language s names (Num Max a b) = lighter (word_least (codes "max") 1 (omega arith) ▹ open_least ▹ expr_least language s names a ▹ comma_least ▹ expr_least language s names b ▹ close_least) (omega arith)
expr_least language s names (Num op a b) = lighter (open_least ▹ expr_least language s names a ▹ value_least operator_at _ ▹ expr_least language s names b ▹ close_least) (omega arith)
expr_least language s names (Cmp op a b) = lighter (open_least ▹ expr_least language s names a ▹ value_least operator_at _ ▹ expr_least language s names b ▹ close_least) (omega arith)
expr_least language s names (Logic op a b) = lighter (open_least ▹ expr_least language s names a ▹ value_least operator_at _ ▹ expr_least language s names b ▹ close_least) (omega arith)
expr_least language s names (Cond t a b) =
    lighter (word_least (codes "if") 1 (omega arith) ▹ open_least ▹ expr_least language s names t ▹ comma_least ▹ expr_least language s names a ▹ comma_least ▹ expr_least language s names b ▹ close_least) (omega arith)
expr_least language s names (Widen k e) = lighter (word_least (codes "widen") 1 (omega arith) ▹ open_least ▹ value_least (integer_at 27) k ▹ comma_least ▹ expr_least language s names e ▹ close_least) (omega arith)
expr_least language s names (Round m k e) =
    lighter (word_least (codes "round") 1 (omega arith) ▹ open_least ▹ value_least mode_at m ▹ comma_least ▹ value_least (integer_at 27) k ▹ comma_least ▹ expr_least language s names e ▹ close_least) (omega arith)
expr_least language s names (Div m k a b) =
    lighter (word_least (codes "div") 1 (omega arith) ▹ open_least ▹ value_least mode_at m ▹ comma_least ▹ value_least (integer_at 27) k ▹ comma_least ▹ expr_least language s names a ▹ comma_least ▹ expr_least language s names b ▹ close_least) (omega arith)
expr_least language s names (Acc body n first) =
    some_least _ (λ name. lighter (word_least (codes "acc") 1 (omega arith) ▹ open_least ▹ value_least binder_at name ▹ comma_least ▹ expr_least language s (name ∷ names) body ▹ comma_least ▹ value_least (integer_at 100_000) n ▹ comma_least ▹ expr_least language s names first ▹ close_least) (omega arith))

further_least : (templates : List Bytes) (p q : Tally) (ts rest : List Tok) → Repeat (further_item templates) p q ts rest → weight rest ≤ weight ts
further_least templates p q ts rest no_more = omega arith
further_least templates p q ts rest (one_more {b = r} {between = k} x xs) =
    omega (arith, (mark_least (codes "+") (omega arith) ▹ value_least (item_at templates p) r).least ts k x, further_least templates r q k rest xs)

days_least : (v : Version) (templates : List Bytes) (n : Days) → AtLeast 0 (days_part v templates n)
days_least One templates n = value_least (days_at templates) n
days_least Two templates n = record { least = λ ts rest x. omega (arith, (value_least (item_at templates no_items) x.first).least ts x.spelled.between x.spelled.one, further_least templates x.first x.all x.spelled.between rest x.spelled.two) }

pub contr_least : (s : DeclaredNames) (names : List Bytes) (c : Contract) → AtLeast (nodes_of_contract c) (contr s names c)
contr_least s names Zero = word_least (codes "zero") 1 (omega arith)
contr_least s names (Pay asset from to) =
    lighter (word_least (codes "pay") 1 (omega arith) ▹ open_least ▹ value_least (use_at s.assets) asset ▹ comma_least ▹ value_least (use_at s.parties) from ▹ comma_least ▹ value_least (use_at s.parties) to ▹ close_least) (omega arith)
contr_least s names (Both a b) = lighter (word_least (codes "both") 1 (omega arith) ▹ open_least ▹ contr_least s names a ▹ comma_least ▹ contr_least s names b ▹ close_least) (omega arith)
contr_least s names (Scale e c) = lighter (word_least (codes "scale") 1 (omega arith) ▹ open_least ▹ expr_least Language.Contracts s names e ▹ comma_least ▹ contr_least s names c ▹ close_least) (omega arith)
contr_least s names (After n c) = lighter (word_least (codes "after") 1 (omega arith) ▹ open_least ▹ days_least s.version s.templates n ▹ comma_least ▹ contr_least s names c ▹ close_least) (omega arith)
contr_least s names (Let e c) =
    some_least _ (λ name. lighter (word_least (codes "let") 1 (omega arith) ▹ value_least binder_at name ▹ mark_least (codes "=") (omega arith) ▹ expr_least Language.Contracts s names e ▹ word_least (codes "in") 1 (omega arith) ▹ contr_least s (name ∷ names) c) (omega arith))
contr_least s names (Within e n a b) =
    lighter (word_least (codes "if") 1 (omega arith) ▹ expr_least Language.Contracts s names e ▹ word_least (codes "within") 1 (omega arith) ▹ days_least s.version s.templates n ▹ word_least (codes "then") 1 (omega arith) ▹ contr_least s names a ▹ word_least (codes "else") 1 (omega arith) ▹ contr_least s names b) (omega arith)

-- a payment takes 10 bytes, and two contracts 7 more
pub payments_least : (s : DeclaredNames) (names : List Bytes) (c : Contract) → AtLeast (17 * payments_in c - 7) (contr s names c)
payments_least s names Zero = word_least (codes "zero") 0 (omega arith)
payments_least s names (Pay asset from to) =
    lighter (word_least (codes "pay") 3 (omega arith) ▹ open_least ▹ byte_least (use_at s.assets) asset (λ t e. use_more s.assets t asset e) ▹ comma_least ▹ byte_least (use_at s.parties) from (λ t e. use_more s.parties t from e) ▹ comma_least ▹ byte_least (use_at s.parties) to (λ t e. use_more s.parties t to e) ▹ close_least) (omega arith)
payments_least s names (Both a b) = lighter (word_least (codes "both") 4 (omega arith) ▹ open_least ▹ payments_least s names a ▹ comma_least ▹ payments_least s names b ▹ close_least) (omega arith)
payments_least s names (Scale e c) = lighter (word_least (codes "scale") 5 (omega arith) ▹ open_least ▹ expr_least Language.Contracts s names e ▹ comma_least ▹ payments_least s names c ▹ close_least) (omega arith)
payments_least s names (After n c) = lighter (word_least (codes "after") 5 (omega arith) ▹ open_least ▹ days_least s.version s.templates n ▹ comma_least ▹ payments_least s names c ▹ close_least) (omega arith)
payments_least s names (Let e c) =
    some_least _ (λ name. lighter (word_least (codes "let") 3 (omega arith) ▹ value_least binder_at name ▹ mark_least (codes "=") (omega arith) ▹ expr_least Language.Contracts s names e ▹ word_least (codes "in") 2 (omega arith) ▹ payments_least s (name ∷ names) c) (omega arith))
payments_least s names (Within e n a b) =
    lighter (word_least (codes "if") 2 (omega arith) ▹ expr_least Language.Contracts s names e ▹ word_least (codes "within") 6 (omega arith) ▹ days_least s.version s.templates n ▹ word_least (codes "then") 4 (omega arith) ▹ payments_least s names a ▹ word_least (codes "else") 4 (omega arith) ▹ payments_least s names b) (omega arith)
