-- A contract of a text names only what is declared or bound round it, and at most 200 terms are open at once.
use Rattle.std.proofs.Common.{◌≡◌, ℕ, zero, suc, ◌+◌, ◌<◌, ◌≤◌, Option, Some, None, Result, Ok, Err, List, [], ◌∷◌, length, get_or, add-one, sym, inl, inr, arith, subst, refl}
use Rattle.std.proofs.lemmas.List.{length-map}
use Rattle.std.specs.Prelude.{All}
use Rattle.std.proofs.lemmas.List.Elements.{All-nil, All-push}
use Rattle.std.proofs.lemmas.Bool.{cases_Bool}
use Rattle.term_model.specs.Terms.{Expression, Lit, Yes, Var, Obs, Neg, Num, Cmp, Not, Logic, Cond, Widen, Round, Div, Acc, Contract, Zero, Pay, Both, Scale, After, Let, Within}
use Rattle.term_model.specs.Sizes.{height_of_contract}
use Rattle.term_model.specs.WellFormed.{IsWellFormed, IsWellFormedContract, AreBelow, IsDeclared, IsClosed}
use Rattle.term_model.specs.Instances.{HasSmallSums, IsSmallSum}
use Rattle.term_model.specs.Declarations.{Declarations}
use Rattle.term_model.specs.Books.{Book}
use Rattle.term_model.specs.DayCounts.{Days}
use Rattle.term_model.specs.DayCounts.{Num as Count, Named, Sum}
use Rattle.term_model.specs.declared.terms.NumOp.TheVariants.{Plus, Minus, Times, Min, Max}
use Rattle.contract_grammar.specs.Tokens.{Tok}
use Rattle.contract_grammar.specs.Words.{Bytes, is_integer}
use Rattle.contract_grammar.specs.Versions.{Version, One, Two, version_of}
use Rattle.contract_grammar.specs.Sums.{HasCountsOfTexts, IsCountOfTexts, sum_of}
use Rattle.contract_grammar.specs.Names.{DeclaredNames, declared_by}
use Rattle.contract_grammar.specs.Judgements.{counted, days_at, named, offset_at, up_to, use_at, variable_at, whole}
use Rattle.contract_grammar.specs.Spelling.{contr, days_part, expr}
use Rattle.contract_grammar.specs.declared.terms.Language.{Language}
use Rattle.contract_grammar.specs.Statements.{Entry, Repeat, none, more, contract_line}
use Rattle.contract_grammar.specs.Texts.{Text}
use Rattle.contract_grammar.specs.declared.faults.TextKind.{TextKind}
use Rattle.contract_grammar.proofs.TextSizes.{contract_lines}
pub use Rattle.contract_grammar.proofs.TextNumbers.{by_value, found, integer_within, offset_within, small, use_within, variable_within}
use Rattle.contract_grammar.proofs.SumFacts.{count_of_texts, sum_is}

-- ---- counts of days

abbrev BelowOr : ℕ → Days → Type 0
BelowOr m (Count n) = Unit {0}
BelowOr m (Named t) = t < m
BelowOr m (Sum n ts) = AreBelow m ts

days_number : (templates : List Bytes) (t : Tok) (n : Days) → days_at templates t ≡ Ok n → (m : ℕ) → m ≡ length templates → IsCountOfTexts One n × BelowOr m n
days_number templates t n e m same = elim (cases_Bool (is_integer t)) [
  | inl is ↦ let h : counted (up_to 100_000 (whole t)) ≡ Ok n = rw is at e in by_count (up_to 100_000 (whole t)) refl h
  | inr other ↦ let h : named (use_at templates t) ≡ Ok n = rw other at e in by_name (use_at templates t) refl h
]
  where
    by_count : (o : Option ℕ) → up_to 100_000 (whole t) ≡ o → counted o ≡ Ok n → IsCountOfTexts One n × BelowOr m n
    by_count None is h = absurd cc
    by_count (Some k) is h = let at : Count k ≡ n = cc in subst (λ (c : Days). IsCountOfTexts One c × BelowOr m c) at (small 100_000 (whole t) k is, tt)

    by_name : (r : Result ℕ TextKind) → use_at templates t ≡ r → named r ≡ Ok n → IsCountOfTexts One n × BelowOr m n
    by_name (Err kind) is h = absurd cc
    by_name (Ok j) is h = let at : Named j ≡ n = cc in subst (λ (c : Days). IsCountOfTexts One c × BelowOr m c) at (tt, omega (arith, use_within templates t j is, same))

sum_below : (m k : ℕ) (us : List ℕ) → AreBelow m us → BelowOr m (sum_of k us)
sum_below m k [] h = tt
sum_below m zero (t ∷ []) h = h.0
sum_below m (suc k) (t ∷ []) h = h
sum_below m zero (t ∷ u ∷ us) h = h
sum_below m (suc k) (t ∷ u ∷ us) h = h

-- a count of days that is spelled: its form, and that its templates are declared
pub days_are : (v : Version) (templates : List Bytes) (n : Days) (ts rest : List Tok) → days_part v templates n ts rest → IsCountOfTexts v n × BelowOr (length templates) n
days_are One templates n ts rest x = by_value (days_at templates) n _ ts rest (λ t e. days_number templates t n e (length templates) refl) x
days_are Two templates n ts rest x =
    let s = sum_is templates n ts rest x in (
      subst (λ (c : Days). IsCountOfTexts Two c) (sym s.is) (count_of_texts s.tally.number s.tally.names s.limits),
      subst (λ (c : Days). BelowOr (length templates) c) (sym s.is) (sum_below (length templates) s.tally.number s.tally.names s.below),
    )

declared_below : (d : Declarations) (n : Days) → BelowOr (length d.templates) n → IsDeclared d n
declared_below d (Count n) h = tt
declared_below d (Named t) h = h
declared_below d (Sum n ts) h = h

days_closed : (d : Declarations) (contracts : List Bytes) (n : Days) (ts rest : List Tok) → days_part (version_of d.version) (declared_by d contracts).templates n ts rest → IsDeclared d n
days_closed d contracts n ts rest x =
    declared_below d n (subst (λ (m : ℕ). BelowOr m n) (length-map d.templates (λ entry. entry.0)) (days_are (version_of d.version) (declared_by d contracts).templates n ts rest x).1)

-- ---- terms

abbrev ExpressionIsClosed : Declarations → Expression → Type 0
ExpressionIsClosed d e =
    (contracts names : List Bytes) (ts rest : List Tok) → expr Language.Contracts (declared_by d contracts) names e ts rest → IsWellFormed d (length names) e

under : (d : Declarations) (n : ℕ) (e : Expression) → IsWellFormed d (suc n) e → IsWellFormed d (n + 1) e
under d n e h = rw add-one h

closed_expression : (d : Declarations) (e : Expression) → ExpressionIsClosed d e
closed_expression d (Lit m k) cs ns ts rest x = tt
closed_expression d (Yes b) cs ns ts rest x = tt
closed_expression d (Var back) cs ns ts rest x = by_value (variable_at ns) back _ ts rest (λ t e. variable_within ns t back e) x
closed_expression d (Obs l n) cs ns ts rest x =
    let s = declared_by d cs in
    let label = x.two.two.one in
    let offset = x.two.two.two.two.one in
    let within = by_value (use_at s.labels) l _ _ _ (λ t e. use_within s.labels t l e) label in
    (omega (arith, length-map d.labels (λ entry. entry.0)), by_value (offset_at offset.negative) n _ _ _ (λ t e. offset_within offset.negative t n e) offset.spelled.two)
closed_expression d (Neg e) cs ns ts rest x = closed_expression d e cs ns _ _ x.two.two.one
closed_expression d (Not e) cs ns ts rest x = closed_expression d e cs ns _ _ x.two.two.one
closed_expression d (Num Min a b) cs ns ts rest x = (closed_expression d a cs ns _ _ x.two.two.one, closed_expression d b cs ns _ _ x.two.two.two.two.one)
closed_expression d (Num Max a b) cs ns ts rest x = (closed_expression d a cs ns _ _ x.two.two.one, closed_expression d b cs ns _ _ x.two.two.two.two.one)
closed_expression d (Num Plus a b) cs ns ts rest x = (closed_expression d a cs ns _ _ x.two.one, closed_expression d b cs ns _ _ x.two.two.two.one)
closed_expression d (Num Minus a b) cs ns ts rest x = (closed_expression d a cs ns _ _ x.two.one, closed_expression d b cs ns _ _ x.two.two.two.one)
closed_expression d (Num Times a b) cs ns ts rest x = (closed_expression d a cs ns _ _ x.two.one, closed_expression d b cs ns _ _ x.two.two.two.one)
closed_expression d (Cmp op a b) cs ns ts rest x = (closed_expression d a cs ns _ _ x.two.one, closed_expression d b cs ns _ _ x.two.two.two.one)
closed_expression d (Logic op a b) cs ns ts rest x = (closed_expression d a cs ns _ _ x.two.one, closed_expression d b cs ns _ _ x.two.two.two.one)
closed_expression d (Cond t a b) cs ns ts rest x =
    (closed_expression d t cs ns _ _ x.two.two.one, closed_expression d a cs ns _ _ x.two.two.two.two.one, closed_expression d b cs ns _ _ x.two.two.two.two.two.two.one)
closed_expression d (Widen k e) cs ns ts rest x = closed_expression d e cs ns _ _ x.two.two.two.two.one
closed_expression d (Round m k e) cs ns ts rest x = closed_expression d e cs ns _ _ x.two.two.two.two.two.two.one
closed_expression d (Div m k a b) cs ns ts rest x =
    (closed_expression d a cs ns _ _ x.two.two.two.two.two.two.one, closed_expression d b cs ns _ _ x.two.two.two.two.two.two.two.two.one)
closed_expression d (Acc body n first) cs ns ts rest x =
    let y = x.spelled.two.two.two.two in
    (under d (length ns) body (closed_expression d body cs (x.name ∷ ns) _ _ y.one), closed_expression d first cs ns _ _ y.two.two.two.two.one)

abbrev pub ContractIsClosed : Declarations → Contract → Type 0
ContractIsClosed d c =
    (contracts names : List Bytes) (ts rest : List Tok) → contr (declared_by d contracts) names c ts rest → IsWellFormedContract d (length names) c

under_contract : (d : Declarations) (n : ℕ) (c : Contract) → IsWellFormedContract d (suc n) c → IsWellFormedContract d (n + 1) c
under_contract d n c h = rw add-one h

pub closed_contract : (d : Declarations) (c : Contract) → ContractIsClosed d c
closed_contract d Zero cs ns ts rest x = tt
closed_contract d (Pay a p q) cs ns ts rest x =
    let y = x.two.two in
    let s = declared_by d cs in (
      (let within = by_value (use_at s.assets) a _ _ _ (λ t e. use_within s.assets t a e) y.one in omega (arith, within, length-map d.assets (λ entry. entry.0))),
      by_value (use_at s.parties) p _ _ _ (λ t e. use_within s.parties t p e) y.two.two.one,
      by_value (use_at s.parties) q _ _ _ (λ t e. use_within s.parties t q e) y.two.two.two.two.one,
    )
closed_contract d (Both a b) cs ns ts rest x = (closed_contract d a cs ns _ _ x.two.two.one, closed_contract d b cs ns _ _ x.two.two.two.two.one)
closed_contract d (Scale e c) cs ns ts rest x = (closed_expression d e cs ns _ _ x.two.two.one, closed_contract d c cs ns _ _ x.two.two.two.two.one)
closed_contract d (After n c) cs ns ts rest x =
    (days_closed d cs n _ _ x.two.two.one, closed_contract d c cs ns _ _ x.two.two.two.two.one)
closed_contract d (Let e c) cs ns ts rest x =
    let y = x.spelled.two.two.two in
    (closed_expression d e cs ns _ _ y.one, under_contract d (length ns) c (closed_contract d c cs (x.name ∷ ns) _ _ y.two.two))
closed_contract d (Within e n a b) cs ns ts rest x =
    let y = x.two in (
      closed_expression d e cs ns _ _ y.one,
      days_closed d cs n _ _ y.two.two.one,
      closed_contract d a cs ns _ _ y.two.two.two.two.one,
      closed_contract d b cs ns _ _ y.two.two.two.two.two.two,
    )

-- ---- the form of counts

pub counts_are : (s : DeclaredNames) (names : List Bytes) (c : Contract) (ts rest : List Tok) → contr s names c ts rest → HasCountsOfTexts s.version c
counts_are s ns Zero ts rest x = tt
counts_are s ns (Pay a p q) ts rest x = tt
counts_are s ns (Both a b) ts rest x = (counts_are s ns a _ _ x.two.two.one, counts_are s ns b _ _ x.two.two.two.two.one)
counts_are s ns (Scale e c) ts rest x = counts_are s ns c _ _ x.two.two.two.two.one
counts_are s ns (After n c) ts rest x = ((days_are s.version s.templates n _ _ x.two.two.one).0, counts_are s ns c _ _ x.two.two.two.two.one)
counts_are s ns (Let e c) ts rest x = counts_are s (x.name ∷ ns) c _ _ x.spelled.two.two.two.two.two
counts_are s ns (Within e n a b) ts rest x =
    let y = x.two in ((days_are s.version s.templates n _ _ y.two.two.one).0, counts_are s ns a _ _ y.two.two.two.two.one, counts_are s ns b _ _ y.two.two.two.two.two.two)

-- ---- the whole text

-- closed, and at most 200 terms open at once
abbrev IsSound : Declarations → Bytes × Contract → Type 0
IsSound d entry = IsClosed d entry.1 × (height_of_contract entry.1 ≤ 200)

lines_sound : (d : Declarations) (a b : List (Bytes × Contract)) (ts rest : List Tok) → All (IsSound d) a → Repeat (Entry (contract_line (declared_by d []))) a b ts rest → All (IsSound d) b
lines_sound d a b ts rest all none = all
lines_sound d a b ts rest all (more {b = c} {between = k} x xs) =
    let y = x.spelled.two.two.two in
    let sound : IsSound d (x.name, x.value) = (closed_contract d x.value [] [] _ _ y.one, y.two.one.1) in
    lines_sound d c b k rest (subst (λ es. All (IsSound d) es) (sym x.is) (All-push (IsSound d) a (x.name, x.value) all sound)) xs

pub contracts_closed : (bytes : List ℕ) (b : Book) → Text bytes b → All (λ entry. IsClosed b.declarations entry.1 × (height_of_contract entry.1 ≤ 200)) b.contracts
contracts_closed bytes b text =
    let l = contract_lines bytes b text in
    lines_sound b.declarations [] b.contracts l.before l.behind (All-nil (IsSound b.declarations)) l.spelled

abbrev HasCounts : Declarations → Bytes × Contract → Type 0
HasCounts d entry = HasCountsOfTexts (version_of d.version) entry.1

lines_count : (d : Declarations) (a b : List (Bytes × Contract)) (ts rest : List Tok) → All (HasCounts d) a → Repeat (Entry (contract_line (declared_by d []))) a b ts rest → All (HasCounts d) b
lines_count d a b ts rest all none = all
lines_count d a b ts rest all (more {b = c} {between = k} x xs) =
    let y = x.spelled.two.two.two in
    lines_count d c b k rest (subst (λ es. All (HasCounts d) es) (sym x.is) (All-push (HasCounts d) a (x.name, x.value) all (counts_are (declared_by d []) [] x.value _ _ y.one))) xs

pub contracts_count : (bytes : List ℕ) (b : Book) → Text bytes b → All (λ entry. HasCountsOfTexts (version_of b.declarations.version) entry.1) b.contracts
contracts_count bytes b text =
    let l = contract_lines bytes b text in
    lines_count b.declarations [] b.contracts l.before l.behind (All-nil (HasCounts b.declarations)) l.spelled

pub small_count : (v : Version) (n : Days) → IsCountOfTexts v n → IsSmallSum n
small_count v (Count n) h = tt
small_count v (Named t) h = tt
small_count One (Sum n ts) h = absurd h
small_count Two (Sum n ts) h = (h.0.number, h.0.few)

pub small_sums : (v : Version) (c : Contract) → HasCountsOfTexts v c → HasSmallSums c
small_sums v Zero h = tt
small_sums v (Pay a p q) h = tt
small_sums v (Both a b) h = (small_sums v a h.0, small_sums v b h.1)
small_sums v (Scale e c) h = small_sums v c h
small_sums v (After n c) h = (small_count v n h.0, small_sums v c h.1)
small_sums v (Let e c) h = small_sums v c h
small_sums v (Within e n a b) h = (small_count v n h.0, small_sums v a h.1, small_sums v b h.2)

pub contracts_small : (bytes : List ℕ) (b : Book) → Text bytes b → All (λ entry. HasSmallSums entry.1) b.contracts
contracts_small bytes b text = λ k d within. small_sums (version_of b.declarations.version) (get_or b.contracts k d).1 (contracts_count bytes b text k d within)
