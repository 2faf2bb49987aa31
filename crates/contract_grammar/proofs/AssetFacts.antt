-- The decimals of assets that are spelled keep their limits, and a text has one of the two versions.
use Rattle.std.proofs.Common.{◌≡◌, ℕ, ◌≤◌, Bool, true, false, List, [], ◌∷◌, ◌++◌, refl, sym, subst, inl, inr, arith, cond}
use Rattle.std.specs.Prelude.{◌==◌}
use Rattle.std.specs.List.{list_all}
use Rattle.std.proofs.lemmas.Bool.Decides.{nat_tests}
use Rattle.term_model.specs.Declarations.{Declarations}
use Rattle.term_model.specs.Books.{Book}
use Rattle.term_model.specs.Limits.{has_decimals, have_decimals, is_a_version}
use Rattle.contract_grammar.specs.Tokens.{Tok}
use Rattle.contract_grammar.specs.Words.{Bytes}
use Rattle.contract_grammar.specs.Versions.{One, Two, version_of}
use Rattle.contract_grammar.specs.Judgements.{integer_at}
use Rattle.contract_grammar.specs.Statements.{Entry, Repeat, none, more, asset_item, asset_line, comma_asset, decimals_part, decls}
use Rattle.contract_grammar.specs.Texts.{Text}
use Rattle.contract_grammar.proofs.EntryFacts.{and_parts, both_true}
use Rattle.contract_grammar.proofs.TextClosed.{by_value, integer_within}

own_decimals : (v k : ℕ) → has_decimals v k k ≡ true
own_decimals v k = grind (arith, nat_tests)

fewer_decimals : (v k n : ℕ) → v ≡ 2 → n ≤ k → has_decimals v k n ≡ true
fewer_decimals v k n two less = grind (arith, nat_tests)

equal : (v n : ℕ) → (v == n) ≡ true → v ≡ n
equal v n e = grind (arith, nat_tests)

within : (v k n : ℕ) (ts rest : List Tok) → decimals_part (version_of v) k n ts rest → has_decimals v k n ≡ true
within v k n ts rest x = by_version (v == 2) refl x
  where
    by_version : (b : Bool) → (v == 2) ≡ b → decimals_part (cond b Two One) k n ts rest → has_decimals v k n ≡ true
    by_version false e x = subst (λ (m : ℕ). has_decimals v k m ≡ true) (sym x.0) (own_decimals v k)
    by_version true e (inl x) = subst (λ (m : ℕ). has_decimals v k m ≡ true) (sym x.0) (own_decimals v k)
    by_version true e (inr x) = fewer_decimals v k n (equal v 2 e) (by_value (integer_at k) n (n ≤ k) x.between rest (λ t f. integer_within k t n f) x.two)

all_added : (test : Bytes × ℕ → Bool) (es : List (Bytes × ℕ)) (e : Bytes × ℕ) → list_all test es ≡ true → test e ≡ true → list_all test (es ++ e ∷ []) ≡ true
all_added test [] e all one = both_true (test e) true one refl
all_added test (f ∷ es) e all one =
    let p = and_parts (test f) (list_all test es) all in
    both_true (test f) (list_all test (es ++ e ∷ [])) p.0 (all_added test es e p.1 one)

module _ (v k : ℕ) where
  abbrev A : List (Bytes × ℕ) → Type 0
  A es = have_decimals v k es ≡ true

  one_more : (a b : List (Bytes × ℕ)) (ts rest : List Tok) → A a → Entry (asset_item (version_of v) k) a b ts rest → A b
  one_more a b ts rest all x =
      subst A (sym x.is) (all_added (λ entry. has_decimals v k entry.1) a (x.name, x.value) all (within v k x.value x.spelled.between rest x.spelled.two))

  further : (a b : List (Bytes × ℕ)) (ts rest : List Tok) → A a → Repeat (comma_asset (version_of v) k) a b ts rest → A b
  further a b ts rest all none = all
  further a b ts rest all (more {b = c} {between = m} x xs) = further c b m rest (one_more a c x.between m all x.two) xs

  lines : (a b : List (Bytes × ℕ)) (ts rest : List Tok) → A a → Repeat (asset_line (version_of v) k) a b ts rest → A b
  lines a b ts rest all none = all
  lines a b ts rest all (more {b = c} {between = m} x xs) =
      let l = x.two.spelled in
      lines c b m rest (further x.two.first c l.between l.two.between (one_more a x.two.first x.between l.between all l.one) l.two.one) xs

pub assets_have : (d : Declarations) (ts rest : List Tok) → decls d ts rest → have_decimals d.version d.amounts d.assets ≡ true
assets_have d ts rest x = let o = x.two.two.two in lines d.version d.amounts [] d.assets o.two.two.between o.two.two.two.between refl o.two.two.two.one

pub versions_are : (bytes : List ℕ) (b : Book) → Text bytes b → is_a_version b.declarations.version ≡ true
versions_are bytes b text = let e = text.spelled.two.one.2 in (and_parts (is_a_version b.declarations.version) _ e).0
