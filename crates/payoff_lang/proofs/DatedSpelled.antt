-- An expression whose dates stand in a list is spelled as the value expression that it is with its dates put in.
use Rattle.std.proofs.Common.{◌≡◌, ◌∙◌, ◌<◌, ℕ, zero, suc, ℤ, pos, true, false, Some, List, [], ◌∷◌, ◌++◌, length, refl, sym, ap, subst, arith}
use Rattle.std.specs.Prelude.{slice_get}
use Rattle.std.proofs.lemmas.Int.{ints}
use Rattle.term_model.specs.Terms.{Expression, Lit, Yes, Var, Obs, Neg, Num, Cmp, Not, Logic, Cond, Widen, Round, Div, Acc}
use Rattle.term_model.specs.Sizes.{height}
use Rattle.term_model.specs.declared.terms.NumOp.TheVariants.{Plus, Minus, Times, Min, Max}
use Rattle.contract_grammar.specs.Tokens.{Tok}
use Rattle.contract_grammar.specs.Words.{Bytes}
use Rattle.contract_grammar.specs.Names.{DeclaredNames}
use Rattle.contract_grammar.specs.Spelling.{expr_with}
use Rattle.contract_parse.specs.Readers.{KeepsLeaves}
use Rattle.contract_parse.proofs.LeafFacts.{Gives, ◌▹◌, same}
use Rattle.payoff_terms.specs.declared.code.DateExpr.{DateExpr}
use Rattle.payoff_terms.specs.TemplateDates.{Date, date}
use Rattle.payoff_terms.specs.Dating.{HaveDates, undated, with_date}
use Rattle.payoff_lang.specs.CodeSpelling.{DatePart, value_part}
use Rattle.payoff_lang.specs.CodeReading.{IsListed, ListedDate, date_listed, dates_of, listed_leaf}

-- dates have no part in the height
pub height_dated : (on : ℤ → Date) (e : Expression) → height (undated (with_date on e)) ≡ height e
height_dated on (Lit m k) = refl
height_dated on (Yes b) = refl
height_dated on (Var back) = refl
height_dated on (Obs l n) = refl
height_dated on (Neg e) = omega (arith, height_dated on e)
height_dated on (Num op a b) = omega (arith, height_dated on a, height_dated on b)
height_dated on (Cmp op a b) = omega (arith, height_dated on a, height_dated on b)
height_dated on (Not e) = omega (arith, height_dated on e)
height_dated on (Logic op a b) = omega (arith, height_dated on a, height_dated on b)
height_dated on (Cond t a b) = omega (arith, height_dated on t, height_dated on a, height_dated on b)
height_dated on (Widen k e) = omega (arith, height_dated on e)
height_dated on (Round m k e) = omega (arith, height_dated on e)
height_dated on (Div m k a b) = omega (arith, height_dated on a, height_dated on b)
height_dated on (Acc body n first) = omega (arith, height_dated on body, height_dated on first)

-- ---- lists of dates

stands_last : (dates : List Date) (x : Date) → slice_get (dates ++ x ∷ []) (length dates) ≡ Some x
stands_last [] x = refl
stands_last (y ∷ dates) x = stands_last dates x

stands_still : (dates more : List Date) (i : ℕ) (x : Date) → slice_get dates i ≡ Some x → slice_get (dates ++ more) i ≡ Some x
stands_still [] more i x e = absurd cc
stands_still (y ∷ dates) more zero x e = e
stands_still (y ∷ dates) more (suc i) x e = stands_still dates more i x e

stands_within : (dates : List Date) (i : ℕ) (x : Date) → slice_get dates i ≡ Some x → i < length dates
stands_within [] i x e = absurd cc
stands_within (y ∷ dates) zero x e = omega arith
stands_within (y ∷ dates) (suc i) x e = omega (arith, stands_within dates i x e)

one_more : (dates : List DateExpr) (x : DateExpr) → dates_of (dates ++ x ∷ []) ≡ dates_of dates ++ date x ∷ []
one_more [] x = refl
one_more (y ∷ dates) x = ap (λ (us : List Date). date y ∷ us) (one_more dates x)

as_many : (dates : List DateExpr) → length (dates_of dates) ≡ length dates
as_many [] = refl
as_many (y ∷ dates) = ap suc (as_many dates)

listed_is : (dates : List Date) (index : ℤ) (i : ℕ) (x : Date) → index ≡ pos i → slice_get dates i ≡ Some x → date_listed dates index ≡ x
listed_is dates index i x e f = ap (date_listed dates) e ∙ rw (f, date_listed) refl

-- a date that is put behind the others has their number for its index
pub put_last : (before : List DateExpr) (x : DateExpr) (s : DeclaredNames) (ts rest : List Tok) → DatePart s (date x) ts rest → ListedDate (dates_of (before ++ x ∷ [])) s (pos (length before)) ts rest
put_last before x s ts rest d = record {
  number = length before;
  on = date x;
  is = refl;
  stands = rw (one_more before x) (subst (λ (i : ℕ). slice_get (dates_of before ++ date x ∷ []) i ≡ Some (date x)) (as_many before) (stands_last (dates_of before) (date x)));
  spelled = d;
}

-- and the others keep theirs
pub put_keeps : (before : List DateExpr) (x : DateExpr) → KeepsLeaves (λ s. listed_leaf (dates_of before) s) (λ s. listed_leaf (dates_of (before ++ x ∷ [])) s)
put_keeps before x = record {
  keeps = λ s label index.
      let still : Gives (ListedDate (dates_of before) s index) (ListedDate (dates_of (before ++ x ∷ [])) s index) = record {
        gives = λ ts rest d. record {
          number = d.number;
          on = d.on;
          is = d.is;
          stands = rw (one_more before x) (stands_still (dates_of before) (date x ∷ []) d.number d.on d.stands);
          spelled = d.spelled;
        };
      } in
      (same ▹ same ▹ same ▹ same ▹ still ▹ same).gives;
}

-- ---- expressions

module _ (dates : List Date) (s : DeclaredNames) where
  date_gives : (index : ℤ) → Gives (ListedDate dates s index) (DatePart s (date_listed dates index))
  date_gives index = record {
    gives = λ ts rest d. subst (λ (x : Date). DatePart s x ts rest) (sym (listed_is dates index d.number d.on d.is d.stands)) d.spelled;
  }

  has_date : (index : ℤ) (ts rest : List Tok) → ListedDate dates s index ts rest → IsListed dates index
  has_date index ts rest d = rw d.is (omega (arith, ints), omega (arith, ints, stands_within dates d.number d.on d.stands))

  have_dates : (names : List Bytes) (e : Expression) (ts rest : List Tok) → expr_with (listed_leaf dates s) names e ts rest → HaveDates (IsListed dates) e
  have_dates names (Lit m k) ts rest x = tt
  have_dates names (Yes b) ts rest x = tt
  have_dates names (Var back) ts rest x = tt
  have_dates names (Obs label index) ts rest x = let d = x.two.two.two.two in has_date index _ _ d.one
  have_dates names (Neg e) ts rest x = have_dates names e _ _ x.two.two.one
  have_dates names (Not e) ts rest x = have_dates names e _ _ x.two.two.one
  have_dates names (Num Min a b) ts rest x = (have_dates names a _ _ x.two.two.one, have_dates names b _ _ x.two.two.two.two.one)
  have_dates names (Num Max a b) ts rest x = (have_dates names a _ _ x.two.two.one, have_dates names b _ _ x.two.two.two.two.one)
  have_dates names (Num Plus a b) ts rest x = (have_dates names a _ _ x.two.one, have_dates names b _ _ x.two.two.two.one)
  have_dates names (Num Minus a b) ts rest x = (have_dates names a _ _ x.two.one, have_dates names b _ _ x.two.two.two.one)
  have_dates names (Num Times a b) ts rest x = (have_dates names a _ _ x.two.one, have_dates names b _ _ x.two.two.two.one)
  have_dates names (Cmp op a b) ts rest x = (have_dates names a _ _ x.two.one, have_dates names b _ _ x.two.two.two.one)
  have_dates names (Logic op a b) ts rest x = (have_dates names a _ _ x.two.one, have_dates names b _ _ x.two.two.two.one)
  have_dates names (Cond t a b) ts rest x =
      (have_dates names t _ _ x.two.two.one, have_dates names a _ _ x.two.two.two.two.one, have_dates names b _ _ x.two.two.two.two.two.two.one)
  have_dates names (Widen k e) ts rest x = have_dates names e _ _ x.two.two.two.two.one
  have_dates names (Round m k e) ts rest x = have_dates names e _ _ x.two.two.two.two.two.two.one
  have_dates names (Div m k a b) ts rest x =
      (have_dates names a _ _ x.two.two.two.two.two.two.one, have_dates names b _ _ x.two.two.two.two.two.two.two.two.one)
  have_dates names (Acc body n first) ts rest x =
      let y = x.spelled in
      (have_dates (x.name ∷ names) body _ _ y.two.two.two.two.one, have_dates names first _ _ y.two.two.two.two.two.two.two.two.one)

  value_gives : (names : List Bytes) (e : Expression) → Gives (expr_with (listed_leaf dates s) names e) (value_part s names (with_date (date_listed dates) e))
  value_gives names (Lit m k) = same
  value_gives names (Yes true) = same
  value_gives names (Yes false) = same
  value_gives names (Var back) = same
  value_gives names (Obs label index) = same ▹ same ▹ same ▹ same ▹ date_gives index ▹ same
  value_gives names (Neg e) = same ▹ same ▹ value_gives names e ▹ same
  value_gives names (Not e) = same ▹ same ▹ value_gives names e ▹ same
  value_gives names (Num Min a b) = same ▹ same ▹ value_gives names a ▹ same ▹ value_gives names b ▹ same
  value_gives names (Num Max a b) = same ▹ same ▹ value_gives names a ▹ same ▹ value_gives names b ▹ same
  value_gives names (Num Plus a b) = same ▹ value_gives names a ▹ same ▹ value_gives names b ▹ same
  value_gives names (Num Minus a b) = same ▹ value_gives names a ▹ same ▹ value_gives names b ▹ same
  value_gives names (Num Times a b) = same ▹ value_gives names a ▹ same ▹ value_gives names b ▹ same
  value_gives names (Cmp op a b) = same ▹ value_gives names a ▹ same ▹ value_gives names b ▹ same
  value_gives names (Logic op a b) = same ▹ value_gives names a ▹ same ▹ value_gives names b ▹ same
  value_gives names (Cond t a b) = same ▹ same ▹ value_gives names t ▹ same ▹ value_gives names a ▹ same ▹ value_gives names b ▹ same
  value_gives names (Widen k e) = same ▹ same ▹ same ▹ same ▹ value_gives names e ▹ same
  value_gives names (Round m k e) = same ▹ same ▹ same ▹ same ▹ same ▹ same ▹ value_gives names e ▹ same
  value_gives names (Div m k a b) = same ▹ same ▹ same ▹ same ▹ same ▹ same ▹ value_gives names a ▹ same ▹ value_gives names b ▹ same
  value_gives names (Acc body n first) = record {
    gives = λ ts rest x.
        record {
          name = x.name;
          spelled = (same ▹ same ▹ same ▹ same ▹ value_gives (x.name ∷ names) body ▹ same ▹ same ▹ same ▹ value_gives names first ▹ same).gives ts rest x.spelled;
        };
  }

-- an expression is spelled as the value expression that it is with the dates of its list
pub listed_spelled : (dates : List Date) (s : DeclaredNames) (names : List Bytes) (e : Expression) (ts rest : List Tok) → expr_with (listed_leaf dates s) names e ts rest → value_part s names (with_date (date_listed dates) e) ts rest
listed_spelled dates s names e = (value_gives dates s names e).gives

-- and each of its observables has a date in the list
pub dates_listed : (dates : List Date) (s : DeclaredNames) (names : List Bytes) (e : Expression) (ts rest : List Tok) → expr_with (listed_leaf dates s) names e ts rest → HaveDates (IsListed dates) e
dates_listed dates s names e ts rest x = have_dates dates s names e ts rest x
