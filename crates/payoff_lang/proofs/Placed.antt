-- A value expression that stands in a text is spelled as an expression of code, whose dates stand at its positions.
use Rattle.std.proofs.Common.{◌≡◌, ◌∙◌, ℕ, ℤ, pos, Bool, true, false, List, ◌∷◌, refl, sym, ap, subst, arith}
use Rattle.std.specs.Prelude.{codes}
use Rattle.term_model.specs.Terms.{Expression, Lit as Lit', Yes as Yes', Var as Var', Obs as Obs', Neg as Neg', Num as Num', Cmp as Cmp', Not as Not', Logic as Logic', Cond as Cond', Widen as Widen', Round as Round', Div as Div', Acc as Acc'}
use Rattle.term_model.specs.Sizes.{height, nodes}
use Rattle.term_model.specs.declared.terms.NumOp.TheVariants.{Plus, Minus, Times, Min, Max}
use Rattle.contract_grammar.specs.Tokens.{Tok}
use Rattle.contract_grammar.specs.Words.{Bytes}
use Rattle.contract_grammar.specs.Names.{DeclaredNames}
use Rattle.contract_grammar.specs.Judgements.{binder_at, date_number_at, integer_at, literal_at, mode_at, operator_at, use_at, variable_at}
use Rattle.contract_grammar.specs.Spelling.{DateFrom, Part, ◌⨟◌, expr, mark, sign, valued}
use Rattle.contract_grammar.specs.declared.terms.Language.{Language}
use Rattle.contract_grammar.specs.declared.terms.Operator.TheVariants.{Arithmetic, Comparison, Logic as Connective}
use Rattle.contract_parse.proofs.Passing.{mark_lacks}
use Rattle.payoff_terms.specs.TemplateDates.{Date}
use Rattle.payoff_terms.specs.Code.{ValueExpression, Lit, Yes, Var, Model, Neg, Num, Cmp, Not, Logic, Cond, Widen, Round, Div, Acc}
use Rattle.payoff_terms.specs.Dating.{undated}
use Rattle.payoff_lang.specs.CodeSpelling.{DatePart, value_part}
use Rattle.payoff_terms.specs.Dating.{with_date}
use Rattle.payoff_lang.proofs.DatePositions.{date_at, date_first}
use Rattle.payoff_lang.proofs.Standing.{Turns, ◌▹◌, behind_first, close_stays, comma_stays, date_stays, open_stays, signed_stays, value_stays, word_stays}
use Rattle.payoff_lang.proofs.DateReading.{date_is}
use Rattle.payoff_lang.proofs.DatedSpelled.{height_dated}
use Rattle.payoff_lang.proofs.TokensStand.{StandsIn}

pub record Placed (text : List ℕ) (s : DeclaredNames) (names : List Bytes) (v : ValueExpression) (ts rest : List Tok) : Type 0 where
  pub e : Expression
  pub spelled : expr Language.Code s names e ts rest
  pub is : with_date (date_at s.templates text) e ≡ v

-- a date with its position
record Located (text : List ℕ) (s : DeclaredNames) (x : Date) (ts rest : List Tok) : Type 0 where
  position : ℤ
  from : DateFrom s.templates position ts rest
  is : date_at s.templates text position ≡ x

-- ---- another part instead of one

module _ {P A B R : Part} {ts rest : List Tok} where
  abbrev second : (x : (P ⨟ A ⨟ R) ts rest) → B x.between x.two.between → (P ⨟ B ⨟ R) ts rest
  second x b = record { between = x.between; one = x.one; two = record { between = x.two.between; one = b; two = x.two.two } }

module _ {P Q A B R : Part} {ts rest : List Tok} where
  abbrev third : (x : (P ⨟ Q ⨟ A ⨟ R) ts rest) → B x.two.between x.two.two.between → (P ⨟ Q ⨟ B ⨟ R) ts rest
  third x b = record { between = x.between; one = x.one; two = second {B = B} x.two b }

module _ {P Q S A B R : Part} {ts rest : List Tok} where
  abbrev fourth : (x : (P ⨟ Q ⨟ S ⨟ A ⨟ R) ts rest) → B x.two.two.between x.two.two.two.between → (P ⨟ Q ⨟ S ⨟ B ⨟ R) ts rest
  fourth x b = record { between = x.between; one = x.one; two = third {B = B} x.two b }

module _ {P Q S T A B R : Part} {ts rest : List Tok} where
  abbrev fifth : (x : (P ⨟ Q ⨟ S ⨟ T ⨟ A ⨟ R) ts rest) → B x.two.two.two.between x.two.two.two.two.between → (P ⨟ Q ⨟ S ⨟ T ⨟ B ⨟ R) ts rest
  fifth x b = record { between = x.between; one = x.one; two = fourth {B = B} x.two b }

module _ {P Q S T U V A B R : Part} {ts rest : List Tok} where
  abbrev seventh : (x : (P ⨟ Q ⨟ S ⨟ T ⨟ U ⨟ V ⨟ A ⨟ R) ts rest) → B x.two.two.two.two.two.between x.two.two.two.two.two.two.between → (P ⨟ Q ⨟ S ⨟ T ⨟ U ⨟ V ⨟ B ⨟ R) ts rest
  seventh x b = record { between = x.between; one = x.one; two = record { between = x.two.between; one = x.two.one; two = fifth {B = B} x.two.two b } }

module _ {P Q S T U V W X A B R : Part} {ts rest : List Tok} where
  abbrev ninth : (x : (P ⨟ Q ⨟ S ⨟ T ⨟ U ⨟ V ⨟ W ⨟ X ⨟ A ⨟ R) ts rest) → B x.two.two.two.two.two.two.two.between x.two.two.two.two.two.two.two.two.between → (P ⨟ Q ⨟ S ⨟ T ⨟ U ⨟ V ⨟ W ⨟ X ⨟ B ⨟ R) ts rest
  ninth x b = record { between = x.between; one = x.one; two = record { between = x.two.between; one = x.two.one; two = seventh {B = B} x.two.two b } }

-- ---- dates

date_begins : (negative : Bool) (days : ℤ) (ts rest : List Tok) → (sign negative ⨟ valued (date_number_at negative) days) ts rest → (t : Tok) × (us : List Tok) × (ts ≡ t ∷ us)
date_begins true days ts rest x = (x.one.0, x.between, x.one.1)
date_begins false days ts rest x = (x.two.0, rest, x.one ∙ x.two.1)

module _ (text : List ℕ) (s : DeclaredNames) where
  -- what stands at the position of a date is the date
  position_is : (position : ℤ) (ts rest : List Tok) → StandsIn text ts → DateFrom s.templates position ts rest → date_at s.templates text position ≡ date_first s.templates ts
  position_is position ts rest stands x =
      let first = (subst (λ (us : List Tok). StandsIn text us) x.is stands).0 in
      ap (λ (p : ℤ). date_at s.templates text p) x.left ∙ ap (λ (us : List Tok). date_first s.templates us) (first ∙ sym x.is)

  located : (x : Date) → Turns text (DatePart s x ⨟ mark (codes ")")) (Located text s x ⨟ mark (codes ")"))
  located x = record {
    turns = λ ts rest stands y.
        let d = y.one in
        let first = date_begins d.spelled.one.negative x.days ts d.spelled.between d.spelled.one.spelled in
        let from : DateFrom s.templates (pos first.0.left) ts y.between = record { days = x.days; written = d.written; first = first.0; behind = first.1; is = first.2; left = refl; spelled = d.spelled } in
        let stays = (date_stays {text = text} s.templates x.days d.written).turns ts y.between stands d.spelled in
        let is = position_is (pos first.0.left) ts y.between stands from ∙ date_is s x ts y.between d (mark_lacks (codes ")") (codes "+") y.between rest refl y.two) in
        (record { between = y.between; one = record { position = pos first.0.left; from = from; is = is }; two = y.two }, behind_first text y.two.0 y.between rest y.two.1 stays.1);
  }

  -- ---- value expressions

  made : {P Q : Part} (names : List Bytes) (v : ValueExpression) → Turns text P Q → ((ts rest : List Tok) → Q ts rest → Placed text s names v ts rest) → Turns text P (Placed text s names v)
  made names v t make = record { turns = λ ts rest stands x. let y = t.turns ts rest stands x in (make ts rest y.0, y.1) }

  pub value_placed : (names : List Bytes) (v : ValueExpression) → Turns text (value_part s names v) (Placed text s names v)
  value_placed names (Lit m k) = made names (Lit m k) (signed_stays literal_at (record { mant = m; scale = k })) (λ ts rest y. record { e = Lit' m k; spelled = y; is = refl })
  value_placed names (Yes true) = made names (Yes true) (word_stays (codes "true")) (λ ts rest y. record { e = Yes' true; spelled = y; is = refl })
  value_placed names (Yes false) = made names (Yes false) (word_stays (codes "false")) (λ ts rest y. record { e = Yes' false; spelled = y; is = refl })
  value_placed names (Var back) = made names (Var back) (value_stays (variable_at names) back) (λ ts rest y. record { e = Var' back; spelled = y; is = refl })
  value_placed names (Model label x) = made names (Model label x) (word_stays (codes "model") ▹ open_stays ▹ value_stays (use_at s.labels) label ▹ comma_stays ▹ located x) (λ ts rest y.
      let d = y.two.two.two.two.one in
      record { e = Obs' label d.position; spelled = fifth y d.from; is = ap (λ (q : Date). Model label q) d.is })
  value_placed names (Neg v) = made names (Neg v) (word_stays (codes "neg") ▹ open_stays ▹ value_placed names v ▹ close_stays) (λ ts rest y.
      let a = y.two.two.one in
      record { e = Neg' a.e; spelled = third {B = expr Language.Code s names a.e} y a.spelled; is = ap Neg a.is })
  value_placed names (Not v) = made names (Not v) (word_stays (codes "not") ▹ open_stays ▹ value_placed names v ▹ close_stays) (λ ts rest y.
      let a = y.two.two.one in
      record { e = Not' a.e; spelled = third {B = expr Language.Code s names a.e} y a.spelled; is = ap Not a.is })
  value_placed names (Num Min v w) = made names (Num Min v w) (word_stays (codes "min") ▹ open_stays ▹ value_placed names v ▹ comma_stays ▹ value_placed names w ▹ close_stays) (λ ts rest y.
      let a = y.two.two.one in
      let b = y.two.two.two.two.one in
      record { e = Num' Min a.e b.e; spelled = fifth {B = expr Language.Code s names b.e} (third {B = expr Language.Code s names a.e} y a.spelled) b.spelled; is = λ i. Num Min (a.is i) (b.is i) })
  value_placed names (Num Max v w) = made names (Num Max v w) (word_stays (codes "max") ▹ open_stays ▹ value_placed names v ▹ comma_stays ▹ value_placed names w ▹ close_stays) (λ ts rest y.
      let a = y.two.two.one in
      let b = y.two.two.two.two.one in
      record { e = Num' Max a.e b.e; spelled = fifth {B = expr Language.Code s names b.e} (third {B = expr Language.Code s names a.e} y a.spelled) b.spelled; is = λ i. Num Max (a.is i) (b.is i) })
  value_placed names (Num Plus v w) = made names (Num Plus v w) (open_stays ▹ value_placed names v ▹ value_stays operator_at (Arithmetic Plus) ▹ value_placed names w ▹ close_stays) (λ ts rest y.
      let a = y.two.one in
      let b = y.two.two.two.one in
      record { e = Num' Plus a.e b.e; spelled = fourth {B = expr Language.Code s names b.e} (second {B = expr Language.Code s names a.e} y a.spelled) b.spelled; is = λ i. Num Plus (a.is i) (b.is i) })
  value_placed names (Num Minus v w) = made names (Num Minus v w) (open_stays ▹ value_placed names v ▹ value_stays operator_at (Arithmetic Minus) ▹ value_placed names w ▹ close_stays) (λ ts rest y.
      let a = y.two.one in
      let b = y.two.two.two.one in
      record { e = Num' Minus a.e b.e; spelled = fourth {B = expr Language.Code s names b.e} (second {B = expr Language.Code s names a.e} y a.spelled) b.spelled; is = λ i. Num Minus (a.is i) (b.is i) })
  value_placed names (Num Times v w) = made names (Num Times v w) (open_stays ▹ value_placed names v ▹ value_stays operator_at (Arithmetic Times) ▹ value_placed names w ▹ close_stays) (λ ts rest y.
      let a = y.two.one in
      let b = y.two.two.two.one in
      record { e = Num' Times a.e b.e; spelled = fourth {B = expr Language.Code s names b.e} (second {B = expr Language.Code s names a.e} y a.spelled) b.spelled; is = λ i. Num Times (a.is i) (b.is i) })
  value_placed names (Cmp op v w) = made names (Cmp op v w) (open_stays ▹ value_placed names v ▹ value_stays operator_at (Comparison op) ▹ value_placed names w ▹ close_stays) (λ ts rest y.
      let a = y.two.one in
      let b = y.two.two.two.one in
      record { e = Cmp' op a.e b.e; spelled = fourth {B = expr Language.Code s names b.e} (second {B = expr Language.Code s names a.e} y a.spelled) b.spelled; is = λ i. Cmp op (a.is i) (b.is i) })
  value_placed names (Logic op v w) = made names (Logic op v w) (open_stays ▹ value_placed names v ▹ value_stays operator_at (Connective op) ▹ value_placed names w ▹ close_stays) (λ ts rest y.
      let a = y.two.one in
      let b = y.two.two.two.one in
      record { e = Logic' op a.e b.e; spelled = fourth {B = expr Language.Code s names b.e} (second {B = expr Language.Code s names a.e} y a.spelled) b.spelled; is = λ i. Logic op (a.is i) (b.is i) })
  value_placed names (Cond t v w) = made names (Cond t v w) (word_stays (codes "if") ▹ open_stays ▹ value_placed names t ▹ comma_stays ▹ value_placed names v ▹ comma_stays ▹ value_placed names w ▹ close_stays) (λ ts rest y.
      let a = y.two.two.one in
      let b = y.two.two.two.two.one in
      let c = y.two.two.two.two.two.two.one in
      record { e = Cond' a.e b.e c.e; spelled = seventh {B = expr Language.Code s names c.e} (fifth {B = expr Language.Code s names b.e} (third {B = expr Language.Code s names a.e} y a.spelled) b.spelled) c.spelled; is = λ i. Cond (a.is i) (b.is i) (c.is i) })
  value_placed names (Widen k v) = made names (Widen k v) (word_stays (codes "widen") ▹ open_stays ▹ value_stays (integer_at 27) k ▹ comma_stays ▹ value_placed names v ▹ close_stays) (λ ts rest y.
      let a = y.two.two.two.two.one in
      record { e = Widen' k a.e; spelled = fifth {B = expr Language.Code s names a.e} y a.spelled; is = ap (λ (u : ValueExpression). Widen k u) a.is })
  value_placed names (Round m k v) = made names (Round m k v) (word_stays (codes "round") ▹ open_stays ▹ value_stays mode_at m ▹ comma_stays ▹ value_stays (integer_at 27) k ▹ comma_stays ▹ value_placed names v ▹ close_stays) (λ ts rest y.
      let a = y.two.two.two.two.two.two.one in
      record { e = Round' m k a.e; spelled = seventh {B = expr Language.Code s names a.e} y a.spelled; is = ap (λ (u : ValueExpression). Round m k u) a.is })
  value_placed names (Div m k v w) = made names (Div m k v w) (word_stays (codes "div") ▹ open_stays ▹ value_stays mode_at m ▹ comma_stays ▹ value_stays (integer_at 27) k ▹ comma_stays ▹ value_placed names v ▹ comma_stays ▹ value_placed names w ▹ close_stays) (λ ts rest y.
      let a = y.two.two.two.two.two.two.one in
      let b = y.two.two.two.two.two.two.two.two.one in
      record { e = Div' m k a.e b.e; spelled = ninth {B = expr Language.Code s names b.e} (seventh {B = expr Language.Code s names a.e} y a.spelled) b.spelled; is = λ i. Div m k (a.is i) (b.is i) })
  value_placed names (Acc body n first) = record {
    turns = λ ts rest stands x.
        let t = (word_stays {text = text} (codes "acc") ▹ open_stays ▹ value_stays binder_at x.name ▹ comma_stays ▹ value_placed (x.name ∷ names) body ▹ comma_stays ▹ value_stays (integer_at 100_000) n ▹ comma_stays ▹ value_placed names first ▹ close_stays).turns ts rest stands x.spelled in
        let y = t.0 in
        let a = y.two.two.two.two.one in
        let b = y.two.two.two.two.two.two.two.two.one in
        (record { e = Acc' a.e n b.e; spelled = record { name = x.name; spelled = ninth {B = expr Language.Code s names b.e} (fifth {B = expr Language.Code s (x.name ∷ names) a.e} y a.spelled) b.spelled }; is = λ i. Acc (a.is i) n (b.is i) }, t.1);
  }

  -- it stays as it is
  pub value_part_stays : (names : List Bytes) (v : ValueExpression) → Turns text (value_part s names v) (value_part s names v)
  value_part_stays names v = record { turns = λ ts rest stands x. (x, ((value_placed names v).turns ts rest stands x).1) }

-- ---- sizes

nodes_dated : (on : ℤ → Date) (e : Expression) → nodes (undated (with_date on e)) ≡ nodes e
nodes_dated on (Lit' m k) = refl
nodes_dated on (Yes' b) = refl
nodes_dated on (Var' back) = refl
nodes_dated on (Obs' l n) = refl
nodes_dated on (Neg' e) = omega (arith, nodes_dated on e)
nodes_dated on (Num' op a b) = omega (arith, nodes_dated on a, nodes_dated on b)
nodes_dated on (Cmp' op a b) = omega (arith, nodes_dated on a, nodes_dated on b)
nodes_dated on (Not' e) = omega (arith, nodes_dated on e)
nodes_dated on (Logic' op a b) = omega (arith, nodes_dated on a, nodes_dated on b)
nodes_dated on (Cond' t a b) = omega (arith, nodes_dated on t, nodes_dated on a, nodes_dated on b)
nodes_dated on (Widen' k e) = omega (arith, nodes_dated on e)
nodes_dated on (Round' m k e) = omega (arith, nodes_dated on e)
nodes_dated on (Div' m k a b) = omega (arith, nodes_dated on a, nodes_dated on b)
nodes_dated on (Acc' body n first) = omega (arith, nodes_dated on body, nodes_dated on first)

pub placed_height : (text : List ℕ) (s : DeclaredNames) (names : List Bytes) (v : ValueExpression) (ts rest : List Tok) (p : Placed text s names v ts rest) → height (undated v) ≡ height p.e
placed_height text s names v ts rest p = sym (ap (λ (u : ValueExpression). height (undated u)) p.is) ∙ height_dated (date_at s.templates text) p.e

pub placed_nodes : (text : List ℕ) (s : DeclaredNames) (names : List Bytes) (v : ValueExpression) (ts rest : List Tok) (p : Placed text s names v ts rest) → nodes (undated v) ≡ nodes p.e
placed_nodes text s names v ts rest p = sym (ap (λ (u : ValueExpression). nodes (undated u)) p.is) ∙ nodes_dated (date_at s.templates text) p.e
