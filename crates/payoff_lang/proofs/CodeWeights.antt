-- How many bytes code takes at least, and what a text of a code file can hold.
use Rattle.std.proofs.Common.{ℕ, ◌+◌, ◌≤◌, ◌<◌, List, [], ◌∷◌, length, arith}
use Rattle.std.specs.Prelude.{codes}
use Rattle.term_model.specs.Sizes.{nodes}
use Rattle.contract_grammar.specs.Tokens.{Tok, tokens}
use Rattle.contract_grammar.specs.Words.{Bytes}
use Rattle.contract_grammar.specs.Names.{DeclaredNames}
use Rattle.contract_grammar.specs.Judgements.{binder_at, is_version, new_at, use_at}
use Rattle.contract_grammar.specs.Spelling.{one}
use Rattle.contract_grammar.specs.TextLaws.{NamesFit}
use Rattle.contract_grammar.specs.declared.terms.Language.{Language}
use Rattle.contract_grammar.proofs.Weights.{AtLeast, ◌▹◌, close_least, comma_least, date_least, expr_least, lighter, mark_least, open_least, value_least, weight, weight_tokens, word_least}
use Rattle.contract_grammar.proofs.TextSizes.{decls_weigh}
use Rattle.payoff_terms.specs.TemplateDates.{Date}
use Rattle.payoff_terms.specs.Code.{ValueExpression, PayoffCode, Nothing, PayOn, Add, ScaleBy, LetBe, Loop, Cut}
use Rattle.payoff_terms.specs.Dating.{undated}
use Rattle.payoff_terms.specs.CodeSizes.{nodes_of_code}
use Rattle.payoff_lang.specs.CodeSpelling.{DatePart, code_part, value_part}
use Rattle.payoff_terms.specs.CodeBooks.{CodeBook}
use Rattle.payoff_lang.specs.CodeFiles.{CodeText, shallow_code}
use Rattle.payoff_lang.specs.CodeTexts.{declared_for_code}
use Rattle.payoff_lang.proofs.Placed.{placed_nodes, value_placed}
use Rattle.payoff_lang.proofs.CodeStanding.{Stood, code_stood, line_stood}
use Rattle.payoff_lang.proofs.CodeTaken.{line_stands}

module _ (text : List ℕ) (s : DeclaredNames) where
  value_weighs : (names : List Bytes) (v : ValueExpression) → AtLeast (nodes (undated v)) (Stood text (value_part s names v))
  value_weighs names v = record {
    least = λ ts rest x.
        let p = ((value_placed text s names v).turns ts rest x.0 x.1).0 in
        omega (arith, (expr_least Language.Code s names p.e).least ts rest p.spelled, placed_nodes text s names v ts rest p);
  }

  date_weighs : (q : Date) → AtLeast 0 (DatePart s q)
  date_weighs q = record { least = λ ts rest x. (date_least s.templates q.days x.written).least ts rest x.spelled }

  code_least : (names : List Bytes) (k : PayoffCode) → AtLeast (nodes_of_code k) (Stood text (code_part s names k))
  code_least names Nothing = record { least = λ ts rest x. (word_least (codes "none") 1 (omega arith)).least ts rest x.1 }
  code_least names (PayOn q a p r) = record { least = λ ts rest x. pay.least ts rest x.1 }
    where
      pay : AtLeast 1 (code_part s names (PayOn q a p r))
      pay =
          lighter (word_least (codes "pay") 1 (omega arith) ▹ open_least ▹ date_weighs q ▹ comma_least ▹ value_least (use_at s.assets) a ▹ comma_least ▹ value_least (use_at s.parties) p ▹ comma_least ▹ value_least (use_at s.parties) r ▹ close_least) (omega arith)
  code_least names (Add k l) = record {
    least = λ ts rest x.
        let y = ((code_stood text s names (Add k l)).turns ts rest x.0 x.1).0 in
        omega (arith, (word_least (codes "add") 1 (omega arith) ▹ open_least ▹ code_least names k ▹ comma_least ▹ code_least names l ▹ close_least).least ts rest y);
  }
  code_least names (ScaleBy v k) = record {
    least = λ ts rest x.
        let y = ((code_stood text s names (ScaleBy v k)).turns ts rest x.0 x.1).0 in
        omega (arith, (word_least (codes "scale") 1 (omega arith) ▹ open_least ▹ value_weighs names v ▹ comma_least ▹ code_least names k ▹ close_least).least ts rest y);
  }
  code_least names (LetBe v k) = record {
    least = λ ts rest x.
        let y = ((code_stood text s names (LetBe v k)).turns ts rest x.0 x.1).0 in
        omega (arith, (word_least (codes "let") 1 (omega arith) ▹ value_least binder_at y.name ▹ mark_least (codes "=") (omega arith) ▹ value_weighs names v ▹ word_least (codes "in") 1 (omega arith) ▹ code_least (y.name ∷ names) k).least ts rest y.spelled);
  }
  code_least names (Loop v q k l) = record {
    least = λ ts rest x.
        let y = ((code_stood text s names (Loop v q k l)).turns ts rest x.0 x.1).0 in
        omega (arith, (word_least (codes "loop") 1 (omega arith) ▹ value_weighs names v ▹ word_least (codes "upto") 1 (omega arith) ▹ date_weighs q ▹ word_least (codes "then") 1 (omega arith) ▹ code_least names k ▹ word_least (codes "else") 1 (omega arith) ▹ code_least names l).least ts rest y);
  }
  code_least names (Cut q k) = record {
    least = λ ts rest x.
        let y = ((code_stood text s names (Cut q k)).turns ts rest x.0 x.1).0 in
        omega (arith, (word_least (codes "cut") 1 (omega arith) ▹ open_least ▹ date_weighs q ▹ comma_least ▹ code_least names k ▹ close_least).least ts rest y);
  }

-- ---- code files

test_weighs : (ts rest : List Tok) → one is_version ts rest → weight rest ≤ weight ts
test_weighs ts rest (t, is, e) = rw is (omega arith)

shallow_weighs : (k : PayoffCode) → AtLeast 0 (shallow_code k)
shallow_weighs k = record { least = λ ts rest x. rw (x.0) (omega arith) }

-- what stands before the line of code, and that line, within the bytes
module _ (bytes : List ℕ) (b : CodeBook) (text : CodeText bytes b) where
  abbrev s : DeclaredNames
  s = declared_for_code b.declarations

  -- `payoff` has six bytes
  declared_within : weight text.spelled.two.two.between + 6 ≤ length bytes
  declared_within =
      let x = text.spelled in
      let first = (word_least (codes "payoff") 6 (omega arith)).least (tokens bytes) x.between x.one in
      let second = test_weighs x.between x.two.between x.two.one in
      let third = (mark_least (codes ";") (omega arith)).least x.two.between x.two.two.between x.two.two.one in
      omega (arith, weight_tokens bytes)

  names_within : NamesFit bytes b.declarations
  names_within =
      let x = text.spelled in
      let w = decls_weigh b.declarations x.two.two.between x.two.two.two.between x.two.two.two.one in
      record {
        parties = omega (arith, declared_within, w.parties);
        assets = omega (arith, declared_within, w.assets);
        labels = omega (arith, declared_within, w.labels);
        templates = omega (arith, declared_within, w.templates);
      }

  code_within : nodes_of_code b.code < length bytes
  code_within =
      let x = text.spelled in
      let w = decls_weigh b.declarations x.two.two.between x.two.two.two.between x.two.two.two.one in
      let l = ((line_stood bytes s b.name b.code).turns x.two.two.two.between x.two.two.two.two.between (line_stands bytes b text) x.two.two.two.two.one).0 in
      let line = (word_least (codes "code") 4 (omega arith) ▹ value_least (new_at []) b.name ▹ mark_least (codes "=") (omega arith) ▹ code_least bytes s [] b.code ▹ shallow_weighs b.code ▹ mark_least (codes ";") (omega arith)).least x.two.two.two.between x.two.two.two.two.between l in
      omega (arith, declared_within, w.parties, line)

pub names_of_code_fit : (bytes : List ℕ) (b : CodeBook) → CodeText bytes b → NamesFit bytes b.declarations
names_of_code_fit bytes b text = names_within bytes b text

pub code_fits : (bytes : List ℕ) (b : CodeBook) → CodeText bytes b → nodes_of_code b.code < length bytes
code_fits bytes b text = code_within bytes b text
