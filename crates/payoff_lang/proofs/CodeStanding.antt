-- Code that stands in a text: its parts stand there too, and so does what follows.
use Rattle.std.proofs.Common.{ℕ, List, [], ◌∷◌, ◌++◌, subst}
use Rattle.std.specs.Prelude.{codes}
use Rattle.term_model.specs.Declarations.{Declarations}
use Rattle.contract_grammar.specs.Tokens.{Tok}
use Rattle.contract_grammar.specs.Words.{Bytes}
use Rattle.contract_grammar.specs.Names.{DeclaredNames}
use Rattle.contract_grammar.specs.Judgements.{binder_at, new_at, use_at}
use Rattle.contract_grammar.specs.Spelling.{Part, SomeName, ◌⨟◌, mark, pair, valued, word}
use Rattle.contract_grammar.specs.Statements.{decls}
use Rattle.contract_parse.proofs.LastTokens.{decls_end}
use Rattle.payoff_terms.specs.TemplateDates.{Date}
use Rattle.payoff_terms.specs.Code.{ValueExpression, PayoffCode, Nothing, PayOn, Add, ScaleBy, LetBe, Loop, Cut}
use Rattle.payoff_lang.specs.CodeSpelling.{DatePart, code_part, value_part}
use Rattle.payoff_lang.specs.CodeFiles.{code_line, shallow_code}
use Rattle.payoff_lang.proofs.TokensStand.{StandsIn}
use Rattle.payoff_lang.proofs.Standing.{Turns, ◌▹◌, close_stays, comma_stays, date_stays, mark_stays, open_stays, value_stays, word_stays}
use Rattle.payoff_lang.proofs.Placed.{value_part_stays}

-- a part that stands in a text
abbrev pub Stood : List ℕ → Part → Part
Stood text p ts rest = StandsIn text ts × p ts rest

stood : {text : List ℕ} {p : Part} → Turns text p p → Turns text p (Stood text p)
stood t = record { turns = λ ts rest stands x. ((stands, x), (t.turns ts rest stands x).1) }

module _ (text : List ℕ) (s : DeclaredNames) where
  date_part_stays : (x : Date) → Turns text (DatePart s x) (DatePart s x)
  date_part_stays x = record { turns = λ ts rest stands y. (y, ((date_stays {text = text} s.templates x.days y.written).turns ts rest stands y.spelled).1) }

  pub code_stays : (names : List Bytes) (k : PayoffCode) → Turns text (code_part s names k) (code_part s names k)
  code_stays names Nothing = word_stays (codes "none")
  code_stays names (PayOn x a p q) =
      word_stays (codes "pay") ▹ open_stays ▹ date_part_stays x ▹ comma_stays ▹ value_stays (use_at s.assets) a ▹ comma_stays ▹ value_stays (use_at s.parties) p ▹ comma_stays ▹ value_stays (use_at s.parties) q ▹ close_stays
  code_stays names (Add k l) = word_stays (codes "add") ▹ open_stays ▹ code_stays names k ▹ comma_stays ▹ code_stays names l ▹ close_stays
  code_stays names (ScaleBy v k) = word_stays (codes "scale") ▹ open_stays ▹ value_part_stays text s names v ▹ comma_stays ▹ code_stays names k ▹ close_stays
  code_stays names (LetBe v k) = record {
    turns = λ ts rest stands x.
        let t = (word_stays {text = text} (codes "let") ▹ value_stays binder_at x.name ▹ mark_stays (codes "=") ▹ value_part_stays text s names v ▹ word_stays (codes "in") ▹ code_stays (x.name ∷ names) k).turns ts rest stands x.spelled in
        (record { name = x.name; spelled = t.0 }, t.1);
  }
  code_stays names (Loop v x k l) =
      word_stays (codes "loop") ▹ value_part_stays text s names v ▹ word_stays (codes "upto") ▹ date_part_stays x ▹ word_stays (codes "then") ▹ code_stays names k ▹ word_stays (codes "else") ▹ code_stays names l
  code_stays names (Cut x k) = word_stays (codes "cut") ▹ open_stays ▹ date_part_stays x ▹ comma_stays ▹ code_stays names k ▹ close_stays

  -- the parts of an amount, each of which stands in the text
  abbrev pub stood_parts : List Bytes → PayoffCode → Part
  stood_parts names Nothing = code_part s names Nothing
  stood_parts names (PayOn x a p q) = code_part s names (PayOn x a p q)
  stood_parts names (Add k l) = word (codes "add") ⨟ pair (Stood text (code_part s names k)) (Stood text (code_part s names l))
  stood_parts names (ScaleBy v k) = word (codes "scale") ⨟ pair (Stood text (value_part s names v)) (Stood text (code_part s names k))
  stood_parts names (LetBe v k) =
      SomeName (λ name. word (codes "let") ⨟ valued binder_at name ⨟ mark (codes "=") ⨟ Stood text (value_part s names v) ⨟ word (codes "in") ⨟ Stood text (code_part s (name ∷ names) k))
  stood_parts names (Loop v x k l) =
      word (codes "loop") ⨟ Stood text (value_part s names v) ⨟ word (codes "upto") ⨟ DatePart s x ⨟ word (codes "then") ⨟ Stood text (code_part s names k) ⨟ word (codes "else") ⨟ Stood text (code_part s names l)
  stood_parts names (Cut x k) = word (codes "cut") ⨟ pair (DatePart s x) (Stood text (code_part s names k))

  stands_value : (names : List Bytes) (v : ValueExpression) → Turns text (value_part s names v) (Stood text (value_part s names v))
  stands_value names v = stood (value_part_stays text s names v)

  stands_code : (names : List Bytes) (k : PayoffCode) → Turns text (code_part s names k) (Stood text (code_part s names k))
  stands_code names k = stood (code_stays names k)

  pub code_stood : (names : List Bytes) (k : PayoffCode) → Turns text (code_part s names k) (stood_parts names k)
  code_stood names Nothing = code_stays names Nothing
  code_stood names (PayOn x a p q) = code_stays names (PayOn x a p q)
  code_stood names (Add k l) = word_stays (codes "add") ▹ open_stays ▹ stands_code names k ▹ comma_stays ▹ stands_code names l ▹ close_stays
  code_stood names (ScaleBy v k) = word_stays (codes "scale") ▹ open_stays ▹ stands_value names v ▹ comma_stays ▹ stands_code names k ▹ close_stays
  code_stood names (LetBe v k) = record {
    turns = λ ts rest stands x.
        let t = (word_stays {text = text} (codes "let") ▹ value_stays binder_at x.name ▹ mark_stays (codes "=") ▹ stands_value names v ▹ word_stays (codes "in") ▹ stands_code (x.name ∷ names) k).turns ts rest stands x.spelled in
        (record { name = x.name; spelled = t.0 }, t.1);
  }
  code_stood names (Loop v x k l) =
      word_stays (codes "loop") ▹ stands_value names v ▹ word_stays (codes "upto") ▹ date_part_stays x ▹ word_stays (codes "then") ▹ stands_code names k ▹ word_stays (codes "else") ▹ stands_code names l
  code_stood names (Cut x k) = word_stays (codes "cut") ▹ open_stays ▹ date_part_stays x ▹ comma_stays ▹ stands_code names k ▹ close_stays

  -- the line of code
  abbrev pub stood_line : Bytes → PayoffCode → Part
  stood_line name k = word (codes "code") ⨟ valued (new_at []) name ⨟ mark (codes "=") ⨟ Stood text (code_part s [] k) ⨟ shallow_code k ⨟ mark (codes ";")

  shallow_stays : (k : PayoffCode) → Turns text (shallow_code k) (shallow_code k)
  shallow_stays k = record { turns = λ ts rest stands x. (x, subst (λ (us : List Tok). StandsIn text us) x.0 stands) }

  pub line_stood : (name : Bytes) (k : PayoffCode) → Turns text (code_line s name k) (stood_line name k)
  line_stood name k = word_stays (codes "code") ▹ value_stays (new_at []) name ▹ mark_stays (codes "=") ▹ stands_code [] k ▹ shallow_stays k ▹ mark_stays (codes ";")

-- ---- behind declarations

behind_all : (text : List ℕ) (before rest : List Tok) → StandsIn text (before ++ rest) → StandsIn text rest
behind_all text [] rest h = h
behind_all text (t ∷ before) rest h = behind_all text before rest h.1

pub behind_decls : (text : List ℕ) (d : Declarations) (ts rest : List Tok) → StandsIn text ts → decls d ts rest → StandsIn text rest
behind_decls text d ts rest stands x =
    let e = decls_end d ts rest x in
    (behind_all text e.before (e.last ∷ rest) (subst (λ (us : List Tok). StandsIn text us) e.are stands)).1
