-- The grammar of payoff code: which tokens spell which code. A part relates the tokens where it begins to those after it;
-- the names that a text declares come with the part, and bound names are listed innermost first.
use Rattle.std.specs.Prelude.{◌≡◌, ℕ, true, false, List, [], ◌∷◌, codes}
use Rattle.term_model.specs.declared.terms.NumOp.TheVariants.{Min, Max}
use Rattle.contract_grammar.specs.Tokens.{Tok}
use Rattle.contract_grammar.specs.Words.{Bytes}
use Rattle.contract_grammar.specs.Names.{DeclaredNames}
use Rattle.contract_grammar.specs.Judgements.{binder_at, integer_at, literal_at, mode_at, operator_at, use_at, variable_at}
use Rattle.contract_grammar.specs.Spelling.{Part, Signed, SomeName, ◌⨟◌, dated_part, infixed, mark, pair, valued, word}
use Rattle.contract_grammar.specs.declared.terms.Operator.TheVariants.{Arithmetic, Comparison, Logic as Connective}
use Rattle.payoff_terms.specs.TemplateDates.{Date, insert_names}
use Rattle.payoff_terms.specs.Code.{ValueExpression, Lit, Yes, Var, Model, Neg, Num, Cmp, Not, Logic, Cond, Widen, Round, Div, Acc, PayoffCode, Nothing, PayOn, Add, ScaleBy, LetBe, Loop, Cut}

-- a date: its number, and its templates in any order
pub record DatePart (s : DeclaredNames) (x : Date) (ts rest : List Tok) : Type 0 where
  pub written : List ℕ
  pub is : x.names ≡ insert_names written []
  pub spelled : dated_part s.templates x.days written ts rest

-- a value expression
abbrev pub value_part : DeclaredNames → List Bytes → ValueExpression → Part
value_part s names (Lit m k) = Signed (λ negative. valued (literal_at negative) (record { mant = m; scale = k }))
value_part s names (Yes true) = word (codes "true")
value_part s names (Yes false) = word (codes "false")
value_part s names (Var back) = valued (variable_at names) back
value_part s names (Model label x) = word (codes "model") ⨟ pair (valued (use_at s.labels) label) (DatePart s x)
value_part s names (Neg v) = word (codes "neg") ⨟ mark (codes "(") ⨟ value_part s names v ⨟ mark (codes ")")
value_part s names (Not v) = word (codes "not") ⨟ mark (codes "(") ⨟ value_part s names v ⨟ mark (codes ")")
value_part s names (Num Min v w) = word (codes "min") ⨟ pair (value_part s names v) (value_part s names w)
value_part s names (Num Max v w) = word (codes "max") ⨟ pair (value_part s names v) (value_part s names w)
value_part s names (Num op v w) = infixed (value_part s names v) (valued operator_at (Arithmetic op)) (value_part s names w)
value_part s names (Cmp op v w) = infixed (value_part s names v) (valued operator_at (Comparison op)) (value_part s names w)
value_part s names (Logic op v w) = infixed (value_part s names v) (valued operator_at (Connective op)) (value_part s names w)
value_part s names (Cond t v w) =
    word (codes "if") ⨟ mark (codes "(") ⨟ value_part s names t ⨟ mark (codes ",") ⨟ value_part s names v ⨟ mark (codes ",")
    ⨟ value_part s names w ⨟ mark (codes ")")
value_part s names (Widen k v) = word (codes "widen") ⨟ pair (valued (integer_at 27) k) (value_part s names v)
value_part s names (Round m k v) =
    word (codes "round") ⨟ mark (codes "(") ⨟ valued mode_at m ⨟ mark (codes ",") ⨟ valued (integer_at 27) k ⨟ mark (codes ",")
    ⨟ value_part s names v ⨟ mark (codes ")")
value_part s names (Div m k v w) =
    word (codes "div") ⨟ mark (codes "(") ⨟ valued mode_at m ⨟ mark (codes ",") ⨟ valued (integer_at 27) k ⨟ mark (codes ",")
    ⨟ value_part s names v ⨟ mark (codes ",") ⨟ value_part s names w ⨟ mark (codes ")")
-- the name is bound in the body, which comes before the start
value_part s names (Acc body n first) =
    SomeName (λ name. word (codes "acc") ⨟ mark (codes "(") ⨟ valued binder_at name ⨟ mark (codes ",")
    ⨟ value_part s (name ∷ names) body ⨟ mark (codes ",") ⨟ valued (integer_at 100_000) n ⨟ mark (codes ",")
    ⨟ value_part s names first ⨟ mark (codes ")"))

-- code
abbrev pub code_part : DeclaredNames → List Bytes → PayoffCode → Part
code_part s names Nothing = word (codes "none")
code_part s names (PayOn x asset from to) =
    word (codes "pay") ⨟ mark (codes "(") ⨟ DatePart s x ⨟ mark (codes ",") ⨟ valued (use_at s.assets) asset
    ⨟ mark (codes ",") ⨟ valued (use_at s.parties) from ⨟ mark (codes ",") ⨟ valued (use_at s.parties) to ⨟ mark (codes ")")
code_part s names (Add k l) = word (codes "add") ⨟ pair (code_part s names k) (code_part s names l)
code_part s names (ScaleBy v k) = word (codes "scale") ⨟ pair (value_part s names v) (code_part s names k)
-- the name is bound in the code and not in its own expression
code_part s names (LetBe v k) =
    SomeName (λ name. word (codes "let") ⨟ valued binder_at name ⨟ mark (codes "=") ⨟ value_part s names v
    ⨟ word (codes "in") ⨟ code_part s (name ∷ names) k)
code_part s names (Loop v x k l) =
    word (codes "loop") ⨟ value_part s names v ⨟ word (codes "upto") ⨟ DatePart s x
    ⨟ word (codes "then") ⨟ code_part s names k ⨟ word (codes "else") ⨟ code_part s names l
code_part s names (Cut x k) = word (codes "cut") ⨟ pair (DatePart s x) (code_part s names k)
