-- The grammar of terms: which tokens spell which term. A part relates the tokens where it begins to those after it;
-- the names that a text declares come with the part, and bound names are listed innermost first.
use Rattle.std.specs.Prelude.{◌≡◌, ℕ, ℤ, pos, Bool, true, false, List, [], ◌∷◌, Result, Ok, codes}
use Rattle.term_model.specs.DayCounts.{Days}
use Rattle.term_model.specs.Terms.{Expression, Lit, Yes, Var, Obs, Neg, Num, Cmp, Not, Logic, Cond, Widen, Round, Div, Acc, Contract, Zero, Pay, Both, Scale, After, Let, Within}
use Rattle.term_model.specs.declared.terms.NumOp.TheVariants.{Min, Max}
use Rattle.contract_grammar.specs.Tokens.{Tok}
use Rattle.contract_grammar.specs.Words.{Bytes, is_the_word, is_the_mark, is_end}
use Rattle.contract_grammar.specs.Names.{DeclaredNames}
use Rattle.contract_grammar.specs.Versions.{Version, One, Two}
use Rattle.contract_grammar.specs.Sums.{Tally, item_at, no_items, sum_of}
use Rattle.contract_grammar.specs.Judgements.{binder_at, date_number_at, days_at, integer_at, literal_at, mode_at, offset_at, operator_at, use_at, variable_at}
use Rattle.contract_grammar.specs.declared.faults.TextKind.{TextKind}
use Rattle.contract_grammar.specs.declared.terms.Language.{Language}
use Rattle.contract_grammar.specs.declared.terms.Operator.TheVariants.{Arithmetic, Comparison, Logic as Connective}

abbrev pub Part : Type 1
Part = List Tok → List Tok → Type 0

-- one part, and then the next
pub record Then (first next : Part) (ts rest : List Tok) : Type 0 where
  pub between : List Tok
  pub one : first ts between
  pub two : next between rest

infixr 5 ◌⨟◌
abbrev pub ◌⨟◌ : Part → Part → Part
first ⨟ next = Then first next

-- no token
abbrev pub nothing : Part
nothing ts rest = ts ≡ rest

-- one token that passes
abbrev pub one : (Tok → Bool) → Part
one test ts rest = (t : Tok) × (ts ≡ t ∷ rest) × (test t ≡ true)

abbrev pub word : Bytes → Part
word w = one (is_the_word w)

abbrev pub mark : Bytes → Part
mark m = one (is_the_mark m)

abbrev pub end : Part
end = one is_end

-- one token of a value
abbrev pub valued : {X : Type 0} → (Tok → Result X TextKind) → X → Part
valued judge x ts rest = (t : Tok) × (ts ≡ t ∷ rest) × (judge t ≡ Ok x)

-- for some name
pub record SomeName (part : Bytes → Part) (ts rest : List Tok) : Type 0 where
  pub name : Bytes
  pub spelled : part name ts rest

abbrev pub sign : Bool → Part
sign true = mark (codes "-")
sign false = nothing

-- with or without a sign
pub record Signed (part : Bool → Part) (ts rest : List Tok) : Type 0 where
  pub negative : Bool
  pub spelled : (sign negative ⨟ part negative) ts rest

-- `(left operator right)`
abbrev pub infixed : Part → Part → Part → Part
infixed left op right = mark (codes "(") ⨟ left ⨟ op ⨟ right ⨟ mark (codes ")")

-- `(left, right)`
abbrev pub pair : Part → Part → Part
pair left right = mark (codes "(") ⨟ left ⨟ mark (codes ",") ⨟ right ⨟ mark (codes ")")

-- the part of a leaf: in a contract an observable, by its label and its offset
abbrev pub Leaf : Type 1
Leaf = ℕ → ℤ → Part

-- an expression over leaves
abbrev pub expr_with : Leaf → List Bytes → Expression → Part
expr_with leaf names (Lit m k) = Signed (λ negative. valued (literal_at negative) (record { mant = m; scale = k }))
expr_with leaf names (Yes true) = word (codes "true")
expr_with leaf names (Yes false) = word (codes "false")
expr_with leaf names (Var back) = valued (variable_at names) back
expr_with leaf names (Obs label offset) = leaf label offset
expr_with leaf names (Neg e) = word (codes "neg") ⨟ mark (codes "(") ⨟ expr_with leaf names e ⨟ mark (codes ")")
expr_with leaf names (Not e) = word (codes "not") ⨟ mark (codes "(") ⨟ expr_with leaf names e ⨟ mark (codes ")")
expr_with leaf names (Num Min l r) = word (codes "min") ⨟ pair (expr_with leaf names l) (expr_with leaf names r)
expr_with leaf names (Num Max l r) = word (codes "max") ⨟ pair (expr_with leaf names l) (expr_with leaf names r)
expr_with leaf names (Num op l r) = infixed (expr_with leaf names l) (valued operator_at (Arithmetic op)) (expr_with leaf names r)
expr_with leaf names (Cmp op l r) = infixed (expr_with leaf names l) (valued operator_at (Comparison op)) (expr_with leaf names r)
expr_with leaf names (Logic op l r) = infixed (expr_with leaf names l) (valued operator_at (Connective op)) (expr_with leaf names r)
expr_with leaf names (Cond t a b) =
    word (codes "if") ⨟ mark (codes "(") ⨟ expr_with leaf names t ⨟ mark (codes ",") ⨟ expr_with leaf names a ⨟ mark (codes ",")
    ⨟ expr_with leaf names b ⨟ mark (codes ")")
expr_with leaf names (Widen k e) = word (codes "widen") ⨟ pair (valued (integer_at 27) k) (expr_with leaf names e)
expr_with leaf names (Round m k e) =
    word (codes "round") ⨟ mark (codes "(") ⨟ valued mode_at m ⨟ mark (codes ",") ⨟ valued (integer_at 27) k ⨟ mark (codes ",")
    ⨟ expr_with leaf names e ⨟ mark (codes ")")
expr_with leaf names (Div m k a b) =
    word (codes "div") ⨟ mark (codes "(") ⨟ valued mode_at m ⨟ mark (codes ",") ⨟ valued (integer_at 27) k ⨟ mark (codes ",")
    ⨟ expr_with leaf names a ⨟ mark (codes ",") ⨟ expr_with leaf names b ⨟ mark (codes ")")
-- the name is bound in the body, which comes before the start
expr_with leaf names (Acc body n first) =
    SomeName (λ name. word (codes "acc") ⨟ mark (codes "(") ⨟ valued binder_at name ⨟ mark (codes ",")
    ⨟ expr_with leaf (name ∷ names) body ⨟ mark (codes ",") ⨟ valued (integer_at 100_000) n ⨟ mark (codes ",")
    ⨟ expr_with leaf names first ⨟ mark (codes ")"))

-- `obs(label, offset)`
abbrev pub obs_leaf : DeclaredNames → Leaf
obs_leaf s label offset =
    word (codes "obs") ⨟ pair (valued (use_at s.labels) label) (Signed (λ negative. valued (offset_at negative) offset))

-- `+ NAME` for each template
abbrev pub templates_part : List Bytes → List ℕ → Part
templates_part templates [] = nothing
templates_part templates (t ∷ ts) = mark (codes "+") ⨟ valued (use_at templates) t ⨟ templates_part templates ts

-- a date of payoff code as it is written: its number, and its templates in any order
abbrev pub dated_part : List Bytes → ℤ → List ℕ → Part
dated_part templates days written = Signed (λ negative. valued (date_number_at negative) days) ⨟ templates_part templates written

-- some date, whose first token begins where so many bytes are left
pub record DateFrom (templates : List Bytes) (offset : ℤ) (ts rest : List Tok) : Type 0 where
  pub days : ℤ
  pub written : List ℕ
  pub first : Tok
  pub behind : List Tok
  pub is : ts ≡ first ∷ behind
  pub left : offset ≡ pos first.left
  pub spelled : dated_part templates days written ts rest

-- `model(label, date)`: the offset of the observable is how many bytes of the text are left where its date begins
abbrev pub model_leaf : DeclaredNames → Leaf
model_leaf s label offset = word (codes "model") ⨟ pair (valued (use_at s.labels) label) (DateFrom s.templates offset)

abbrev pub leaf_of : Language → DeclaredNames → Leaf
leaf_of Language.Contracts s = obs_leaf s
leaf_of Language.Code s = model_leaf s

-- an expression of a contract, or of payoff code
abbrev pub expr : Language → DeclaredNames → List Bytes → Expression → Part
expr l s = expr_with (leaf_of l s)

-- any number of times: each time takes what there is so far to what there is then
pub data Repeat {A : Type 0} (step : A → A → Part) : A → A → List Tok → List Tok → Type 0 where
  none : {a : A} {ts : List Tok} → Repeat step a a ts ts
  more : {a b c : A} {ts between rest : List Tok} → step a b ts between → Repeat step b c between rest → Repeat step a c ts rest

-- `+ INT` or `+ NAME`, behind the items so far
abbrev pub further_item : List Bytes → Tally → Tally → Part
further_item templates before after = mark (codes "+") ⨟ valued (item_at templates before) after

-- items with `+` between them, and the count of days that they are
pub record SumOf (templates : List Bytes) (n : Days) (ts rest : List Tok) : Type 0 where
  pub first : Tally
  pub all : Tally
  pub is : n ≡ sum_of all.number all.names
  pub spelled : (valued (item_at templates no_items) first ⨟ Repeat (further_item templates) first all) ts rest

-- a count of days: a number or the name of a template, and in version 2 a sum of these
abbrev pub days_part : Version → List Bytes → Days → Part
days_part One templates n = valued (days_at templates) n
days_part Two templates n = SumOf templates n

-- a contract
abbrev pub contr : DeclaredNames → List Bytes → Contract → Part
contr s names Zero = word (codes "zero")
contr s names (Pay asset from to) =
    word (codes "pay") ⨟ mark (codes "(") ⨟ valued (use_at s.assets) asset ⨟ mark (codes ",") ⨟ valued (use_at s.parties) from
    ⨟ mark (codes ",") ⨟ valued (use_at s.parties) to ⨟ mark (codes ")")
contr s names (Both a b) = word (codes "both") ⨟ pair (contr s names a) (contr s names b)
contr s names (Scale e c) = word (codes "scale") ⨟ pair (expr Language.Contracts s names e) (contr s names c)
contr s names (After n c) = word (codes "after") ⨟ pair (days_part s.version s.templates n) (contr s names c)
-- the name is bound in the contract and not in its own expression
contr s names (Let e c) =
    SomeName (λ name. word (codes "let") ⨟ valued binder_at name ⨟ mark (codes "=") ⨟ expr Language.Contracts s names e
    ⨟ word (codes "in") ⨟ contr s (name ∷ names) c)
contr s names (Within e n a b) =
    word (codes "if") ⨟ expr Language.Contracts s names e ⨟ word (codes "within") ⨟ days_part s.version s.templates n ⨟ word (codes "then")
    ⨟ contr s names a ⨟ word (codes "else") ⨟ contr s names b
