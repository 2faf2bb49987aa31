-- Forms of a grammar, and fronts. A grammar gives each of its symbols the forms that it may take; a form is a list of
-- parts. A token counts by what it is to a form, and not by the names that are declared, nor by limits.
use Rattle.std.specs.Prelude.{◌≡◌, Bool, true, List, [], ◌∷◌}
use Rattle.contract_grammar.specs.Tokens.{Tok}

-- one token that passes; what a symbol stands for; that at most once; that any number of times
pub data Part (N : Type 0) : Type 0 where
  Terminal : (test : Tok → Bool) → Part N
  Nonterminal : (symbol : N) → Part N
  Optional : (symbol : N) → Part N
  Repeated : (symbol : N) → Part N

abbrev pub Form : Type 0 → Type 0
Form N = List (Part N)

abbrev pub Grammar : Type 0 → Type 0
Grammar N = N → List (Form N)

-- one of the forms
pub data IsAmong {X : Type 0} : X → List X → Type 0 where
  here : {x : X} {xs : List X} → IsAmong x (x ∷ xs)
  later : {x y : X} {xs : List X} → IsAmong x xs → IsAmong x (y ∷ xs)

-- the parts, each whole, one after another: from the first tokens to those after them
pub data Whole {N : Type 0} (forms : Grammar N) : Form N → List Tok → List Tok → Type 0 where
  done : {ts : List Tok} → Whole forms [] ts ts
  token : {test : Tok → Bool} {parts : Form N} {t : Tok} {ts rest : List Tok} → test t ≡ true → Whole forms parts ts rest
      → Whole forms (Terminal test ∷ parts) (t ∷ ts) rest
  form : {symbol : N} {form parts : Form N} {ts between rest : List Tok} → IsAmong form (forms symbol)
      → Whole forms form ts between → Whole forms parts between rest → Whole forms (Nonterminal symbol ∷ parts) ts rest
  absent : {symbol : N} {parts : Form N} {ts rest : List Tok} → Whole forms parts ts rest → Whole forms (Optional symbol ∷ parts) ts rest
  present : {symbol : N} {parts : Form N} {ts rest : List Tok} → Whole forms (Nonterminal symbol ∷ parts) ts rest
      → Whole forms (Optional symbol ∷ parts) ts rest
  enough : {symbol : N} {parts : Form N} {ts rest : List Tok} → Whole forms parts ts rest → Whole forms (Repeated symbol ∷ parts) ts rest
  again : {symbol : N} {parts : Form N} {ts rest : List Tok} → Whole forms (Nonterminal symbol ∷ Repeated symbol ∷ parts) ts rest
      → Whole forms (Repeated symbol ∷ parts) ts rest

-- any number of leading parts, none included, each whole, and then a front of the next part: of a token the empty
-- list or that token, of a symbol a front of one of its forms
pub data Front {N : Type 0} (forms : Grammar N) : Form N → List Tok → Type 0 where
  empty : {parts : Form N} → Front forms parts []
  at_token : {test : Tok → Bool} {parts : Form N} {t : Tok} → test t ≡ true → Front forms (Terminal test ∷ parts) (t ∷ [])
  in_form : {symbol : N} {form parts : Form N} {ts : List Tok} → IsAmong form (forms symbol) → Front forms form ts
      → Front forms (Nonterminal symbol ∷ parts) ts
  in_optional : {symbol : N} {parts : Form N} {ts : List Tok} → Front forms (Nonterminal symbol ∷ []) ts
      → Front forms (Optional symbol ∷ parts) ts
  in_repeated : {symbol : N} {parts : Form N} {ts : List Tok} → Front forms (Nonterminal symbol ∷ Repeated symbol ∷ []) ts
      → Front forms (Repeated symbol ∷ parts) ts
  beyond : {part : Part N} {parts : Form N} {ts between : List Tok} → Whole forms (part ∷ []) ts between → Front forms parts between
      → Front forms (part ∷ parts) ts
