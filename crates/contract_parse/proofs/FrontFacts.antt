-- Fronts and wholes of any grammar: parts one after another, and one token.
use Rattle.std.proofs.Common.{◌≡◌, Bool, true, List, [], ◌∷◌, ◌++◌, refl, ap, subst, inl, inr}
use Rattle.std.specs.Prelude.{◌⊎◌}
use Rattle.contract_grammar.specs.Tokens.{Tok}
use Rattle.contract_parse.specs.Forms.{Part, Terminal, Nonterminal, Optional, Repeated, Form, Grammar, IsAmong, Whole, done, token, form, absent, present, enough, again, Front, empty, at_token, in_form, in_optional, in_repeated, beyond}

-- a form begins with the whole of a form, and the rest is behind it
pub record Parted {N : Type 0} (forms : Grammar N) (lead more : Form N) (ts rest : List Tok) : Type 0 where
  pub between : List Tok
  pub whole : Whole forms lead ts between
  pub behind : Whole forms more between rest

-- the same of a front that goes beyond a form
pub record Beyond {N : Type 0} (forms : Grammar N) (lead more : Form N) (ts : List Tok) : Type 0 where
  pub between : List Tok
  pub whole : Whole forms lead ts between
  pub behind : Front forms more between

module _ {N : Type 0} (forms : Grammar N) where
  -- ---- one token

  pub of_token : (test : Tok → Bool) (parts : Form N) (t : Tok) (ts : List Tok) → Front forms (Terminal test ∷ parts) (t ∷ ts) → (test t ≡ true) × Front forms parts ts
  of_token test parts t ts (at_token passes) = (passes, empty)
  of_token test parts t ts (beyond (token passes done) x) = (passes, x)

  pub to_token : (test : Tok → Bool) (parts : Form N) (t : Tok) (ts : List Tok) → test t ≡ true → Front forms parts ts → Front forms (Terminal test ∷ parts) (t ∷ ts)
  to_token test parts t ts passes x = beyond (token passes done) x

  -- ---- optional and repeated parts

  pub optional_from : (symbol : N) (parts : Form N) (ts : List Tok) → Front forms (Nonterminal symbol ∷ parts) ts → Front forms (Optional symbol ∷ parts) ts
  optional_from symbol parts ts empty = empty
  optional_from symbol parts ts (in_form a x) = in_optional (in_form a x)
  optional_from symbol parts ts (beyond w x) = beyond (present w) x

  more_repeated : (symbol : N) (parts : Form N) (ts between : List Tok) → Whole forms (Nonterminal symbol ∷ []) ts between → Front forms (Repeated symbol ∷ parts) between → Front forms (Repeated symbol ∷ parts) ts
  more_repeated symbol parts ts between w empty = in_repeated (beyond w empty)
  more_repeated symbol parts ts between w (in_repeated x) = in_repeated (beyond w (in_repeated x))
  more_repeated symbol parts ts between (form a f done) (beyond w x) = beyond (again (form a f w)) x

  pub repeated_from : (symbol : N) (parts : Form N) (ts : List Tok) → Front forms (Nonterminal symbol ∷ Repeated symbol ∷ parts) ts → Front forms (Repeated symbol ∷ parts) ts
  repeated_from symbol parts ts empty = empty
  repeated_from symbol parts ts (in_form a x) = in_repeated (in_form a x)
  repeated_from symbol parts ts (beyond w x) = more_repeated symbol parts ts _ w x

  -- ---- a form and what is behind it

  pub widen : (lead more : Form N) (ts : List Tok) → Front forms lead ts → Front forms (lead ++ more) ts
  widen lead more ts empty = empty
  widen lead more ts (at_token passes) = at_token passes
  widen lead more ts (in_form a x) = in_form a x
  widen lead more ts (in_optional x) = in_optional x
  widen lead more ts (in_repeated x) = in_repeated x
  widen lead more ts (beyond w x) = beyond w (widen _ more _ x)

  pub join : (lead more : Form N) (ts between : List Tok) → Whole forms lead ts between → Front forms more between → Front forms (lead ++ more) ts
  join lead more ts between done x = x
  join lead more ts between (token passes w) x = beyond (token passes done) (join _ more _ _ w x)
  join lead more ts between (form a f w) x = beyond (form a f done) (join _ more _ _ w x)
  join lead more ts between (absent w) x = beyond (absent done) (join _ more _ _ w x)
  join lead more ts between (present w) x = optional_from _ _ _ (join _ more _ _ w x)
  join lead more ts between (enough w) x = beyond (enough done) (join _ more _ _ w x)
  join lead more ts between (again w) x = repeated_from _ _ _ (join _ more _ _ w x)

  pub chain : (lead more : Form N) (ts between rest : List Tok) → Whole forms lead ts between → Whole forms more between rest → Whole forms (lead ++ more) ts rest
  chain lead more ts between rest done x = x
  chain lead more ts between rest (token passes w) x = token passes (chain _ more _ _ rest w x)
  chain lead more ts between rest (form a f w) x = form a f (chain _ more _ _ rest w x)
  chain lead more ts between rest (absent w) x = absent (chain _ more _ _ rest w x)
  chain lead more ts between rest (present w) x = present (chain _ more _ _ rest w x)
  chain lead more ts between rest (enough w) x = enough (chain _ more _ _ rest w x)
  chain lead more ts between rest (again w) x = again (chain _ more _ _ rest w x)

  pub part_front : (lead more : Form N) (ts : List Tok) → Front forms (lead ++ more) ts → Front forms lead ts ⊎ Beyond forms lead more ts
  part_front [] more ts x = inr (record { between = ts; whole = done; behind = x })
  part_front (part ∷ rest) more ts x = first_part part rest more ts (λ between y. part_front rest more between y) x
    where
      first_part : (part : Part N) (rest more : Form N) (ts : List Tok) → ((between : List Tok) → Front forms (rest ++ more) between → Front forms rest between ⊎ Beyond forms rest more between)
          → Front forms (part ∷ rest ++ more) ts → Front forms (part ∷ rest) ts ⊎ Beyond forms (part ∷ rest) more ts
      first_part part rest more ts next empty = inl empty
      first_part part rest more ts next (at_token passes) = inl (at_token passes)
      first_part part rest more ts next (in_form a y) = inl (in_form a y)
      first_part part rest more ts next (in_optional y) = inl (in_optional y)
      first_part part rest more ts next (in_repeated y) = inl (in_repeated y)
      first_part part rest more ts next (beyond w y) = elim (next _ y) [
        | inl z ↦ inl (beyond w z)
        | inr z ↦ inr (record { between = z.between; whole = chain (part ∷ []) rest ts _ z.between w z.whole; behind = z.behind })
      ]

  pub part_whole : (lead more : Form N) (ts rest : List Tok) → Whole forms (lead ++ more) ts rest → Parted forms lead more ts rest
  part_whole lead more ts rest w = go lead more _ ts rest w refl
    where
      under : (part part' : Part N) (parts parts' : Form N) → part ∷ parts ≡ part' ∷ parts' → (part ≡ part') × (parts ≡ parts')
      under part part' parts parts' e = (cc, cc)

      go : (lead more all : Form N) (ts rest : List Tok) → Whole forms all ts rest → all ≡ lead ++ more → Parted forms lead more ts rest
      go [] more all ts rest w e = record { between = ts; whole = done; behind = subst (λ a. Whole forms a ts rest) e w }
      go (part ∷ parts) more all ts rest done e = absurd cc
      go (part ∷ parts) more all ts rest (token {test = test} passes w) e =
          let u = under _ _ _ _ e in let p = go parts more _ _ rest w u.1 in
          record { between = p.between; whole = subst (λ a. Whole forms (a ∷ parts) ts p.between) u.0 (token passes p.whole); behind = p.behind }
      go (part ∷ parts) more all ts rest (form {symbol = symbol} a f w) e =
          let u = under _ _ _ _ e in let p = go parts more _ _ rest w u.1 in
          record { between = p.between; whole = subst (λ b. Whole forms (b ∷ parts) ts p.between) u.0 (form a f p.whole); behind = p.behind }
      go (part ∷ parts) more all ts rest (absent w) e =
          let u = under _ _ _ _ e in let p = go parts more _ _ rest w u.1 in
          record { between = p.between; whole = subst (λ b. Whole forms (b ∷ parts) ts p.between) u.0 (absent p.whole); behind = p.behind }
      go (part ∷ parts) more all ts rest (present {symbol = symbol} w) e =
          let u = under _ _ _ _ e in let p = go (Nonterminal symbol ∷ parts) more _ _ rest w (ap (λ b. Nonterminal symbol ∷ b) u.1) in
          record { between = p.between; whole = subst (λ b. Whole forms (b ∷ parts) ts p.between) u.0 (present p.whole); behind = p.behind }
      go (part ∷ parts) more all ts rest (enough w) e =
          let u = under _ _ _ _ e in let p = go parts more _ _ rest w u.1 in
          record { between = p.between; whole = subst (λ b. Whole forms (b ∷ parts) ts p.between) u.0 (enough p.whole); behind = p.behind }
      go (part ∷ parts) more all ts rest (again {symbol = symbol} w) e =
          let u = under _ _ _ _ e in let p = go (Nonterminal symbol ∷ Repeated symbol ∷ parts) more _ _ rest w (ap (λ b. Nonterminal symbol ∷ Repeated symbol ∷ b) u.1) in
          record { between = p.between; whole = subst (λ b. Whole forms (b ∷ parts) ts p.between) u.0 (again p.whole); behind = p.behind }

  -- ---- a symbol and one of its forms

  pub to_symbol : (symbol : N) (lead parts : Form N) (ts : List Tok) → IsAmong lead (forms symbol) → Front forms (lead ++ parts) ts → Front forms (Nonterminal symbol ∷ parts) ts
  to_symbol symbol f parts ts a x = elim (part_front f parts ts x) [
    | inl y ↦ in_form a y
    | inr y ↦ beyond (form a y.whole done) y.behind
  ]

  pub whole_symbol : (symbol : N) (lead parts : Form N) (ts rest : List Tok) → IsAmong lead (forms symbol) → Whole forms (lead ++ parts) ts rest → Whole forms (Nonterminal symbol ∷ parts) ts rest
  whole_symbol symbol f parts ts rest a w = let p = part_whole f parts ts rest w in form a p.whole p.behind

  pub of_symbol : (symbol : N) (parts : Form N) (t : Tok) (ts : List Tok) → Front forms (Nonterminal symbol ∷ parts) (t ∷ ts) → (lead : Form N) × IsAmong lead (forms symbol) × Front forms (lead ++ parts) (t ∷ ts)
  of_symbol symbol parts t ts (in_form {form = f} a x) = (f, a, widen f parts _ x)
  of_symbol symbol parts t ts (beyond (form {form = f} a w done) x) = (f, a, join f parts _ _ w x)

  pub of_optional : (symbol : N) (parts : Form N) (t : Tok) (ts : List Tok) → Front forms (Optional symbol ∷ parts) (t ∷ ts) → Front forms (Nonterminal symbol ∷ parts) (t ∷ ts) ⊎ Front forms parts (t ∷ ts)
  of_optional symbol parts t ts (in_optional x) = inl (widen (Nonterminal symbol ∷ []) parts _ x)
  of_optional symbol parts t ts (beyond (absent done) x) = inr x
  of_optional symbol parts t ts (beyond (present w) x) = inl (beyond w x)

  pub of_repeated : (symbol : N) (parts : Form N) (t : Tok) (ts : List Tok) → Front forms (Repeated symbol ∷ parts) (t ∷ ts) → Front forms (Nonterminal symbol ∷ Repeated symbol ∷ parts) (t ∷ ts) ⊎ Front forms parts (t ∷ ts)
  of_repeated symbol parts t ts (in_repeated x) = inl (widen (Nonterminal symbol ∷ Repeated symbol ∷ []) parts _ x)
  of_repeated symbol parts t ts (beyond (enough done) x) = inr x
  of_repeated symbol parts t ts (beyond (again w) x) = inl (join (Nonterminal symbol ∷ Repeated symbol ∷ []) parts _ _ w x)
