-- What one token makes of a front, in a grammar each of whose forms begins with a token.
use Rattle.std.proofs.Common.{◌≡◌, Bool, true, false, cond, ◌&&◌, List, [], ◌∷◌, ◌++◌, refl, sym, ◌∙◌, subst, inl, inr}
use Rattle.std.specs.Prelude.{not}
use Rattle.std.proofs.lemmas.Bool.{false≢true, not-true}
use Rattle.contract_grammar.specs.Tokens.{Tok}
use Rattle.contract_parse.specs.Forms.{Terminal, Nonterminal, Optional, Repeated, Form, Grammar, IsAmong, here, later, Whole, done, token, absent, present, enough, again, Front, beyond}
use Rattle.contract_grammar.proofs.EntryFacts.{and_parts}
use Rattle.contract_parse.proofs.FrontFacts.{of_token, to_token, optional_from, repeated_from, to_symbol, whole_symbol, of_symbol, of_optional, of_repeated}

-- the token takes what may stand to what may stand behind it
pub record Takes {N : Type 0} (forms : Grammar N) (parts : Form N) (t : Tok) (next : Form N) : Type 0 where
  pub on : (ts : List Tok) → Front forms parts (t ∷ ts) → Front forms next ts
  pub back : (ts : List Tok) → Front forms next ts → Front forms parts (t ∷ ts)
  pub whole : (ts rest : List Tok) → Whole forms next ts rest → Whole forms parts (t ∷ ts) rest

-- no front begins with the token
abbrev pub Bars : {N : Type 0} → Grammar N → Form N → Tok → Type 0
Bars forms parts t = (ts : List Tok) → Front forms parts (t ∷ ts) → ⊥

-- what is behind the first token of each form that begins with this one
abbrev pub rests : {N : Type 0} → List (Form N) → Tok → List (Form N)
rests [] t = []
rests ([] ∷ more) t = rests more t
rests ((Terminal test ∷ rest) ∷ more) t = cond (test t) (rest ∷ rests more t) (rests more t)
rests ((Nonterminal symbol ∷ rest) ∷ more) t = rests more t
rests ((Optional symbol ∷ rest) ∷ more) t = rests more t
rests ((Repeated symbol ∷ rest) ∷ more) t = rests more t

abbrev pub BeginWithTokens : {N : Type 0} → List (Form N) → Type 0
BeginWithTokens [] = Unit {0}
BeginWithTokens ([] ∷ more) = ⊥
BeginWithTokens ((Terminal test ∷ rest) ∷ more) = BeginWithTokens more
BeginWithTokens ((Nonterminal symbol ∷ rest) ∷ more) = ⊥
BeginWithTokens ((Optional symbol ∷ rest) ∷ more) = ⊥
BeginWithTokens ((Repeated symbol ∷ rest) ∷ more) = ⊥

among_first : {X : Type 0} (b : Bool) (x : X) (xs : List X) → b ≡ true → IsAmong x (cond b (x ∷ xs) xs)
among_first true x xs e = here
among_first false x xs e = absurd (false≢true e)

among_later : {X : Type 0} (b : Bool) (x y : X) (xs : List X) → IsAmong y xs → IsAmong y (cond b (x ∷ xs) xs)
among_later true x y xs a = later a
among_later false x y xs a = a

none_among : {X : Type 0} (x : X) (xs : List X) → xs ≡ [] → IsAmong x xs → ⊥
none_among x xs e here = absurd cc
none_among x xs e (later a) = absurd cc

only_among : {X : Type 0} (x y : X) (xs : List X) → xs ≡ y ∷ [] → IsAmong x xs → x ≡ y
only_among x y xs e here = cc
only_among x y xs e (later {xs = more} a) = let none : more ≡ [] = cc in absurd (none_among x more none a)

-- a form that begins with this token, and its rest
pub record Begun {N : Type 0} (all : List (Form N)) (t : Tok) (rest : Form N) : Type 0 where
  pub test : Tok → Bool
  pub passes : test t ≡ true
  pub among : IsAmong (Terminal test ∷ rest) all

pick : {N : Type 0} (test : Tok → Bool) (r : Form N) (more : List (Form N)) (t : Tok) (rest : Form N) (b : Bool) → test t ≡ b → (IsAmong rest (rests more t) → Begun more t rest) → IsAmong rest (cond b (r ∷ rests more t) (rests more t)) → Begun ((Terminal test ∷ r) ∷ more) t rest
pick test r more t rest true e next here = record { test = test; passes = e; among = here }
pick test r more t rest true e next (later a) = let b = next a in record { test = b.test; passes = b.passes; among = later b.among }
pick test r more t rest false e next a = let b = next a in record { test = b.test; passes = b.passes; among = later b.among }

pub begun : {N : Type 0} (all : List (Form N)) (t : Tok) (rest : Form N) → IsAmong rest (rests all t) → Begun all t rest
begun [] t rest a = elim a [ ]
begun ([] ∷ more) t rest a = let b = begun more t rest a in record { test = b.test; passes = b.passes; among = later b.among }
begun ((Terminal test ∷ r) ∷ more) t rest a = pick test r more t rest (test t) refl (λ b. begun more t rest b) a
begun ((Nonterminal symbol ∷ r) ∷ more) t rest a = let b = begun more t rest a in record { test = b.test; passes = b.passes; among = later b.among }
begun ((Optional symbol ∷ r) ∷ more) t rest a = let b = begun more t rest a in record { test = b.test; passes = b.passes; among = later b.among }
begun ((Repeated symbol ∷ r) ∷ more) t rest a = let b = begun more t rest a in record { test = b.test; passes = b.passes; among = later b.among }

abbrev pub is_nil : {X : Type 0} → List X → Bool
is_nil [] = true
is_nil (x ∷ xs) = false

pub nil_is : {X : Type 0} (xs : List X) → is_nil xs ≡ true → xs ≡ []
nil_is [] e = refl
nil_is (x ∷ xs) e = absurd (false≢true e)

-- a test that no front begins with the token
abbrev pub barred : {N : Type 0} → Grammar N → Form N → Tok → Bool
barred forms [] t = true
barred forms (Terminal test ∷ parts) t = not (test t)
barred forms (Nonterminal symbol ∷ parts) t = is_nil (rests (forms symbol) t)
barred forms (Optional symbol ∷ parts) t = is_nil (rests (forms symbol) t) && barred forms parts t
barred forms (Repeated symbol ∷ parts) t = is_nil (rests (forms symbol) t) && barred forms parts t

module _ {N : Type 0} (forms : Grammar N) where
  pub nothing_bars : (t : Tok) → Bars forms [] t
  nothing_bars t ts x = elim x [ ]

  pub one_takes : (test : Tok → Bool) (parts : Form N) (t : Tok) → test t ≡ true → Takes forms (Terminal test ∷ parts) t parts
  one_takes test parts t e = record {
    on = λ ts x. (of_token forms test parts t ts x).1;
    back = λ ts x. to_token forms test parts t ts e x;
    whole = λ ts rest w. token e w;
  }

  pub one_bars : (test : Tok → Bool) (parts : Form N) (t : Tok) → test t ≡ false → Bars forms (Terminal test ∷ parts) t
  one_bars test parts t e ts x = false≢true (sym e ∙ (of_token forms test parts t ts x).0)

  rest_of : (parts : Form N) (t : Tok) (ts : List Tok) (all : List (Form N)) (lead : Form N) → BeginWithTokens all → IsAmong lead all → Front forms (lead ++ parts) (t ∷ ts)
      → (rest : Form N) × IsAmong rest (rests all t) × Front forms (rest ++ parts) ts
  rest_of parts t ts [] lead starts a x = elim a [ ]
  rest_of parts t ts ([] ∷ more) lead starts a x = absurd starts
  rest_of parts t ts ((Terminal test ∷ rest) ∷ more) lead starts here x =
      let p = of_token forms test (rest ++ parts) t ts x in (rest, among_first (test t) rest (rests more t) p.0, p.1)
  rest_of parts t ts ((Terminal test ∷ rest) ∷ more) lead starts (later a) x =
      let p = rest_of parts t ts more lead starts a x in (p.0, among_later (test t) rest p.0 (rests more t) p.1, p.2)
  rest_of parts t ts ((Nonterminal symbol ∷ rest) ∷ more) lead starts a x = absurd starts
  rest_of parts t ts ((Optional symbol ∷ rest) ∷ more) lead starts a x = absurd starts
  rest_of parts t ts ((Repeated symbol ∷ rest) ∷ more) lead starts a x = absurd starts

  module _ (starts : (symbol : N) → BeginWithTokens (forms symbol)) where
    pub symbol_takes : (symbol : N) (rest parts : Form N) (t : Tok) → rests (forms symbol) t ≡ rest ∷ [] → Takes forms (Nonterminal symbol ∷ parts) t (rest ++ parts)
    symbol_takes symbol rest parts t e =
        let b = begun (forms symbol) t rest (subst (λ rs. IsAmong rest rs) (sym e) here) in
        record {
          on = λ ts x.
              let o = of_symbol forms symbol parts t ts x in
              let p = rest_of parts t ts (forms symbol) o.0 (starts symbol) o.1 o.2 in
              subst (λ r. Front forms (r ++ parts) ts) (only_among p.0 rest (rests (forms symbol) t) e p.1) p.2;
          back = λ ts x. to_symbol forms symbol (Terminal b.test ∷ rest) parts (t ∷ ts) b.among (to_token forms b.test (rest ++ parts) t ts b.passes x);
          whole = λ ts last w. whole_symbol forms symbol (Terminal b.test ∷ rest) parts (t ∷ ts) last b.among (token b.passes w);
        }

    pub symbol_bars : (symbol : N) (parts : Form N) (t : Tok) → rests (forms symbol) t ≡ [] → Bars forms (Nonterminal symbol ∷ parts) t
    symbol_bars symbol parts t e ts x =
        let o = of_symbol forms symbol parts t ts x in
        let p = rest_of parts t ts (forms symbol) o.0 (starts symbol) o.1 o.2 in
        none_among p.0 (rests (forms symbol) t) e p.1

    -- ---- optional and repeated parts

    pub optional_takes : (symbol : N) (rest parts : Form N) (t : Tok) → rests (forms symbol) t ≡ rest ∷ [] → Bars forms parts t → Takes forms (Optional symbol ∷ parts) t (rest ++ parts)
    optional_takes symbol rest parts t e bars =
        let one = symbol_takes symbol rest parts t e in
        record {
          on = λ ts x. elim (of_optional forms symbol parts t ts x) [ inl y ↦ one.on ts y | inr y ↦ absurd (bars ts y) ];
          back = λ ts x. optional_from forms symbol parts (t ∷ ts) (one.back ts x);
          whole = λ ts last w. present (one.whole ts last w);
        }

    pub optional_skips : (symbol : N) (next parts : Form N) (t : Tok) → rests (forms symbol) t ≡ [] → Takes forms parts t next → Takes forms (Optional symbol ∷ parts) t next
    optional_skips symbol next parts t e behind = record {
      on = λ ts x. elim (of_optional forms symbol parts t ts x) [ inl y ↦ absurd (symbol_bars symbol parts t e ts y) | inr y ↦ behind.on ts y ];
      back = λ ts x. beyond (absent done) (behind.back ts x);
      whole = λ ts last w. absent (behind.whole ts last w);
    }

    pub optional_bars : (symbol : N) (parts : Form N) (t : Tok) → rests (forms symbol) t ≡ [] → Bars forms parts t → Bars forms (Optional symbol ∷ parts) t
    optional_bars symbol parts t e bars ts x = elim (of_optional forms symbol parts t ts x) [ inl y ↦ symbol_bars symbol parts t e ts y | inr y ↦ bars ts y ]

    pub repeated_takes : (symbol : N) (rest parts : Form N) (t : Tok) → rests (forms symbol) t ≡ rest ∷ [] → Bars forms parts t → Takes forms (Repeated symbol ∷ parts) t (rest ++ Repeated symbol ∷ parts)
    repeated_takes symbol rest parts t e bars =
        let one = symbol_takes symbol rest (Repeated symbol ∷ parts) t e in
        record {
          on = λ ts x. elim (of_repeated forms symbol parts t ts x) [ inl y ↦ one.on ts y | inr y ↦ absurd (bars ts y) ];
          back = λ ts x. repeated_from forms symbol parts (t ∷ ts) (one.back ts x);
          whole = λ ts last w. again (one.whole ts last w);
        }

    pub repeated_skips : (symbol : N) (next parts : Form N) (t : Tok) → rests (forms symbol) t ≡ [] → Takes forms parts t next → Takes forms (Repeated symbol ∷ parts) t next
    repeated_skips symbol next parts t e behind = record {
      on = λ ts x. elim (of_repeated forms symbol parts t ts x) [ inl y ↦ absurd (symbol_bars symbol (Repeated symbol ∷ parts) t e ts y) | inr y ↦ behind.on ts y ];
      back = λ ts x. beyond (enough done) (behind.back ts x);
      whole = λ ts last w. enough (behind.whole ts last w);
    }

    pub repeated_bars : (symbol : N) (parts : Form N) (t : Tok) → rests (forms symbol) t ≡ [] → Bars forms parts t → Bars forms (Repeated symbol ∷ parts) t
    repeated_bars symbol parts t e bars ts x =
        elim (of_repeated forms symbol parts t ts x) [ inl y ↦ symbol_bars symbol (Repeated symbol ∷ parts) t e ts y | inr y ↦ bars ts y ]

    pub bars : (parts : Form N) (t : Tok) → barred forms parts t ≡ true → Bars forms parts t
    bars [] t e = nothing_bars t
    bars (Terminal test ∷ parts) t e = one_bars test parts t (not-true (test t) e)
    bars (Nonterminal symbol ∷ parts) t e = symbol_bars symbol parts t (nil_is (rests (forms symbol) t) e)
    bars (Optional symbol ∷ parts) t e = let p = and_parts (is_nil (rests (forms symbol) t)) (barred forms parts t) e in optional_bars symbol parts t (nil_is (rests (forms symbol) t) p.0) (bars parts t p.1)
    bars (Repeated symbol ∷ parts) t e = let p = and_parts (is_nil (rests (forms symbol) t)) (barred forms parts t) e in repeated_bars symbol parts t (nil_is (rests (forms symbol) t) p.0) (bars parts t p.1)
