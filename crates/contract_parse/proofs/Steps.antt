-- What one token makes of what is expected.
use Rattle.std.proofs.Common.{◌≡◌, ℕ, Bool, true, false, cond, Result, Ok, Err, List, [], ◌∷◌, ◌++◌, refl, sym, ap, ◌∙◌}
use Rattle.contract_grammar.specs.declared.token.LexemeKind.{LexemeKind}
use Rattle.contract_grammar.specs.declared.token.LexemeKind.TheVariants.{Word, Number, Date, Mark, End, Stray}
use Rattle.contract_grammar.specs.declared.faults.TextKind.{TextKind}
use Rattle.contract_grammar.specs.declared.faults.TextKind.TheVariants.{Syntax}
use Rattle.contract_grammar.specs.Tokens.{Tok, is_last, tokens}
use Rattle.contract_grammar.specs.Words.{Bytes, is_end, is_end_kind}
use Rattle.contract_grammar.specs.Names.{DeclaredNames, with_names}
use Rattle.contract_grammar.specs.Judgements.{new_at}
use Rattle.contract_grammar.specs.declared.names.NameSet.{NameSet}
use Rattle.contract_grammar.specs.declared.names.NameSet.TheVariants.{Party, Asset, Label, Template, Contract}
use Rattle.contract_parse.specs.Reading.{tokens_after}
use Rattle.contract_grammar.specs.Spelling.{one, valued}
use Rattle.contract_parse.specs.Expecting.{Expected, Step, Next, NewIn, Refuse, Open, Stops, TheEnd, judged, run, step}

pub run-next : (s s2 : DeclaredNames) (ps qs : List Expected) (t : Tok) (ts : List Tok) → step s ps t ≡ Next s2 qs → run s ps (t ∷ ts) ≡ run s2 qs ts
unfolding run
run-next s s2 ps qs t ts e = rw (e, run) refl

pub run-refuse : (s : DeclaredNames) (ps : List Expected) (kind : TextKind) (t : Tok) (ts : List Tok) → step s ps t ≡ Refuse kind → run s ps (t ∷ ts) ≡ Stops kind t.left
unfolding run
run-refuse s ps kind t ts e = rw (e, run) refl

pub run-same : (s : DeclaredNames) (ps qs : List Expected) (t : Tok) (ts : List Tok) → step s ps t ≡ step s qs t → run s ps (t ∷ ts) ≡ run s qs (t ∷ ts)
unfolding run
run-same s ps qs t ts e = rw (e, run) refl

-- at the end, and where no token begins, a judgement is Syntax
abbrev pub Ends : {X : Type 0} → (Tok → Result X TextKind) → Type 0
Ends judge = (text : List ℕ) (left : ℕ) → (judge (record { kind = End; text = text; left = left }) ≡ Err Syntax) × (judge (record { kind = Stray; text = text; left = left }) ≡ Err Syntax)

module _ {X : Type 0} (judge : Tok → Result X TextKind) (ends : Ends judge) where
  kind_more : (x : X) (k : LexemeKind) (text : List ℕ) (left : ℕ) → judge (record { kind = k; text = text; left = left }) ≡ Ok x → is_last k ≡ false
  kind_more x Word text left e = refl
  kind_more x Number text left e = refl
  kind_more x Date text left e = refl
  kind_more x Mark text left e = refl
  kind_more x End text left e = let at = (ends text left).0 in absurd cc
  kind_more x Stray text left e = let at = (ends text left).1 in absurd cc

  pub takes : (x : X) (t : Tok) (bytes rest : List ℕ) → tokens bytes ≡ t ∷ tokens_after t.kind rest → Ok x ≡ judge t → tokens bytes ≡ t ∷ tokens rest
  takes x t bytes rest starts e = starts ∙ ap (λ b. t ∷ cond b [] (tokens rest)) (kind_more x t.kind t.text t.left (sym e))

  -- the same of a token that was read on
  pub takes_on : (x : X) (t : Tok) (rest : List ℕ) → Ok x ≡ judge t → t ∷ tokens_after t.kind rest ≡ t ∷ tokens rest
  takes_on x t rest e = ap (λ b. t ∷ cond b [] (tokens rest)) (kind_more x t.kind t.text t.left (sym e))

  -- the token is spelled
  pub spells : (x : X) (t : Tok) (bytes rest : List ℕ) → tokens bytes ≡ t ∷ tokens_after t.kind rest → Ok x ≡ judge t → valued judge x (tokens bytes) (tokens rest)
  spells x t bytes rest starts e = (t, takes x t bytes rest starts e, sym e)

  -- the token is taken
  pub passes : (s s2 : DeclaredNames) (ps qs : List Expected) (next : X → Step) (x : X) (t : Tok) (bytes rest : List ℕ) → tokens bytes ≡ t ∷ tokens_after t.kind rest → Ok x ≡ judge t
      → step s ps t ≡ judged (judge t) next → next x ≡ Next s2 qs → run s ps (tokens bytes) ≡ run s2 qs (tokens rest)
  passes s s2 ps qs next x t bytes rest starts e shape goes = rw (takes x t bytes rest starts e) (run-next s s2 ps qs t (tokens rest) (shape ∙ ap (λ r. judged r next) (sym e) ∙ goes))

  pub passes_on : (s s2 : DeclaredNames) (ps qs : List Expected) (next : X → Step) (x : X) (t : Tok) (rest : List ℕ) → Ok x ≡ judge t
      → step s ps t ≡ judged (judge t) next → next x ≡ Next s2 qs → run s ps (t ∷ tokens_after t.kind rest) ≡ run s2 qs (tokens rest)
  passes_on s s2 ps qs next x t rest e shape goes = rw (takes_on x t rest e) (run-next s s2 ps qs t (tokens rest) (shape ∙ ap (λ r. judged r next) (sym e) ∙ goes))

-- the token is at fault
pub refuses : {X : Type 0} (judge : Tok → Result X TextKind) (s : DeclaredNames) (ps : List Expected) (next : X → Step) (kind : TextKind) (t : Tok) (bytes rest : List ℕ) → tokens bytes ≡ t ∷ tokens_after t.kind rest
    → Err kind ≡ judge t → step s ps t ≡ judged (judge t) next → run s ps (tokens bytes) ≡ Stops kind t.left
refuses judge s ps next kind t bytes rest starts e shape =
    rw starts (run-refuse s ps kind t (tokens_after t.kind rest) (shape ∙ ap (λ r. judged r next) (sym e)))

pub refuses_on : {X : Type 0} (judge : Tok → Result X TextKind) (s : DeclaredNames) (ps : List Expected) (next : X → Step) (kind : TextKind) (t : Tok) (rest : List ℕ)
    → Err kind ≡ judge t → step s ps t ≡ judged (judge t) next → run s ps (t ∷ tokens_after t.kind rest) ≡ Stops kind t.left
refuses_on judge s ps next kind t rest e shape = run-refuse s ps kind t (tokens_after t.kind rest) (shape ∙ ap (λ r. judged r next) (sym e))

-- the same for a test
abbrev pub Fails : (Tok → Bool) → Type 0
Fails test = (text : List ℕ) (left : ℕ) → (test (record { kind = End; text = text; left = left }) ≡ false) × (test (record { kind = Stray; text = text; left = left }) ≡ false)

module _ (test : Tok → Bool) (fails : Fails test) where
  so_more : (k : LexemeKind) (text : List ℕ) (left : ℕ) → test (record { kind = k; text = text; left = left }) ≡ true → is_last k ≡ false
  so_more Word text left e = refl
  so_more Number text left e = refl
  so_more Date text left e = refl
  so_more Mark text left e = refl
  so_more End text left e = let at = (fails text left).0 in absurd cc
  so_more Stray text left e = let at = (fails text left).1 in absurd cc

  -- a token that passes is not the last
  so_goes_on : (t : Tok) (rest : List ℕ) → true ≡ test t → t ∷ tokens_after t.kind rest ≡ t ∷ tokens rest
  so_goes_on t rest e = ap (λ b. t ∷ cond b [] (tokens rest)) (so_more t.kind t.text t.left (sym e))

  pub so_takes : (t : Tok) (bytes rest : List ℕ) → tokens bytes ≡ t ∷ tokens_after t.kind rest → true ≡ test t → tokens bytes ≡ t ∷ tokens rest
  so_takes t bytes rest starts e = starts ∙ so_goes_on t rest e

  -- the same of a token that is read ahead
  pub ahead_spells : (t : Tok) (rest : List ℕ) → true ≡ test t → one test (t ∷ tokens_after t.kind rest) (tokens rest)
  ahead_spells t rest e = (t, so_goes_on t rest e, sym e)

  pub so_spells : (t : Tok) (bytes rest : List ℕ) → tokens bytes ≡ t ∷ tokens_after t.kind rest → true ≡ test t → one test (tokens bytes) (tokens rest)
  so_spells t bytes rest starts e = (t, so_takes t bytes rest starts e, sym e)

  pub so_passes : (s s2 : DeclaredNames) (ps qs : List Expected) (other : Step) (t : Tok) (bytes rest : List ℕ) → tokens bytes ≡ t ∷ tokens_after t.kind rest → true ≡ test t
      → step s ps t ≡ cond (test t) (Next s2 qs) other → run s ps (tokens bytes) ≡ run s2 qs (tokens rest)
  so_passes s s2 ps qs other t bytes rest starts e shape = rw (so_takes t bytes rest starts e) (run-next s s2 ps qs t (tokens rest) (shape ∙ ap (λ b. cond b (Next s2 qs) other) (sym e)))

pub so_refuses : (test : Tok → Bool) (s : DeclaredNames) (ps : List Expected) (next : Step) (t : Tok) (bytes rest : List ℕ) → tokens bytes ≡ t ∷ tokens_after t.kind rest → false ≡ test t
    → step s ps t ≡ cond (test t) next (Refuse Syntax) → run s ps (tokens bytes) ≡ Stops Syntax t.left
so_refuses test s ps next t bytes rest starts e shape = rw starts (run-refuse s ps Syntax t (tokens_after t.kind rest) (shape ∙ ap (λ b. cond b next (Refuse Syntax)) (sym e)))

-- ---- the end

kind_end : (k : LexemeKind) → is_end_kind k ≡ true → is_last k ≡ true
kind_end Word e = absurd cc
kind_end Number e = absurd cc
kind_end Date e = absurd cc
kind_end Mark e = absurd cc
kind_end End e = refl
kind_end Stray e = absurd cc

end_same : (t : Tok) (rest : List ℕ) → true ≡ is_end t → t ∷ tokens_after t.kind rest ≡ t ∷ []
end_same t rest e = ap (λ b. t ∷ cond b [] (tokens rest)) (kind_end t.kind (sym e))

pub end_passes : (s : DeclaredNames) (ps : List Expected) (t : Tok) (rest : List ℕ) → true ≡ is_end t → run s (TheEnd ∷ ps) (t ∷ tokens_after t.kind rest) ≡ Open ps
unfolding run
end_passes s ps t rest e = rw (end_same t rest e) (run-next s s (TheEnd ∷ ps) ps t [] (ap (λ b. cond b (Next s ps) (Refuse Syntax)) (sym e)))

pub end_spells : (t : Tok) (rest : List ℕ) → true ≡ is_end t → one is_end (t ∷ tokens_after t.kind rest) []
end_spells t rest e = (t, end_same t rest e, sym e)

pub end_refuses : (s : DeclaredNames) (ps : List Expected) (t : Tok) (rest : List ℕ) → false ≡ is_end t → run s (TheEnd ∷ ps) (t ∷ tokens_after t.kind rest) ≡ Stops Syntax t.left
end_refuses s ps t rest e = run-refuse s (TheEnd ∷ ps) Syntax t (tokens_after t.kind rest) (ap (λ b. cond b (Next s ps) (Refuse Syntax)) (sym e))

-- ---- a new name

new_at_given : (set : NameSet) (names : List Bytes) (s : DeclaredNames) (ps : List Expected) (t : Tok)
    → step (with_names set names s) (NewIn set ∷ ps) t ≡ judged (new_at names t) (λ name. Next (with_names set (names ++ name ∷ []) s) ps)
new_at_given Party names s ps t = refl
new_at_given Asset names s ps t = refl
new_at_given Label names s ps t = refl
new_at_given Template names s ps t = refl
new_at_given Contract names s ps t = refl

module _ (set : NameSet) (names : List Bytes) (s : DeclaredNames) (ps : List Expected) (t : Tok) (bytes rest : List ℕ) (starts : tokens bytes ≡ t ∷ tokens_after t.kind rest) where
  pub new_passes : (name : Bytes) → Ok name ≡ new_at names t → run (with_names set names s) (NewIn set ∷ ps) (tokens bytes) ≡ run (with_names set (names ++ name ∷ []) s) ps (tokens rest)
  new_passes name e =
      passes (new_at names) (λ text left. (refl, refl)) (with_names set names s) (with_names set (names ++ name ∷ []) s) (NewIn set ∷ ps) ps (λ name. Next (with_names set (names ++ name ∷ []) s) ps) name t bytes rest starts e (new_at_given set names s ps t) refl

  pub new_refuses : (kind : TextKind) → Err kind ≡ new_at names t → run (with_names set names s) (NewIn set ∷ ps) (tokens bytes) ≡ Stops kind t.left
  new_refuses kind e = refuses (new_at names) (with_names set names s) (NewIn set ∷ ps) (λ name. Next (with_names set (names ++ name ∷ []) s) ps) kind t bytes rest starts e (new_at_given set names s ps t)
