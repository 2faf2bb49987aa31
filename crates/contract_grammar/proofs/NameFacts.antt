-- Declared names: what is used and what is new.
use Rattle.std.proofs.Common.{◌≡◌, ℕ, Bool, true, false, cond, Option, Some, None, Result, Ok, Err, List, [], ◌∷◌, ◌++◌, refl, sym, ap, ◌∙◌}
use Rattle.contract_grammar.specs.declared.faults.TextKind.{TextKind}
use Rattle.contract_grammar.specs.declared.faults.TextKind.TheVariants.{Syntax, Number, Twice, Unknown}
use Rattle.std.specs.Prelude.{not}
use Rattle.std.specs.Str.{bytes_eq}
use Rattle.indexmap.specs.IndexSet.{insert_key}
use Rattle.contract_grammar.specs.Tokens.{Tok}
use Rattle.contract_grammar.specs.Words.{Bytes, is_integer, is_name}
use Rattle.contract_grammar.specs.Names.{index_in, is_declared}
use Rattle.contract_grammar.specs.Judgements.{counted, days_at, integer_at, named, new_at, or_fault, up_to, use_at, whole}
use Rattle.term_model.specs.DayCounts.{Num as Count, Named}

module _ (names : List Bytes) (t : Tok) where
  pub use_none : false ≡ is_name t → Err Syntax ≡ use_at names t
  use_none is = rw (sym is) refl

  pub use_some : (i : ℕ) → true ≡ is_name t → Some i ≡ index_in names t.text → Ok i ≡ use_at names t
  use_some i is there = rw (sym is, sym there) refl

  pub use_unknown : true ≡ is_name t → None ≡ index_in names t.text → Err Unknown ≡ use_at names t
  use_unknown is absent = rw (sym is, sym absent) refl

  pub new_none : false ≡ is_name t → Err Syntax ≡ new_at names t
  new_none is = rw (sym is) refl

  pub new_fresh : true ≡ is_name t → false ≡ is_declared names t.text → Ok t.text ≡ new_at names t
  new_fresh is absent = rw (sym is, sym absent) refl

  pub new_twice : true ≡ is_name t → true ≡ is_declared names t.text → Err Twice ≡ new_at names t
  new_twice is there = rw (sym is, sym there) refl

-- counts of days
counted_ok : (o : Option ℕ) (n : ℕ) → Ok n ≡ or_fault Number o → Ok (Count n) ≡ counted o
counted_ok None n e = absurd cc
counted_ok (Some m) n e = let same : n ≡ m = cc in ap (λ k. Ok (Count k)) same

counted_err : (o : Option ℕ) (kind : TextKind) → Err kind ≡ or_fault Number o → Err kind ≡ counted o
counted_err None kind e = let same : kind ≡ Number = cc in ap (λ k. Err k) same
counted_err (Some m) kind e = absurd cc

named_ok : (r : Result ℕ TextKind) (i : ℕ) → Ok i ≡ r → Ok (Named i) ≡ named r
named_ok r i e = rw (sym e) refl

named_err : (r : Result ℕ TextKind) (kind : TextKind) → Err kind ≡ r → Err kind ≡ named r
named_err r kind e = rw (sym e) refl

module _ (templates : List Bytes) (t : Tok) where
  pub days_number : (n : ℕ) → true ≡ is_integer t → Ok n ≡ integer_at 100_000 t → Ok (Count n) ≡ days_at templates t
  days_number n is e = rw (sym is) (counted_ok (up_to 100_000 (whole t)) n (e ∙ rw (sym is) refl))

  pub days_wide : (kind : TextKind) → true ≡ is_integer t → Err kind ≡ integer_at 100_000 t → Err kind ≡ days_at templates t
  days_wide kind is e = rw (sym is) (counted_err (up_to 100_000 (whole t)) kind (e ∙ rw (sym is) refl))

  pub days_named : (i : ℕ) → false ≡ is_integer t → Ok i ≡ use_at templates t → Ok (Named i) ≡ days_at templates t
  days_named i is e = rw (sym is) (named_ok (use_at templates t) i e)

  pub days_none : (kind : TextKind) → false ≡ is_integer t → Err kind ≡ use_at templates t → Err kind ≡ days_at templates t
  days_none kind is e = rw (sym is) (named_err (use_at templates t) kind e)

-- what `insert` says of a name
pub is_new : (b : Bool) → true ≡ not b → false ≡ b
is_new true e = absurd cc
is_new false e = refl

pub is_old : (b : Bool) → false ≡ not b → true ≡ b
is_old true e = refl
is_old false e = absurd cc

pub inserted : (names : List Bytes) (name : Bytes) → false ≡ is_declared names name → insert_key bytes_eq names name ≡ names ++ name ∷ []
inserted names name absent = ap (λ b. cond b names (names ++ name ∷ [])) (sym absent)
