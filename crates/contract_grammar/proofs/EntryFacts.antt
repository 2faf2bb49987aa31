-- What holds of all entries of a map, and of one that is inserted.
use Rattle.std.proofs.Common.{◌≡◌, ℕ, Bool, true, false, ◌&&◌, ◌||◌, cond, List, [], ◌∷◌, ◌++◌, refl, sym, ap}
use Rattle.std.specs.List.{list_all}
use Rattle.std.specs.Map.{keys_of}
use Rattle.std.specs.Str.{bytes_eq}
use Rattle.std.proofs.lemmas.Bool.{false≢true}
use Rattle.indexmap.specs.IndexMap.{insert_entry}
use Rattle.contract_grammar.specs.Words.{Bytes}
use Rattle.contract_grammar.specs.Names.{is_declared}

pub and_parts : (a b : Bool) → (a && b) ≡ true → (a ≡ true) × (b ≡ true)
and_parts true b e = (refl, e)
and_parts false b e = absurd (false≢true e)

pub both_true : (a b : Bool) → a ≡ true → b ≡ true → (a && b) ≡ true
both_true a b p q = rw p q

or_parts : (a b : Bool) → (a || b) ≡ false → (a ≡ false) × (b ≡ false)
or_parts true b e = absurd (false≢true (sym e))
or_parts false b e = (refl, e)

module _ {V : Type 0} (test : V → Bool) where
  one_of : (same : Bool) (key : List ℕ) (value : V) (entry : List ℕ × V) (es more : List (List ℕ × V)) → test value ≡ true → test entry.1 ≡ true → list_all (λ e. test e.1) es ≡ true → list_all (λ e. test e.1) more ≡ true
      → list_all (λ (e : List ℕ × V). test e.1) (cond same ((entry.0, value) ∷ es) (entry ∷ more)) ≡ true
  one_of true key value entry es more v e all rest = both_true (test value) (list_all (λ (e : List ℕ × V). test e.1) es) v all
  one_of false key value entry es more v e all rest = both_true (test entry.1) (list_all (λ (e : List ℕ × V). test e.1) more) e rest

  -- an entry that passes, among entries that pass
  pub all_inserted : (es : List (List ℕ × V)) (key : List ℕ) (value : V) → list_all (λ (e : List ℕ × V). test e.1) es ≡ true → test value ≡ true → list_all (λ (e : List ℕ × V). test e.1) (insert_entry bytes_eq es key value) ≡ true
  all_inserted [] key value all v = both_true (test value) true v refl
  all_inserted (entry ∷ es) key value all v =
      let p = and_parts (test entry.1) (list_all (λ (e : List ℕ × V). test e.1) es) all in
      one_of (bytes_eq key entry.0) key value entry es (insert_entry bytes_eq es key value) v p.0 p.1 (all_inserted es key value p.1 v)

-- a new entry stands at the end
pub entry_added : {V : Type 0} (es : List (Bytes × V)) (name : Bytes) (value : V) → is_declared (keys_of es) name ≡ false → insert_entry bytes_eq es name value ≡ es ++ (name, value) ∷ []
entry_added [] name value e = refl
entry_added (entry ∷ es) name value e =
    let p = or_parts (bytes_eq name entry.0) (is_declared (keys_of es) name) e in
    rw p.0 (ap (λ more. entry ∷ more) (entry_added es name value p.1))

pub keys_added : {V : Type 0} (es : List (Bytes × V)) (name : Bytes) (value : V) → keys_of (es ++ (name, value) ∷ []) ≡ keys_of es ++ name ∷ []
keys_added [] name value = refl
keys_added (entry ∷ es) name value = ap (λ more. entry.0 ∷ more) (keys_added es name value)
