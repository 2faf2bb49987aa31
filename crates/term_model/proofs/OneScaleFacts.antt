-- Assets with the decimals of the amounts, put one after another into a map.
use Rattle.std.proofs.Common.{◌≡◌, ℕ, zero, suc, ◌≤◌, Bool, true, false, if◌then◌else◌, List, [], ◌∷◌, ◌++◌, map, length, refl, ap, sym, subst, ◌∙◌, append_assoc, arith}
use Rattle.std.specs.Prelude.{nat_eq, slice_get}
use Rattle.std.specs.List.{AllByRecursion, IsDistinct}
use Rattle.std.specs.Map.{keys_of}
use Rattle.std.proofs.lemmas.Bool.{and_from, and_parts}
use Rattle.std.proofs.lemmas.Bool.Decides.{nat_tests}
use Rattle.std.proofs.lemmas.Cmp.{nat_list_eq_equiv}
use Rattle.std.proofs.lemmas.List.{length-map}
use Rattle.std.specs.Cmp.Lexicographic.{pointwise}
use Rattle.indexmap.specs.IndexMap.{insert_entry}
use Rattle.term_model.specs.Declarations.{decimals_or}
use Rattle.term_model.specs.Limits.{has_decimals, have_decimals}
use Rattle.term_model.specs.declared.name.Name.{Name}

abbrev pub eq : Name → Name → Bool
eq = pointwise nat_eq

module _ (k : ℕ) where
  abbrev pub of_name : Name → Name × ℕ
  of_name name = (name, k)

  abbrev pub of_entry : Name × ℕ → Name × ℕ
  of_entry entry = (entry.0, k)

  pub from_keys : (es : List (Name × ℕ)) → map of_name (keys_of es) ≡ map of_entry es
  from_keys [] = refl
  from_keys (e ∷ es) = ap (λ (more : List (Name × ℕ)). of_entry e ∷ more) (from_keys es)

  pub keys_stay : (es : List (Name × ℕ)) → keys_of (map of_entry es) ≡ keys_of es
  keys_stay [] = refl
  keys_stay (e ∷ es) = ap (λ (more : List Name). e.0 ∷ more) (keys_stay es)

  names_stay : (names : List Name) → keys_of (map of_name names) ≡ names
  names_stay [] = refl
  names_stay (n ∷ names) = ap (λ (more : List Name). n ∷ more) (names_stay names)

  keys_apart : (es : List (Name × ℕ)) (x : Name) (next : List Name) → keys_of (es ++ of_name x ∷ map of_name next) ≡ keys_of es ++ x ∷ next
  keys_apart [] x next = ap (λ (more : List Name). x ∷ more) (names_stay next)
  keys_apart (e ∷ es) x next = ap (λ (more : List Name). e.0 ∷ more) (keys_apart es x next)

  in_the_middle : (P : Name → Type 0) (names : List Name) (x : Name) (next : List Name) → AllByRecursion P (names ++ x ∷ next) → P x
  in_the_middle P [] x next h = h.0
  in_the_middle P (n ∷ names) x next h = in_the_middle P names x next h.1

  goes_last : (es : List (Name × ℕ)) (x : Name) (next : List Name) → IsDistinct eq (keys_of es ++ x ∷ next) → insert_entry eq es x k ≡ es ++ of_name x ∷ []
  unfolding IsDistinct
  goes_last [] x next h = refl
  goes_last (e ∷ es) x next h =
      let other : eq x e.0 ≡ false = nat_list_eq_equiv.symm x e.0 ∙ in_the_middle (λ y. eq e.0 y ≡ false) (keys_of es) x next h.0 in
      ap (λ (b : Bool). if b then (e.0, k) ∷ es else e ∷ insert_entry eq es x k) other ∙ ap (λ (more : List (Name × ℕ)). e ∷ more) (goes_last es x next h.1)

  -- one more
  pub one_more : (all es more : List (Name × ℕ)) (x key : Name) (left next : List Name) → IsDistinct eq (keys_of all) → left ≡ x ∷ next → key ≡ x → more ≡ insert_entry eq es key k → es ++ map of_name left ≡ map of_entry all → more ++ map of_name next ≡ map of_entry all
  one_more all es more x key left next distinct is same inserted whole =
      let here : es ++ of_name x ∷ map of_name next ≡ map of_entry all = subst (λ (names : List Name). es ++ map of_name names ≡ map of_entry all) is whole in
      let names : keys_of all ≡ keys_of es ++ x ∷ next = sym (keys_stay all) ∙ ap (λ (xs : List (Name × ℕ)). keys_of xs) (sym here) ∙ keys_apart es x next in
      let last = goes_last es x next (subst (λ (ns : List Name). IsDistinct eq ns) names distinct) in
      let added : more ≡ es ++ of_name x ∷ [] = inserted ∙ ap (λ (n : Name). insert_entry eq es n k) same ∙ last in
      ap (λ (xs : List (Name × ℕ)). xs ++ map of_name next) added ∙ append_assoc es (of_name x ∷ []) (map of_name next) ∙ here

  pub are_uniform : (es : List (Name × ℕ)) → have_decimals 1 k (map of_entry es) ≡ true
  are_uniform [] = refl
  are_uniform (e ∷ es) = and_from _ _ (grind (arith, nat_tests)) (are_uniform es)

  pub uniform_length : (es : List (Name × ℕ)) → length (map of_entry es) ≡ length es
  uniform_length es = length-map es of_entry

-- no asset has more decimals than the amounts
pub decimals_within : (v k : ℕ) (es : List (Name × ℕ)) (a : ℕ) → have_decimals v k es ≡ true → decimals_or (slice_get es a) k ≤ k
decimals_within v k [] a h = omega arith
decimals_within v k (e ∷ es) zero h =
    let own = (and_parts (has_decimals v k e.1) (have_decimals v k es) h).0 in
    grind (arith, nat_tests, own)
decimals_within v k (e ∷ es) (suc a) h = decimals_within v k es a (and_parts (has_decimals v k e.1) (have_decimals v k es) h).1
