-- Sets and maps whose items are clones of another's, each equal to its own, have equal items.
use Rattle.std.proofs.Common.{◌≡◌, List, [], ◌∷◌, refl}
use Rattle.std.specs.List.{AllZip}

module _ {A : Type 0} (C : A → A → Type 0) (same : (x y : A) → C x y → y ≡ x) where
  pub cloned_items : (xs ys : List A) → AllZip C xs ys → ys ≡ xs
  cloned_items [] [] h = refl
  cloned_items [] (y ∷ ys) h = absurd h
  cloned_items (x ∷ xs) [] h = absurd h
  cloned_items (x ∷ xs) (y ∷ ys) h = λ i. same x y h.0 i ∷ cloned_items xs ys h.1 i

module _ {K X : Type 0} where
  -- The entries of a map.
  pub cloned_entries : (ps qs : List (K × X)) → AllZip (λ p q. (q.0 ≡ p.0) × (q.1 ≡ p.1)) ps qs → qs ≡ ps
  cloned_entries = cloned_items (λ p q. (q.0 ≡ p.0) × (q.1 ≡ p.1)) (λ p q h i. (h.0 i, h.1 i))
