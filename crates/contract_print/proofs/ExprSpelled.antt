-- The canonical text of an expression is a text of it: for every leaf whose own texts spell it, and so for observables.
use Rattle.std.proofs.Common.{◌≡◌, ℕ, suc, ◌+◌, ◌-◌, ◌≤◌, ◌<◌, ℤ, true, false, List, length, refl, subst, arith, add-one, unsigned_abs}
use Rattle.std.specs.Prelude.{◌^◌, codes}
use Rattle.std.specs.Map.{keys_of}
use Rattle.std.proofs.lemmas.List.{length-map}
use Rattle.term_model.specs.Limits.{IsOffset}
use Rattle.term_model.specs.Declarations.{Declarations}
use Rattle.term_model.specs.Sizes.{height}
use Rattle.term_model.specs.WellFormed.{IsWellFormed}
use Rattle.term_model.specs.Terms.{Expression, Lit, Yes, Var, Obs, Neg, Num, Cmp, Not, Logic, Cond, Widen, Round, Div, Acc}
use Rattle.term_model.specs.declared.terms.NumOp.TheVariants.{Plus, Minus, Times, Min, Max}
use Rattle.contract_grammar.specs.Words.{Bytes}
use Rattle.contract_grammar.specs.Names.{DeclaredNames, declared_by}
use Rattle.contract_grammar.specs.Judgements.{literal_at, offset_at, variable_at}
use Rattle.contract_grammar.specs.Spelling.{Leaf, expr, expr_with, obs_leaf}
use Rattle.contract_grammar.specs.declared.terms.Language.{Language}
use Rattle.contract_print.specs.TermTexts.{bound_name, expr_text, observed}
use Rattle.contract_print.specs.Spellable.{HasNumbersOfTexts, are_names}
use Rattle.contract_print.specs.Spelled.{Spells, bound_names, stops}
use Rattle.contract_print.proofs.Joining.{called, closing, comma_then, follow, opened, signed_valued, word_spells, word_valued}
use Rattle.contract_print.proofs.Judged.{bound_word, literal_judged, offset_judged, variable_judged}
use Rattle.contract_print.proofs.ExprPieces.{binder_spells, comparison_then, connective_then, integer_spells, minus_then, mode_spells, name_spells, plus_then, times_then}

-- a label that is declared, at an offset within its limit
abbrev pub IsObservable : Declarations → ℕ → ℤ → Type 0
IsObservable d label offset = (label < length d.labels) × IsOffset offset

-- an expression under k binders, with numbers within the limits of texts and leaves that fit
abbrev pub IsSpellableWith : (ℕ → ℤ → Type 0) → ℕ → Expression → Type 0
IsSpellableWith Fits k (Lit m s) = (unsigned_abs m ≤ 10 ^ 37) × (s ≤ 27)
IsSpellableWith Fits k (Yes b) = Unit {0}
IsSpellableWith Fits k (Var back) = back < k
IsSpellableWith Fits k (Obs l t) = Fits l t
IsSpellableWith Fits k (Neg e) = IsSpellableWith Fits k e
IsSpellableWith Fits k (Num op a b) = IsSpellableWith Fits k a × IsSpellableWith Fits k b
IsSpellableWith Fits k (Cmp op a b) = IsSpellableWith Fits k a × IsSpellableWith Fits k b
IsSpellableWith Fits k (Not e) = IsSpellableWith Fits k e
IsSpellableWith Fits k (Logic op a b) = IsSpellableWith Fits k a × IsSpellableWith Fits k b
IsSpellableWith Fits k (Cond t a b) = IsSpellableWith Fits k t × IsSpellableWith Fits k a × IsSpellableWith Fits k b
IsSpellableWith Fits k (Widen s e) = (s ≤ 27) × IsSpellableWith Fits k e
IsSpellableWith Fits k (Round mode s e) = (s ≤ 27) × IsSpellableWith Fits k e
IsSpellableWith Fits k (Div mode s a b) = (s ≤ 27) × IsSpellableWith Fits k a × IsSpellableWith Fits k b
IsSpellableWith Fits k (Acc body n first) = (n ≤ 100_000) × IsSpellableWith Fits (suc k) body × IsSpellableWith Fits k first

module _ (leaf : Leaf) (text : ℕ → ℤ → Bytes) (Fits : ℕ → ℤ → Type 0) (leaf_spells : (l : ℕ) (t : ℤ) → Fits l t → Spells stops (text l t) (leaf l t)) where
  pub expr_spelled_with : (n : ℕ) (e : Expression) → IsSpellableWith Fits n e → n + height e ≤ 999 → Spells stops (expr_text text n e) (expr_with leaf (bound_names n) e)
  expr_spelled_with n (Lit m k) wf low = signed_valued literal_at (record { mant = m; scale = k }) m k (λ left. literal_judged m k left wf.0 wf.1)
  expr_spelled_with n (Yes true) wf low = word_spells (codes "true") refl
  expr_spelled_with n (Yes false) wf low = word_spells (codes "false") refl
  expr_spelled_with n (Var back) wf low = word_valued (variable_at (bound_names n)) back (bound_name (n - suc back)) (bound_word (n - suc back) (omega arith)) (λ left. variable_judged n back left wf)
  expr_spelled_with n (Obs l t) wf low = leaf_spells l t wf
  expr_spelled_with n (Neg e) wf low = called (codes "neg") refl (follow (expr_spelled_with n e wf (omega arith)) closing)
  expr_spelled_with n (Not e) wf low = called (codes "not") refl (follow (expr_spelled_with n e wf (omega arith)) closing)
  expr_spelled_with n (Num Plus l r) wf low = opened (follow (expr_spelled_with n l wf.0 (omega arith)) (plus_then (follow (expr_spelled_with n r wf.1 (omega arith)) closing)))
  expr_spelled_with n (Num Minus l r) wf low = opened (follow (expr_spelled_with n l wf.0 (omega arith)) (minus_then (follow (expr_spelled_with n r wf.1 (omega arith)) closing)))
  expr_spelled_with n (Num Times l r) wf low = opened (follow (expr_spelled_with n l wf.0 (omega arith)) (times_then (follow (expr_spelled_with n r wf.1 (omega arith)) closing)))
  expr_spelled_with n (Num Min l r) wf low = called (codes "min") refl (follow (expr_spelled_with n l wf.0 (omega arith)) (comma_then (follow (expr_spelled_with n r wf.1 (omega arith)) closing)))
  expr_spelled_with n (Num Max l r) wf low = called (codes "max") refl (follow (expr_spelled_with n l wf.0 (omega arith)) (comma_then (follow (expr_spelled_with n r wf.1 (omega arith)) closing)))
  expr_spelled_with n (Cmp op l r) wf low = opened (follow (expr_spelled_with n l wf.0 (omega arith)) (comparison_then op (follow (expr_spelled_with n r wf.1 (omega arith)) closing)))
  expr_spelled_with n (Logic op l r) wf low = opened (follow (expr_spelled_with n l wf.0 (omega arith)) (connective_then op (follow (expr_spelled_with n r wf.1 (omega arith)) closing)))
  expr_spelled_with n (Cond t a b) wf low =
      called (codes "if") refl (follow (expr_spelled_with n t wf.0 (omega arith)) (comma_then (follow (expr_spelled_with n a wf.1 (omega arith)) (comma_then (follow (expr_spelled_with n b wf.2 (omega arith)) closing)))))
  expr_spelled_with n (Widen k e) wf low = called (codes "widen") refl (follow (integer_spells 27 k wf.0) (comma_then (follow (expr_spelled_with n e wf.1 (omega arith)) closing)))
  expr_spelled_with n (Round m k e) wf low =
      called (codes "round") refl (follow (mode_spells m) (comma_then (follow (integer_spells 27 k wf.0) (comma_then (follow (expr_spelled_with n e wf.1 (omega arith)) closing)))))
  expr_spelled_with n (Div m k a b) wf low =
      called (codes "div") refl (follow (mode_spells m) (comma_then (follow (integer_spells 27 k wf.0) (comma_then (follow (expr_spelled_with n a wf.1 (omega arith)) (comma_then (follow (expr_spelled_with n b wf.2 (omega arith)) closing)))))))
  expr_spelled_with n (Acc body days first) wf low =
      let x = called (codes "acc") refl (follow (binder_spells n (omega arith)) (comma_then (follow (expr_spelled_with (suc n) body wf.1 (omega arith)) (comma_then (follow (integer_spells 100_000 days wf.0) (comma_then (follow (expr_spelled_with n first wf.2 (omega arith)) closing))))))) in
      record { ascii = x.ascii; here = λ more stop. record { name = bound_name n; spelled = x.here more stop } }

-- ---- observables

offset_small : (t : ℤ) → IsOffset t → unsigned_abs t ≤ 1_000_000
offset_small t h = grind arith

observed_spells : (s : DeclaredNames) (l : ℕ) (t : ℤ) → are_names s.labels ≡ true → l < length s.labels → IsOffset t → Spells stops (observed s.labels l t) (obs_leaf s l t)
observed_spells s l t names within offset =
    called (codes "obs") refl (follow (name_spells s.labels l names within) (comma_then (follow (signed_valued offset_at t t 0 (λ left. offset_judged t left (offset_small t offset))) closing)))

-- what is well formed, with numbers of texts, can be spelled
pub spellable_with : (d : Declarations) (n : ℕ) (e : Expression) → IsWellFormed d n e → HasNumbersOfTexts e → IsSpellableWith (IsObservable d) n e
spellable_with d n (Lit m k) wf h = h
spellable_with d n (Yes b) wf h = tt
spellable_with d n (Var back) wf h = wf
spellable_with d n (Obs l t) wf h = wf
spellable_with d n (Neg e) wf h = spellable_with d n e wf h
spellable_with d n (Not e) wf h = spellable_with d n e wf h
spellable_with d n (Num op a b) wf h = (spellable_with d n a wf.0 h.0, spellable_with d n b wf.1 h.1)
spellable_with d n (Cmp op a b) wf h = (spellable_with d n a wf.0 h.0, spellable_with d n b wf.1 h.1)
spellable_with d n (Logic op a b) wf h = (spellable_with d n a wf.0 h.0, spellable_with d n b wf.1 h.1)
spellable_with d n (Cond t a b) wf h = (spellable_with d n t wf.0 h.0, spellable_with d n a wf.1 h.1, spellable_with d n b wf.2 h.2)
spellable_with d n (Widen k e) wf h = (h.0, spellable_with d n e wf h.1)
spellable_with d n (Round m k e) wf h = (h.0, spellable_with d n e wf h.1)
spellable_with d n (Div m k a b) wf h = (h.0, spellable_with d n a wf.0 h.1, spellable_with d n b wf.1 h.2)
spellable_with d n (Acc body days first) wf h =
    (h.0, spellable_with d (suc n) body (subst (λ k. IsWellFormed d k body) (add-one n) wf.0) h.1, spellable_with d n first wf.1 h.2)

pub expr_spelled : (d : Declarations) (contracts : List Bytes) (n : ℕ) (e : Expression) → are_names (keys_of d.labels) ≡ true → IsWellFormed d n e → HasNumbersOfTexts e → n + height e ≤ 999
    → Spells stops (expr_text (observed (keys_of d.labels)) n e) (expr Language.Contracts (declared_by d contracts) (bound_names n) e)
expr_spelled d contracts n e names wf h low =
    let s = declared_by d contracts in
    expr_spelled_with (obs_leaf s) (observed s.labels) (IsObservable d) (λ l t fits. observed_spells s l t names (omega (arith, fits.0, length-map d.labels (λ entry. entry.0))) fits.1) n e (spellable_with d n e wf h) low
