-- A value expression whose dates stand in a list is written as that expression, is as high, and may be printed where the
-- value expression may.
use Rattle.std.proofs.Common.{◌≡◌, ◌∙◌, ℕ, suc, pos, true, false, List, [], ◌∷◌, ◌++◌, length, Option, Some, None, refl, ap, ap₂, append_assoc, arith}
use Rattle.std.specs.Prelude.{slice_get}
use Rattle.contract_grammar.specs.Names.{DeclaredNames}
use Rattle.term_model.specs.Sizes.{height}
use Rattle.term_model.specs.Terms.{Expression}
use Rattle.contract_print.specs.TermTexts.{expr_text}
use Rattle.contract_grammar.specs.Writable.{IsWritable}
use Rattle.payoff_terms.specs.TemplateDates.{Date}
use Rattle.payoff_terms.specs.Dating.{undated}
use Rattle.payoff_terms.specs.Code.{ValueExpression, Lit, Yes, Var, Model, Neg, Num, Cmp, Not, Logic, Cond, Widen, Round, Div, Acc}
use Rattle.payoff_lang.specs.CodeTexts.{date_text, modelled, value_text}
use Rattle.payoff_lang.specs.Numbered.{numbered, with_dates, modelled_at}
use Rattle.payoff_terms.specs.WritableCode.{IsWritableValue}
use Rattle.payoff_lang.specs.LawsTexts.{ValuesAreWrittenAsExpressions}

-- one list stands at the front of another
abbrev Leads : List Date → List Date → Type 0
Leads few all = (more : List Date) × (all ≡ few ++ more)

then_leads : (xs ys zs : List Date) → Leads xs ys → Leads ys zs → Leads xs zs
then_leads xs ys zs p q =
    (p.0 ++ q.0, q.1 ∙ ap (λ (us : List Date). us ++ q.0) p.1 ∙ append_assoc xs p.0 q.0)

stay : (xs : List Date) → Leads xs xs
stay [] = ([], refl)
stay (x ∷ xs) = let p = stay xs in (p.0, ap (λ (us : List Date). x ∷ us) p.1)

grows_two : (dates : List Date) (v w : ValueExpression) → Leads dates (with_dates dates v) → Leads (with_dates dates v) (with_dates (with_dates dates v) w) → Leads dates (with_dates (with_dates dates v) w)
grows_two dates v w p q = then_leads dates (with_dates dates v) (with_dates (with_dates dates v) w) p q

-- the dates of a value expression stand behind those that stood
grows : (dates : List Date) (v : ValueExpression) → Leads dates (with_dates dates v)
grows dates (Lit m k) = stay dates
grows dates (Yes b) = stay dates
grows dates (Var back) = stay dates
grows dates (Model l x) = (x ∷ [], refl)
grows dates (Neg v) = grows dates v
grows dates (Num op v w) = grows_two dates v w (grows dates v) (grows (with_dates dates v) w)
grows dates (Cmp op v w) = grows_two dates v w (grows dates v) (grows (with_dates dates v) w)
grows dates (Not v) = grows dates v
grows dates (Logic op v w) = grows_two dates v w (grows dates v) (grows (with_dates dates v) w)
grows dates (Cond t v w) =
    let two = grows_two dates t v (grows dates t) (grows (with_dates dates t) v) in
    then_leads dates (with_dates (with_dates dates t) v) (with_dates (with_dates (with_dates dates t) v) w) two (grows (with_dates (with_dates dates t) v) w)
grows dates (Widen k v) = grows dates v
grows dates (Round m k v) = grows dates v
grows dates (Div m k v w) = grows_two dates v w (grows dates v) (grows (with_dates dates v) w)
grows dates (Acc body days first) = grows_two dates body first (grows dates body) (grows (with_dates dates body) first)

found : (dates more : List Date) (x : Date) → slice_get ((dates ++ x ∷ []) ++ more) (length dates) ≡ Some x
found [] more x = refl
found (y ∷ dates) more x = found dates more x

found_in : (all dates more : List Date) (x : Date) → all ≡ (dates ++ x ∷ []) ++ more → slice_get all (length dates) ≡ Some x
found_in all dates more x is = ap (λ (us : List Date). slice_get us (length dates)) is ∙ found dates more x

-- the date at the index of a leaf
leaf_written : (s : DeclaredNames) (all dates : List Date) (l : ℕ) (x : Date) → Leads (dates ++ x ∷ []) all → modelled_at s all l (pos (length dates)) ≡ modelled s l (date_text s x)
leaf_written s all dates l x front =
    ap (λ (o : Option Date). modelled s l (elim o [ Some y ↦ date_text s y | None ↦ [] ])) (found_in all dates front.0 x front.1)

-- over a list in which its dates stand, the expression is written as the value expression
pub written : (s : DeclaredNames) (all : List Date) (n : ℕ) (dates : List Date) (v : ValueExpression) → Leads (with_dates dates v) all → expr_text (modelled_at s all) n (numbered dates v) ≡ value_text s n v
written s all n dates (Lit m k) front = refl
written s all n dates (Yes true) front = refl
written s all n dates (Yes false) front = refl
written s all n dates (Var back) front = refl
written s all n dates (Model l x) front = leaf_written s all dates l x front
written s all n dates (Neg v) front = let p = written s all n dates v front in cc
written s all n dates (Num op v w) front =
    let one = then_leads (with_dates dates v) (with_dates (with_dates dates v) w) all (grows (with_dates dates v) w) front in
    let p = written s all n dates v one in
    let q = written s all n (with_dates dates v) w front in
    cc
written s all n dates (Cmp op v w) front =
    let one = then_leads (with_dates dates v) (with_dates (with_dates dates v) w) all (grows (with_dates dates v) w) front in
    let p = written s all n dates v one in
    let q = written s all n (with_dates dates v) w front in
    cc
written s all n dates (Not v) front = let p = written s all n dates v front in cc
written s all n dates (Logic op v w) front =
    let one = then_leads (with_dates dates v) (with_dates (with_dates dates v) w) all (grows (with_dates dates v) w) front in
    let p = written s all n dates v one in
    let q = written s all n (with_dates dates v) w front in
    cc
written s all n dates (Cond t v w) front =
    let two = then_leads (with_dates (with_dates dates t) v) (with_dates (with_dates (with_dates dates t) v) w) all (grows (with_dates (with_dates dates t) v) w) front in
    let one = then_leads (with_dates dates t) (with_dates (with_dates dates t) v) all (grows (with_dates dates t) v) two in
    let p = written s all n dates t one in
    let q = written s all n (with_dates dates t) v two in
    let r = written s all n (with_dates (with_dates dates t) v) w front in
    cc
written s all n dates (Widen k v) front = let p = written s all n dates v front in cc
written s all n dates (Round m k v) front = let p = written s all n dates v front in cc
written s all n dates (Div m k v w) front =
    let one = then_leads (with_dates dates v) (with_dates (with_dates dates v) w) all (grows (with_dates dates v) w) front in
    let p = written s all n dates v one in
    let q = written s all n (with_dates dates v) w front in
    cc
written s all n dates (Acc body days first) front =
    let one = then_leads (with_dates dates body) (with_dates (with_dates dates body) first) all (grows (with_dates dates body) first) front in
    let p = written s all (suc n) dates body one in
    let q = written s all n (with_dates dates body) first front in
    cc

pub written_whole : ValuesAreWrittenAsExpressions
written_whole s n v = written s (with_dates [] v) n [] v (stay (with_dates [] v))

pub written_as : (s : DeclaredNames) (n : ℕ) (v : ValueExpression) (e : Expression) (dates : List Date) → e ≡ numbered [] v → dates ≡ with_dates [] v → expr_text (modelled_at s dates) n e ≡ value_text s n v
written_as s n v e dates p q = ap₂ (λ (us : List Date) (x : Expression). expr_text (modelled_at s us) n x) q p ∙ written_whole s n v

-- dates have no part in the height
pub height_numbered : (dates : List Date) (v : ValueExpression) → height (numbered dates v) ≡ height (undated v)
height_numbered dates (Lit m k) = refl
height_numbered dates (Yes b) = refl
height_numbered dates (Var back) = refl
height_numbered dates (Model l x) = refl
height_numbered dates (Neg v) = omega (arith, height_numbered dates v)
height_numbered dates (Num op v w) = omega (arith, height_numbered dates v, height_numbered (with_dates dates v) w)
height_numbered dates (Cmp op v w) = omega (arith, height_numbered dates v, height_numbered (with_dates dates v) w)
height_numbered dates (Not v) = omega (arith, height_numbered dates v)
height_numbered dates (Logic op v w) = omega (arith, height_numbered dates v, height_numbered (with_dates dates v) w)
height_numbered dates (Cond t v w) =
    omega (arith, height_numbered dates t, height_numbered (with_dates dates t) v, height_numbered (with_dates (with_dates dates t) v) w)
height_numbered dates (Widen k v) = omega (arith, height_numbered dates v)
height_numbered dates (Round m k v) = omega (arith, height_numbered dates v)
height_numbered dates (Div m k v w) = omega (arith, height_numbered dates v, height_numbered (with_dates dates v) w)
height_numbered dates (Acc body days first) = omega (arith, height_numbered dates body, height_numbered (with_dates dates body) first)

pub writable_numbered : (n : ℕ) (dates : List Date) (v : ValueExpression) → IsWritableValue n v → IsWritable n (numbered dates v)
writable_numbered n dates (Lit m k) h = h
writable_numbered n dates (Yes b) h = tt
writable_numbered n dates (Var back) h = h
writable_numbered n dates (Model l x) h = tt
writable_numbered n dates (Neg v) h = writable_numbered n dates v h
writable_numbered n dates (Num op v w) h = (writable_numbered n dates v h.0, writable_numbered n (with_dates dates v) w h.1)
writable_numbered n dates (Cmp op v w) h = (writable_numbered n dates v h.0, writable_numbered n (with_dates dates v) w h.1)
writable_numbered n dates (Not v) h = writable_numbered n dates v h
writable_numbered n dates (Logic op v w) h = (writable_numbered n dates v h.0, writable_numbered n (with_dates dates v) w h.1)
writable_numbered n dates (Cond t v w) h =
    (writable_numbered n dates t h.0, writable_numbered n (with_dates dates t) v h.1, writable_numbered n (with_dates (with_dates dates t) v) w h.2)
writable_numbered n dates (Widen k v) h = writable_numbered n dates v h
writable_numbered n dates (Round m k v) h = writable_numbered n dates v h
writable_numbered n dates (Div m k v w) h = (writable_numbered n dates v h.0, writable_numbered n (with_dates dates v) w h.1)
writable_numbered n dates (Acc body days first) h =
    (writable_numbered (suc n) dates body h.0, writable_numbered n (with_dates dates body) first h.1)
