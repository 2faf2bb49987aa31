-- An accumulator is told where it stands by itself and an evaluation answers a value; else its start alone changes.
use Rattle.std.proofs.Common.{◌≡◌, ℕ, ℤ, pos, ◌-ℤ◌, Bool, true, false, ◌&&◌, if◌then◌else◌, Option, Some, None, List, [], ◌∷◌, Result, Ok, Err, refl, ap, ap₂, sym, subst, ◌∙◌, arith}
use Rattle.std.proofs.lemmas.Int.{ints}
use Rattle.std.specs.List.{list_all}
use Rattle.term_model.specs.Declarations.{Declarations}
use Rattle.term_model.specs.declared.values.Kind.{Kind}
use Rattle.term_model.specs.declared.values.Value.{Value}
use Rattle.term_model.specs.declared.values.Missing.{Missing}
use Rattle.term_model.specs.Terms.{Expression, Lit, Yes, Var, Obs, Neg, Num, Cmp, Not, Logic, Cond, Widen, Round, Div, Acc}
use Rattle.term_model.specs.Environments.{Environment, Place}
use Rattle.term_model.specs.Kinds.{kind_of}
use Rattle.term_model.specs.Values.{value_of}
use Rattle.term_model.specs.Reads.{reads_of, is_fixed, first_unfixed}
use Rattle.term_model.specs.Redexes.{names_within, moved}
use Rattle.term_model.proofs.ReadLawFacts.{all_fixed}
use Rattle.rewriting.specs.Replacing.{literal_of}
use Rattle.expr_eval.specs.declared.scratch.Binding.{Binding}
use Rattle.expr_eval.specs.Rooms.{kinds_of}
use Rattle.expr_eval.specs.Standing.{place_of}
use Rattle.expr_eval.specs.Answers.{IsAnswer}
use Rattle.specialise.specs.Specialising.{specialised, told, told_or, literal_or, is_known}
use Rattle.specialise.specs.WalkAnswers.{steps_left, IsAccumulator}
use Rattle.specialise.proofs.SpecialSizes.{nothing_told}
use Rattle.specialise.proofs.StandingFacts.{is_low, closed_may_evaluate}

-- some place is not fixed
some_unfixed : (fixings : Environment) (q : Place) (qs : List Place) → first_unfixed fixings qs ≡ Some q → list_all (is_fixed fixings) qs ≡ false
some_unfixed fixings q [] h = absurd (cc)
some_unfixed fixings q (p ∷ ps) h = at (is_fixed fixings p) (λ k. some_unfixed fixings q ps k) h
  where
    at : (b : Bool) → (first_unfixed fixings ps ≡ Some q → list_all (is_fixed fixings) ps ≡ false) → (if b then first_unfixed fixings ps else Some p) ≡ Some q → (b && list_all (is_fixed fixings) ps) ≡ false
    at true rest i = rest i
    at false rest i = refl

-- the other, where a part is not known
not_told : (d : Declarations) (fixings : Environment) (f : ℤ) (e other : Expression) → is_known d fixings (Some f) e ≡ false → told_or d fixings (Some f) e other ≡ other
not_told d fixings f e other h = ap (λ (b : Bool). if b then told d fixings (Some f) e other else other) h

-- the literal of its value, where it is
is_told : (d : Declarations) (fixings : Environment) (f : ℤ) (e other : Expression) (k : Kind) (v : Value) → is_known d fixings (Some f) e ≡ true → kind_of d e [] ≡ Some k → value_of d e [] fixings f ≡ v → told_or d fixings (Some f) e other ≡ literal_of k v
is_told d fixings f e other k v h i j =
    ap (λ (b : Bool). if b then told d fixings (Some f) e other else other) h ∙ ap₂ (λ (o : Option Kind) (u : Value). literal_or o u other) i j

-- what is left of an accumulator that is not known
steps_other : (d : Declarations) (fixings : Environment) (f : ℤ) (body first : Expression) (n : ℕ) → Acc body n (specialised d fixings (Some (f -ℤ pos n)) first) ≡ Acc (specialised d fixings None body) n (specialised d fixings (moved (pos 0 -ℤ pos n) (Some f)) first)
steps_other d fixings f body first n =
    ap₂ (λ (x y : Expression). Acc x n y) (sym (nothing_told d fixings body)) (ap (λ (h : ℤ). specialised d fixings (Some h) first) (omega (arith, ints)))

pub steps_stay : (d : Declarations) (fixings : Environment) (f : ℤ) (e : Expression) → IsAccumulator e → is_known d fixings (Some f) e ≡ false → steps_left (record { decls = d; fixings = fixings }) f e ≡ specialised d fixings (Some f) e
steps_stay d fixings f (Acc body n first) a h =
    steps_other d fixings f body first n ∙ sym (not_told d fixings f (Acc body n first) _ h)
steps_stay d fixings f (Lit m s) a h = absurd a
steps_stay d fixings f (Yes b) a h = absurd a
steps_stay d fixings f (Var back) a h = absurd a
steps_stay d fixings f (Obs l t) a h = absurd a
steps_stay d fixings f (Neg x) a h = absurd a
steps_stay d fixings f (Num op x y) a h = absurd a
steps_stay d fixings f (Cmp op x y) a h = absurd a
steps_stay d fixings f (Not x) a h = absurd a
steps_stay d fixings f (Logic op x y) a h = absurd a
steps_stay d fixings f (Cond t x y) a h = absurd a
steps_stay d fixings f (Widen s x) a h = absurd a
steps_stay d fixings f (Round mode s x) a h = absurd a
steps_stay d fixings f (Div mode s x y) a h = absurd a

pub steps_told : (d : Declarations) (fixings : Environment) (f : ℤ) (e : Expression) (k : Kind) (v : Value) → IsAccumulator e → is_known d fixings (Some f) e ≡ true → kind_of d e [] ≡ Some k → value_of d e [] fixings f ≡ v → literal_of k v ≡ specialised d fixings (Some f) e
steps_told d fixings f (Acc body n first) k v a h i j = sym (is_told d fixings f (Acc body n first) _ k v h i j)
steps_told d fixings f (Lit m s) k v a h i j = absurd a
steps_told d fixings f (Yes b) k v a h i j = absurd a
steps_told d fixings f (Var back) k v a h i j = absurd a
steps_told d fixings f (Obs l t) k v a h i j = absurd a
steps_told d fixings f (Neg x) k v a h i j = absurd a
steps_told d fixings f (Num op x y) k v a h i j = absurd a
steps_told d fixings f (Cmp op x y) k v a h i j = absurd a
steps_told d fixings f (Not x) k v a h i j = absurd a
steps_told d fixings f (Logic op x y) k v a h i j = absurd a
steps_told d fixings f (Cond t x y) k v a h i j = absurd a
steps_told d fixings f (Widen s x) k v a h i j = absurd a
steps_told d fixings f (Round mode s x) k v a h i j = absurd a
steps_told d fixings f (Div mode s x y) k v a h i j = absurd a

-- names from outside
pub open_stays : (d : Declarations) (fixings : Environment) (f : ℤ) (e : Expression) → IsAccumulator e → names_within 0 e ≡ false → steps_left (record { decls = d; fixings = fixings }) f e ≡ specialised d fixings (Some f) e
open_stays d fixings f e a h = steps_stay d fixings f e a (ap (λ (b : Bool). b && list_all (is_fixed fixings) (reads_of d e [] [] fixings f)) h)

-- an answer without entries
at_day : (d : Declarations) (fixings : Environment) (f : ℤ) (e : Expression) (bs : List Binding) (x r : Result Value Missing) (g : ℤ) → bs ≡ [] → r ≡ x → g ≡ f → IsAnswer d e bs fixings g r → IsAnswer d e [] fixings f x
at_day d fixings f e bs x r g none i day h =
    subst (λ (h : ℤ). IsAnswer d e [] fixings h x) day (subst (λ (y : Result Value Missing). IsAnswer d e [] fixings g y) i (subst (λ (cs : List Binding). IsAnswer d e cs fixings g r) none h))

-- a place that is lacking
pub lacking_stays : (d : Declarations) (fixings : Environment) (f : ℤ) (e : Expression) (bs : List Binding) (m : Missing) (r : Result Value Missing) (g : ℤ) → IsAccumulator e → bs ≡ [] → r ≡ Err m → g ≡ f → IsAnswer d e bs fixings g r → steps_left (record { decls = d; fixings = fixings }) f e ≡ specialised d fixings (Some f) e
lacking_stays d fixings f e bs m r g a none i day h =
    let here : IsAnswer d e [] fixings f (Err m) = at_day d fixings f e bs (Err m) r g none i day h in
    let lacks = some_unfixed fixings (place_of m) (reads_of d e [] [] fixings f) (sym (here.missing [] [] tt)) in
    steps_stay d fixings f e a (rw lacks (no_more (names_within 0 e)))
  where
    no_more : (b : Bool) → (b && false) ≡ false
    no_more true = refl
    no_more false = refl

-- a value
pub value_told : (d : Declarations) (fixings : Environment) (f : ℤ) (e : Expression) (bs cs : List Binding) (k : Kind) (v : Value) (r : Result Value Missing) (g : ℤ) → IsAccumulator e → bs ≡ [] → cs ≡ bs → r ≡ Ok v → names_within 0 e ≡ true → g ≡ f → IsAnswer d e bs fixings g r → kind_of d e (kinds_of cs) ≡ Some k → literal_of k v ≡ specialised d fixings (Some f) e
value_told d fixings f e bs cs k v r g a none same i closed day h kind =
    let here : IsAnswer d e [] fixings f (Ok v) = at_day d fixings f e bs (Ok v) r g none i day h in
    let fixed = all_fixed fixings (reads_of d e [] [] fixings f) (sym (here.missing [] [] tt)) in
    steps_told d fixings f e k v a (rw closed fixed) (ap (λ (x : List Binding). kind_of d e (kinds_of x)) (sym (same ∙ none)) ∙ kind) (here.value [] [] fixings tt (λ q u p. p))

-- what an accumulator comes to, by the tests of the walk
pub ruleset for_accumulators = (is_low, closed_may_evaluate, open_stays, lacking_stays, value_told)
