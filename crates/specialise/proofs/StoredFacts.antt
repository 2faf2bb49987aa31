-- What is specialised of a stored expression that is read some days later, and of parts whose frame is not known.
use Rattle.std.proofs.Common.{◌≡◌, ◌≤◌, ◌+◌, ℤ, pos, negsuc, ◌+ℤ◌, ◌-ℤ◌, Option, Some, None, [], refl, ap, ap₂, sym, ◌∙◌, arith}
use Rattle.std.proofs.lemmas.Int.{ints}
use Rattle.term_model.specs.Declarations.{Declarations}
use Rattle.term_model.specs.declared.values.Kind.{Kind}
use Rattle.term_model.specs.declared.values.Kind.TheVariants.{Truth as TruthKind, Number}
use Rattle.term_model.specs.declared.values.Value.{Value}
use Rattle.term_model.specs.Terms.{Expression, Lit, Yes, Var, Obs, Neg, Num, Cmp, Not, Logic, Cond, Widen, Round, Div, Acc}
use Rattle.term_model.specs.Terms.{Contract, Zero, Pay, Both, Scale, After, Let, Within}
use Rattle.term_model.specs.Environments.{Environment}
use Rattle.term_model.specs.Limits.{IsOffset}
use Rattle.term_model.specs.Shifts.{shifted}
use Rattle.term_core.specs.SharedTerms.{HasOffsets}
use Rattle.term_model.specs.Sizes.{past, days_before}
use Rattle.term_model.specs.Redexes.{moved}
use Rattle.rewriting.specs.Replacing.{literal_of}
use Rattle.expr_eval.proofs.SpanFacts.{span, span-shifted, span-past}
use Rattle.expr_eval.proofs.EvaluableFacts.{past_of_standing, past_limited}
use Rattle.specialise.specs.Specialising.{specialised, specialised_in}
use Rattle.specialise.specs.Specialisable.{MaySpecialise}
use Rattle.specialise.proofs.ToldFacts.{told_cases}
use Rattle.specialise.proofs.SpecialSizes.{nothing_told}
use Rattle.specialise.proofs.SpecialShifts.{special_shifts}

-- on no frame nothing of a contract is told
pub nothing_told_in : (d : Declarations) (F : Environment) (c : Contract) → specialised_in d F None c ≡ c
nothing_told_in d F Zero = refl
nothing_told_in d F (Pay a p q) = refl
nothing_told_in d F (Both a b) = ap₂ Both (nothing_told_in d F a) (nothing_told_in d F b)
nothing_told_in d F (Scale e c) = ap₂ Scale (nothing_told d F e) (nothing_told_in d F c)
nothing_told_in d F (After n c) = ap (After n) (nothing_told_in d F c)
nothing_told_in d F (Let e c) = ap₂ Let (nothing_told d F e) (nothing_told_in d F c)
nothing_told_in d F (Within e n a b) =
    ap₂ (λ (x : Expression) (y : Contract). Within x n y (specialised_in d F None b)) (nothing_told d F e) (nothing_told_in d F a) ∙ ap (Within e n a) (nothing_told_in d F b)

-- where it is stored, it is specialised on the day on which it is read
pub stored_special : (d : Declarations) (F : Environment) (f : ℤ) (k : ℤ) (e x : Expression) → x ≡ specialised d F (Some (f +ℤ k)) e → shifted k x ≡ specialised d F (Some f) (shifted k e)
stored_special d F f k e x h = ap (shifted k) h ∙ sym (special_shifts d F (Some f) e k)

pub literal_offsets : (k : Kind) (v : Value) → HasOffsets (literal_of k v)
literal_offsets TruthKind v = tt
literal_offsets (Number s) v = tt

-- no offset is new
pub special_offsets : (d : Declarations) (F : Environment) (o : Option ℤ) (e : Expression) → HasOffsets e → HasOffsets (specialised d F o e)
special_offsets d F o (Lit m s) h = tt
special_offsets d F o (Yes b) h = tt
special_offsets d F o (Var back) h = tt
special_offsets d F o (Obs l u) h = told_cases (λ y. HasOffsets y) d F o (Obs l u) (Obs l u) (λ f k e. literal_offsets k _) (λ _. h)
special_offsets d F o (Neg e) h = special_offsets d F o e h
special_offsets d F o (Num op a b) h = (special_offsets d F o a h.0, special_offsets d F o b h.1)
special_offsets d F o (Cmp op a b) h = (special_offsets d F o a h.0, special_offsets d F o b h.1)
special_offsets d F o (Not e) h = special_offsets d F o e h
special_offsets d F o (Logic op a b) h = (special_offsets d F o a h.0, special_offsets d F o b h.1)
special_offsets d F o (Cond c a b) h = (special_offsets d F o c h.0, special_offsets d F o a h.1, special_offsets d F o b h.2)
special_offsets d F o (Widen s e) h = special_offsets d F o e h
special_offsets d F o (Round mode s e) h = special_offsets d F o e h
special_offsets d F o (Div mode s a b) h = (special_offsets d F o a h.0, special_offsets d F o b h.1)
special_offsets d F o (Acc body n first) h =
    told_cases (λ y. HasOffsets y) d F o (Acc body n first) (Acc (specialised d F None body) n (specialised d F (moved (pos 0 -ℤ pos n) o) first)) (λ f k e. literal_offsets k _) (λ _. (special_offsets d F None body h.0, special_offsets d F (moved (pos 0 -ℤ pos n) o) first h.1))

offset_past : (t : ℤ) → IsOffset t → days_before t ≤ 1_000_000
offset_past (pos n) h = omega arith
offset_past (negsuc n) h = let low = h.0 in omega (arith, ints)

-- how far back it may read
past_by_span : (e : Expression) → HasOffsets e → past e ≤ span e + 1_000_000
past_by_span (Lit m s) h = omega arith
past_by_span (Yes b) h = omega arith
past_by_span (Var back) h = omega arith
past_by_span (Obs l t) h = offset_past t h
past_by_span (Neg e) h = past_by_span e h
past_by_span (Num op a b) h = let p = past_by_span a h.0 in let q = past_by_span b h.1 in omega arith
past_by_span (Cmp op a b) h = let p = past_by_span a h.0 in let q = past_by_span b h.1 in omega arith
past_by_span (Not e) h = past_by_span e h
past_by_span (Logic op a b) h = let p = past_by_span a h.0 in let q = past_by_span b h.1 in omega arith
past_by_span (Cond t a b) h = let o = past_by_span t h.0 in let p = past_by_span a h.1 in let q = past_by_span b h.2 in omega arith
past_by_span (Widen s e) h = past_by_span e h
past_by_span (Round mode s e) h = past_by_span e h
past_by_span (Div mode s a b) h = let p = past_by_span a h.0 in let q = past_by_span b h.1 in omega arith
past_by_span (Acc body n first) h = let p = past_by_span body h.0 in let q = past_by_span first h.1 in omega arith

pub is_near : (d : Declarations) (e : Expression) → MaySpecialise d e → past e ≤ 2_000_000
is_near d e h =
    let back = past_limited d h.part.contract h.part.accepted in
    let there = past_of_standing d (shifted h.moved e) h.part.ranges h.part.contract [] h.part.stands in
    let same = span-shifted h.moved e in
    let reached = span-past (shifted h.moved e) in
    let stored = past_by_span e h.offsets in
    omega (arith, back, there, same, reached, stored)

-- what follows for a stored expression, and for parts that stay
pub ruleset for_stored = (stored_special, special_offsets)

pub ruleset for_parts_left = (nothing_told, nothing_told_in)
