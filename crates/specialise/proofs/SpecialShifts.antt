-- What is specialised on a frame, of an expression that is read some days later.
use Rattle.std.proofs.Common.{◌≡◌, ℕ, ℤ, pos, ◌+ℤ◌, ◌-ℤ◌, ◌+◌, Bool, true, false, if◌then◌else◌, Option, Some, None, [], refl, ap, ap₂, ◌∙◌, arith}
use Rattle.std.proofs.lemmas.Int.{ints}
use Rattle.std.specs.List.{list_all}
use Rattle.term_model.specs.Declarations.{Declarations}
use Rattle.term_model.specs.declared.values.Kind.{Kind}
use Rattle.term_model.specs.declared.values.Kind.TheVariants.{Truth as TruthKind, Number}
use Rattle.term_model.specs.declared.values.Value.{Value}
use Rattle.term_model.specs.Terms.{Expression, Lit, Yes, Var, Obs, Neg, Num, Cmp, Not, Logic, Cond, Widen, Round, Div, Acc}
use Rattle.term_model.specs.Environments.{Environment}
use Rattle.term_model.specs.Kinds.{kind_of}
use Rattle.term_model.specs.Values.{value_of}
use Rattle.term_model.specs.Reads.{is_fixed}
use Rattle.term_model.specs.Shifts.{shifted}
use Rattle.term_model.specs.Redexes.{names_within, reads_are_fixed, moved}
use Rattle.term_model.proofs.ShiftFacts.{kind-shifted, value-shifted}
use Rattle.term_model.proofs.ReadShiftFacts.{reads-shifted}
use Rattle.specialise.specs.Specialising.{is_known, literal_or, told, told_or, specialised}
use Rattle.specialise.specs.LawsSpecial.{SpecialisedShifts}
use Rattle.specialise.proofs.SpecialRedexes.{and_same}

pub names-shifted : (e : Expression) (k : ℤ) (j : ℕ) → names_within j (shifted k e) ≡ names_within j e
names-shifted (Lit m s) k j = refl
names-shifted (Yes b) k j = refl
names-shifted (Var back) k j = refl
names-shifted (Obs l t) k j = refl
names-shifted (Neg e) k j = names-shifted e k j
names-shifted (Num op a b) k j = and_same _ _ _ _ (names-shifted a k j) (names-shifted b k j)
names-shifted (Cmp op a b) k j = and_same _ _ _ _ (names-shifted a k j) (names-shifted b k j)
names-shifted (Not e) k j = names-shifted e k j
names-shifted (Logic op a b) k j = and_same _ _ _ _ (names-shifted a k j) (names-shifted b k j)
names-shifted (Cond t a b) k j = and_same _ _ _ _ (names-shifted t k j) (and_same _ _ _ _ (names-shifted a k j) (names-shifted b k j))
names-shifted (Widen s e) k j = names-shifted e k j
names-shifted (Round mode s e) k j = names-shifted e k j
names-shifted (Div mode s a b) k j = and_same _ _ _ _ (names-shifted a k j) (names-shifted b k j)
names-shifted (Acc body n first) k j = and_same _ _ _ _ (names-shifted body k (j + 1)) (names-shifted first k j)

literal_shifted : (o : Option Kind) (v : Value) (k : ℤ) (other : Expression) → literal_or o v (shifted k other) ≡ shifted k (literal_or o v other)
literal_shifted None v k other = refl
literal_shifted (Some TruthKind) v k other = refl
literal_shifted (Some (Number s)) v k other = refl

told_shifted : (d : Declarations) (F : Environment) (o : Option ℤ) (e other : Expression) (k : ℤ) → told d F o (shifted k e) (shifted k other) ≡ shifted k (told d F (moved k o) e other)
told_shifted d F None e other k = refl
told_shifted d F (Some f) e other k =
    ap₂ (λ (r : Option Kind) (v : Value). literal_or r v (shifted k other)) (kind-shifted d e k []) (value-shifted d e k [] F f) ∙ literal_shifted (kind_of d e []) (value_of d e [] F (f +ℤ k)) k other

fixed_shifted : (d : Declarations) (F : Environment) (o : Option ℤ) (e : Expression) (k : ℤ) → reads_are_fixed d F o (shifted k e) ≡ reads_are_fixed d F (moved k o) e
fixed_shifted d F None e k = refl
fixed_shifted d F (Some f) e k = ap (list_all (is_fixed F)) (reads-shifted d e k [] [] F f)

if_shifted : (b c : Bool) (x y u v : Expression) (k : ℤ) → b ≡ c → x ≡ shifted k u → y ≡ shifted k v → (if b then x else y) ≡ shifted k (if c then u else v)
if_shifted true true x y u v k e h i = h
if_shifted true false x y u v k e h i = absurd (cc)
if_shifted false true x y u v k e h i = absurd (cc)
if_shifted false false x y u v k e h i = i

told_or_shifted : (d : Declarations) (F : Environment) (o : Option ℤ) (e other : Expression) (k : ℤ) → told_or d F o (shifted k e) (shifted k other) ≡ shifted k (told_or d F (moved k o) e other)
told_or_shifted d F o e other k =
    if_shifted (is_known d F o (shifted k e)) (is_known d F (moved k o) e) _ _ _ _ k (and_same _ _ _ _ (names-shifted e k 0) (fixed_shifted d F o e k)) (told_shifted d F o e other k) refl

moved_twice : (o : Option ℤ) (a b : ℤ) → moved a (moved b o) ≡ moved b (moved a o)
moved_twice None a b = refl
moved_twice (Some f) a b = ap (λ (x : ℤ). Some x) (omega (arith, ints))

pub special_shifts : SpecialisedShifts
special_shifts d F o (Lit m s) k = refl
special_shifts d F o (Yes b) k = refl
special_shifts d F o (Var back) k = refl
special_shifts d F o (Obs l t) k = told_or_shifted d F o (Obs l t) (Obs l t) k
special_shifts d F o (Neg e) k = ap Neg (special_shifts d F o e k)
special_shifts d F o (Num op a b) k = ap₂ (Num op) (special_shifts d F o a k) (special_shifts d F o b k)
special_shifts d F o (Cmp op a b) k = ap₂ (Cmp op) (special_shifts d F o a k) (special_shifts d F o b k)
special_shifts d F o (Not e) k = ap Not (special_shifts d F o e k)
special_shifts d F o (Logic op a b) k = ap₂ (Logic op) (special_shifts d F o a k) (special_shifts d F o b k)
special_shifts d F o (Cond t a b) k =
    ap₂ (λ (x y : Expression). Cond x y (specialised d F o (shifted k b))) (special_shifts d F o t k) (special_shifts d F o a k) ∙ ap (Cond (shifted k (specialised d F (moved k o) t)) (shifted k (specialised d F (moved k o) a))) (special_shifts d F o b k)
special_shifts d F o (Widen s e) k = ap (Widen s) (special_shifts d F o e k)
special_shifts d F o (Round mode s e) k = ap (Round mode s) (special_shifts d F o e k)
special_shifts d F o (Div mode s a b) k = ap₂ (Div mode s) (special_shifts d F o a k) (special_shifts d F o b k)
special_shifts d F o (Acc body n first) k =
    let back = pos 0 -ℤ pos n in
    ap (told_or d F o (shifted k (Acc body n first)))
    (ap₂ (λ (x y : Expression). Acc x n y) (special_shifts d F None body k) (special_shifts d F (moved back o) first k ∙ ap (λ (r : Option ℤ). shifted k (specialised d F r first)) (moved_twice o k back)))
    ∙ told_or_shifted d F o (Acc body n first) (Acc (specialised d F None body) n (specialised d F (moved back (moved k o)) first)) k
