-- The literals that are put meet the rules, so they are such as can be printed.
use Rattle.std.proofs.Common.{◌≤◌, ℕ, ℤ, pos, ◌-ℤ◌, true, ◌&&◌, nat_le, IsTrue, unsigned_abs, Option, None, List, [], ◌∷◌, sym, subst, arith}
use Rattle.std.proofs.lemmas.Bool.Decides.{nat_tests}
use Rattle.term_model.specs.Declarations.{Declarations}
use Rattle.term_model.specs.Limits.{greatest_mantissa}
use Rattle.term_model.specs.declared.values.Kind.{Kind}
use Rattle.term_model.specs.declared.values.Kind.TheVariants.{Truth as TruthKind, Number}
use Rattle.term_model.specs.declared.values.Value.{Value}
use Rattle.term_model.specs.Terms.{Expression, Lit, Yes, Var, Obs, Neg, Num, Cmp, Not, Logic, Cond, Widen, Round, Div, Acc}
use Rattle.term_model.specs.Terms.{Contract, Zero, Pay, Both, Scale, After, Let, Within}
use Rattle.term_model.specs.Environments.{Environment}
use Rattle.term_model.specs.Values.{num}
use Rattle.term_model.specs.Flows.{count_of}
use Rattle.term_model.specs.Redexes.{moved}
use Rattle.term_model.specs.Acceptance.{IsAccepted}
use Rattle.term_model.specs.Bounds.{Range}
use Rattle.interval_check.specs.Nodes.{IsScaled, IsBounded, IsScaledContract, IsBoundedContract, range_of}
use Rattle.rewriting.specs.Replacing.{literal_of}
use Rattle.interval_check.proofs.GuaranteeFacts.{accepted_meet_rules}
use Rattle.specialise.specs.Specialising.{specialised, specialised_in}
use Rattle.term_model.specs.Literals.{HasLiterals, HasLiteralsIn}
use Rattle.specialise.proofs.ToldFacts.{told_cases}
use Rattle.specialise.proofs.SpecialSizes.{nothing_told}

least_of : (a b c e : ℕ) → IsTrue (nat_le a b && true) → IsTrue (true && (nat_le c e && nat_le c e)) → (c ≤ e) × (a ≤ b)
least_of a b c e h i = grind (arith, nat_tests)

literal_fits : (d : Declarations) (k : Kind) (v : Value) (g : List Range) → IsScaled d (literal_of k v) g → IsBounded d (literal_of k v) g → HasLiterals (literal_of k v)
literal_fits d TruthKind v g s b = tt
literal_fits d (Number n) v g s b = least_of n 27 (unsigned_abs (num v)) greatest_mantissa s b

special_literals : (d : Declarations) (F : Environment) (o : Option ℤ) (e : Expression) (g : List Range) → HasLiterals e → IsScaled d (specialised d F o e) g → IsBounded d (specialised d F o e) g → HasLiterals (specialised d F o e)
special_literals d F o (Lit m n) g h s b = h
special_literals d F o (Yes v) g h s b = tt
special_literals d F o (Var back) g h s b = tt
special_literals d F o (Obs l u) g h s b =
    told_cases (λ y. IsScaled d y g → IsBounded d y g → HasLiterals y) d F o (Obs l u) (Obs l u) (λ f k e. literal_fits d k _ g) (λ _ _ _. tt) s b
special_literals d F o (Neg e) g h s b = special_literals d F o e g h s.0 b.0
special_literals d F o (Num op x y) g h s b = (special_literals d F o x g h.0 s.0 b.0, special_literals d F o y g h.1 s.1 b.1)
special_literals d F o (Cmp op x y) g h s b = (special_literals d F o x g h.0 s.0 b.0, special_literals d F o y g h.1 s.1 b.1)
special_literals d F o (Not e) g h s b = special_literals d F o e g h s.0 b.0
special_literals d F o (Logic op x y) g h s b = (special_literals d F o x g h.0 s.0 b.0, special_literals d F o y g h.1 s.1 b.1)
special_literals d F o (Cond c x y) g h s b =
    (special_literals d F o c g h.0 s.0 b.0, special_literals d F o x g h.1 s.1 b.1, special_literals d F o y g h.2 s.2 b.2)
special_literals d F o (Widen n e) g h s b = special_literals d F o e g h s.0 b.0
special_literals d F o (Round mode n e) g h s b = special_literals d F o e g h s.0 b.0
special_literals d F o (Div mode n x y) g h s b = (special_literals d F o x g h.0 s.0 b.0, special_literals d F o y g h.1 s.1 b.1)
special_literals d F o (Acc body n first) g h s b =
    let start = moved (pos 0 -ℤ pos n) o in
    told_cases (λ y. IsScaled d y g → IsBounded d y g → HasLiterals y) d F o (Acc body n first) (Acc (specialised d F None body) n (specialised d F start first)) (λ f k e. literal_fits d k _ g)
    (λ _ t c. (subst (λ (x : Expression). HasLiterals x) (sym (nothing_told d F body)) h.0, special_literals d F start first g h.1 t.0 c.0)) s b

special_literals_in : (d : Declarations) (F : Environment) (o : Option ℤ) (c : Contract) (g : List Range) → HasLiteralsIn c → IsScaledContract d (specialised_in d F o c) g → IsBoundedContract d (specialised_in d F o c) g → HasLiteralsIn (specialised_in d F o c)
special_literals_in d F o Zero g h s b = tt
special_literals_in d F o (Pay x p q) g h s b = tt
special_literals_in d F o (Both x y) g h s b = (special_literals_in d F o x g h.0 s.0 b.0, special_literals_in d F o y g h.1 s.1 b.1)
special_literals_in d F o (Scale e c) g h s b = (special_literals d F o e g h.0 s.0 b.0, special_literals_in d F o c g h.1 s.1 b.1)
special_literals_in d F o (After n c) g h s b = special_literals_in d F (moved (pos (count_of n)) o) c g h s.0 b.0
special_literals_in d F o (Let e c) g h s b =
    (special_literals d F o e g h.0 s.0 b.0, special_literals_in d F o c (range_of d (specialised d F o e) g ∷ g) h.1 s.1 b.1)
special_literals_in d F o (Within e n x y) g h s b = (
  special_literals d F None e g h.0 s.0 b.0,
  special_literals_in d F None x g h.1 s.1 b.1,
  special_literals_in d F (moved (pos (count_of n)) o) y g h.2 s.2 b.2,
)

-- so are those of what is specialised of a contract with such literals
pub literals_stay : (d : Declarations) (F : Environment) (o : Option ℤ) (c : Contract) → IsAccepted d (specialised_in d F o c) → HasLiteralsIn c → HasLiteralsIn (specialised_in d F o c)
literals_stay d F o c a h =
    let rules = accepted_meet_rules d (specialised_in d F o c) a in
    special_literals_in d F o c [] h rules.scales rules.bounds
