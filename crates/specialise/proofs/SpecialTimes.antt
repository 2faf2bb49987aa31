-- Types stay.
use Rattle.std.proofs.Common.{ℤ, pos, ◌+ℤ◌, ◌-ℤ◌, Option, None, List, ◌∷◌}
use Rattle.term_model.specs.Declarations.{Declarations}
use Rattle.term_model.specs.declared.values.Kind.{Kind}
use Rattle.term_model.specs.declared.values.Kind.TheVariants.{Truth as TruthKind, Number}
use Rattle.term_model.specs.declared.values.Value.{Value}
use Rattle.term_model.specs.Terms.{Expression, Lit, Yes, Var, Obs, Neg, Num, Cmp, Not, Logic, Cond, Widen, Round, Div, Acc}
use Rattle.term_model.specs.Terms.{Zero, Pay, Both, Scale, After, Let, Within}
use Rattle.term_model.specs.Environments.{Environment}
use Rattle.term_model.specs.Flows.{count_of}
use Rattle.term_model.specs.Times.{Typed, raised_by, lowered_by}
use Rattle.term_model.specs.Redexes.{moved}
use Rattle.rewriting.specs.Replacing.{literal_of}
use Rattle.specialise.specs.Specialising.{specialised}
use Rattle.specialise.proofs.ToldFacts.{told_cases}
use Rattle.specialise.specs.LawsAccepted.{SpecialisedIsTyped}

pub literal_typed : (k : Kind) (v : Value) (g : List ℤ) (t : ℤ) → Typed g (literal_of k v) t
literal_typed TruthKind v g t = tt
literal_typed (Number s) v g t = tt

pub special_typed : (d : Declarations) (F : Environment) (o : Option ℤ) (e : Expression) (g : List ℤ) (t : ℤ) → Typed g e t → Typed g (specialised d F o e) t
special_typed d F o (Lit m s) g t h = tt
special_typed d F o (Yes b) g t h = tt
special_typed d F o (Var back) g t h = h
special_typed d F o (Obs l u) g t h = told_cases (λ y. Typed g y t) d F o (Obs l u) (Obs l u) (λ f k e. literal_typed k _ g t) (λ _. h)
special_typed d F o (Neg e) g t h = special_typed d F o e g t h
special_typed d F o (Num op a b) g t h = (special_typed d F o a g t h.0, special_typed d F o b g t h.1)
special_typed d F o (Cmp op a b) g t h = (special_typed d F o a g t h.0, special_typed d F o b g t h.1)
special_typed d F o (Not e) g t h = special_typed d F o e g t h
special_typed d F o (Logic op a b) g t h = (special_typed d F o a g t h.0, special_typed d F o b g t h.1)
special_typed d F o (Cond c a b) g t h = (special_typed d F o c g t h.0, special_typed d F o a g t h.1, special_typed d F o b g t h.2)
special_typed d F o (Widen s e) g t h = special_typed d F o e g t h
special_typed d F o (Round mode s e) g t h = special_typed d F o e g t h
special_typed d F o (Div mode s a b) g t h = (special_typed d F o a g t h.0, special_typed d F o b g t h.1)
special_typed d F o (Acc body n first) g t h =
    told_cases (λ y. Typed g y t) d F o (Acc body n first) (Acc (specialised d F None body) n (specialised d F (moved (pos 0 -ℤ pos n) o) first)) (λ f k e. literal_typed k _ g t) (λ _. (special_typed d F None body (t ∷ g) t h.0, special_typed d F (moved (pos 0 -ℤ pos n) o) first (raised_by n g) (t +ℤ pos n) h.1))

pub contract_typed : SpecialisedIsTyped
contract_typed d F o Zero g t h = tt
contract_typed d F o (Pay a p q) g t h = h
contract_typed d F o (Both a b) g t h = (contract_typed d F o a g t h.0, contract_typed d F o b g t h.1)
contract_typed d F o (Scale e c) g t h = (h.0, h.1, special_typed d F o e g h.0 h.2, contract_typed d F o c g h.0 h.3)
contract_typed d F o (After n c) g t h = contract_typed d F (moved (pos (count_of n)) o) c (lowered_by (count_of n) g) (t -ℤ pos (count_of n)) h
contract_typed d F o (Let e c) g t h = (h.0, special_typed d F o e g h.0 h.1, contract_typed d F o c (h.0 ∷ g) t h.2)
contract_typed d F o (Within e n a b) g t h =
    (special_typed d F None e g (pos 0) h.0, contract_typed d F None a g t h.1, contract_typed d F (moved (pos (count_of n)) o) b (lowered_by (count_of n) g) (t -ℤ pos (count_of n)) h.2)
