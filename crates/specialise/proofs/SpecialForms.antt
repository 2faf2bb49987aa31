-- What is specialised is well formed.
use Rattle.std.proofs.Common.{ℕ, ℤ, pos, ◌-ℤ◌, ◌+◌, Option, None}
use Rattle.term_model.specs.Declarations.{Declarations}
use Rattle.term_model.specs.declared.values.Kind.{Kind}
use Rattle.term_model.specs.declared.values.Kind.TheVariants.{Truth as TruthKind, Number}
use Rattle.term_model.specs.declared.values.Value.{Value}
use Rattle.term_model.specs.Terms.{Expression, Lit, Yes, Var, Obs, Neg, Num, Cmp, Not, Logic, Cond, Widen, Round, Div, Acc}
use Rattle.term_model.specs.Terms.{Zero, Pay, Both, Scale, After, Let, Within}
use Rattle.term_model.specs.Environments.{Environment}
use Rattle.term_model.specs.Flows.{count_of}
use Rattle.term_model.specs.WellFormed.{IsWellFormed}
use Rattle.term_model.specs.Redexes.{moved}
use Rattle.rewriting.specs.Replacing.{literal_of}
use Rattle.specialise.specs.Specialising.{specialised}
use Rattle.specialise.proofs.ToldFacts.{told_cases}
use Rattle.specialise.specs.LawsAccepted.{SpecialisedIsWellFormed}

pub literal_formed : (d : Declarations) (k : Kind) (v : Value) (j : ℕ) → IsWellFormed d j (literal_of k v)
literal_formed d TruthKind v j = tt
literal_formed d (Number s) v j = tt

pub special_formed : (d : Declarations) (F : Environment) (o : Option ℤ) (e : Expression) (j : ℕ) → IsWellFormed d j e → IsWellFormed d j (specialised d F o e)
special_formed d F o (Lit m s) j h = tt
special_formed d F o (Yes b) j h = tt
special_formed d F o (Var back) j h = h
special_formed d F o (Obs l u) j h = told_cases (λ y. IsWellFormed d j y) d F o (Obs l u) (Obs l u) (λ f k e. literal_formed d k _ j) (λ _. h)
special_formed d F o (Neg e) j h = special_formed d F o e j h
special_formed d F o (Num op a b) j h = (special_formed d F o a j h.0, special_formed d F o b j h.1)
special_formed d F o (Cmp op a b) j h = (special_formed d F o a j h.0, special_formed d F o b j h.1)
special_formed d F o (Not e) j h = special_formed d F o e j h
special_formed d F o (Logic op a b) j h = (special_formed d F o a j h.0, special_formed d F o b j h.1)
special_formed d F o (Cond c a b) j h = (special_formed d F o c j h.0, special_formed d F o a j h.1, special_formed d F o b j h.2)
special_formed d F o (Widen s e) j h = special_formed d F o e j h
special_formed d F o (Round mode s e) j h = special_formed d F o e j h
special_formed d F o (Div mode s a b) j h = (special_formed d F o a j h.0, special_formed d F o b j h.1)
special_formed d F o (Acc body n first) j h =
    told_cases (λ y. IsWellFormed d j y) d F o (Acc body n first) (Acc (specialised d F None body) n (specialised d F (moved (pos 0 -ℤ pos n) o) first)) (λ f k e. literal_formed d k _ j) (λ _. (special_formed d F None body (j + 1) h.0, special_formed d F (moved (pos 0 -ℤ pos n) o) first j h.1))

pub contract_formed : SpecialisedIsWellFormed
contract_formed d F o Zero j h n = (tt, tt)
contract_formed d F o (Pay a p q) j h n = (h, tt)
contract_formed d F o (Both a b) j h n =
    let x = contract_formed d F o a j h.0 n.0 in
    let y = contract_formed d F o b j h.1 n.1 in
    ((x.0, y.0), (x.1, y.1))
contract_formed d F o (Scale e c) j h n =
    let x = contract_formed d F o c j h.1 n in
    ((special_formed d F o e j h.0, x.0), x.1)
contract_formed d F o (After m c) j h n =
    let x = contract_formed d F (moved (pos (count_of m)) o) c j h.1 n.1 in
    ((h.0, x.0), (n.0, x.1))
contract_formed d F o (Let e c) j h n =
    let x = contract_formed d F o c (j + 1) h.1 n in
    ((special_formed d F o e j h.0, x.0), x.1)
contract_formed d F o (Within e m a b) j h n =
    let x = contract_formed d F None a j h.2 n.1 in
    let y = contract_formed d F (moved (pos (count_of m)) o) b j h.3 n.2 in
    ((special_formed d F None e j h.0, h.1, x.0, y.0), (n.0, x.1, y.1))
