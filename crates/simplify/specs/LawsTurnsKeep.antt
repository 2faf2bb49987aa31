-- What a turn of the simplifier keeps of a contract.
use Rattle.std.specs.Prelude.{ℤ, ◌≤◌, ◌≡◌, true, List, [], ◌∷◌, Some}
use Rattle.term_model.specs.Declarations.{Declarations}
use Rattle.term_model.specs.declared.rules.Rule.TheVariants.{Sort}
use Rattle.term_model.specs.declared.values.Kind.{Kind}
use Rattle.term_model.specs.declared.values.Kind.TheVariants.{Truth as TruthKind}
use Rattle.term_model.specs.Terms.{Expression, Contract, Zero, Pay, Both, Scale, After, Let, Within}
use Rattle.term_model.specs.Environments.{Environment, Place, IsAdmitted}
use Rattle.term_model.specs.Reads.{reads_of, reads_of_contract, live}
use Rattle.term_model.specs.Residuals.{Carries}
use Rattle.term_model.specs.Kinds.{kind_of}
use Rattle.term_model.specs.Values.{Entry, kinds, kind_or}
use Rattle.term_model.specs.LawsKinds.{AreOfKinds}
use Rattle.term_model.specs.Flows.{Flow, amount_of, scale_of_contract}
use Rattle.term_model.specs.Acceptance.{Meets}
use Rattle.rewriting.specs.Keeping.{AreAmong, NamesReadLess}
use Rattle.rewriting.specs.Worth.{IsWorthTheSame}
use Rattle.simplify.specs.Turning.{turned}
use Rattle.simplify.specs.TurningContracts.{turned_in}

-- an expression has a kind
abbrev pub HasSomeKind : Declarations → Expression → List Kind → Type 0
HasSomeKind d e ks = (k : Kind) × (kind_of d e ks ≡ Some k)

-- each expression of a contract has a kind, and each test is a truth value
abbrev pub HasSorts : Declarations → Contract → List Kind → Type 0
HasSorts d Zero ks = Unit {0}
HasSorts d (Pay a p q) ks = Unit {0}
HasSorts d (Both a b) ks = HasSorts d a ks × HasSorts d b ks
HasSorts d (Scale e c) ks = HasSomeKind d e ks × HasSorts d c ks
HasSorts d (After n c) ks = HasSorts d c ks
HasSorts d (Let e c) ks = HasSomeKind d e ks × HasSorts d c (kind_or (kind_of d e ks) ∷ ks)
HasSorts d (Within e n a b) ks = (kind_of d e ks ≡ Some TruthKind) × HasSorts d a ks × HasSorts d b ks

-- a claim of a contract with sorts in order, among names with values of their kinds, in an admitted environment
abbrev pub WhereSorted : Declarations → Contract → List Entry → Environment → Type 0 → Type 0
WhereSorted d c g env P = IsAdmitted d env → AreOfKinds g → HasSorts d c (kinds g) → P

-- its scale is no greater, and at the scale of the contract it pays the same
abbrev pub TurnsKeepFlows : Type 0
TurnsKeepFlows =
    (d : Declarations) (c : Contract) (g : List Entry) (env : Environment) (f n : ℤ) (w : Flow)
    → WhereSorted d c g env (IsWorthTheSame d g env f n w (turned_in d (kinds g) c) c)

-- so a contract that meets the rule on sorts pays the same amounts, on every frame
abbrev pub TurnsKeepAmounts : Type 0
TurnsKeepAmounts =
    (d : Declarations) (c : Contract) (env : Environment) (f n : ℤ) (w : Flow)
    → IsAdmitted d env → Meets d Sort c → scale_of_contract d c [] ≤ d.amounts
    → amount_of d (turned_in d [] c) env f n w ≡ amount_of d c env f n w

-- a turn of an expression reads no more, where its names read no more
abbrev pub TurnsReadLess : Type 0
TurnsReadLess =
    (d : Declarations) (e : Expression) (g : List Entry) (bs cs : List (List Place)) (env : Environment) (f : ℤ) (k : Kind)
    → IsAdmitted d env → AreOfKinds g → kind_of d e (kinds g) ≡ Some k → NamesReadLess bs cs
    → AreAmong (reads_of d (turned d (kinds g) e) g bs env f) (reads_of d e g cs env f)

-- nor does a turn of a contract, for any days
abbrev pub ContractTurnsReadLess : Type 0
ContractTurnsReadLess =
    (d : Declarations) (c : Contract) (g : List Entry) (bs cs : List (List Place)) (env : Environment) (f a b : ℤ)
    → WhereSorted d c g env (
    NamesReadLess bs cs → AreAmong (reads_of_contract d (turned_in d (kinds g) c) g bs env f a b) (reads_of_contract d c g cs env f a b))

-- and it transfers only where the contract does
abbrev pub TurnsTransferLess : Type 0
TurnsTransferLess =
    (d : Declarations) (c : Contract) (g : List Entry) (env : Environment) (f a b : ℤ)
    → WhereSorted d c g env (live d (turned_in d (kinds g) c) g env f a b ≡ true → live d c g env f a b ≡ true)

-- so a turn carries the contract over no days, on every frame and under all fixings
abbrev pub TurnsCarry : Type 0
TurnsCarry =
    (d : Declarations) (fixings : Environment) (c : Contract) (f : ℤ)
    → Meets d Sort c → scale_of_contract d c [] ≤ d.amounts → Carries d c f fixings 0 (turned_in d [] c)
