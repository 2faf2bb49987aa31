-- A contract with one party put in the place of another in every transfer, and what that means:
-- between two parties it pays what the contract pays between all those that the renaming takes to
-- them.
use Rattle.std.specs.Prelude.{◌≡◌, ◌↔◌, ◌==◌, ℕ, ℤ, pos, ◌+◌, ◌+ℤ◌, ◌<◌, length, List, [], ◌∷◌}
use Rattle.std.specs.Prelude.{if◌then◌else◌, Contains}
use Rattle.std.specs.List.{All}
use Rattle.term_model.specs.Declarations.{Declarations}
use Rattle.term_model.specs.declared.rules.Rule.{Rule}
use Rattle.term_model.specs.Terms.{Contract, Zero, Pay, Both, Scale, After, Let, Within}
use Rattle.term_model.specs.Environments.{Environment, Place, IsAdmitted, Extends}
use Rattle.term_model.specs.Values.{Entry}
use Rattle.term_model.specs.Flows.{Flow, flow_of, amount_of}
use Rattle.term_model.specs.Reads.{reads_of_contract}
use Rattle.term_model.specs.Sublists.{IsSublist}
use Rattle.term_model.specs.Sizes.{reach, nodes_of_contract, height_of_contract}
use Rattle.term_model.specs.Acceptance.{Meets, IsAccepted, Facts, AreFacts}
use Rattle.term_model.specs.Literals.{HasLiteralsIn}
use Rattle.term_model.specs.Redexes.{IsReduced}
use Rattle.term_model.specs.Residuals.{Carries}
use Rattle.term_model.specs.WellFormed.{IsWellFormedContract, HasOnlyNumbers}
use Rattle.exposure.specs.LiteralLists.{AllLiteralsAreListed, literals_in}
use Rattle.report.specs.Sums.{sum_over}

-- new in the place of old, and every other party as it is
abbrev pub renamed_party : ℕ → ℕ → ℕ → ℕ
renamed_party old new p = if p == old then new else p

abbrev pub renamed : ℕ → ℕ → Contract → Contract
renamed old new Zero = Zero
renamed old new (Pay a p q) = Pay a (renamed_party old new p) (renamed_party old new q)
renamed old new (Both a b) = Both (renamed old new a) (renamed old new b)
renamed old new (Scale e c) = Scale e (renamed old new c)
renamed old new (After n c) = After n (renamed old new c)
renamed old new (Let e c) = Let e (renamed old new c)
renamed old new (Within e n a b) = Within e n (renamed old new a) (renamed old new b)

-- no party stands twice
abbrev pub AreDifferent : List ℕ → Type 0
AreDifferent [] = Unit {0}
AreDifferent (p ∷ ps) = All (λ q. p ≡ q → ⊥) ps × AreDifferent ps

-- the parties that the renaming takes to x, each once and no others
pub record AreSources (old new x : ℕ) (ps : List ℕ) : Type 0 where
  pub different : AreDifferent ps
  pub just_these : (p : ℕ) → Contains ps p ↔ (renamed_party old new p ≡ x)

-- the sum over all that may stand for the payer, and all that may stand for the payee
abbrev pub sum_between : List ℕ → List ℕ → ℕ → (Flow → ℤ) → ℤ
sum_between ps qs a pays =
    sum_over ps (λ p. sum_over qs (λ q. pays (record { from = p; to = q; asset = a })))

-- each party has such a list
abbrev pub EachHasSources : Type 0
EachHasSources = (old new x : ℕ) → (ps : List ℕ) × AreSources old new x ps

-- what is paid between two parties once one is renamed
abbrev pub FlowsAreRenamed : Type 0
FlowsAreRenamed =
    (d : Declarations) (c : Contract) (g : List Entry) (env : Environment) (f n : ℤ) (old new : ℕ)
    (w : Flow) (ps qs : List ℕ)
    → AreSources old new w.from ps → AreSources old new w.to qs
    → flow_of d (renamed old new c) g env f n w
    ≡ sum_between ps qs w.asset (λ v. flow_of d c g env f n v)

-- the same at the portfolio's decimals
abbrev pub AmountsAreRenamed : Type 0
AmountsAreRenamed =
    (d : Declarations) (c : Contract) (env : Environment) (f n : ℤ) (old new : ℕ) (w : Flow)
    (ps qs : List ℕ)
    → AreSources old new w.from ps → AreSources old new w.to qs
    → amount_of d (renamed old new c) env f n w
    ≡ sum_between ps qs w.asset (λ v. amount_of d c env f n v)

-- every rule holds exactly where it held, so the contract is accepted exactly where it was
abbrev pub RulesAreKept : Type 0
RulesAreKept =
    (d : Declarations) (rule : Rule) (c : Contract) (old new : ℕ) → Meets d rule (renamed old new c)
    ↔ Meets d rule c

abbrev pub AcceptanceIsKept : Type 0
AcceptanceIsKept =
    (d : Declarations) (c : Contract) (old new : ℕ) → IsAccepted d (renamed old new c)
    ↔ IsAccepted d c

-- with the same facts, and as far, as many and as high
abbrev pub FactsAreKept : Type 0
FactsAreKept =
    (d : Declarations) (c : Contract) (old new : ℕ) (facts : Facts)
    → AreFacts d (renamed old new c) facts ↔ AreFacts d c facts

abbrev pub SizesAreKept : Type 0
SizesAreKept =
    (c : Contract) (old new : ℕ)
    → (reach (renamed old new c) ≡ reach c)
    × (nodes_of_contract (renamed old new c) ≡ nodes_of_contract c)
    × (height_of_contract (renamed old new c) ≡ height_of_contract c)

-- it is accepted where it was, and tells the same
pub record AcceptanceStays : Type 0 where
  pub rules : RulesAreKept
  pub accepted : AcceptanceIsKept
  pub facts : FactsAreKept

-- what is read is what the contract reads, in the same order, with some of it left out: the factors
-- of what has become a transfer of a party to itself
abbrev pub ReadsAreKept : Type 0
ReadsAreKept =
    (d : Declarations) (c : Contract) (g : List Entry) (bs : List (List Place))
    (env : Environment) (f a b : ℤ) (old new : ℕ)
    → IsSublist (reads_of_contract d (renamed old new c) g bs env f a b)
    (reads_of_contract d c g bs env f a b)

-- the literals, the day counts and the names are as they were
abbrev pub LiteralsAreKept : Type 0
LiteralsAreKept = (c : Contract) (old new : ℕ) → literals_in (renamed old new c) ≡ literals_in c

abbrev pub LimitsAreKept : Type 0
LimitsAreKept = (c : Contract) (old new : ℕ) → HasLiteralsIn c → HasLiteralsIn (renamed old new c)

abbrev pub NumbersAreKept : Type 0
NumbersAreKept =
    (c : Contract) (old new : ℕ) → HasOnlyNumbers c → HasOnlyNumbers (renamed old new c)

-- the literals that are listed are all, and they and the limits that they keep stay
pub record LiteralsStay : Type 0 where
  pub listed : AllLiteralsAreListed
  pub literals : LiteralsAreKept
  pub limits : LimitsAreKept

abbrev pub FormIsKept : Type 0
FormIsKept =
    (d : Declarations) (k : ℕ) (c : Contract) (old new : ℕ)
    → new < length d.parties → IsWellFormedContract d k c
    → IsWellFormedContract d k (renamed old new c)

-- it is as well formed as it was, and has only numbers where it had
pub record FormStays : Type 0 where
  pub form : FormIsKept
  pub numbers : NumbersAreKept

-- no redex comes or goes: none of them looks at a party
abbrev pub RedexesAreKept : Type 0
RedexesAreKept =
    (d : Declarations) (c : Contract) (old new : ℕ) (fixings : Environment) (f : ℤ)
    → IsReduced d (renamed old new c) fixings f ↔ IsReduced d c fixings f

-- a renamed residual pays what the renamed contract pays on the days to come, and reads nothing
-- that the contract does not read
pub record CarriesRenamed (d : Declarations) (c : Contract) (f : ℤ) (fixings : Environment)
    (m old new : ℕ) (rest : Contract) : Type 0 where
  pub amounts : (env : Environment) → IsAdmitted d env → Extends fixings env → (n : ℕ) (w : Flow)
      → amount_of d rest env (f +ℤ pos m) (pos n) w
      ≡ amount_of d (renamed old new c) env f (pos (m + n)) w
  pub reads : (env : Environment) → IsAdmitted d env → Extends fixings env → (b : ℕ) (q : Place)
      → Contains (reads_of_contract d rest [] [] env (f +ℤ pos m) (pos 0) (pos b)) q
      → Contains (reads_of_contract d c [] [] env f (pos 0) (pos (m + b))) q

abbrev pub ResidualsAreRenamed : Type 0
ResidualsAreRenamed =
    (d : Declarations) (c rest : Contract) (f : ℤ) (fixings : Environment) (m old new : ℕ)
    → Carries d c f fixings m rest → CarriesRenamed d c f fixings m old new (renamed old new rest)
