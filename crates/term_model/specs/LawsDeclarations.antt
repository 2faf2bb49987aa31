-- The law of declarations: what a term means follows from the decimals of the amounts and from the observables, and
-- whether it is accepted from these and the decimals of assets. Names, origins, templates, the version and the day of the
-- portfolio have no part in it.
use Rattle.std.specs.Prelude.{ℕ, ℤ, ◌≡◌, List, length}
use Rattle.term_model.specs.declared.rules.Rule.{Rule}
use Rattle.term_model.specs.declared.values.Kind.{Kind}
use Rattle.term_model.specs.Declarations.{Declarations, at_one_scale, decimals_of}
use Rattle.term_model.specs.Terms.{Expression, Contract}
use Rattle.term_model.specs.WellFormed.{IsClosed, IsWellFormedContract}
use Rattle.term_model.specs.Environments.{Environment, Place}
use Rattle.term_model.specs.Kinds.{kind_of}
use Rattle.term_model.specs.Values.{Entry, value_of}
use Rattle.term_model.specs.Flows.{Flow, scale_of_contract, amount_of}
use Rattle.term_model.specs.Reads.{reads_of, reads_of_contract}
use Rattle.term_model.specs.Acceptance.{IsAccepted, IsRefusal, Facts, AreFacts}
use Rattle.term_model.specs.Residuals.{Carries}

-- the same decimals of amounts, and the same observables
pub record MeanTheSame (d other : Declarations) : Type 0 where
  pub amounts : d.amounts ≡ other.amounts
  pub labels : d.labels ≡ other.labels

-- the same decimals of each asset
abbrev pub HaveSameDecimals : Declarations → Declarations → Type 0
HaveSameDecimals d other = (a : ℕ) → decimals_of d a ≡ decimals_of other a

-- what a term means under the one it means under the other
pub record HasOneMeaning (d other : Declarations) : Type 0 where
  pub kinds : (e : Expression) (ks : List Kind) → kind_of d e ks ≡ kind_of other e ks
  pub values : (e : Expression) (g : List Entry) (env : Environment) (f : ℤ) → value_of d e g env f ≡ value_of other e g env f
  pub reads : (e : Expression) (g : List Entry) (bs : List (List Place)) (env : Environment) (f : ℤ)
      → reads_of d e g bs env f ≡ reads_of other e g bs env f
  pub scales : (c : Contract) (ks : List Kind) → scale_of_contract d c ks ≡ scale_of_contract other c ks
  pub amounts : (c : Contract) (env : Environment) (f n : ℤ) (w : Flow) → amount_of d c env f n w ≡ amount_of other c env f n w
  pub reads_of_contracts : (c : Contract) (g : List Entry) (bs : List (List Place)) (env : Environment) (f a b : ℤ)
      → reads_of_contract d c g bs env f a b ≡ reads_of_contract other c g bs env f a b

abbrev pub DeclarationsGiveMeaning : Type 0
DeclarationsGiveMeaning = (d other : Declarations) → MeanTheSame d other → HasOneMeaning d other

-- what is accepted or refused under the one is so under the other, with the same facts, and so with what carries it
pub record HasOneVerdict (d other : Declarations) : Type 0 where
  pub accepted : (c : Contract) → IsAccepted d c → IsAccepted other c
  pub facts : (c : Contract) (facts : Facts) → AreFacts d c facts → AreFacts other c facts
  pub refused : (c : Contract) (rule : Rule) (k : ℕ) → IsRefusal d c rule k → IsRefusal other c rule k
  pub carried : (c : Contract) (f : ℤ) (fixings : Environment) (m : ℕ) (rest : Contract)
      → Carries d c f fixings m rest → Carries other c f fixings m rest

abbrev pub DeclarationsGiveVerdicts : Type 0
DeclarationsGiveVerdicts = (d other : Declarations) → MeanTheSame d other → HaveSameDecimals d other → HasOneVerdict d other

-- as many names of each sort
pub record DeclareAsMany (d other : Declarations) : Type 0 where
  pub parties : length d.parties ≡ length other.parties
  pub assets : length d.assets ≡ length other.assets
  pub labels : length d.labels ≡ length other.labels
  pub templates : length d.templates ≡ length other.templates

-- what is well formed under the one is so under the other
abbrev pub DeclarationsGiveForms : Type 0
DeclarationsGiveForms =
    (d other : Declarations) → DeclareAsMany d other
    → (k : ℕ) (c : Contract) → IsWellFormedContract d k c → IsWellFormedContract other k c

abbrev pub ClosedAtOneScale : Type 0
ClosedAtOneScale = (d : Declarations) (c : Contract) → IsClosed d c → IsClosed (at_one_scale d) c
