-- What the simplifier promises of a contract k that it makes of a contract c.
use Rattle.std.specs.Prelude.{ℕ, ℤ, pos, ◌≡◌, [], Option}
use Rattle.term_model.specs.Declarations.{Declarations}
use Rattle.term_model.specs.Terms.{Contract}
use Rattle.term_model.specs.Environments.{Environment, IsAdmitted}
use Rattle.term_model.specs.Flows.{Flow, amount_of}
use Rattle.term_model.specs.Reads.{reads_of_contract}
use Rattle.term_model.specs.Redexes.{Redex, HasNone}
use Rattle.term_model.specs.Acceptance.{IsAccepted}
use Rattle.term_model.specs.Literals.{HasLiteralsIn}
use Rattle.rewriting.specs.Keeping.{AreAmong, IsNoLargerIn, StaysClosed}
use Rattle.simplify.specs.TurningContracts.{IsPlainKind}

-- it pays the same on every frame in every admitted environment
abbrev pub PaysTheSame : Declarations → Contract → Contract → Type 0
PaysTheSame d k c =
    (env : Environment) (f n : ℤ) (w : Flow)
    → IsAdmitted d env → amount_of d k env f n w ≡ amount_of d c env f n w

-- there it reads only what c reads, for each number of days
abbrev pub ReadsNoMore : Declarations → Contract → Contract → Type 0
ReadsNoMore d k c =
    (env : Environment) (f : ℤ) (b : ℕ) → IsAdmitted d env
    → AreAmong (reads_of_contract d k [] [] env f (pos 0) (pos b))
    (reads_of_contract d c [] [] env f (pos 0) (pos b))

-- no redex that asks for no frame stands in it, on any frame and under any fixings
abbrev pub HasNoPlainRedex : Declarations → Contract → Type 0
HasNoPlainRedex d k =
    (fixings : Environment) (f : Option ℤ) (kind : Redex)
    → IsPlainKind kind → HasNone d fixings f kind k

-- k is simpler than c, which is accepted: it is accepted, pays the same, reads no more, has no
-- redex that asks for no frame, is the same or smaller, is closed where c is, and has literals that
-- fit the text
pub record Simplifies (d : Declarations) (k c : Contract) : Type 0 where
  pub accepted : IsAccepted d k
  pub flows : PaysTheSame d k c
  pub reads : ReadsNoMore d k c
  pub none : HasNoPlainRedex d k
  pub smaller : IsNoLargerIn k c
  pub closed : StaysClosed d k c
  pub literals : HasLiteralsIn k
