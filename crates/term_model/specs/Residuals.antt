-- A residual carries a contract over some days if, whatever is fixed from now on, it pays on each day to come what the
-- contract pays, and reads nothing that the contract does not read.
use Rattle.std.specs.Prelude.{ℕ, ℤ, pos, ◌+◌, ◌+ℤ◌, ◌≡◌, [], Contains}
use Rattle.term_model.specs.Declarations.{Declarations}
use Rattle.term_model.specs.Terms.{Contract}
use Rattle.term_model.specs.Environments.{Environment, Place, IsAdmitted, Extends}
use Rattle.term_model.specs.Flows.{Flow, amount_of}
use Rattle.term_model.specs.Reads.{reads_of_contract}

-- rest, m days after frame f, pays on each day what c pays on that day
abbrev pub PaysWhatIsLeft : Declarations → Environment → Contract → ℤ → ℕ → Contract → Type 0
PaysWhatIsLeft d env c f m rest =
    (n : ℕ) (w : Flow) → amount_of d rest env (f +ℤ pos m) (pos n) w ≡ amount_of d c env f (pos (m + n)) w

-- and reads up to each day nothing that c does not read up to that day
abbrev pub ReadsNoMore : Declarations → Environment → Contract → ℤ → ℕ → Contract → Type 0
ReadsNoMore d env c f m rest =
    (b : ℕ) (q : Place)
    → Contains (reads_of_contract d rest [] [] env (f +ℤ pos m) (pos 0) (pos b)) q
    → Contains (reads_of_contract d c [] [] env f (pos 0) (pos (m + b))) q

-- rest, m days after frame f, carries c under the fixings
pub record Carries (d : Declarations) (c : Contract) (f : ℤ) (fixings : Environment) (m : ℕ) (rest : Contract) : Type 0 where
  pub amounts : (env : Environment) → IsAdmitted d env → Extends fixings env → PaysWhatIsLeft d env c f m rest
  pub reads : (env : Environment) → IsAdmitted d env → Extends fixings env → ReadsNoMore d env c f m rest
