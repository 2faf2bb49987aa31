-- A contract is causal if what it pays up to a day depends on nothing that is observed after that day (Bahr, Berthold
-- and Elsman, ICFP 2015).
use Rattle.std.specs.Prelude.{ℤ, ◌+ℤ◌, ◌≤ℤ◌, ◌≡◌}
use Rattle.term_model.specs.Declarations.{Declarations}
use Rattle.term_model.specs.Terms.{Contract}
use Rattle.term_model.specs.Environments.{Environment, IsAdmitted, AgreeUpTo}
use Rattle.term_model.specs.Flows.{Flow, amount_of}

abbrev pub IsCausal : Declarations → Contract → Type 0
IsCausal d c =
    (one other : Environment) → IsAdmitted d one → IsAdmitted d other → (f n : ℤ) → AgreeUpTo d (f +ℤ n) one other
    → (m : ℤ) → m ≤ℤ n → (w : Flow) → amount_of d c one f m w ≡ amount_of d c other f m w
