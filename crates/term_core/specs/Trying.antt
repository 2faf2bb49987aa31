-- What the trial of a part answers: what it found, or the place of the node at fault, counted from the part's own
-- first node.
use Rattle.std.specs.Prelude.{ℕ, ◌+◌, ◌<◌, Option, Some, None, Result, Ok, Err, IfErr}

-- goes on with what was found
abbrev pub then_do : {A B : Type 0} → Result A ℕ → (A → Result B ℕ) → Result B ℕ
then_do (Ok a) go = go a
then_do (Err k) go = Err k

-- the same fault, counted from n nodes before
abbrev pub moved : {A : Type 0} → ℕ → Result A ℕ → Result A ℕ
moved n (Ok a) = Ok a
moved n (Err k) = Err (n + k)

-- a fault at the node itself where there is nothing
abbrev pub or_here : {A : Type 0} → Option A → Result A ℕ
or_here None = Err 0
or_here (Some a) = Ok a

-- a fault is one of the first n nodes
abbrev pub FaultIsWithin : {A : Type 0} → ℕ → Result A ℕ → Type 0
FaultIsWithin n answer = IfErr answer (λ node. node < n)
