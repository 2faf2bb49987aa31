-- What a contract is reduced to, and so the one residual of a contract some days later, as a function of what is known:
-- what is left of it, with what the fixings tell put in and a turn taken, again and again.
use Rattle.std.specs.Prelude.{ℕ, zero, suc, ℤ, pos, ◌+ℤ◌, [], Some}
use Rattle.term_model.specs.Declarations.{Declarations}
use Rattle.term_model.specs.Terms.{Contract}
use Rattle.term_model.specs.Environments.{Environment}
use Rattle.rewriting.specs.Measures.{size_in}
use Rattle.simplify.specs.TurningContracts.{turned_in}
use Rattle.specialise.specs.Specialising.{specialised_in}
use Rattle.advance_step.specs.WhatIsLeft.{left_of}

-- a round over a contract that stands on day f, and so many rounds
abbrev pub reduced_once : Declarations → Environment → ℤ → Contract → Contract
reduced_once d fixings f c = turned_in d [] (specialised_in d fixings (Some f) c)

abbrev pub reduced_times : Declarations → Environment → ℤ → ℕ → Contract → Contract
reduced_times d fixings f zero c = c
reduced_times d fixings f (suc n) c = reduced_times d fixings f n (reduced_once d fixings f c)

-- as many rounds as its size
abbrev pub reduced : Declarations → Environment → ℤ → Contract → Contract
reduced d fixings f c = reduced_times d fixings f (size_in c) c

-- what is left of a contract that stands on day f, so many days later: on the same day it is the contract
abbrev pub rest_after : Declarations → Environment → ℤ → ℕ → Contract → Contract
rest_after d env f zero c = c
rest_after d env f (suc j) c = left_of d c [] env f j

-- and reduced on that day
abbrev pub residual : Declarations → Environment → ℤ → ℕ → Contract → Contract
residual d env f days c = reduced d env (f +ℤ pos days) (rest_after d env f days c)
