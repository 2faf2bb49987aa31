-- The laws of shifts: an expression whose observables are read k days later has on a day the value that the expression
-- has k days later, and reads the places that it reads then. The days of an accumulator move with it.
use Rattle.std.specs.Prelude.{ℤ, ◌+ℤ◌, ◌≡◌, List}
use Rattle.term_model.specs.Declarations.{Declarations}
use Rattle.term_model.specs.Terms.{Expression}
use Rattle.term_model.specs.Environments.{Environment, Place}
use Rattle.term_model.specs.Values.{Entry, value_of}
use Rattle.term_model.specs.Reads.{reads_of}
use Rattle.term_model.specs.Shifts.{shifted}

abbrev pub ShiftsMoveTheDay : Type 0
ShiftsMoveTheDay =
    (d : Declarations) (e : Expression) (k : ℤ) (g : List Entry) (env : Environment) (f : ℤ)
    → value_of d (shifted k e) g env f ≡ value_of d e g env (f +ℤ k)

abbrev pub ReadsMoveTheDay : Type 0
ReadsMoveTheDay =
    (d : Declarations) (e : Expression) (k : ℤ) (g : List Entry) (bs : List (List Place)) (env : Environment) (f : ℤ)
    → reads_of d (shifted k e) g bs env f ≡ reads_of d e g bs env (f +ℤ k)
