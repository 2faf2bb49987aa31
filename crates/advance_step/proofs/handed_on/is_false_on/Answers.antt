use Rattle.std.proofs.Common.{◌≡◌, ◌∙◌, ◌+◌, ℕ, suc, ℤ, pos, ◌+ℤ◌, min, List, [], None, Ok, sym, subst, arith}
use Rattle.term_model.specs.Declarations.{Declarations}
use Rattle.term_model.specs.Terms.{Expression, expression}
use Rattle.term_model.specs.Environments.{Environment}
use Rattle.expr_eval.specs.declared.scratch.Binding.{Binding}
use Rattle.expr_eval.specs.Standing.{StandFor}
use Rattle.expr_eval.specs.Trials.{DayOrMissing, IsFirstTrue, answer_of, first_tried}
use Rattle.advance_step.specs.HandedOn.{IsFalseUpTo}
use Rattle.advance_step.proofs.TestFacts.{first_is}
use Rattle.advance_step.proofs.handed_on.is_false_on.Goals as goal

-- a test that is true on none of the days that are tried is false on them, whatever more is fixed
is_false : (d : Declarations) (e : Expression) (bs : List Binding) (F : Environment) (f : ℤ) (n : ℕ) (r : DayOrMissing) → bs ≡ [] → r ≡ Ok None → IsFirstTrue d e bs F f (n + 1) r → IsFalseUpTo d e F f n
is_false d e bs F f n r empty none h env ext =
    let here : StandFor F bs [] [] = subst (λ (xs : List Binding). StandFor F xs [] []) (sym empty) tt in
    let more : n + 1 ≡ suc n = omega arith in
    first_is d e [] [] F env f n None ext (subst (λ (k : ℕ). first_tried k (λ i. answer_of d e [] [] F (f +ℤ pos i)) ≡ Ok None) more (sym (h [] [] here) ∙ none))

pub returns-in-Ok-None : goal.returns-in-Ok-None
returns-in-Ok-None c = λ _.
    let none : c.first_day.result ≡ Ok None = cc in
    is_false c.args.known.now.decls (expression c.args.test.now) c.args.scratch.now.entries c.args.known.now.fixings c.args.span.day
    (min c.args.days c.args.span.last) c.first_day.result c.requires.no_names none c.first_day.ensures.answer
