use Rattle.std.proofs.Common.{◌≡◌, ◌≤ℤ◌, ℤ, arith, ap, of_z, pos, rules, subst, sym, to_z, w64}
use Rattle.std.specs.Prelude.{Some, None}
use Rattle.std.proofs.lemmas.Int.{ints, to_z-of_z}
use Rattle.term_model.specs.Declarations.{declarations}
use Rattle.fixing_files.specs.Days.{placed_day}
use Rattle.flow_eval.specs.Readiness.{last_day}
use Rattle.report.specs.declared.fault_lines.Fault.TheVariants as fault
use Rattle.command_courses.specs.Days.{day_in_range}
use Rattle.command_courses.specs.Days.{IsDayAsked}
use Rattle.command_courses.proofs.DayFacts.{asked_first, fits_day, is_asked_day, is_out}
use Rattle.command_courses.proofs.days.day_asked.Goals as goal

pub returns-in-Some : goal.returns-in-Some
returns-in-Some c =
    let d = declarations c.args.decls.now in
    let most = pos c.args.greatest in
    let word = c.args.asked.word.now in
    let day = c.in-Some.day in
    let some : day_in_range d most (placed_day d.origin c.args.asked.named) ≡ Some day = search rules in
    let is = is_asked_day d most word c.args.asked.named day c.args.asked.reads some in
    let late : day ≤ℤ pos last_day = (let high = is.2 in let few = c.requires in omega (arith, ints)) in
    let same : to_z w64 (of_z w64 day) ≡ day = to_z-of_z w64 day (fits_day day (asked_first d most word day is) late) in
    subst (λ (x : ℤ). IsDayAsked d most word x) (sym same) is

pub returns-in_ok-word-in-None : goal.returns-in_ok-word-in-None
returns-in_ok-word-in-None c =
    let d = declarations c.args.decls.now in
    let most = pos c.args.greatest in
    let word = c.args.asked.word.now in
    let none : day_in_range d most (placed_day d.origin c.args.asked.named) ≡ None = search rules in
    let same : c.in_ok-word-in-None.word ≡ word = search rules in
    record { out = is_out d most word c.args.asked.named c.args.asked.reads none; fault_is = ap (λ w. fault.Day w) same }
