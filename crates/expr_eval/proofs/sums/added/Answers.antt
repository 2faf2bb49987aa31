use Rattle.std.proofs.Common.{rules, ◌≡◌, ◌∙◌, ◌+ℤ◌, pos, ℤ, w32, w64, FitsSigned, to_z, of_z, ap, ap₂, arith}
use Rattle.std.specs.Int.{w128}
use Rattle.std.proofs.lemmas.Int.{to_z-of_z}
use Rattle.term_model.specs.Terms.{expression}
use Rattle.term_model.specs.Values.{num}
use Rattle.expr_eval.specs.Sums.{made}
use Rattle.expr_eval.proofs.SumFacts.{next_sum, sum_starts}
use Rattle.expr_eval.proofs.sums.added.Goals as goal

pub loop-i-init : goal.loop-i-init
loop-i-init c =
    let is : to_z w128 (of_z w128 c.number-sum.result) ≡ num c.args.start.value = search rules in
    sum_starts (expression c.args.part.now) c.args.start c.args.fixings.now (to_z w64 (of_z w64 c.args.from)) _ is

pub loop-i-preserved : goal.loop-i-preserved
loop-i-preserved c =
    let part = expression c.args.part.now in
    let from = to_z w64 (of_z w64 c.args.from) in
    let first = to_z w64 (of_z w64 c.day_read-first.result) in
    let t = to_z w64 (of_z w64 c.days_later-in-loop-i.result) in
    let v = c.in_ok-value.value in
    let sum = to_z w128 c.loop-i.sum-bits in
    let more = c.in_ok-more.more in
    let next = to_z w128 (of_z w128 c.in_ok-sum.sum) in
    let of_next : FitsSigned w64 c.days_later.result = search rules in
    let of_first : FitsSigned w64 c.day_read-first.result = search rules in
    let of_offset : FitsSigned w32 c.args.observed.offset = search rules in
    let of_day : FitsSigned w64 c.days_later-in-loop-i.result = search rules in
    let of_value : FitsSigned w128 c.number.result = search rules in
    let of_word : FitsSigned w64 c.in_ok-in_word.field-0 = search rules in
    let of_more : FitsSigned w64 more = search rules in
    let of_wide : FitsSigned w128 more = search rules in
    let of_sum : FitsSigned w128 c.in_ok-sum.sum = search rules in
    let starts : first ≡ from +ℤ pos 1 +ℤ c.args.observed.offset =
    to_z-of_z w64 c.day_read-first.result of_first ∙ c.day_read-first.ensures.day
    ∙ ap₂ (λ (x y : ℤ). x +ℤ y) (to_z-of_z w64 c.days_later.result of_next ∙ c.days_later.ensures.day) (to_z-of_z w32 c.args.observed.offset of_offset) in
    let day : t ≡ first +ℤ pos c.loop-i.i = to_z-of_z w64 c.days_later-in-loop-i.result of_day ∙ c.days_later-in-loop-i.ensures.day in
    let is : more ≡ made part (num v) =
    c.in_ok-more.ensures ∙ ap (made part) (to_z-of_z w64 c.in_ok-in_word.field-0 of_word ∙ c.in_ok-in_word.ensures ∙ to_z-of_z w128 c.number.result of_value ∙ c.number.ensures) in
    let same : to_z w128 (of_z w128 (to_z w64 (of_z w64 more))) ≡ more = ap (λ (x : ℤ). to_z w128 (of_z w128 x)) (to_z-of_z w64 more of_more) ∙ to_z-of_z w128 more of_wide in
    let adds : next ≡ sum +ℤ more = to_z-of_z w128 c.in_ok-sum.sum of_sum ∙ c.in_ok-sum.ensures.1 ∙ ap (λ (x : ℤ). sum +ℤ x) same in
    next_sum part c.args.observed c.args.start c.args.fixings.now c.days_of-run.result.now from first t c.loop-i.i sum more next v c.requires.over c.days_of-run.ensures.days starts day c.in_ok-value.ensures is adds c.loop-i.invariant

pub returns : goal.returns
returns c = grind (arith, to_z-of_z)
