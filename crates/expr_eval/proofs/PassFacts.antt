-- Blocks of days on which a watch cannot be met are passed over.
use Rattle.std.proofs.Common.{◌≡◌, ℕ, zero, suc, ◌+◌, ◌-◌, ◌/◌, ◌%◌, ◌≤◌, ◌<◌, ℤ, pos, negsuc, ◌+ℤ◌, ◌*ℤ◌, ◌≤ℤ◌, ◌<ℤ◌, Bool, true, false, not, List, if◌then◌else◌, refl, ap, sym, ◌∙◌, subst, arith}
use Rattle.std.specs.Prelude.{length, slice_index_or}
use Rattle.std.proofs.lemmas.Int.{ints}
use Rattle.term_model.specs.declared.terms.CmpOp.{CmpOp}
use Rattle.term_model.specs.declared.terms.CmpOp.TheVariants.{Less, LessEq, Greater, GreaterEq, Equal, Unequal}
use Rattle.term_model.specs.Values.{cmp_op, num}
use Rattle.interval_check.proofs.MultipleFacts.{times-le}
use Rattle.fixing_files.specs.Blocks.{AreBlocks, IsWithin, block_at}
use Rattle.fixing_files.specs.Runs.{IsRising, day_at, no_day}
use Rattle.fixing_files.specs.RunPlaces.{IsOn}
use Rattle.fixing_files.specs.declared.blocks.Block.{Block}
use Rattle.fixing_files.specs.declared.runs.FixedDay.{FixedDay}
use Rattle.expr_eval.specs.declared.watches.Trial.{Trial}
use Rattle.expr_eval.specs.declared.watches.Trial.TheVariants.{Number}
use Rattle.expr_eval.specs.declared.watches.Watch.{Watch}
use Rattle.expr_eval.specs.Passing.{CannotMeet, IsBeyond, IsPassed, opposite}
use Rattle.expr_eval.specs.Stops.{is_wanted}
use Rattle.expr_eval.specs.Watching.{outcome}
use Rattle.expr_eval.proofs.WatchFacts.{met_there}

-- the comparison that holds where another does not

not_not : (b : Bool) → not (not b) ≡ b
not_not true = refl
not_not false = refl

opposite_is : (op : CmpOp) (x y : ℤ) → cmp_op (opposite op) x y ≡ not (cmp_op op x y)
opposite_is Less x y = refl
opposite_is LessEq x y = sym (not_not _)
opposite_is Greater x y = refl
opposite_is GreaterEq x y = sym (not_not _)
opposite_is Equal x y = refl
opposite_is Unequal x y = sym (not_not _)

wanted_is : (wanted : Bool) (op : CmpOp) (x y : ℤ) → is_wanted wanted (cmp_op op x y) ≡ cmp_op (if wanted then op else opposite op) x y
wanted_is true op x y = refl
wanted_is false op x y = sym (opposite_is op x y)

-- a block whose numbers are multiplied

abbrev multiplied : Block → ℤ → Block
multiplied b factor = record { low = b.low *ℤ factor; high = b.high *ℤ factor }

within_too : (b : Block) (x factor : ℤ) → pos 0 <ℤ factor → IsWithin b x → IsWithin (multiplied b factor) (x *ℤ factor)
within_too b x (pos n) above within = (times-le b.low x n within.0, times-le x b.high n within.1)
within_too b x (negsuc n) above within = absurd (omega (arith, ints, above))

pub not_met : (w : Watch) (op to : CmpOp) (factor bound : ℤ) (b c : Block) → w.trial ≡ Number op factor bound → pos 0 <ℤ factor → c ≡ multiplied b factor → to ≡ (if w.wanted then op else opposite op)
    → IsBeyond to c bound → CannotMeet w b
not_met w op to factor bound b c trial above is turned beyond v within =
    let inside : IsWithin c (num v *ℤ factor) = subst (λ (x : Block). IsWithin x (num v *ℤ factor)) (sym is) (within_too b (num v) factor above within) in
    ap (λ (t : Trial). is_wanted w.wanted (outcome t v)) trial
    ∙ wanted_is w.wanted op (num v *ℤ factor) bound
    ∙ ap (λ (o : CmpOp). cmp_op o (num v *ℤ factor) bound) (sym turned)
    ∙ beyond (num v *ℤ factor) inside

-- a run rises by a day at least from each day to the next

rises_by : (run : List FixedDay) (i k j : ℕ) → IsRising run → j ≡ i + k → j < length run → (day_at run i +ℤ pos k) ≤ℤ day_at run j
rises_by run i zero j rising at within =
    let same : j ≡ i = omega arith in
    omega (arith, ints, ap (day_at run) same)
rises_by run i (suc k) j rising at within =
    let before = rises_by run i k (i + k) rising refl (omega arith) in
    omega (arith, ints, before, rising (i + k) j (omega arith) within)

pub whole : (run : List FixedDay) (at : ℕ) (t : ℤ) → IsRising run → at + 128 ≤ length run → day_at run at ≡ t → day_at run (at + 127) ≡ t +ℤ pos 127 → (i : ℕ) → i < 128 → IsOn run (t +ℤ pos i) (at + i)
whole run at t rising fits first last i few =
    let below = rises_by run at i (at + i) rising refl (omega arith) in
    let above = rises_by run (at + i) (127 - i) (at + 127) rising (omega arith) (omega arith) in
    let day : day_at run (at + i) ≡ t +ℤ pos i = omega (arith, ints, first, last, below, above, few) in
    record { within = omega arith; day = day }

pub passes : (w : Watch) (run : List FixedDay) (blocks : List Block) (at : ℕ) (t : ℤ) (b : Block) → AreBlocks blocks run → at % 128 ≡ 0 → at / 128 < length blocks → block_at blocks (at / 128) ≡ b
    → CannotMeet w b → ((i : ℕ) → i < 128 → IsOn run (t +ℤ pos i) (at + i)) → IsPassed w run t
passes w run blocks at t b are begins has is cannot stands env lends i few =
    let on = stands i few in
    let same : (at + i) / 128 ≡ at / 128 = omega arith in
    let v = (slice_index_or run (at + i) no_day).value in
    let there : block_at blocks ((at + i) / 128) ≡ b = ap (block_at blocks) same ∙ is in
    let within : IsWithin b (num v) = subst (λ (x : Block). IsWithin x (num v)) there (are (at + i) on.within (omega arith)) in
    sym (met_there w env run (at + i) (t +ℤ pos i) no_day false lends on.within on.day (sym (cannot v within)))
