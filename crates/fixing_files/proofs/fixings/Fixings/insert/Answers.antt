use Rattle.std.proofs.Common.{◌≡◌, ◌∙◌, ℤ, refl, set, sym, subst, arith, w64}
use Rattle.std.specs.List.{insert}
use Rattle.std.proofs.lemmas.Int.{to_z-of_z}
use Rattle.term_model.specs.Environments.{Environment}
use Rattle.fixing_files.specs.Runs.{AddsPair, IsRising, run_at, values_of}
use Rattle.fixing_files.specs.RunPlaces.{IsGapFor}
use Rattle.fixing_files.proofs.BlockFacts.{blocks_dropped}
use Rattle.fixing_files.proofs.RunFacts.{adds_pair, grown_label, not_on, on_err, rising-insert, run_read, runs_long, value_on-insert, values_of-kept}
use Rattle.fixing_files.proofs.fixings.Fixings.insert.Goals as goal

pub search-requires : goal.search-requires
search-requires c =
    let runs = c.reach.new.runs.items in
    let at : run_at runs c.args.label ≡ c.deref.result.now = run_read runs c.args.label c.index_mut-run.result.now (omega (arith, c.in_ok-reach.ensures.reached, runs_long c.reach.new.runs)) c.index_mut-run.ensures.value ∙ sym c.deref.ensures.value in
    subst IsRising at (c.reach.ensures.rising c.args.label)

pub invariant_of-self-in_default : goal.invariant_of-self-in_default
invariant_of-self-in_default c =
    let runs = c.reach.new.runs.items in
    let run = c.index_mut-run.result.now in
    let at : run_at runs c.args.label ≡ run.items = run_read runs c.args.label run (omega (arith, c.in_ok-reach.ensures.reached, runs_long c.reach.new.runs)) c.index_mut-run.ensures.value in
    let rising = subst IsRising at (c.reach.ensures.rising c.args.label) in (
      grown_label runs c.args.label run (omega (arith, c.in_ok-reach.ensures.reached, runs_long c.reach.new.runs)) rising c.reach.ensures.rising,
      blocks_dropped c.self.inside.blocks.items c.drop_blocks.new.blocks.items c.self.inside.runs.items runs (set runs c.args.label run) c.args.label run c.self.invariant.1 c.drop_blocks.ensures.dropped c.drop_blocks.ensures.kept c.reach.ensures.runs refl,
    )

pub returns-in_default-clause-added : goal.returns-in_default-clause-added
returns-in_default-clause-added c =
    let runs = c.reach.new.runs.items in
    let at : run_at runs c.args.label ≡ c.deref.result.now = run_read runs c.args.label c.index_mut-run.result.now (omega (arith, c.in_ok-reach.ensures.reached, runs_long c.reach.new.runs)) c.index_mut-run.ensures.value ∙ sym c.deref.ensures.value in
    let on = rw (to_z-of_z w64 c.args.day c.ranges.day) at c.in_default.ensures.found in
    absurd (not_on runs c.args.self.now c.args.label c.deref.result.now c.args.day c.in_default.field-0 (c.reach.ensures.same ∙ c.self.view_is) at (subst IsRising at (c.reach.ensures.rising c.args.label)) c.requires.absent on)

pub invariant_of-self-in_err-insert : goal.invariant_of-self-in_err-insert
invariant_of-self-in_err-insert c =
    let runs = c.reach.new.runs.items in
    let at : run_at runs c.args.label ≡ c.index_mut-run.result.now.items = run_read runs c.args.label c.index_mut-run.result.now (omega (arith, c.in_ok-reach.ensures.reached, runs_long c.reach.new.runs)) c.index_mut-run.ensures.value in
    let rising = subst IsRising (at ∙ sym c.in_err-insert.ensures.items) (c.reach.ensures.rising c.args.label) in (
      grown_label runs c.args.label c.insert.new.self (omega (arith, c.in_ok-reach.ensures.reached, runs_long c.reach.new.runs)) rising c.reach.ensures.rising,
      blocks_dropped c.self.inside.blocks.items c.drop_blocks.new.blocks.items c.self.inside.runs.items runs (set runs c.args.label c.insert.new.self) c.args.label c.insert.new.self c.self.invariant.1 c.drop_blocks.ensures.dropped c.drop_blocks.ensures.kept c.reach.ensures.runs refl,
    )

pub returns-in_err-insert-clause-kept : goal.returns-in_err-insert-clause-kept
returns-in_err-insert-clause-kept c =
    let runs = c.reach.new.runs.items in
    let at : run_at runs c.args.label ≡ c.index_mut-run.result.now.items = run_read runs c.args.label c.index_mut-run.result.now (omega (arith, c.in_ok-reach.ensures.reached, runs_long c.reach.new.runs)) c.index_mut-run.ensures.value in
    let kept = values_of-kept runs c.args.label c.insert.new.self (omega (arith, c.in_ok-reach.ensures.reached, runs_long c.reach.new.runs)) (at ∙ sym c.in_err-insert.ensures.items) in
    on_err _ c.from_residual-in_err-insert.result (kept ∙ c.reach.ensures.same ∙ c.self.view_is)

pub invariant_of-self-2 : goal.invariant_of-self-2
invariant_of-self-2 c =
    let runs = c.reach.new.runs.items in
    let run = c.index_mut-run.result.now.items in
    let at : run_at runs c.args.label ≡ run = run_read runs c.args.label c.index_mut-run.result.now (omega (arith, c.in_ok-reach.ensures.reached, runs_long c.reach.new.runs)) c.index_mut-run.ensures.value in
    let gap : IsGapFor run c.args.day c.in-Err.at = rw (to_z-of_z w64 c.args.day c.ranges.day, c.deref.ensures.value) at c.in-Err.ensures.absent in
    let items : c.insert.new.self.items ≡ insert run c.in-Err.at (record { day = c.args.day; value = c.args.value }) = rw (to_z-of_z w64 c.args.day c.ranges.day) at c.in_ok-insert.ensures.items in
    let rising = subst IsRising (sym items) (rising-insert run c.args.day c.args.value c.in-Err.at gap (subst IsRising at (c.reach.ensures.rising c.args.label))) in (
      grown_label runs c.args.label c.insert.new.self (omega (arith, c.in_ok-reach.ensures.reached, runs_long c.reach.new.runs)) rising c.reach.ensures.rising,
      blocks_dropped c.self.inside.blocks.items c.drop_blocks.new.blocks.items c.self.inside.runs.items runs (set runs c.args.label c.insert.new.self) c.args.label c.insert.new.self c.self.invariant.1 c.drop_blocks.ensures.dropped c.drop_blocks.ensures.kept c.reach.ensures.runs refl,
    )

pub returns-clause-added : goal.returns-clause-added
returns-clause-added c =
    let runs = c.reach.new.runs.items in
    let run = c.index_mut-run.result.now.items in
    let at : run_at runs c.args.label ≡ run = run_read runs c.args.label c.index_mut-run.result.now (omega (arith, c.in_ok-reach.ensures.reached, runs_long c.reach.new.runs)) c.index_mut-run.ensures.value in
    let gap : IsGapFor run c.args.day c.in-Err.at = rw (to_z-of_z w64 c.args.day c.ranges.day, c.deref.ensures.value) at c.in-Err.ensures.absent in
    let items : c.insert.new.self.items ≡ insert run c.in-Err.at (record { day = c.args.day; value = c.args.value }) = rw (to_z-of_z w64 c.args.day c.ranges.day) at c.in_ok-insert.ensures.items in
    let added = adds_pair runs c.args.label c.insert.new.self c.args.day c.args.value (omega (arith, c.in_ok-reach.ensures.reached, runs_long c.reach.new.runs)) (λ (p : ℤ). rw (items, at) (value_on-insert run c.args.day c.args.value c.in-Err.at gap p)) in
    subst (λ (env : Environment). AddsPair env (values_of (set runs c.args.label c.insert.new.self)) (record { label = c.args.label; day = c.args.day }) c.args.value) (c.reach.ensures.same ∙ c.self.view_is) added
