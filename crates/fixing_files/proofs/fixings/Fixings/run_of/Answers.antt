use Rattle.std.proofs.Common.{◌≡◌, ◌∙◌, List, ap, sym, subst}
use Rattle.std.specs.declared.vec.Vec.{Vec}
use Rattle.std.specs.declared.alloc.Global.{Global}
use Rattle.term_model.specs.Environments.{Environment}
use Rattle.fixing_files.specs.Blocks.{blocks_at}
use Rattle.fixing_files.specs.Runs.{IsRising, LendsDays, run_at, values_of}
use Rattle.fixing_files.specs.declared.blocks.Block.{Block}
use Rattle.fixing_files.specs.declared.runs.FixedDay.{FixedDay}
use Rattle.fixing_files.proofs.BlockFacts.{same_blocks}
use Rattle.fixing_files.proofs.RunFacts.{lends_run}
use Rattle.fixing_files.proofs.fixings.Fixings.run_of.Goals as goal

pub returns-clause-rising : goal.returns-clause-rising
returns-clause-rising c =
    let l = c.args.label in
    let at : c.run_lent.result.now ≡ run_at c.self.inside.runs.items l = c.run_lent.ensures ∙ ap (λ (r : List (Vec FixedDay Global)). run_at r l) c.deref.ensures.value in
    subst IsRising (sym at) (c.self.invariant.0 l)

pub returns-clause-days : goal.returns-clause-days
returns-clause-days c =
    let l = c.args.label in
    let runs = c.self.inside.runs.items in
    let at : c.run_lent.result.now ≡ run_at runs l = c.run_lent.ensures ∙ ap (λ (r : List (Vec FixedDay Global)). run_at r l) c.deref.ensures.value in
    subst (λ (env : Environment). LendsDays env l c.run_lent.result.now) c.self.view_is
    (subst (λ (run : List FixedDay). LendsDays (values_of runs) l run) (sym at) (lends_run runs l c.self.invariant.0))

pub returns-clause-blocks : goal.returns-clause-blocks
returns-clause-blocks c =
    let l = c.args.label in
    let at : c.run_lent.result.now ≡ run_at c.self.inside.runs.items l = c.run_lent.ensures ∙ ap (λ (r : List (Vec FixedDay Global)). run_at r l) c.deref.ensures.value in
    let of_label : c.blocks_lent.result.now ≡ blocks_at c.self.inside.blocks.items l = c.blocks_lent.ensures ∙ ap (λ (b : List (Vec Block Global)). blocks_at b l) c.deref-2.ensures.value in
    same_blocks _ _ _ _ of_label at (c.self.invariant.1 l)
