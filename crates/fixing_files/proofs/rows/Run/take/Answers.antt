use Rattle.std.proofs.Common.{◌∙◌, sym}
use Rattle.fixing_files.specs.declared.rows.Run.{Run}
use Rattle.fixing_files.proofs.RowFacts.{risen_run}
use Rattle.fixing_files.proofs.rows.Run.take.Goals as goal

pub returns-in_ok-push-2-clause-run : goal.returns-in_ok-push-2-clause-run
returns-in_ok-push-2-clause-run c =
    let after : Run = record { days = c.push.new.self; numbers = c.push-then-rises.new.self; late = c.args.self.now.late } in
    risen_run c.args.self.now after c.args.row c.requires (sym c.rises.ensures ∙ c.if-rises.true) (rw c.fixed.ensures at c.in_ok-push.ensures.items) c.in_ok-push-2.ensures.items
