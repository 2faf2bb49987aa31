use Rattle.std.proofs.Common.{◌∙◌, sym}
use Rattle.fixing_files.proofs.FoldFacts.{folds_again, folds_clash, folds_next}
use Rattle.fixing_files.proofs.folds.Folding.take.Goals as goal

pub returns-then-not-agrees : goal.returns-then-not-agrees
returns-then-not-agrees c =
    λ rows comes f. rw c.lesser.ensures (folds_clash rows c.args.row c.in-Some.first c.args.self.now.days.items c.args.self.now.first c.args.self.now.least (sym c.first_of_day.ensures ∙ c.in-Some.is) (sym c.agrees.ensures ∙ c.if-not-agrees.true) comes f)

pub returns-else-not-agrees : goal.returns-else-not-agrees
returns-else-not-agrees c =
    λ rows comes f. folds_again rows c.args.row c.in-Some.first c.args.self.now.days.items c.args.self.now.first c.args.self.now.least (sym c.first_of_day.ensures ∙ c.in-Some.is) (sym c.agrees.ensures ∙ c.if-not-agrees.false) comes f

pub returns-in_ok-push-in-None : goal.returns-in_ok-push-in-None
returns-in_ok-push-in-None c =
    λ rows comes f. folds_next rows c.args.row c.args.self.now.days.items c.push.new.self.items c.args.self.now.first c.args.self.now.least (sym c.first_of_day.ensures ∙ c.in-None.is) (rw c.fixed.ensures at c.in_ok-push-in-None.ensures.items) comes f
