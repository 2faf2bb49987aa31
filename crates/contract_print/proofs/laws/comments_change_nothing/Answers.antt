use Rattle.contract_print.proofs.CommentFacts.{comments_change_nothing}
use Rattle.contract_print.proofs.laws.comments_change_nothing.Goals as goal

pub returns : goal.returns
returns c = comments_change_nothing
