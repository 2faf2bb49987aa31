use Rattle.schedule_forms.proofs.SortedFacts.{sorted_and_timed}
use Rattle.schedule_forms.proofs.laws.expansions_are_sorted_and_timed.Goals as goal

pub returns : goal.returns
returns c = sorted_and_timed
