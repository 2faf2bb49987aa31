use Rattle.sample.proofs.GatheringFacts.{summary_answers}
use Rattle.sample.proofs.summing.summary.Goals as goal

pub returns : goal.returns
returns c =
    summary_answers c.args.count c.in_ok-tables.lines c.in_ok-tables.tables.items c.deref.result.now c.in_ok-sums.sums.rows.items c.deref-2.result.now c.summary_text.result c.in_ok-tables.ensures c.deref.ensures.value c.in_ok-sums.ensures c.deref-2.ensures.value c.summary_text.ensures
