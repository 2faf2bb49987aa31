use Rattle.report.proofs.sums.FlowSum.net_if_due.Goals as goal

pub returns-then-len-self : goal.returns-then-len-self
returns-then-len-self c = λ tables h. h
