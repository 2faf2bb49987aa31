use Rattle.std.proofs.Common.{◌≡◌, map}
use Rattle.term_model.proofs.settings.defaults.Given as goal

abbrev pub invariant-loop-number : goal.invariant-loop-number
invariant-loop-number l = l.days.items ≡ map (λ number. number.now) l.yielded
