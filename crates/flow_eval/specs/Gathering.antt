-- What a walk that notes payments answers: it appends the payments of the path to those noted before, or says which place
-- is missing. Want of memory says nothing.
use Rattle.std.specs.Prelude.{◌≡◌, List, ◌++◌, Result, Ok, Err}
use Rattle.std.specs.Global.{Vec}
use Rattle.flow_eval.specs.declared.faults.FlowErr.{FlowErr}
use Rattle.flow_eval.specs.declared.faults.FlowErr.TheVariants.{Missing as IsMissing, NoMemory}
use Rattle.flow_eval.specs.declared.payments.Payment.{Payment}
use Rattle.flow_eval.specs.Walks.{PaymentsOrMissing}

-- payments behind others
abbrev pub appended : List Payment → PaymentsOrMissing → PaymentsOrMissing
appended before (Ok ps) = Ok (before ++ ps)
appended before (Err m) = Err m

abbrev pub Gathers : PaymentsOrMissing → List Payment → List Payment → Result (Unit {0}) FlowErr → Type 0
Gathers walk before after (Ok done) = appended before walk ≡ Ok after
Gathers walk before after (Err (IsMissing label day)) = walk ≡ Err (record { label = label; day = day })
Gathers walk before after (Err NoMemory) = Unit {0}

-- the payments of a walk, gathered anew
abbrev pub IsGathered : PaymentsOrMissing → Result (Vec Payment) FlowErr → Type 0
IsGathered walk (Ok payments) = walk ≡ Ok payments.items
IsGathered walk (Err (IsMissing label day)) = walk ≡ Err (record { label = label; day = day })
IsGathered walk (Err NoMemory) = Unit {0}
