-- Why a contract has no flow table: memory is short, or a place that it reads is not fixed.
use Rattle.term_model.specs.declared.values.Missing.{Missing as MissingPlace}
use Rattle.flow_eval.specs.declared.faults.FlowErr.{FlowErr}
use Rattle.flow_eval.specs.declared.faults.FlowErr.TheVariants.{Missing, NoMemory}

abbrev pub lacks_memory : FlowErr
lacks_memory = NoMemory

abbrev pub lacks_place : MissingPlace → FlowErr
lacks_place m = Missing m.label m.day
