use Rattle.contract_print.proofs.AppendFacts.{range_fits, same_from_bits}
use Rattle.contract_print.proofs.decls.append_label.Goals as goal

pub append_range-requires : goal.append_range-requires
append_range-requires c =
    let is = rw c.in-Number.is at c.requires in
    let fits = range_fits c.in-Number.scale c.in-Number.low c.in-Number.high is in
    rw (same_from_bits c.in-Number.low fits.1, same_from_bits c.in-Number.high fits.2) is
