use Rattle.contract_print.proofs.AppendFacts.{range_fits, same_from_bits}
use Rattle.contract_print.proofs.decls.append_range.Goals as goal

pub write-requires : goal.write-requires
write-requires c =
    let fits = range_fits c.args.scale c.args.low c.args.high c.requires in
    record { size = rw (same_from_bits c.args.low fits.1) fits.1; scale = fits.0 }

pub write-requires-2 : goal.write-requires-2
write-requires-2 c =
    let fits = range_fits c.args.scale c.args.low c.args.high c.requires in
    record { size = rw (same_from_bits c.args.high fits.2) fits.2; scale = fits.0 }
