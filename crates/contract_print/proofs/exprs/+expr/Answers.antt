use Rattle.contract_print.proofs.AppendFacts.{same_from_bits}
use Rattle.contract_print.proofs.exprs.+expr.Goals as goal

pub append_expr-write-requires : goal.append_expr-write-requires
append_expr-write-requires g t c =
    let writable = rw c.in-Lit.is at c.requires.writable in
    record { size = rw (same_from_bits c.in-Lit.mant writable.0) writable.0; scale = writable.1 }
