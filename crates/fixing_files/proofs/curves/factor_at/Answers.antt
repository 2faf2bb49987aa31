use Rattle.std.proofs.Common.{◌-◌, ◌<◌, pos, length, get_or, sym, rules, arith}
use Rattle.std.specs.Int.{w128}
use Rattle.std.specs.Prelude.{FitsSigned}
use Rattle.std.proofs.lemmas.Int.{ints, to_z-of_z}
use Rattle.std.proofs.lemmas.List.Sorted.{IsPartitionPoint-from_clause}
use Rattle.fixing_files.proofs.CurveFacts.{factor_fits, is_at_or_below, no_factor, no_step, parted_rows, read_factor, split_rows}
use Rattle.fixing_files.proofs.curves.factor_at.Goals as goal

pub returns-then-behind-eq0 : goal.returns-then-behind-eq0
returns-then-behind-eq0 c =
    let steps = c.args.steps.now in
    let behind = c.partition_point-behind.result in
    let point = IsPartitionPoint-from_clause (is_at_or_below c.args.offset) _ _ c.partition_point-behind.ensures.partitioned (parted_rows steps c.args.offset c.requires) (λ s r q k. search rules) in
    sym (no_factor steps (pos 1_000_000_000) c.args.offset behind c.requires (split_rows steps c.args.offset behind c.requires point) c.if-behind-eq0.true)

pub returns-else-behind-eq0 : goal.returns-else-behind-eq0
returns-else-behind-eq0 c =
    let steps = c.args.steps.now in
    let behind = c.partition_point-behind.result in
    let point = IsPartitionPoint-from_clause (is_at_or_below c.args.offset) _ _ c.partition_point-behind.ensures.partitioned (parted_rows steps c.args.offset c.requires) (λ s r q k. search rules) in
    let within : behind - 1 < length steps = omega (arith, c.if-behind-eq0.false, c.partition_point-behind.ensures.bound) in
    let factor = factor_fits steps (behind - 1) c.requires within in
    let fits : FitsSigned w128 (get_or steps (behind - 1) no_step).factor = omega (arith, ints, factor) in
    rw (to_z-of_z w128 (get_or steps (behind - 1) no_step).factor fits)
    (sym (read_factor steps (pos 1_000_000_000) c.args.offset behind c.requires (split_rows steps c.args.offset behind c.requires point) (omega (arith, c.if-behind-eq0.false)) c.partition_point-behind.ensures.bound))
