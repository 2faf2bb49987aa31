use Rattle.exposure.proofs.TableSums.{positions_are_within, positions_stand_in_time, settled_are_within, settled_stand_in_time}
use Rattle.exposure.proofs.WholeFacts.{positions_are_whole, settled_are_whole}
use Rattle.exposure.proofs.laws.settlement_keeps_within_tables.Goals as goal

pub returns : goal.returns
returns c = record {
  days = positions_stand_in_time;
  settled_days = settled_stand_in_time;
  amounts = positions_are_within;
  settled_amounts = settled_are_within;
  whole = positions_are_whole;
  settled_whole = settled_are_whole;
}
