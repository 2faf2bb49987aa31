pub mod RenamingFacts
pub mod RenamedFlows
pub mod RenamedReads
pub mod RenamedRules
pub mod LiteralFacts
pub mod AccountFacts
pub mod EntryFacts
pub mod JoinFacts
pub mod FilterFacts
pub mod TurnFacts
pub mod QueueFacts
pub mod StartFacts
pub mod TableSums
pub mod NetFacts
pub mod WholeFacts
pub mod OneFacts
pub mod TurnTests
mod Rows
mod RowsSettlement
