pub mod DateFacts
pub mod Trials
pub mod RefusalFacts
pub mod TimeFacts
pub mod KindParts
pub mod KindFacts
pub mod InstanceFacts
pub mod BoundTrials
pub mod DateTextFacts
pub mod FlowFacts
pub mod Products
pub mod AlikeFacts
pub mod ReadFacts
pub mod FirstFacts
pub mod CloneFacts
pub mod ContractReadFacts
pub mod ReadLawFacts
pub mod ShiftFacts
pub mod ShiftedFacts
pub mod ReadShiftFacts
pub mod ReadGrowthFacts
pub mod AssetFacts
pub mod MultipleFacts
pub mod FormedFacts
pub mod OneScaleFacts
pub mod MeaningFacts
pub mod VerdictFacts
pub mod HorizonFacts
pub mod FactorFacts
pub mod ResidualFacts
mod RowsSample
mod RowsFlows
mod RowsValues
mod RowsRules
mod RowsAcceptance
mod RowsAssets
mod RowsSums
mod RowsReads
mod RowsRedexes
mod RowsResiduals
