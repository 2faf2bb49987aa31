mod AcceptedFacts
mod ReadFacts
mod FixingFacts
mod DaySums
mod OverDays
mod ContractFacts
mod GatheringFacts
mod LineFacts
