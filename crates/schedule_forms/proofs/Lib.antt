pub mod DayFacts
pub mod TreeFacts
pub mod FlowFacts
pub mod GuardFacts
pub mod TrialFacts
pub mod LiteralFacts
pub mod SmallFacts
pub mod PlanFacts
pub mod SortedFacts
pub mod RowsPlans
mod RowsRefusals
pub mod CommonFacts
pub mod PlanSteps
pub mod Standing
pub mod TakenFacts
pub mod FileFacts
pub mod TextPlans
pub mod OnePlans
pub mod ExpandedTexts
mod RowsTexts
pub mod PlanFrontChoices
pub mod HeadingFronts
pub mod HeadingRuns
pub mod PlanFrontSteps
pub mod PlanWholes
pub mod PlanFrontRuns
pub mod PlanFrontGoesOn
pub mod PlanFrontRows
