pub mod NumberedFacts
pub mod CodeCanonFacts
pub mod CodeSpelled
pub mod CodeFileSpelled
pub mod TokensStand
pub mod DatePositions
pub mod DateReading
pub mod Standing
pub mod DatedSpelled
pub mod Placed
pub mod CodeStanding
pub mod CodeTaken
pub mod CodeFaults
pub mod CodeFronts
pub mod CodeClosed
pub mod CodeNumbers
pub mod CodeWeights
pub mod OneCode
pub mod TemplateDays
mod RowsTexts
mod RowsReading
