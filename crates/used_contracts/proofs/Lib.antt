pub mod FirstFacts
pub mod HeldFacts
pub mod ReadingFacts
pub mod OneLine
pub mod UsedFacts
pub mod LineFacts
pub mod ChoosingFacts
pub mod StageFacts
