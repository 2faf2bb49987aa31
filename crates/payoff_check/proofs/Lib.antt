pub mod Finding
pub mod Passing
pub mod SortFacts
pub mod ScaleFacts
pub mod DateFreeFacts
pub mod ValueSizeFacts
pub mod SizeFacts
pub mod TotalSizes
pub mod BoundFacts
pub mod VerdictFacts
mod Rows
