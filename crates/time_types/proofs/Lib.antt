pub mod SortFacts
pub mod KnownFacts
pub mod StartFacts
pub mod TimeFaults
pub mod TypingFacts
