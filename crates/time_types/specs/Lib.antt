pub mod ScopedSorts
pub mod SortKinds
pub mod SortTrials
pub mod Starts
pub mod TimeTrials
pub mod TypingLaws
