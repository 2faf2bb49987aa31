pub mod OneCode
pub mod MigrateFacts
pub mod PayoffFacts
pub mod ExpandFacts
pub mod CheckFacts
pub mod OneCheckText
pub mod StageFacts
pub mod SoundTexts
