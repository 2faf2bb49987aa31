pub mod DatesFit
pub mod Walks
pub mod CodeRules
pub mod CodeRuns
pub mod CodeEvaluations
pub mod Questions
pub mod CodeAnswers
pub mod LawsValues
