pub mod AdvancePromise
pub mod LifecycleStages
pub mod AdvanceCourse
pub mod NovatePromise
pub mod LawsDueLines
pub mod NovateCourse
pub mod AdvanceParts
pub mod NovateParts
