pub mod StopFacts
pub mod FixingFacts
pub mod DayFacts
pub mod InputFacts
pub mod TextFaults
pub mod CourseFacts
pub mod StageFacts
