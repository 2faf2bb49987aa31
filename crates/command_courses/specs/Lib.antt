pub mod Statuses
pub mod Names
pub mod Course
pub mod Stopping
pub mod Days
pub mod FixingTables
pub mod Inputs
