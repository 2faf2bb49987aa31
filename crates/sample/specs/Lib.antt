pub mod Sample
pub mod Days
pub mod Summary
pub mod Gathering
