pub mod Declaring
pub mod Taken
pub mod WordFacts
mod WordRows
