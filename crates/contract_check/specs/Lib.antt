pub mod CausalityLaws
pub mod Smallness
pub mod SimpleFactors
pub mod SimpleContracts
pub mod Checks
pub mod CheckLaws
