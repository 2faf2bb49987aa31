pub mod Specialising
pub mod Specialisable
pub mod WalkAnswers
pub mod LawsSpecial
pub mod LawsSpecialContracts
pub mod LawsAccepted
pub mod LawsParts
pub mod Specialised
