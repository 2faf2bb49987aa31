pub mod DateLimits
pub mod Literals
pub mod CompiledCode
pub mod CutOnTheWay
pub mod LawsCompiled
