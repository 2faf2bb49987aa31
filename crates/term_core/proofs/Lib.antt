pub mod BinderFacts
pub mod SharedFacts
