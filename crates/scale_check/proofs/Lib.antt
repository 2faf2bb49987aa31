pub mod Finding
pub mod SortedKinds
pub mod ExprScaleFacts
pub mod ScaleFacts
pub mod Measuring
pub mod ExprSizeFacts
pub mod SizeFacts
