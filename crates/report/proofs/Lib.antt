pub mod ExactFacts
pub mod TableLines
pub mod PieceFacts
pub mod ListSums
pub mod SumFacts
pub mod RunningFacts
mod RowsFlowLines
mod RowsValueLines
