pub mod Pieces
pub mod CheckLines
pub mod FaultLines
pub mod FlowLines
pub mod Sums
pub mod SumTables
pub mod RunningSums
pub mod ValueLines
