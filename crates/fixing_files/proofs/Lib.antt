pub mod ValueFacts
pub mod RunFacts
pub mod BlockFacts
pub mod LayerFacts
pub mod FoldFacts
pub mod RowFacts
pub mod GatherFacts
pub mod SettleFacts
pub mod TableFacts
pub mod LawFacts
pub mod DecimalFacts
pub mod RecordFacts
pub mod ReachedFacts
pub mod ReaderFacts
pub mod CurveFacts
pub mod CurveRecordFacts
pub mod CurveTableFacts
pub mod CurveStepFacts
pub mod CurveLawFacts
pub mod WordFacts
pub mod PlainFacts
pub mod FrontFacts
pub mod NameFacts
mod RowsRecords
mod RowsCurves
