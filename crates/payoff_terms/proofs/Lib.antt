pub mod DateFacts
pub mod DatingFacts
pub mod SumFacts
pub mod ValueFacts
pub mod CutFacts
pub mod ReadFacts
pub mod MeaningFacts
pub mod CodeAlikeFacts
pub mod DateFreeFacts
pub mod RisingFacts
pub mod WellFormedFacts
pub mod IndexFacts
pub mod OrderFacts
pub mod WritableFacts
pub mod RowsSample
pub mod RowsCode
mod RowsDefinitions
