pub mod ListingExamples
pub mod MachineExamples
pub mod SourceExamples
pub mod TokenExamples
pub mod ValueExamples
