pub mod CCalls
pub mod CPrograms
pub mod Items
pub mod RowText
pub mod Sequences
