mod Read
pub mod Said
pub mod LineLemmas
pub mod RecordBytes
