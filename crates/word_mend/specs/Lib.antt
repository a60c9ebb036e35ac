pub mod Captures
pub mod Mending
pub mod RecordMending
pub mod RecordParts
pub mod RecordReports
pub mod Reported
pub mod Word
