pub mod FirstPass
pub mod LineTexts
pub mod Verdicts
pub mod RowsRead
pub mod Answering
pub mod MoreNames
