pub mod Answers
pub mod From
pub mod Records
pub mod Status
pub mod Touching
