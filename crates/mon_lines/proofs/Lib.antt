pub mod TestSteps
