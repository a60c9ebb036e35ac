pub mod Again
pub mod Cells
pub mod SavedTexts
