pub mod Found
pub mod FoundLines
pub mod Lines
pub mod OneLine
pub mod Texts
pub mod Assembly
pub use Rattle.line_parts.specs.LineFaults
