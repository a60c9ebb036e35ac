pub mod Meaning
pub mod OneMeaning
pub mod Values
pub mod Holding
pub mod Lengths
pub mod Sizes
