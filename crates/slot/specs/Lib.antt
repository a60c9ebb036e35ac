pub mod AssemblyFollows
pub mod AssemblyOwned
pub mod SessionFollows
pub mod SessionOwned
