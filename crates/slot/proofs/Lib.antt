pub mod AssemblyBox
pub mod Present
pub mod SessionBox
