pub mod Loads
pub mod Machine
pub mod Named
pub mod Place
pub mod Told
pub mod Warned
