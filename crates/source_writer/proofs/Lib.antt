pub mod Stretches
pub mod Rooms
pub mod Withins
pub mod LabelledGoing
pub mod Runs
