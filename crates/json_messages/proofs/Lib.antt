pub mod Lists
pub mod Fronts
pub mod Taking
pub mod Pieces
pub mod ReadAgain
pub mod Stays
pub mod Sessions
