mod Lines
mod Listings
mod Sizes
mod Texts
