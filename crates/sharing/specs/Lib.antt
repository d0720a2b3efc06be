pub mod Sharing
pub mod Bases
pub mod Reached
pub mod Offers
