pub mod Ranks
pub mod Lists
pub mod Parts
pub mod Chosen
pub mod Crossing
