pub mod Sifting
pub mod Lists
pub mod Marked
pub mod Crossing
