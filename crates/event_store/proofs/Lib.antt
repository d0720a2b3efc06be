pub mod Keeping
pub mod Adding
pub mod Crossing
pub mod More
