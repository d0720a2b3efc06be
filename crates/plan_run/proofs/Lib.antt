pub mod Gathered
pub mod Written
pub mod Spelled
pub mod Fronts
pub mod Done
pub mod Passing
pub mod Failing
