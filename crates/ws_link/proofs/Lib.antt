pub mod Names
pub mod Hearing
pub mod Linking
pub mod Speaking
pub mod Due
pub mod Fetching
pub mod Subscribing
mod Failing
