pub mod Ends
pub mod Headlines
pub mod Loads
pub mod Numbers
pub mod Rounds
pub mod Streams
pub mod Written
