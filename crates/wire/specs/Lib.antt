pub mod Passed
pub mod Line
pub mod Frames
pub mod Turns
pub mod Talk
pub mod Steps
