pub mod Beginnings
pub mod Elements
pub mod Forms
pub mod Names
pub mod Reading
pub mod Stream
pub mod Writing
