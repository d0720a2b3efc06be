pub mod Readers
pub mod Reached
pub mod Walks
pub mod Moves
pub mod Planned
pub mod Gone
