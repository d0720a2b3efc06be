pub mod Fetched
pub mod Lines
pub mod Rounds
pub mod Synced
