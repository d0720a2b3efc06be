pub mod Text
pub mod Media
pub mod Logs
