pub mod Subcommands
pub mod Commands
pub mod Limits
