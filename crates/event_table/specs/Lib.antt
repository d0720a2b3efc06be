pub mod Events
pub mod States
pub mod Places
