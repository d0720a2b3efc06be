pub mod Addresses
pub mod Keys
pub mod Parts
pub mod Relays
pub mod Settings
