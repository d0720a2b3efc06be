pub mod Members
pub mod Texts
pub mod Turns
