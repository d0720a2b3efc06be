pub mod Fields
pub mod Tokens
