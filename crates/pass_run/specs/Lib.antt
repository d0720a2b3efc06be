pub mod Lines
pub mod Passes
pub mod Span
pub mod Sums
