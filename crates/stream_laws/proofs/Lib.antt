pub mod Streams
pub mod Cells
