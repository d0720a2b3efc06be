pub mod Chunked
pub mod Prefixes
