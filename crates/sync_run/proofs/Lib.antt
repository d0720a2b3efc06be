pub mod Loads
pub mod Results
