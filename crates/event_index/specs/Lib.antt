pub mod Marks
pub mod Postings
