pub mod Written
pub mod Told
pub mod WrongIds
pub mod Compared
pub mod Behind
