pub mod Events
pub mod Marks
pub mod History
pub mod Rules
pub mod Faults
pub mod Opening
