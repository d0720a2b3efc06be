pub mod Planned
pub mod Fronts
pub mod Jobs
pub mod Laws
