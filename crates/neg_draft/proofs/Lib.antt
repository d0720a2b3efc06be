pub mod Covering
pub mod Telling
pub mod Going
pub mod Listing
pub mod Owning
pub mod Walking
