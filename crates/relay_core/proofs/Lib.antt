pub mod Acknowledging
pub mod Heard
pub mod Placing
pub mod Passing
pub mod Pinned
pub mod Served
pub mod Crossing
