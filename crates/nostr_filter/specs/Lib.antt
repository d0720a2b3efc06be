pub mod Members
pub mod Tags
pub mod TagOrders
pub mod Matching
pub mod Sizes
pub mod Choice
pub mod FilterJson
