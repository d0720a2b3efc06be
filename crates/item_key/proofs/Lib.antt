pub mod Order
pub mod Words
pub mod KeyOrder
