pub mod Logs
pub mod Beginning
pub mod Driver
pub mod Answering
