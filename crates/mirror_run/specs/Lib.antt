pub mod RefusalText
pub mod Lines
pub mod ItemLists
pub mod ReconText
pub mod Waiting
pub mod Placing
pub mod Refused
pub mod Reconciled
