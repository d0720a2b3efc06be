pub mod RefusalText
