pub mod Coverage
