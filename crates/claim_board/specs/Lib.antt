pub mod Rules
pub mod Steps
pub mod Views
pub mod Laws
