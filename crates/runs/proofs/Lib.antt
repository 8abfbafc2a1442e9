pub mod Running
pub mod Guards
