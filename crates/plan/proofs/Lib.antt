pub mod Powers
pub mod Rules
pub mod Limits
pub mod Worked
