pub mod Answering
pub mod Consoles
pub mod Ending
pub mod Phases
pub mod Reach
pub mod Steadiness
pub mod Truth
