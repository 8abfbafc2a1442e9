pub mod Agreeing
pub mod Tied
pub mod Loading
pub mod Steps
pub mod Right
