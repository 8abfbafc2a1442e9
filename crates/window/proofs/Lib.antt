pub mod Searching
pub mod Staging
pub mod Stepping
