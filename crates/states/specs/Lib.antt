pub mod Step
pub mod History
