pub mod Figure
pub mod Shares
