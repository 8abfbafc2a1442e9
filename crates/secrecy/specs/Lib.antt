pub mod Guards
pub mod Masks
pub mod Secrecy
