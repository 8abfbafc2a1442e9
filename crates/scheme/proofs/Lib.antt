pub mod Refusing
pub mod Standing
