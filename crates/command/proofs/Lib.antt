pub mod Commands
pub mod Folding
pub mod Reading
pub mod Spelled
pub mod Splitting
