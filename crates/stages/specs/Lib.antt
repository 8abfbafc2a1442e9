pub mod Block
pub mod Direct
pub mod Mixing
pub mod Place
pub mod Search
pub mod Stage
