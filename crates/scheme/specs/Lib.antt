pub mod Hidden
pub mod Meaning
pub mod Sealing
