pub mod Decoding
pub mod Fields
pub mod Lines
pub mod Spelling
pub mod Text
