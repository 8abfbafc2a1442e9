pub mod Methods
pub mod Making
pub mod Meaning
pub mod Examples
pub mod Text
