pub mod Lines
pub mod Rules
pub mod Places
pub mod Laws
pub mod Examples
