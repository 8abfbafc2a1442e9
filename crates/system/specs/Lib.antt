pub mod Hidden
pub mod Making
pub mod Meant
pub mod Moduli
pub mod Laws
