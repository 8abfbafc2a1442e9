pub mod Complex
pub mod Modulus
pub mod Residue
