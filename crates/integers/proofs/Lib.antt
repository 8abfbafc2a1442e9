pub mod ComplexRing
pub mod Residues
pub mod Ring
