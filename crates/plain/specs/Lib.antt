pub mod Made
pub mod Residues
