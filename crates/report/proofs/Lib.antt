pub mod Texts
pub mod Sums
pub mod Folding
