pub mod Bezout
pub mod Congruence
pub mod Owed
