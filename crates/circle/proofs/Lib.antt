pub mod Table
pub mod Unique
pub mod Circle
pub mod Turns
pub mod Fine
pub mod Twiddles
pub mod Figures
