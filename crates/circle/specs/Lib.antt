pub mod Circle
pub mod Nearest
pub mod Near
pub mod Fine
pub mod Twiddle
pub mod Spread
pub mod Figures
