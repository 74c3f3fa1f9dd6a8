pub mod Spread
pub mod Loops
