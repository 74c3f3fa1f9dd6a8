pub mod Samples
pub mod PlaceLaws
pub mod Isolated
