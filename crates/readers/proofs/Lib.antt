pub mod ViewLaws
pub mod PlaceLaws
pub mod AgreeLaws
pub mod Samples
pub mod readerlaws
