pub mod Alike
pub mod stretch
pub mod rising
