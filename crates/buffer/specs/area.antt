pub mod Area
pub mod Requires
