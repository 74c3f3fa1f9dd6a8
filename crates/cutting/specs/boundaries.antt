pub mod Boundaries
pub mod Requires
