pub mod Split
pub mod Requires
