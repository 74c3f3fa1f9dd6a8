pub mod Requires
pub mod Words
