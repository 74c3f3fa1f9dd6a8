pub mod Search
pub mod Reach
pub mod Requires
