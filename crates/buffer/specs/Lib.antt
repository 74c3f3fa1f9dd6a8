pub mod area
pub mod narrowing
pub mod splitcheck
