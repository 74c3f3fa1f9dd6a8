pub mod BookRows
pub mod Promises
