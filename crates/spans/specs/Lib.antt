pub mod Span
pub mod Port
pub mod Calls
pub mod Promises
pub mod Requires
pub mod PairRows
