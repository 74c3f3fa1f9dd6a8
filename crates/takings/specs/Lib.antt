pub mod Subtotals
pub mod Sales
pub mod Calls
pub mod Orders
pub mod Promises
