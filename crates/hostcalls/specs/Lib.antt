pub mod Calls
pub mod CallContracts
pub mod Promises
pub mod hostlists
