pub mod Order
pub mod Keyed
pub mod Listed
pub mod Requires
pub mod ranks
pub mod options
