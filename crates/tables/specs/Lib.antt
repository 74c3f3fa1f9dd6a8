pub mod Options
pub mod Table
pub mod Lay
pub mod Requires
pub mod tableresults
