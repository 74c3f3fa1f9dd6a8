pub mod version
pub mod codes
pub mod hostoptions
pub mod convert
pub mod results
pub mod hostpart
