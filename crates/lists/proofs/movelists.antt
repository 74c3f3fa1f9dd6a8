pub mod MoveLists
pub mod Sample
