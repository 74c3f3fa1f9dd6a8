pub mod Samples
pub mod EventLaws
pub mod Follow
pub mod Rounds
pub mod Planned
pub mod Ends
pub mod TableLaws
pub mod TablePlanned
