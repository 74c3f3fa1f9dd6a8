pub mod Samples
pub mod MergeLaws
pub mod StandingLaw
pub mod WalkLaws
pub mod NamesLaw
pub mod RunLaw
