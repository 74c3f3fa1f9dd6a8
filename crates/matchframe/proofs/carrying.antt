pub mod SpreadLaws
pub mod LaidLaws
pub mod TermLaws
pub mod DistanceLaws
