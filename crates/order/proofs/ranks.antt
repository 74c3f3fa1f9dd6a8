pub mod RankLaws
pub mod PlacedLaws
pub mod ListingLaw
pub mod KeptLaws
