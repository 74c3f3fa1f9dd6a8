pub mod PlanLaws
pub mod HeightLaws
pub mod OnePrune
pub mod Samples
