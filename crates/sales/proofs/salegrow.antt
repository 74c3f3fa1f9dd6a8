pub mod GrowLaws
