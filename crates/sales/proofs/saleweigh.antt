pub mod WeighLaws
