pub mod CutLaws
pub mod PartLaws
