pub mod TableLaws
pub mod LayLaws
pub mod CellLaws
