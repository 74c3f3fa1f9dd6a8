pub mod SheetLaws
pub mod RowsLaws
