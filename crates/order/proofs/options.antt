pub mod OptionLaws
pub mod TermLaws
pub mod ColumnLaws
