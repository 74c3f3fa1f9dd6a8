pub mod PruneLaws
pub mod LeftLaws
pub mod TermLaws
