pub mod MoveLaws
pub mod CopyLaws
