pub mod PushLaws
pub mod AreaLaws
