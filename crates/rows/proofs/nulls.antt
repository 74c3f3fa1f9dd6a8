pub mod NullLaws
