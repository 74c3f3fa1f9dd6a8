pub mod GoLaws
