pub mod Run
pub mod RunContract
