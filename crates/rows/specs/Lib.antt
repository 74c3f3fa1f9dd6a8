pub mod framerule
pub mod view
pub mod nulls
pub mod compare
