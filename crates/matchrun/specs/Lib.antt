pub mod cursor
pub mod choices
pub mod look
pub mod candidates
pub mod advance
pub mod approach
pub mod walk
