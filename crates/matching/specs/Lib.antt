pub mod Match
pub mod Picked
pub mod Groups
pub mod Answer
pub mod Requires
pub mod Stretches
pub mod Loops
pub mod Moves
