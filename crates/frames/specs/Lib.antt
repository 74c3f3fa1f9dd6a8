pub mod Cells
pub mod Frame
pub mod Front
pub mod refusals
pub mod outcomes
