pub mod Judged
pub mod ports
