pub mod Merge
pub mod Standing
pub mod Calls
pub mod Requires
pub mod bookjudge
pub mod bookmerge
pub mod notices
pub mod noticecall
