pub mod plan
pub mod cuts
pub mod bookjoin
