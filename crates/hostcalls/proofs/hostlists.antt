pub mod Sample
pub mod Follow
pub mod Free
pub mod Table
