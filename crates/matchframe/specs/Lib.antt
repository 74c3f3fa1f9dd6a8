pub mod turnrows
pub mod carrying
pub mod sortedrows
