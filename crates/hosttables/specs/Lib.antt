pub mod bookhost
pub mod spanhost
pub mod planhost
pub mod cuthost
pub mod cutjoinhost
pub mod takehost
pub mod readhost
