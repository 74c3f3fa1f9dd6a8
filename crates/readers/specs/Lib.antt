pub mod Reader
pub mod Places
pub mod Laws
pub mod readerlaws
