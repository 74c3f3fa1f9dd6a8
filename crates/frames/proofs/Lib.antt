pub mod WordLaws
pub mod FrameLaws
pub mod Signed
pub mod FrontLaws
pub mod BoolLaws
