pub mod FallLaws
pub mod RiseLaws
