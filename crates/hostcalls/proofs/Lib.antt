pub mod CallLaws
pub mod PromiseLaws
pub mod NumberLaws
pub mod hostlists
