pub mod RefusalLaws
pub mod TestLaws
