pub mod JoinLaws
pub mod WalkLaws
