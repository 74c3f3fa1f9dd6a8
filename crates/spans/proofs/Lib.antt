pub mod Samples
pub mod SpanLaw
pub mod WalkLaws
pub mod CallLaws
pub mod PromiseLaws
