pub mod Samples
pub mod SubtotalLaws
pub mod OrdersLaw
pub mod PromiseLaws
