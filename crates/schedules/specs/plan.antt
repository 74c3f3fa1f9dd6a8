-- How large an area to lend: a schedule of the join's calls, and the figures worked out from the rows alone. Definitions and proofs only.
pub mod Schedule
pub mod Plan
pub mod Written
pub mod Table
pub mod TablePlan
