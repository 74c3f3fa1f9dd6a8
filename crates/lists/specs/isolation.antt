-- One group's matches, whatever the other groups bring: a theorem about lists of calls, above the whole-table theorem. Definitions and proofs only.
pub mod Isolation
