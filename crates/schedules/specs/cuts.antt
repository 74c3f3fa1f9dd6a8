-- Two tables cut by boundary groups, each pair joined in a join of its own, the answers appended: equal to the join of the uncut tables. Definitions and proofs only.
pub mod Appended
pub mod Apart
pub mod Scheduled
pub mod Loads
pub mod Places
