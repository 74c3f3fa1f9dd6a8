-- What is counted before a frame's sales are added to a table: groups that the table has not. Statements and proofs; no code.
pub mod Counts
